-- What the lives of a session come to, and the status by how they began.
use Rattle.std.specs.Prelude.{◌≡◌, ℕ, List, [], ◌∷◌, ◌++◌}
use Rattle.std.specs.Io.KnownBytes.{Appends, Consumes, IsAtEnd}
use Rattle.flt_config.specs.declared.config.Config.{Config}
use Rattle.flt_dcm.specs.Unit.{UnitView}
use Rattle.flt_flash.specs.Blocks.{BlocksState}
use Rattle.flt_flash.specs.Content.{Content}
use Rattle.flt_flash.specs.declared.blocks.Blocks.{Ghosts}
use Rattle.flt_io.specs.Fault.{Rose}
use Rattle.flt_io.specs.Sink.{AppendsFront}
use Rattle.flt_io.specs.declared.stream.StreamFault.{StreamFault}
use Rattle.flt_io.specs.declared.stream.StreamFault.TheVariants as streams
use Rattle.flt_queue.specs.declared.queue.JobQueue.{JobQueue}
use Rattle.flt_store.specs.declared.store.Store.{Store}
use Rattle.flt_store.specs.Store.{driver_of, numbered}
use Rattle.flt_store_model.specs.Holding.{Generation, SameApplications}
use Rattle.flt_life_model.specs.declared.answer.StepAnswer.TheVariants as answers
use Rattle.flt_life_model.specs.declared.life.Boot.{Boot}
use Rattle.flt_life_model.specs.declared.life.Boot.TheVariants as boots
use Rattle.flt_life_model.specs.Statuses.{status_by}
use Rattle.flt_lives.specs.Living.{IsLiving}
use Rattle.flt_report.specs.Boot.{boot_line}
use Rattle.flt_live.specs.declared.line.Due.TheVariants as due
use Rattle.flt_live.specs.declared.living.LifeEnd.{LifeEnd}
use Rattle.flt_live.specs.declared.living.LifeEnd.TheVariants.{Power, Ended, Unread, Unwritten, Memory}
use Rattle.flt_live.specs.Begun.{BeginsOn}
use Rattle.flt_live.specs.Due.{due_at}
use Rattle.flt_live.specs.Heard.{AreHeard, Heard, IsLater, IsOneLine, SaysLine, Talk, answer_bytes, heard_bytes, text_in}
use Rattle.flt_live.specs.Made.{IsMidway, Made}

-- How a life ends whose line was not written.
abbrev pub lost_by : StreamFault → LifeEnd
lost_by streams.Memory = Memory
lost_by streams.Failed = Unwritten

-- What holds unless a life ended for a sink that failed, or for memory.
abbrev pub UnlessLost : LifeEnd → Type 0 → Type 0
UnlessLost Power fact = fact
UnlessLost Ended fact = fact
UnlessLost Unread fact = fact
UnlessLost Unwritten fact = Unit {0}
UnlessLost Memory fact = Unit {0}

-- What holds if a life ended for a sink that failed, or for memory.
abbrev pub IfLost : LifeEnd → Type 0 → Type 0
IfLost Unwritten fact = fact
IfLost Memory fact = fact
IfLost _ fact = Unit {0}

-- Some front of this text, and after it of the answers to lines that the life read, was written, and no more.
pub record IsCutShort (c : Config) (text : List ℕ) (before after : Talk) : Type 0 where
  -- The lines that were read.
  pub heard : List Heard
  -- The steps that they made, with their answers.
  pub made : List Made
  -- Each line has its one answer.
  pub are : AreHeard c heard made
  -- A front of the text and of these answers was written.
  pub front : AppendsFront before.held after.held (text ++ answer_bytes heard)

-- A life ends for its sink only if the count of the sink's faults rose.
abbrev pub IsLostFor : ℕ → ℕ → LifeEnd → Type 0
IsLostFor before after Unwritten = Rose before after
IsLostFor before after _ = Unit {0}

-- Why a life ended after these lines, and that it took no byte more: the next one is a `power`; there is no more; or the source failed.
abbrev pub EndsBy : Config → List Heard → (before after : Talk) → LifeEnd → Type 0
EndsBy c heard before after Power = (last : Heard) × IsOneLine last.ended last.whole × (due_at c (text_in last) ≡ due.Power)
    × Consumes before.ahead after.ahead (heard_bytes (last ∷ heard))
EndsBy c heard before after Ended = Consumes before.ahead after.ahead (heard_bytes heard) × IsAtEnd after.ahead
EndsBy c heard before after Unread = Rose before.read_faults after.read_faults
EndsBy c heard before after Unwritten = Unit {0}
EndsBy c heard before after Memory = Unit {0}

-- No step of a dark life is made.
abbrev pub AreDark : List Made → Type 0
AreDark [] = Unit {0}
AreDark (made ∷ earlier) = (made.1 ≡ answers.Dark) × AreDark earlier

-- A dark life took these lines.
pub record TakesDarkLines (c : Config) (before after : Talk) (end : LifeEnd) : Type 0 where
  -- The lines that were read.
  pub heard : List Heard
  -- The steps that they asked for, with their answers.
  pub made : List Made
  -- Each line has its one answer.
  pub are : AreHeard c heard made
  -- Each step was answered as dark.
  pub dark : AreDark made
  -- The answers were written, line after line.
  pub written : Appends before.held after.held (answer_bytes heard)
  -- The life ended for this reason.
  pub ended : EndsBy c heard before after end

-- How a dark life took its lines.
pub record TakesAllDark (c : Config) (before after : Talk) (end : LifeEnd) : Type 0 where
  -- It took its lines, unless it was lost.
  pub taken : UnlessLost end (TakesDarkLines c before after end)
  -- It was lost only by a fault of the sink or for memory.
  pub cause : IsLostFor before.write_faults after.write_faults end
  -- If it was lost, a front of its answers was written.
  pub cut : IfLost end (IsCutShort c [] before after)
  -- No count of faults fell.
  pub later : IsLater before after

module _ {B : Type 0} {b : Ghosts B} where
  -- A life that began with this generation, and found this in the blocks, took these lines: the machine, the queue and the store stand for
  -- the steps that they made.
  pub record TakesLines (c : Config) (first : Generation) (found : ℕ → Content) (begun : BlocksState) (before after : Talk) (unit : UnitView) (store : Store B b) (end : LifeEnd) : Type 0 where
    -- The lines that were read.
    pub heard : List Heard
    -- The steps that they made, with their answers.
    pub made : List Made
    -- The queue at the end.
    pub queue : JobQueue
    -- Each line has its one answer.
    pub are : AreHeard c heard made
    -- Machine, queue and store are in the state that these steps lead to.
    pub midway : IsMidway c first found begun made unit queue store
    -- The answers were written, line after line.
    pub written : Appends before.held after.held (answer_bytes heard)
    -- The life ended for this reason.
    pub ended : EndsBy c heard before after end

  -- How lines were taken, from a life that had just begun: to its end, unless it was lost; then a front of their answers was written.
  pub record TakesAll (c : Config) (begun_unit unit : UnitView) (begun store : Store B b) (before after : Talk) (end : LifeEnd) : Type 0 where
    -- It took its lines, unless it was lost.
    pub taken : (first : Generation) (found : ℕ → Content) → IsLiving c first [] [] begun_unit begun → SameApplications found (driver_of begun).value
        → UnlessLost end (TakesLines c first found (driver_of begun) before after unit store end)
    -- It was lost only by a fault of the sink or for memory.
    pub cause : IsLostFor before.write_faults after.write_faults end
    -- If it was lost, a front of its answers was written.
    pub cut : IfLost end (IsCutShort c [] before after)
    -- No count of faults fell.
    pub later : IsLater before after

  -- What follows the line that begins a life, by how it began. A refused life reads nothing, and leaves the store as a dark one does.
  abbrev pub GoesOnBy : Config → Boot → (found : ℕ → Content) → (begun last : Store B b) → UnitView → (before after : Talk) → LifeEnd → Type 0
  GoesOnBy c (boots.Started number state) found begun last unit before after end =
      TakesLines c (numbered number state) found (driver_of begun) before after unit last end
  GoesOnBy c boots.Dark found begun last unit before after end = (last ≡ begun) × TakesDarkLines c before after end
  GoesOnBy c (boots.Refused fault) found begun last unit before after end =
      (last ≡ begun) × (after.ahead ≡ before.ahead) × (after.held ≡ before.held) × (end ≡ Ended)

  -- A life of this number, from its power-up on. Its status is that of how it began. The line that says so was written first, and then one
  -- line for each that was read; unless the sink failed, or memory ran out.
  pub record IsLifeLived (c : Config) (number status : ℕ) (before : BlocksState) (last : Store B b) (unit : UnitView) (from after : Talk) (end : LifeEnd) : Type 0 where
    -- How the life began.
    pub boot : Boot
    -- The status is that of how it began.
    pub status_is : status ≡ status_by boot
    -- The store after the start-up.
    pub begun : Store B b
    -- It began so, with its cause in the blocks.
    pub is : BeginsOn c before boot begun
    -- Its first line was written, and then it went on so, unless it was lost.
    pub said : UnlessLost end ((between : Talk) × SaysLine (boot_line number boot) from between × GoesOnBy c boot before.value begun last unit between after end)
    -- It was lost only by a fault of the sink or for memory.
    pub lost : IsLostFor from.write_faults after.write_faults end
    -- If it was lost, a front of its lines was written.
    pub cut : IfLost end (IsCutShort c (boot_line number boot) from after)
    -- No count of faults fell.
    pub later : IsLater from after
