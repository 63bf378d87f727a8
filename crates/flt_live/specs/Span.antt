-- The lives of a session one after the other, in words that need no store: what each found, read, wrote and left.
use Rattle.std.specs.Prelude.{◌≡◌, ◌+◌, ◌^◌, ◌-◌, ℕ, min, Bool, List, [], ◌∷◌, length, map, reverse, IsTrue, IsFalse}
use Rattle.std.proofs.Common.{inl}
use Rattle.std.specs.Io.KnownBytes.{Appends}
use Rattle.flt_config.specs.declared.config.Config.{Config}
use Rattle.flt_config.specs.Durable.{Fits}
use Rattle.flt_flash.specs.Blocks.{BlocksState}
use Rattle.flt_model.specs.Start.{Start}
use Rattle.flt_queue.specs.Queue.{History}
use Rattle.flt_store.specs.Store.{numbered}
use Rattle.flt_store.specs.Started.{HasMark}
use Rattle.flt_store_model.specs.Holding.{Generation, IsSound}
use Rattle.flt_life_model.specs.Chain.{Finds, IsLifeBegunBy, IsLifeBetween, LifeView, start_from}
use Rattle.flt_life_model.specs.Moment.{moment_of}
use Rattle.flt_life_model.specs.declared.life.Boot.{Boot}
use Rattle.flt_life_model.specs.declared.life.Boot.TheVariants as boots
use Rattle.flt_report.specs.Boot.{boot_line}
use Rattle.flt_live.specs.declared.living.LifeEnd.{LifeEnd}
use Rattle.flt_live.specs.declared.living.LifeEnd.TheVariants.{Power, Ended}
use Rattle.flt_live.specs.Ahead.{ahead_with}
use Rattle.flt_live.specs.Begun.{without_steps}
use Rattle.flt_live.specs.Heard.{AreHeard, Heard, IsLater, SaysLine, Talk, answer_bytes}
use Rattle.flt_live.specs.Lived.{EndsBy, IfLost, IsCutShort, IsLostFor, TakesDarkLines, UnlessLost}
use Rattle.flt_live.specs.Made.{AreAnswered, Made, journal_of}

-- A life from end to end: its number, how it began, why it ended, and what it is in the words of a run; its blocks before the power-up,
-- after the start-up, and at its end; and how far was read and written at both ends.
pub record LifeSpan : Type 0 where
  -- Its number, counted from 1 on.
  pub number : ℕ
  -- How it began.
  pub boot : Boot
  -- Why it ended.
  pub end : LifeEnd
  -- What it is in the words of a run.
  pub view : LifeView
  -- The blocks before the power-up.
  pub before : BlocksState
  -- The blocks after the start-up.
  pub begun : BlocksState
  -- The blocks at its end.
  pub last : BlocksState
  -- How far was read and written at its beginning.
  pub from : Talk
  -- How far was read and written at its end.
  pub after : Talk

-- The image has the mark, and both copies of its commit name this generation.
pub record HoldsBoth (c : Config) (blocks : BlocksState) (g : Generation) : Type 0 where
  -- The mark of the configuration is there.
  pub mark : HasMark c blocks.value
  -- Both copies of the commit name the generation.
  pub sound : IsSound c blocks.value g g

-- How a life began. One that was started found its generation in the image, where a sequence number was left. One that is dark or refused
-- has the cause that it has in a run.
abbrev pub BeginsSo : Config → (before begun : BlocksState) → Boot → Type 0
BeginsSo c before begun (boots.Started number state) = Finds c (moment_of before) begun.device.faults (numbered number state) × IsFalse before.is_spent
    × Fits c state × HoldsBoth c begun (numbered number state)
BeginsSo c before begun boots.Dark = IsLifeBetween c (moment_of before) (moment_of begun) begun.device.faults (without_steps boots.Dark)
BeginsSo c before begun (boots.Refused fault) = IsLifeBetween c (moment_of before) (moment_of begun) begun.device.faults (without_steps (boots.Refused fault))

-- A life that made these steps and these calls of the queue, in the words of a run: its parts are the steps, and its answers are theirs.
abbrev pub seen_as : Boot → List Made → History → LifeView
seen_as boot made jobs = record {
  parts = map inl (reverse (map (λ m. m.0) made));
  boot = boot;
  journal = journal_of made;
  queue = map (λ op. record { lane = 0; op = op }) jobs;
  own = reverse (map (λ m. m.1) made);
  lanes = [];
}

-- A life that was started took these lines, which made these steps, each with the answer that is due after those before it.
pub record TookLines (c : Config) (boot : Boot) (start : Start) (view : LifeView) (from after : Talk) (end : LifeEnd) : Type 0 where
  -- The lines that were read.
  pub heard : List Heard
  -- The steps that they made, with their answers.
  pub made : List Made
  -- The calls of the queue.
  pub jobs : History
  -- Each line has its one answer.
  pub are : AreHeard c heard made
  -- Each step was answered as is due after those before it.
  pub answered : AreAnswered start made jobs
  -- In the words of a run it is a life of these steps.
  pub view_is : view ≡ seen_as boot made jobs
  -- The answers were written, line after line.
  pub written : Appends from.held after.held (answer_bytes heard)
  -- The life ended for this reason.
  pub ended : EndsBy c heard from after end

-- What follows the first line of a life, by how it began. A dark one makes no step, and a refused one reads nothing.
abbrev pub WentOn : Config → Boot → LifeView → (from after : Talk) → LifeEnd → Type 0
WentOn c (boots.Started number state) view from after end = TookLines c (boots.Started number state) (start_from c state) view from after end
WentOn c boots.Dark view from after end = (view ≡ without_steps boots.Dark) × TakesDarkLines c from after end
WentOn c (boots.Refused fault) view from after end =
    (view ≡ without_steps (boots.Refused fault)) × (after.ahead ≡ from.ahead) × (after.held ≡ from.held) × (end ≡ Ended)

-- A life whose lines were written: its first line, and then one for each line that was read; and between its two ends it is a life of a run.
pub record IsWholeLife (c : Config) (life : LifeSpan) (end : LifeEnd) : Type 0 where
  -- How far was read and written after its first line.
  pub between : Talk
  -- Its first line says how it began.
  pub says : SaysLine (boot_line life.number life.boot) life.from between
  -- Then it took its lines.
  pub went_on : WentOn c life.boot life.view between life.after end
  -- Between its two ends it is a life of a run.
  pub is_life : IsLifeBegunBy c (moment_of life.before) (moment_of life.last) life.begun.device.faults life.view life.boot

-- A life: it is whole, unless the sink failed, or memory ran out. Then a front of its lines was written.
pub record IsSpan (c : Config) (life : LifeSpan) : Type 0 where
  -- It began so, with its cause in the blocks.
  pub is : BeginsSo c life.before life.begun life.boot
  -- All its lines were written, unless it was lost.
  pub whole : UnlessLost life.end (IsWholeLife c life life.end)
  -- It was lost only by a fault of the sink or for memory.
  pub lost : IsLostFor life.from.write_faults life.after.write_faults life.end
  -- If it was lost, a front of its lines was written.
  pub cut : IfLost life.end (IsCutShort c (boot_line life.number life.boot) life.from life.after)
  -- No count of faults fell.
  pub later : IsLater life.from life.after

-- The blocks are those that were there.
pub record SameBlocks (last before : BlocksState) : Type 0 where
  -- Each block holds what it held.
  pub value : before.value ≡ last.value
  -- The damage is the same.
  pub damage : before.damage ≡ last.damage
  -- The last sequence number is in use if it was.
  pub is_spent : before.is_spent ≡ last.is_spent

-- A life found what the one before it left, if the shelf reveals what it keeps.
abbrev pub IsFoundBehind : Bool → List LifeSpan → BlocksState → Type 0
IsFoundBehind tells [] before = Unit {0}
IsFoundBehind tells (life ∷ earlier) before = IsTrue tells → SameBlocks life.last before

-- Lives are counted from 1 on, as far as the count goes.
abbrev pub next_life : List LifeSpan → ℕ
next_life earlier = min (length earlier + 1) (2 ^ 32 - 1)

-- These lives, the newest first, each of which ended by a `power`: the first begins here, each where the one before it ended, and the last
-- ended there.
abbrev pub ArePassed : Bool → Config → Talk → List LifeSpan → Talk → Type 0
ArePassed tells c from [] to = to ≡ from
ArePassed tells c from (life ∷ earlier) to =
    ArePassed tells c from earlier life.from × (life.number ≡ next_life earlier) × (life.end ≡ Power) × IsSpan c life
    × IsFoundBehind tells earlier life.before × (to ≡ life.after)

-- The lives up to the last one, which ended so, and what was pulled of the source and not taken.
pub record AreSpans (tells : Bool) (c : Config) (from to : Talk) (boot : Boot) (end : LifeEnd) : Type 0 where
  -- The lives before the last one, the newest first.
  pub earlier : List LifeSpan
  -- The last one.
  pub life : LifeSpan
  -- What was pulled of the source and not taken.
  pub pulled : List ℕ
  -- Each life before the last one ended by a `power`, and the next began where it ended.
  pub passed : ArePassed tells c from earlier life.from
  -- The lives are counted.
  pub number : life.number ≡ next_life earlier
  -- The last life is one.
  pub span : IsSpan c life
  -- It found what the life before it left, if the shelf reveals that.
  pub found : IsFoundBehind tells earlier life.before
  -- It began so.
  pub boot_is : life.boot ≡ boot
  -- It ended so.
  pub end_is : life.end ≡ end
  -- The session ended where it ended.
  pub to_is : life.after ≡ record to { ahead = ahead_with pulled to.ahead }

-- Lives that each ended by a `power`, and what was pulled of the source and not taken.
pub record LivesPassed (tells : Bool) (c : Config) (from to : Talk) : Type 0 where
  -- The lives, the newest first.
  pub lives : List LifeSpan
  -- What was pulled of the source and not taken.
  pub pulled : List ℕ
  -- Each ended by a `power`, and the next began where it ended.
  pub passed : ArePassed tells c from lives (record to { ahead = ahead_with pulled to.ahead })
