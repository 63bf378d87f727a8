-- What a line leaves, and what is written for it.
use Rattle.std.specs.Prelude.{◌≡◌, ◌≤◌, ◌⊎◌, ℕ, List, [], ◌∷◌, Option, Result, Err, IfOk}
use Rattle.std.specs.Vec.{vec_capacity}
use Rattle.flt_config.specs.declared.config.Config.{Config}
use Rattle.flt_flash.specs.declared.blocks.Blocks.{Ghosts}
use Rattle.flt_io.specs.Written.{Writes}
use Rattle.flt_io.specs.declared.stream.StreamFault.{StreamFault}
use Rattle.flt_io.specs.declared.stream.StreamFault.TheVariants.{Memory}
use Rattle.flt_dcm.specs.Unit.{UnitView}
use Rattle.flt_queue.specs.declared.queue.JobQueue.{JobQueue}
use Rattle.flt_store.specs.declared.store.Store.{Store}
use Rattle.flt_store.specs.Store.{IsAlive}
use Rattle.flt_life_model.specs.Answers.{Told, byte_room}
use Rattle.flt_life_model.specs.declared.answer.StepAnswer.TheVariants.{Dark}
use Rattle.flt_lives.specs.Living.{IsUnderWay}
use Rattle.flt_report.specs.Answer.{step_line}
use Rattle.flt_live.specs.declared.line.Answered.{Answered}
use Rattle.flt_live.specs.declared.line.Answered.TheVariants.{Line, Power}
use Rattle.flt_live.specs.declared.line.Due.{Due}
use Rattle.flt_live.specs.declared.line.Due.TheVariants as due
use Rattle.flt_live.specs.declared.living.Room.{Room}
use Rattle.flt_live.specs.Due.{refusal_line}
use Rattle.flt_live.specs.Made.{MakesStep}

-- There is room for one answer, and for the longest response.
pub record IsReady (room : Room) : Type 0 where
  -- There is a place for an answer.
  pub answers : 1 ≤ vec_capacity room.replies.answers
  -- There is room for the longest response.
  pub responses : 1040 ≤ byte_room room.replies.responses

-- A `power` is reported as such, and every other line as answered.
abbrev pub IsToldBy : Due → Answered → Type 0
IsToldBy due.Power told = told ≡ Power
IsToldBy _ told = told ≡ Line

module _ {B : Type 0} {b : Ghosts B} where
  -- A step is made and its answer is written. Every other line leaves all as it was: one that says nothing is answered by an empty line,
  -- and one that is refused by why; a `power` is not answered here.
  abbrev pub Answers : Config → Due → List ℕ → (unit next_unit : UnitView) → (queue next_queue : JobQueue) → (store next_store : Store B b) → Type 0
  Answers c due.Nothing line unit next_unit queue next_queue store next_store =
      (line ≡ 10 ∷ []) × (next_unit ≡ unit) × (next_queue ≡ queue) × (next_store ≡ store)
  Answers c (due.Refuse refusal) line unit next_unit queue next_queue store next_store =
      (line ≡ refusal_line refusal) × (next_unit ≡ unit) × (next_queue ≡ queue) × (next_store ≡ store)
  Answers c (due.Make step) line unit next_unit queue next_queue store next_store =
      (told : Told) × (line ≡ step_line step told) × MakesStep c step told unit next_unit queue next_queue store next_store
  Answers c due.Power line unit next_unit queue next_queue store next_store =
      (line ≡ []) × (next_unit ≡ unit) × (next_queue ≡ queue) × (next_store ≡ store)

  -- A life that was started: its machine, its queue and its store are at work.
  pub record IsUp (c : Config) (unit : UnitView) (queue : JobQueue) (store : Store B b) : Type 0 where
    -- The machine is in the state that some calls lead to.
    pub under_way : IsUnderWay c unit
    -- The queue has as many blocks as the configuration.
    pub blocks : queue.blocks ≡ c.blocks
    -- The store runs.
    pub alive : IsAlive c store

  -- Nothing was done at the line, since memory ran out.
  abbrev pub LeavesAll : Result Answered StreamFault → List ℕ → (unit next_unit : UnitView) → (queue next_queue : JobQueue) → (store next_store : Store B b) → Type 0
  LeavesAll result line unit next_unit queue next_queue store next_store =
      (result ≡ Err Memory) × (line ≡ []) × (next_unit ≡ unit) × (next_queue ≡ queue) × (next_store ≡ store)

  -- What one line comes to: what it leaves, and which line is written for it, whole or a front of it where the writing failed.
  pub record IsLineAnswered {K : Type 0} (c : Config) (what : Due) (held : K → Option (List ℕ)) (faults : K → ℕ) (before after : K)
      (unit next_unit : UnitView) (queue next_queue : JobQueue) (store next_store : Store B b) (result : Result Answered StreamFault) : Type 0 where
    -- The line that is due.
    pub line : List ℕ
    -- It is that of what is to be done, and that was done; or memory ran out, and nothing was done.
    pub answers : Answers c what line unit next_unit queue next_queue store next_store ⊎ LeavesAll result line unit next_unit queue next_queue store next_store
    -- The line was written, or a front of it if the sink failed.
    pub written : Writes held faults before after line result
    -- The answer says whether a `power` was read.
    pub told : IfOk result (IsToldBy what)

-- In a dark life no step is made.
abbrev pub dark_line : Due → List ℕ
dark_line due.Nothing = 10 ∷ []
dark_line (due.Refuse refusal) = refusal_line refusal
dark_line (due.Make step) = step_line step Dark
dark_line due.Power = []

-- What one line of a dark life comes to.
pub record IsDarkLineAnswered {K : Type 0} (what : Due) (held : K → Option (List ℕ)) (faults : K → ℕ) (before after : K)
    (result : Result Answered StreamFault) : Type 0 where
  -- The line that is due.
  pub line : List ℕ
  -- It is that of a dark life, or none if memory ran out.
  pub is : (line ≡ dark_line what) ⊎ ((result ≡ Err Memory) × (line ≡ []))
  -- The line was written, or a front of it if the sink failed.
  pub written : Writes held faults before after line result
  -- The answer says whether a `power` was read.
  pub told : IfOk result (IsToldBy what)
