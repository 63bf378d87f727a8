-- A life on its way: what holds of its store by what the seats of the lanes know of the two journals. Deeds are the newest first.
use Rattle.std.specs.Prelude.{◌≡◌, ℕ, ◌+◌, ◌*◌, ◌≤◌, nat_lt, Bool, true, false, List, [], ◌∷◌, reverse}
use Rattle.flt_flash.specs.Content.{Content}
use Rattle.flt_flash.specs.declared.blocks.Blocks.{Ghosts}
use Rattle.flt_config.specs.declared.config.Config.{Config}
use Rattle.flt_store_model.specs.Holding.{Generation}
use Rattle.flt_model.specs.declared.call.Op.{Op}
use Rattle.flt_model.specs.declared.call.Op.TheVariants as ops
use Rattle.flt_queue.specs.declared.job.QueueOp.{QueueOp}
use Rattle.flt_queue.specs.declared.job.QueueOp.TheVariants as queue
use Rattle.flt_turn.specs.declared.vault.Entry.{Entry}
use Rattle.flt_turn.specs.Journal.{ops_of}
use Rattle.flt_fork.specs.Known.{IsKnownTo}
use Rattle.flt_store.specs.declared.store.Store.{Store}
use Rattle.flt_store.specs.Store.{IsAlive, IsRunning, driver_of}
use Rattle.flt_life_model.specs.Answers.{Told}
use Rattle.flt_life_model.specs.Applications.{AreHeld, answers_of, jobs_told}
use Rattle.flt_life_model.specs.Chain.{start_from}
use Rattle.flt_life_model.specs.Journal.{Journal}
use Rattle.flt_life_model.specs.Ordered.{Deed}
use Rattle.flt_life_model.specs.declared.answer.StepAnswer.TheVariants.{Saved, SaveFailed, Drained}
use Rattle.flt_shared.specs.Call.{Seat}
use Rattle.flt_life_model.specs.SoFar.{IsKeptSince, IsCaused}
use Rattle.flt_lane.specs.Runs.{QueueSeat}

-- ---- how many calls touch the store

-- A snapshot, or the note of a save.
abbrev pub save_call : Op → ℕ
save_call ops.Snapshot = 1
save_call (ops.Saved number) = 1
save_call _ = 0

abbrev pub saves_in : Journal → ℕ
saves_in [] = 0
saves_in (e ∷ journal) = save_call e.op + saves_in journal

-- Those that a step makes, by its answer, and those that deeds make.
abbrev pub saves_by : Told → ℕ
saves_by (Saved number) = 2
saves_by (SaveFailed fault) = 1
saves_by _ = 0

abbrev pub saves_of : List Deed → ℕ
saves_of [] = 0
saves_of (deed ∷ earlier) = saves_by deed.1 + saves_of earlier

-- A take, or the note of what became of a job.
abbrev pub drain_call : QueueOp → ℕ
drain_call queue.Take = 1
drain_call (queue.Done block written) = 1
drain_call _ = 0

abbrev pub drains_in : List (Entry QueueOp) → ℕ
drains_in [] = 0
drains_in (e ∷ journal) = drain_call e.op + drains_in journal

abbrev pub last_take : Bool → ℕ
last_take true = 1
last_take false = 0

-- Two for each job, and the last take, which finds no job, where there were fewer than 32.
abbrev pub drains_by : Told → ℕ
drains_by (Drained written failed) = 2 * (written + failed) + last_take (nat_lt (written + failed) 32)
drains_by _ = 0

abbrev pub drains_of : List Deed → ℕ
drains_of [] = 0
drains_of (deed ∷ earlier) = drains_by deed.1 + drains_of earlier

-- ---- the store

-- By a beginning of the queue's journal that the seat knows, which has this many calls of drains, where no other drain was at work.
pub record HoldsBy (first : ℕ → Content) (seat : QueueSeat) (calls jobs : ℕ) (deeds : List Deed) (values : ℕ → Content) : Type 0 where
  -- The beginning of the journal.
  pub known : List (Entry QueueOp)
  -- The seat knows it.
  pub is_known : IsKnownTo seat known
  -- It has the calls of these drains.
  pub least : calls ≤ drains_in known
  -- If it has no other drain's, each application block holds what these jobs may have left.
  pub held : drains_in known ≤ calls → AreHeld first (reverse (ops_of known)) jobs deeds values

-- Between two deeds.
abbrev pub HoldsOn : (ℕ → Content) → QueueSeat → List Deed → (ℕ → Content) → Type 0
HoldsOn first seat deeds values = HoldsBy first seat (drains_of deeds) (jobs_told (answers_of deeds)) deeds values

module _ {B : Type 0} {b : Ghosts B} where
  -- The store runs, and its generations are those of the saves in a beginning of the journal that the seat knows, which has the calls
  -- of these deeds, where no other save was made.
  pub record IsLivingOn (c : Config) (first : Generation) (seat : Seat) (deeds : List Deed) (store : Store B b) : Type 0 where
    -- The generation that was acknowledged last, or a later one.
    pub held : Generation
    -- The other one that may be restored.
    pub spare : Generation
    -- The store runs with the two.
    pub running : IsRunning c held spare store
    -- The beginning of the journal.
    pub known : Journal
    -- The seat knows it.
    pub is_known : IsKnownTo seat known
    -- It has the saves among these deeds.
    pub least : saves_of deeds ≤ saves_in known
    -- If it has no other save, the two are what these saves may have left.
    pub kept : saves_in known ≤ saves_of deeds → IsKeptSince c first (reverse known) (answers_of deeds) held spare

  -- What steps carry on.
  pub record Carries (c : Config) (before after : Seat) (jobs jobs_after : QueueSeat) (earlier deeds : List Deed) (store now : Store B b) : Type 0 where
    -- A store that ran runs.
    pub alive : IsAlive c store → IsAlive c now
    -- If its generations were those of the saves so far, they are those of the saves with these.
    pub living : (first : Generation) → before.start ≡ start_from c first.state → IsLivingOn c first before earlier store → IsLivingOn c first after deeds now
    -- If each failure had its cause, so has each of these.
    pub caused : (begun : ℕ) → IsCaused c begun (answers_of earlier) store → IsCaused c begun (answers_of deeds) now
    -- If its blocks held what the drains so far may have left, they hold what these may have left.
    pub holds : IsAlive c store → (first : ℕ → Content) → HoldsOn first jobs earlier (driver_of store).value
        → HoldsOn first jobs_after deeds (driver_of now).value
