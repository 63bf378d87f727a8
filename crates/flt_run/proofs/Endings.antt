-- The end of a life: what its store holds by the journals that the closed locks left.
use Rattle.std.proofs.Common.{inl, ℕ, ◌≤◌, List, [], map, reverse, refl, sym, ap, subst, arith, ◌∙◌}
use Rattle.flt_config.specs.declared.config.Config.{Config}
use Rattle.flt_flash.specs.Content.{Content}
use Rattle.flt_flash.specs.declared.blocks.Blocks.{Ghosts}
use Rattle.flt_store_model.specs.Holding.{Generation}
use Rattle.flt_store_model.specs.Layout.{application_number}
use Rattle.flt_queue.specs.declared.job.QueueOp.{QueueOp}
use Rattle.flt_queue.specs.Queue.{History}
use Rattle.flt_store.specs.declared.store.Store.{Store}
use Rattle.flt_store.specs.Store.{IsRunning}
use Rattle.flt_turn.specs.declared.vault.Entry.{Entry}
use Rattle.flt_life_model.specs.Applications.{AreGot, AreHeld, HoldApplications, answers_of, jobs_told}
use Rattle.flt_life_model.specs.Journal.{Journal}
use Rattle.flt_life_model.specs.Ordered.{Deed}
use Rattle.flt_shared.specs.Call.{Seat}
use Rattle.flt_life_model.specs.SoFar.{IsKeptSince}
use Rattle.flt_fork.specs.Lived.{CouldClose}
use Rattle.flt_fork.specs.Known.{IsKnownTo}
use Rattle.flt_lane.specs.Living.{HoldsOn, IsLivingOn, drains_in, drains_of, saves_in, saves_of}
use Rattle.flt_lane.specs.Runs.{QueueSeat}
use Rattle.flt_life_model.proofs.HeldBlocks.{may_whole}
use Rattle.flt_lane.proofs.Applying.{drains-append, held_further, newest_of, queue_calls}
use Rattle.flt_fork.proofs.Closing.{known_whole}
use Rattle.flt_life_model.proofs.Keeping.{kept_first, kept_further}
use Rattle.flt_lane.proofs.Saves.{map_reverse, saves-append, step_calls}

-- ---- the generations

-- What is kept by what the main seat knows is kept by the whole journal: no call of a save comes after it.
pub kept_at_end : (c : Config) (first : Generation) (main : Seat) (deeds : List Deed) (h s : Generation) (journal known : Journal) → CouldClose main journal → IsKnownTo main known → saves_in journal ≤ saves_of deeds → saves_of deeds ≤ saves_in known
    → (saves_in known ≤ saves_of deeds → IsKeptSince c first (reverse known) (answers_of deeds) h s) → IsKeptSince c first (reverse journal) (answers_of deeds) h s
kept_at_end c first main deeds h s journal known whole is_known most least kept =
    let pre = known_whole main journal known whole is_known in
    let rest = pre.0 in
    let sum = ap saves_in (sym pre.1) ∙ saves-append known rest in
    subst (λ j. IsKeptSince c first (reverse j) (answers_of deeds) h s) pre.1
    (kept_further c first (answers_of deeds) h s known rest (step_calls rest (omega (arith, sum, most, least))) (kept (omega (arith, sum, most))))

-- The store before the first step.
pub living_first : {B : Type 0} {b : Ghosts B} (c : Config) (first : Generation) (main : Seat) (store : Store B b) → IsRunning c first first store → IsLivingOn c first main [] store
living_first c first main store running = record {
  held = first;
  spare = first;
  running = running;
  known = [];
  is_known = inl (main.seen, refl);
  least = omega arith;
  kept = λ few. kept_first c first;
}

-- ---- the application blocks

-- Before the first step.
pub holds_first : (jobs : QueueSeat) (values : ℕ → Content) → HoldsOn values jobs [] values
holds_first jobs values = record {
  known = [];
  is_known = inl (jobs.seen, refl);
  least = omega arith;
  held = λ few. record { counts_jobs = refl; held = λ block below. refl; got = tt; told = omega arith };
}

-- What holds of all calls.
pub record HoldsAll (first : ℕ → Content) (past : History) (deeds : List Deed) (values : ℕ → Content) : Type 0 where
  pub held : HoldApplications first past values
  pub got : AreGot first past deeds

all_of : (first : ℕ → Content) (past : History) (jobs : ℕ) (deeds : List Deed) (values : ℕ → Content) → AreHeld first past jobs deeds values → HoldsAll first past deeds values
all_of first past jobs deeds values held = record {
  held = λ block below. may_whole block (first (application_number block)) (values (application_number block)) past jobs held.counts_jobs (held.held block below);
  got = held.got;
}

pub held_at_end : (first : ℕ → Content) (main : QueueSeat) (deeds : List Deed) (values : ℕ → Content) (journal : List (Entry QueueOp)) → CouldClose main journal → drains_in journal ≤ drains_of deeds → HoldsOn first main deeds values
    → HoldsAll first (map (λ (e : Entry QueueOp). e.op) (reverse journal)) deeds values
held_at_end first main deeds values journal whole most holds =
    let pre = known_whole main journal holds.known whole holds.is_known in
    let rest = pre.0 in
    let sum = ap drains_in (sym pre.1) ∙ drains-append holds.known rest in
    let least = holds.least in
    let held = holds.held (omega (arith, sum, most)) in
    let all = held_further first (jobs_told (answers_of deeds)) deeds values holds.known rest (queue_calls rest (omega (arith, sum, most, least))) held in
    subst (λ l. HoldsAll first l deeds values) (map_reverse (λ (e : Entry QueueOp). e.op) journal)
    (all_of first (newest_of journal) (jobs_told (answers_of deeds)) deeds values (subst (λ j. AreHeld first (newest_of j) (jobs_told (answers_of deeds)) deeds values) pre.1 all))
