-- The end of a life on two locks: what it was made of, and what it leaves.
use Rattle.std.proofs.Common.{◌≡◌, inl, inr, ℕ, ◌≤◌, List, [], ◌∷◌, All, map, reverse, length, sym, ap, subst, arith, ◌∙◌}
use Rattle.std.specs.Prelude.{sum_by}
use Rattle.std.proofs.lemmas.List.{reverse-reverse}
use Rattle.std.proofs.lemmas.List.Sums.{sum_by-cons}
use Rattle.std.proofs.lemmas.List.Elements.{All-nil, All-cons, All-head, All-tail}
use Rattle.flt_config.specs.declared.config.Config.{Config}
use Rattle.flt_config.specs.declared.persist.Persist.{Persist}
use Rattle.flt_flash.specs.State.{HasRisenBy}
use Rattle.flt_flash.specs.declared.blocks.Blocks.{Ghosts}
use Rattle.flt_store_model.specs.Holding.{Generation}
use Rattle.flt_model.specs.Start.{Start}
use Rattle.flt_queue.specs.declared.job.QueueOp.{QueueOp}
use Rattle.flt_queue.specs.Call as queued
use Rattle.flt_step.specs.declared.step.Step.{Step}
use Rattle.flt_step.specs.Part.{PartOf}
use Rattle.flt_store.specs.declared.store.Store.{Store}
use Rattle.flt_store.specs.Store.{IsAlive, IsRunning, driver_of, numbered}
use Rattle.flt_turn.specs.declared.vault.Entry.{Entry}
use Rattle.flt_turn.specs.Seats.{main_seat}
use Rattle.flt_life_model.specs.Applications.{answers_of}
use Rattle.flt_life_model.specs.Answers.{Told}
use Rattle.flt_life_model.specs.Causes.{AreCaused}
use Rattle.flt_life_model.specs.Chain.{start_from}
use Rattle.flt_life_model.specs.Journal.{Journal}
use Rattle.flt_life_model.specs.Moment.{Moment, moment_of}
use Rattle.flt_life_model.specs.Ordered.{deeds_in}
use Rattle.flt_life_model.specs.Parts.{IsPossibleInLane, IsPossiblePart, steps_in}
use Rattle.flt_life_model.specs.Played.{IsLife, IsMade, StepMakes, StepQueues}
use Rattle.flt_shared.specs.Call.{Seat, reply_after}
use Rattle.flt_life_model.specs.SoFar.{IsCaused, IsKeptSince}
use Rattle.flt_life_model.proofs.Causing.{are_caused}
use Rattle.flt_lane.specs.Block.{HaveRunParts}
use Rattle.flt_fork.specs.Lived.{CouldClose}
use Rattle.flt_lane.specs.Living.{Carries, drains_in, drains_of, saves_in, saves_of}
use Rattle.flt_lane.specs.Room.{IsLaneFor, IsPartFor}
use Rattle.flt_lane.specs.Runs.{QueueSeat}
use Rattle.flt_run.proofs.Counting.{life_drains, life_saves}
use Rattle.flt_run.proofs.Endings.{HoldsAll, held_at_end, holds_first, kept_at_end, living_first}
use Rattle.flt_lane.proofs.WholeLife.{made_of}

-- ---- the life

pub same_blocks : (c d : Config) → c ≡ d → c.blocks ≡ d.blocks
same_blocks c d same = ap (λ (k : Config). k.blocks) same

pub starts_from : (c : Config) (state : Persist) (main : Seat) (lock : _) (start : Start) (room : ℕ) → main ≡ main_seat lock start room → start.config ≡ c → start.base ≡ state → main.start ≡ start_from c state
starts_from c state main lock start room is same base = ap (λ (s : Seat). s.start) is ∙ (λ i. record { config = same i; base = base i })

-- The journals of a life, which have no more calls of saves and of drains than its deeds.
pub record HasEnded (start : Start) (parts : List (PartOf Step)) (own : List Told) (lanes : List (List Told)) (journal : Journal) (queue : List (Entry QueueOp)) : Type 0 where
  pub life : IsLife start parts own lanes journal queue
  pub saves : saves_in journal ≤ saves_of (reverse (deeds_in parts own lanes))
  pub drains : drains_in queue ≤ drains_of (reverse (deeds_in parts own lanes))

ended_by : (start : Start) (parts : List (PartOf Step)) (own : List Told) (lanes : List (List Told)) (journal : Journal) (queue : List (Entry QueueOp)) → IsLife start parts own lanes journal queue → HasEnded start parts own lanes journal queue
ended_by start parts own lanes journal queue life = record {
  life = life;
  saves = life_saves reply_after start parts own lanes journal life.dem;
  drains = life_drains queued.reply_after start.config.blocks parts own lanes queue life.jobs;
}

life_by : (start : Start) (main after : Seat) (jobs jobs_after : QueueSeat) (parts : List (PartOf Step)) (own : List Told) (lanes : List (List Told)) (journal : Journal) (queue : List (Entry QueueOp))
    → main ≡ main_seat main.lock main.start main.left → jobs ≡ main_seat jobs.lock jobs.start jobs.left → main.start ≡ start → jobs.start ≡ start.config.blocks
    → HaveRunParts main after jobs jobs_after parts own lanes → CouldClose after journal → CouldClose jobs_after queue → IsLife start parts own lanes journal queue
life_by start main after jobs jobs_after parts own lanes journal queue fresh jobs_fresh begins blocks ran whole jobs_whole = record {
  dem = subst (λ (s : Start). IsMade StepMakes reply_after s parts own lanes journal) begins (made_of reply_after StepMakes main after parts own lanes journal fresh ran.dem whole);
  jobs = subst (λ n. IsMade StepQueues queued.reply_after n parts own lanes queue) blocks (made_of queued.reply_after StepQueues jobs jobs_after parts own lanes queue jobs_fresh ran.queue jobs_whole);
}

-- Both journals turned twice.
pub turned_life : (start : Start) (parts : List (PartOf Step)) (own : List Told) (lanes : List (List Told)) (journal : Journal) (queue : List (Entry QueueOp)) → IsLife start parts own lanes journal queue
    → IsLife start parts own lanes (reverse (reverse journal)) (reverse (reverse queue))
turned_life start parts own lanes journal queue life =
    subst (λ j. IsLife start parts own lanes j (reverse (reverse queue))) (sym (reverse-reverse journal)) (subst (λ q. IsLife start parts own lanes journal q) (sym (reverse-reverse queue)) life)

-- ---- both locks were closed, and left these journals

module _ {B : Type 0} {b : Ghosts B} where
  pub record IsOver (c : Config) (state : Persist) (main after : Seat) (jobs jobs_after : QueueSeat) (parts : List (PartOf Step)) (own : List Told) (lanes : List (List Told)) (journal : Journal) (queue : List (Entry QueueOp)) (store now : Store B b) : Type 0 where
    pub begins : main.start ≡ start_from c state
    pub whole : CouldClose after journal
    pub jobs_whole : CouldClose jobs_after queue
    pub ended : HasEnded (start_from c state) parts own lanes journal queue
    pub carries : Carries c main after jobs jobs_after [] (reverse (deeds_in parts own lanes)) store now

  pub over_of : (c : Config) (state : Persist) (main after : Seat) (jobs jobs_after : QueueSeat) (parts : List (PartOf Step)) (own : List Told) (lanes : List (List Told)) (journal : Journal) (queue : List (Entry QueueOp)) (store now : Store B b)
      → main ≡ main_seat main.lock main.start main.left → jobs ≡ main_seat jobs.lock jobs.start jobs.left → main.start ≡ start_from c state → jobs.start ≡ c.blocks
      → HaveRunParts main after jobs jobs_after parts own lanes → CouldClose after journal → CouldClose jobs_after queue → Carries c main after jobs jobs_after [] (reverse (deeds_in parts own lanes)) store now
      → IsOver c state main after jobs jobs_after parts own lanes journal queue store now
  over_of c state main after jobs jobs_after parts own lanes journal queue store now fresh jobs_fresh begins blocks ran whole jobs_whole carries =
      let start = start_from c state in
      record {
        begins = begins;
        whole = whole;
        jobs_whole = jobs_whole;
        ended = ended_by start parts own lanes journal queue (life_by start main after jobs jobs_after parts own lanes journal queue fresh jobs_fresh begins blocks ran whole jobs_whole);
        carries = carries;
      }

  -- The generations that the store holds in the end.
  pub record HasLeft (c : Config) (first : Generation) (journal : Journal) (told : List Told) (now : Store B b) : Type 0 where
    pub held : Generation
    pub spare : Generation
    pub running : IsRunning c held spare now
    pub kept : IsKeptSince c first (reverse journal) told held spare

  module _ (c : Config) (number : ℕ) (state : Persist) (main after : Seat) (jobs jobs_after : QueueSeat) (parts : List (PartOf Step)) (own : List Told) (lanes : List (List Told)) (journal : Journal) (queue : List (Entry QueueOp)) (store now : Store B b)
      (over : IsOver c state main after jobs jobs_after parts own lanes journal queue store now) (running : IsRunning c (numbered number state) (numbered number state) store) where
    pub left_of : HasLeft c (numbered number state) journal (answers_of (reverse (deeds_in parts own lanes))) now
    left_of =
        let first = numbered number state in
        let living = over.carries.living first over.begins (living_first c first main store running) in
        record {
          held = living.held;
          spare = living.spare;
          running = living.running;
          kept = kept_at_end c first after (reverse (deeds_in parts own lanes)) living.held living.spare journal living.known over.whole living.is_known over.ended.saves living.least living.kept;
        }

    pub caused_of : (boot : Moment) → HasRisenBy 0 boot.faults (driver_of store).device.faults → AreCaused c boot (moment_of (driver_of now)) (answers_of (reverse (deeds_in parts own lanes)))
    caused_of boot rose =
        let first = numbered number state in
        let faults = (driver_of store).device.faults in
        let begun : IsCaused c faults [] store = record {
          held_now = first;
          spare_now = first;
          running = running;
          flash = omega arith;
          jobs = λ none. omega arith;
          spent = λ none. absurd none;
          sequence = λ none. absurd none;
        } in
        are_caused c faults (answers_of (reverse (deeds_in parts own lanes))) now boot rose (over.carries.caused faults begun)

    pub holds_of : HoldsAll (driver_of store).value (map (λ (e : Entry QueueOp). e.op) (reverse queue)) (reverse (deeds_in parts own lanes)) (driver_of now).value
    holds_of =
        let first = numbered number state in
        let values = (driver_of store).value in
        let alive : IsAlive c store = record { held = first; spare = first; running = running } in
        held_at_end values jobs_after (reverse (deeds_in parts own lanes)) (driver_of now).value queue over.jobs_whole over.ended.drains (over.carries.holds alive values (holds_first jobs values))
