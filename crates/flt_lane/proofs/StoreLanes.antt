-- The lanes of a block, of which one at most touches the store: what the block carries on.
use Rattle.std.proofs.Common.{◌≡◌, inl, inr, ⊎_elim, ℕ, ◌<◌, false, List, [], ◌∷◌, ◌++◌, All, length, map, get_or, reverse, ap, subst, sym, arith, ◌∙◌}
use Rattle.std.specs.Prelude.{Contains}
use Rattle.std.proofs.lemmas.Bool.{cases_eq}
use Rattle.std.proofs.lemmas.List.{get_or-map, length-map}
use Rattle.std.proofs.lemmas.List.Elements.{Contains-get_or}
use Rattle.flt_flash.specs.declared.blocks.Blocks.{Ghosts}
use Rattle.flt_config.specs.declared.config.Config.{Config}
use Rattle.flt_queue.specs.Call as queued
use Rattle.flt_queue.specs.Queue as queue
use Rattle.flt_step.specs.Step.{has_store_step}
use Rattle.flt_step.specs.declared.step.Step.{Step}
use Rattle.flt_shared.specs.Call.{Seat, MayBeAsked, reply_after}
use Rattle.flt_store.specs.declared.store.Store.{Store}
use Rattle.flt_turn.specs.Seats.{Seated}
use Rattle.flt_life_model.specs.Ordered.{Deed, block_deeds, lane_deeds}
use Rattle.flt_life_model.specs.Room.{told_in}
use Rattle.flt_lane.specs.Views.{KnownLocks, LaneWork, Seats}
use Rattle.flt_fork.specs.Seats.{IsSplitSeat, IsSplitOff, AreJoined}
use Rattle.flt_step.specs.Part.{PartOf}
use Rattle.flt_lane.specs.Keeping.{CarriesLanes, IsAllowedPart, Keeping, TakesStepWith}
use Rattle.flt_lane.specs.Kept.{store_keeping}
use Rattle.flt_lane.specs.Living.{Carries}
use Rattle.flt_lane.specs.Room.{all_calls, all_queued}
use Rattle.flt_lane.specs.Runs.{QueueSeat}
use Rattle.flt_lane.specs.Stored.{AreRun, HasRunStore, HaveRun, LeavesStore, RunsStore, StoresAt, is_store_lane}
use Rattle.flt_lane.specs.Work.{HasRun}
use Rattle.flt_lane.specs.KeptLaws.{KnowsToo, carries_beside}
use Rattle.flt_lane.proofs.Carrying.{carries_between, knows_joined, knows_still}
use Rattle.flt_fork.proofs.Chains.{chain_fact}
use Rattle.flt_fork.proofs.Knowing.{known_same}
use Rattle.flt_lane.proofs.LaneDeeds.{newest_deed, none_deeds, one_deeds}
use Rattle.flt_lane.specs.Stepped.{TakesStep}
use Rattle.flt_life_model.specs.declared.replies.LaneReplies.{LaneReplies}
use Rattle.flt_fork.proofs.Passed.{split_each}
use Rattle.flt_life_model.specs.Parts.{calls_of, queued_of}
use Rattle.flt_lane.specs.Seating.{AreSeated}
use Rattle.flt_lane.proofs.Leaving.{leaves_nothing}

-- ---- each lane made its steps

module _ {B : Type 0} {b : Ghosts B} (c : Config) (lanes after : List LaneWork) (store now : Store B b) where
  pub have_run : AreRun c lanes after store now → HaveRun lanes after
  have_run (inl none) = none.0
  have_run (inr one) =
      let place = one.0 in
      let runs = one.2 in
      record {
        len = runs.len;
        each = λ k d within. ⊎_elim (λ same. subst (λ n. HasRun (get_or lanes n d) (get_or after n d)) (sym same) (runs.one d).ran) (λ apart. runs.others k d within apart) (cases_eq k place);
      }

-- ---- a seat that was split off

pub record IsFrom {S O : Type 0} (main seat : Seated S O) : Type 0 where
  pub start : seat.start ≡ main.start
  pub seen : seat.seen ≡ main.seen
  pub olds : seat.olds ≡ main.olds

-- Of each lane.
pub record IsWorkFrom (main : Seat) (jobs : QueueSeat) (work : LaneWork) : Type 0 where
  pub dem : IsFrom main work.seats.dem
  pub queue : IsFrom jobs work.seats.queue
  pub no_answers : told_in work.replies ≡ []

split_from : {S O : Type 0} (main seat : Seated S O) (number calls : ℕ) → IsSplitSeat main number calls seat → IsFrom main seat
split_from main seat number calls is = record { start = is.start_is; seen = is.seen_is; olds = is.olds_are }

all_from : (locks : KnownLocks) (main off : Seats) (lanes : List (List Step)) (works : List LaneWork) → AreSeated locks main off lanes works → All (IsWorkFrom main.dem main.queue) works
all_from locks main off lanes works seated = λ k d within. record {
  dem = split_each (λ (w : LaneWork). w.seats.dem) (λ w. calls_of w.steps.now) main.dem (λ w. IsFrom main.dem w.seats.dem) (λ number w is. split_from main.dem w.seats.dem number _ is) _ works seated.dem k d within;
  queue = split_each (λ (w : LaneWork). w.seats.queue) (λ w. queued_of w.steps.now) main.queue (λ w. IsFrom main.queue w.seats.queue) (λ number w is. split_from main.queue w.seats.queue number _ is) _ works seated.queue k d within;
  no_answers = seated.no_answers k d within;
}

-- ---- what the seat of a lane passes on to the main seat

module _ {S O : Type 0} (main off after : Seated S O) (seats calls : ℕ) (is_off : IsSplitOff main off seats calls) where
  pub knows_main : (joined : List (Seated S O)) → AreJoined off after joined → KnowsToo main after
  knows_main joined are known is = knows_still off after joined are known (known_same main off known is_off.seen_is is_off.olds_are is)

  pub knows_lane : {W : Type 0} (seat_of : W → Seated S O) (ran : List W) (place : ℕ) (d : W) → AreJoined off after (map seat_of ran) → place < length ran → (seat_of (get_or ran place d)).olds ≡ main.olds → KnowsToo (seat_of (get_or ran place d)) after
  knows_lane {W} seat_of ran place d are within olds =
      let seats = map seat_of ran in
      let seat = seat_of (get_or ran place d) in
      let inside : place < length seats = (let len = length-map ran seat_of in omega (arith, len, within)) in
      let among = Contains-get_or (map (λ (s : Seated S O). s.seen) seats) place seat.seen (let len = length-map seats (λ (s : Seated S O). s.seen) in omega (arith, len, inside)) in
      let is = get_or-map (λ (s : Seated S O). s.seen) seats place seat seat.seen inside ∙ ap (λ (s : Seated S O). s.seen) (get_or-map seat_of ran place d seat within) in
      knows_joined off after seat seats are (subst (Contains (map (λ (s : Seated S O). s.seen) seats)) is among) (olds ∙ sym is_off.olds_are)

  pub knows_split : (seat : Seated S O) → IsFrom main seat → KnowsToo main seat
  knows_split seat from known is = known_same main seat known from.seen from.olds is

-- ---- the block

default_of : (works : List LaneWork) (k : ℕ) → k < length works → LaneWork
default_of [] k within = absurd (omega (arith, within))
default_of (w ∷ works) k within = w

module _ {B : Type 0} {b : Ghosts B} (c : Config) (main off after : Seat) (jobs jobs_off jobs_after : QueueSeat) (lanes : List (List Step)) (works ran : List LaneWork) (store now : Store B b) (seats calls job_calls : ℕ)
    (is_off : IsSplitOff main off seats calls) (is_job_off : IsSplitOff jobs jobs_off seats job_calls) (lanes_are : map (λ (w : LaneWork). w.steps.now) works ≡ lanes) (from : All (IsWorkFrom main jobs) works)
    (joined : AreJoined off after (map (λ (w : LaneWork). w.seats.dem) ran)) (jobs_joined : AreJoined jobs_off jobs_after (map (λ (w : LaneWork). w.seats.queue) ran)) (earlier : List Deed) where
  -- The steps of a lane.
  steps_at : (k : ℕ) (d : LaneWork) (e : List Step) → k < length works → get_or lanes k e ≡ (get_or works k d).steps.now
  steps_at k d e within = ap (λ l. get_or l k e) (sym lanes_are) ∙ get_or-map (λ (w : LaneWork). w.steps.now) works k d e within

  lanes_count : length lanes ≡ length works
  lanes_count = ap length (sym lanes_are) ∙ length-map works (λ (w : LaneWork). w.steps.now)

  carries_none : All (λ lane. is_store_lane lane ≡ false) works → now ≡ store → Carries c main after jobs jobs_after earlier (reverse (block_deeds lanes (map (λ (w : LaneWork). told_in w.replies) ran)) ++ earlier) store now
  carries_none no_store same =
      let count = lanes_count in
      let deeds : block_deeds lanes (map (λ (w : LaneWork). told_in w.replies) ran) ≡ [] = none_deeds lanes (map (λ (w : LaneWork). told_in w.replies) ran) (λ k d within.
      (let inside : k < length works = omega (arith, within, count) in
      let w = default_of works k inside in
      ap has_store_step (steps_at k w d inside) ∙ no_store k w inside)) in
      subst (λ s. Carries c main after jobs jobs_after earlier (reverse (block_deeds lanes (map (λ (w : LaneWork). told_in w.replies) ran)) ++ earlier) store s) (sym same)
      (subst (λ l. Carries c main after jobs jobs_after earlier (reverse l ++ earlier) store store) (sym deeds)
      (carries_beside c main after jobs jobs_after earlier store (knows_main main off after seats calls is_off (map (λ (w : LaneWork). w.seats.dem) ran) joined)
      (knows_main jobs jobs_off jobs_after seats job_calls is_job_off (map (λ (w : LaneWork). w.seats.queue) ran) jobs_joined)))

  carries_one : (place : ℕ) → StoresAt place works → RunsStore c place works ran store now → Carries c main after jobs jobs_after earlier (reverse (block_deeds lanes (map (λ (w : LaneWork). told_in w.replies) ran)) ++ earlier) store now
  carries_one place stores runs =
      let within = stores.within in
      let d = default_of works place within in
      let before = get_or works place d in
      let last = get_or ran place d in
      let one : HasRunStore c before last store now = runs.one d in
      let split : IsWorkFrom main jobs before = from place d within in
      let inside : place < length ran = (let len = runs.len in omega (arith, len, within)) in
      let count = lanes_count in
      let dem = one.ran.dem in
      let jobs_ran = one.ran.queue in
      let olds : last.seats.dem.olds ≡ main.olds = (chain_fact MayBeAsked reply_after before.seats.dem dem.calls last.seats.dem dem.chain).olds_are ∙ split.dem.olds in
      let job_olds : last.seats.queue.olds ≡ jobs.olds = (chain_fact queue.IsQueueCallFor queued.reply_after before.seats.queue jobs_ran.calls last.seats.queue jobs_ran.chain).olds_are ∙ split.queue.olds in
      let told : told_in last.replies ≡ one.ran.told = one.ran.answers ∙ ap (λ l. l ++ one.ran.told) split.no_answers in
      let tolds = map (λ (w : LaneWork). told_in w.replies) ran in
      let deeds : block_deeds lanes tolds ≡ lane_deeds before.steps.now one.ran.told =
      one_deeds lanes tolds place before.steps.now one.ran.told (omega (arith, count, within)) (let len = runs.len in let all = length-map ran (λ (w : LaneWork). told_in w.replies) in omega (arith, len, all, count))
      (steps_at place d before.steps.now within) (get_or-map (λ (w : LaneWork). told_in w.replies) ran place d one.ran.told inside ∙ told) (λ k e other apart.
      (let here : k < length works = omega (arith, other, count) in
      let w = default_of works k here in
      ap has_store_step (steps_at k w e here) ∙ stores.others k w here apart)) in
      subst (λ l. Carries c main after jobs jobs_after earlier (reverse l ++ earlier) store now) (sym deeds)
      (carries_between c main before.seats.dem last.seats.dem after jobs before.seats.queue last.seats.queue jobs_after earlier (reverse (lane_deeds before.steps.now one.ran.told) ++ earlier) store now split.dem.start
      (knows_split main off after seats calls is_off before.seats.dem split.dem)
      (knows_lane main off after seats calls is_off (λ (w : LaneWork). w.seats.dem) ran place d joined inside olds)
      (knows_split jobs jobs_off jobs_after seats job_calls is_job_off before.seats.queue split.queue)
      (knows_lane jobs jobs_off jobs_after seats job_calls is_job_off (λ (w : LaneWork). w.seats.queue) ran place d jobs_joined inside job_olds) (one.carries earlier))

  pub carries_block : AreRun c works ran store now → Carries c main after jobs jobs_after earlier (reverse (block_deeds lanes (map (λ (w : LaneWork). told_in w.replies) ran)) ++ earlier) store now
  carries_block (inl none) = carries_none none.1 none.2
  carries_block (inr one) = carries_one one.0 one.1 one.2

module _ {B : Type 0} {b : Ghosts B} (c : Config) (works ran : List LaneWork) (store now : Store B b) where
  pub leaves_block : AreRun c works ran store now → LeavesStore store now
  leaves_block (inl none) = subst (LeavesStore store) (sym none.2) (leaves_nothing store)
  leaves_block (inr one) = ((one.2).one (default_of works one.0 (one.1).within)).leaves

-- ---- all of it

-- Whatever main seats they were split from and joined to.
pub store_carries : {B : Type 0} {b : Ghosts B} (c : Config) (works ran : List LaneWork) (store now : Store B b) → AreRun c works ran store now → CarriesLanes (store_keeping {B = B} {b = b}) c works ran store now
store_carries c works ran store now run =
    let leaves = leaves_block c works ran store now run in
    record {
      goes_on = λ locks main off after lanes told told_after is is_queue seated joined. record {
        carries = λ earlier.
            carries_block c main.dem off.dem after.dem main.queue off.queue after.queue lanes works ran store now (length works) (all_calls lanes) (all_queued lanes) seated.dem_off seated.queue_off seated.steps_are
            (all_from locks main off lanes works seated) joined.dem joined.queue earlier run;
        keeps_driver = leaves.keeps_driver;
        arms_made = leaves.arms_made;
        armed = let armed = leaves.armed in omega (arith, armed);
      };
    }

-- A step over a store.
pub store_takes : {B : Type 0} {b : Ghosts B} (c : Config) (before after : Seats) (step : Step) (replies kept : LaneReplies) (store now : Store B b) → TakesStep c before.dem after.dem before.queue after.queue step replies kept store now
    → TakesStepWith (store_keeping {B = B} {b = b}) c before after step replies kept store now
store_takes c before after step replies kept store now one = record {
  made = one.made;
  goes_on = record {
    carries = λ earlier. subst (λ (l : List Deed). Carries c before.dem after.dem before.queue after.queue earlier l store now) (sym (newest_deed step one.made.answer [] earlier)) (one.carries earlier);
    keeps_driver = one.keeps_driver;
    arms_made = one.arms_made;
    armed = one.armed;
  };
}

-- What allows each step allows each part.
allowed_part : {K : Type 0} (k : Keeping K) → ((step : Step) → k.allows step) → (part : PartOf Step) → IsAllowedPart k part
allowed_part k each (inl step) = each step
allowed_part k each (inr lanes) = λ i lane within j step inside. each (get_or (get_or lanes i lane) j step)

pub all_allowed : {K : Type 0} (k : Keeping K) → ((step : Step) → k.allows step) → (parts : List (PartOf Step)) → All (IsAllowedPart k) parts
all_allowed k each parts = λ i part within. allowed_part k each (get_or parts i part)
