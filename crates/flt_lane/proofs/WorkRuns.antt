-- The lanes of a block on both locks, out of what each lane did.
use Rattle.std.proofs.Common.{◌≡◌, ℕ, ◌<◌, List, [], ◌++◌, length, map, get_or, sym, ap, subst, ◌∙◌}
use Rattle.flt_queue.specs.Call as queued
use Rattle.flt_queue.specs.Queue as queue
use Rattle.flt_step.specs.declared.step.Step.{Step}
use Rattle.flt_shared.specs.Call.{MayBeAsked, reply_after}
use Rattle.flt_life_model.specs.Answers.{Told}
use Rattle.flt_life_model.specs.Parts.{calls_of, queued_of}
use Rattle.flt_life_model.specs.Played.{StepMakes, StepQueues}
use Rattle.flt_life_model.specs.Room.{told_in}
use Rattle.flt_fork.specs.Lived.{IsMain}
use Rattle.flt_fork.specs.Runs.{HasRunBlock}
use Rattle.flt_fork.proofs.BlockRuns.{works_ran}
use Rattle.flt_lane.specs.Views.{KnownLocks, LaneWork, Seats}
use Rattle.flt_lane.specs.Block.{RunsLanes}
use Rattle.flt_lane.specs.Runs.{RunsQueue, RunsSteps, calls_by, queued_by}
use Rattle.flt_lane.specs.BlockRun.{HasRunLanes}
use Rattle.flt_lane.specs.Keeping.{CarriesLanes, Keeping}
use Rattle.flt_lane.specs.Stored.{HaveRun}
use Rattle.flt_lane.specs.Work.{HasRun}
use Rattle.flt_config.specs.declared.config.Config.{Config}
use Rattle.flt_life_model.specs.Ordered.{block_deeds}
use Rattle.std.proofs.lemmas.List.{append_cancel_left}
use Rattle.flt_lane.specs.Seating.{AreSeated, HaveJoined}

-- Its answers are those to its steps.
told_is : (before after : LaneWork) → (ran : HasRun before after) → told_in before.replies ≡ [] → ran.told ≡ told_in after.replies
told_is before after ran none = sym (ran.answers ∙ ap (λ l. l ++ ran.told) none)

pub ran_lanes : (locks : KnownLocks) (main off after : Seats) (lanes : List (List Step)) (works ran : List LaneWork) (told more : List (List Told)) → IsMain main.dem → IsMain main.queue → AreSeated locks main off lanes works
    → length ran ≡ length works → ((k : ℕ) (d : LaneWork) → k < length works → HasRun (get_or works k d) (get_or ran k d)) → HaveJoined off after ran told more
    → RunsLanes main.dem after.dem main.queue after.queue lanes told more
ran_lanes locks main off after lanes works ran told more is is_queue seated same each joined = record {
  others = map (λ (w : LaneWork). told_in w.replies) ran;
  told_are = joined.told_are;
  dem = subst (λ l. HasRunBlock reply_after StepMakes main.dem after.dem l (map (λ (w : LaneWork). told_in w.replies) ran)) seated.steps_are
      (works_ran MayBeAsked reply_after StepMakes calls_by calls_of (λ (w : LaneWork). w.seats.dem) (λ (w : LaneWork). w.steps.now) (λ (w : LaneWork). told_in w.replies) main.dem off.dem after.dem _ works ran is seated.dem seated.dem_off same
      (λ k d within. let one = each k d within in
      subst (λ l. RunsSteps (get_or works k d).seats.dem (get_or works k d).steps.now l (get_or ran k d).seats.dem) (told_is (get_or works k d) (get_or ran k d) one (seated.no_answers k d within)) one.dem) joined.dem);
  queue = subst (λ l. HasRunBlock queued.reply_after StepQueues main.queue after.queue l (map (λ (w : LaneWork). told_in w.replies) ran)) seated.steps_are
      (works_ran queue.IsQueueCallFor queued.reply_after StepQueues queued_by queued_of (λ (w : LaneWork). w.seats.queue) (λ (w : LaneWork). w.steps.now) (λ (w : LaneWork). told_in w.replies) main.queue off.queue after.queue _ works ran is_queue
      seated.queue seated.queue_off same
      (λ k d within. let one = each k d within in
      subst (λ l. RunsQueue (get_or works k d).seats.queue (get_or works k d).steps.now l (get_or ran k d).seats.queue) (told_is (get_or works k d) (get_or ran k d) one (seated.no_answers k d within)) one.queue) joined.queue);
}

-- The same, with their deeds.
pub has_run_lanes : {K : Type 0} (k : Keeping K) (locks : KnownLocks) (c : Config) (main off after : Seats) (lanes : List (List Step)) (works ran : List LaneWork) (told more : List (List Told)) (x y : K) → IsMain main.dem → IsMain main.queue
    → AreSeated locks main off lanes works → HaveRun works ran → CarriesLanes k c works ran x y → HaveJoined off after ran told more → HasRunLanes k c main after lanes told more x y
has_run_lanes k locks c main off after lanes works ran told more x y is is_queue seated have carries joined =
    let runs : RunsLanes main.dem after.dem main.queue after.queue lanes told more =
    ran_lanes locks main off after lanes works ran told more is is_queue seated have.len have.each joined in
    let others : runs.others ≡ map (λ (w : LaneWork). told_in w.replies) ran = append_cancel_left told runs.others (map (λ (w : LaneWork). told_in w.replies) ran) (sym runs.told_are ∙ joined.told_are) in
    record {
      run = runs;
      goes_on = subst (λ l. k.goes_on c main after (block_deeds lanes l) [] 0 x y) (sym others) (carries.goes_on locks main off after lanes told more is is_queue seated joined);
    }
