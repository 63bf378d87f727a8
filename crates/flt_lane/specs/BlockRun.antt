-- What the lanes of a block leave: of their main seats, of the answers, and of what they have beside the locks.
use Rattle.std.specs.Prelude.{List, [], ◌∷◌}
use Rattle.flt_config.specs.declared.config.Config.{Config}
use Rattle.flt_step.specs.declared.step.Step.{Step}
use Rattle.flt_step.specs.Part.{PartOf}
use Rattle.flt_life_model.specs.Actions.{all_arms}
use Rattle.flt_life_model.specs.Answers.{Told}
use Rattle.flt_life_model.specs.Ordered.{block_deeds, deeds_in}
use Rattle.flt_life_model.specs.Parts.{arms_in, own_actions}
use Rattle.flt_lane.specs.Block.{Gains, RunsLanes}
use Rattle.flt_lane.specs.Keeping.{Keeping}
use Rattle.flt_lane.specs.Views.{Seats}

module _ {K : Type 0} (k : Keeping K) where
  -- The lanes were run, and their deeds were done in order.
  pub record HasRunLanes (c : Config) (main after : Seats) (lanes : List (List Step)) (told told_after : List (List Told)) (x y : K) : Type 0 where
    -- Each lane made its steps.
    pub run : RunsLanes main.dem after.dem main.queue after.queue lanes told told_after
    -- Their deeds were done, and no arm was made.
    pub goes_on : k.goes_on c main after (block_deeds lanes run.others) [] 0 x y

  -- A part was carried out, and so its deeds, and its arms were made.
  pub record GainsPart (c : Config) (main after : Seats) (part : PartOf Step) (own own_after : List Told) (lanes lanes_after : List (List Told)) (x y : K) : Type 0 where
    -- The answers of lane 0.
    pub mine : List Told
    -- The answers of the other lanes.
    pub others : List (List Told)
    -- They come after those that were there, and by them the part made its calls.
    pub gains : Gains main.dem after.dem main.queue after.queue part mine others own own_after lanes lanes_after
    -- Its deeds were done, and its arms were made.
    pub goes_on : k.goes_on c main after (deeds_in (part ∷ []) mine others) (all_arms (own_actions (part ∷ []))) (arms_in part) x y
