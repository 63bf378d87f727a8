-- A watched life: its journal, its answers, and the values that its changes give the subscribers.
use Rattle.std.specs.Prelude.{ℕ, ◌+◌, ◌<◌, ◌≤◌, ◌^◌, All, IsTrue, List, length, reverse, sum_by}
use Rattle.flt_config.specs.declared.config.Config.{Config}
use Rattle.flt_model.specs.Start.{fresh}
use Rattle.flt_model.specs.declared.call.Op.{Op}
use Rattle.flt_turn.specs.declared.vault.Entry.{Entry}
use Rattle.flt_turn.specs.Journal.{ops_of}
use Rattle.flt_step.specs.declared.step.Step.{Step}
use Rattle.flt_step.specs.declared.step.Part.{Part}
use Rattle.flt_step.specs.Part.{PartOf, parts_of}
use Rattle.flt_life_model.specs.declared.life.Life.{Life}
use Rattle.flt_life_model.specs.declared.replies.LaneReplies.{LaneReplies}
use Rattle.flt_life_model.specs.Lives.{lanes_told, own_told}
use Rattle.flt_life_model.specs.Parts.{IsPossiblePart, steps_in, widths}
use Rattle.flt_life_model.specs.Played.{IsMade, StepMakes}
use Rattle.flt_shared.specs.Call.{reply_after}
use Rattle.flt_notify.specs.declared.table.SubTable.{SubTable}
use Rattle.flt_notify.specs.Table.{HasValuesOf}
use Rattle.flt_watch.specs.Asked.{are_watched}

-- The journal has the calls of the parts, those of each lane in its order and those of each block together, from the state of a controller
-- that never saved one; each step is answered by the machine at the place of its call; and each subscriber has the value of its kind over
-- all changes that the calls of the journal make, in order.
pub record IsWatched {n : ℕ} {F : _} {g : _} (c : Config) (parts : List (PartOf Step)) (journal : List (Entry Op)) (answers : List LaneReplies) (subs : SubTable n F g) : Type 0 where
  -- The journal has the calls of the parts, and each step is answered at the place of its call.
  pub made : IsMade StepMakes reply_after (fresh c) parts (own_told answers) (lanes_told answers) journal
  -- Each subscriber has the value of its kind over all changes.
  pub values : HasValuesOf (fresh c) (reverse (ops_of journal)) subs

-- The same of a life that came to its end.
abbrev pub IsWatchedLife : {n : ℕ} {F : _} {g : _} → Config → List (PartOf Step) → Life → SubTable n F g → Type 0
IsWatchedLife c parts life subs = IsWatched c parts life.journal.items life.replies.items subs

-- A watch can make these parts: each is possible, and makes calls of the status machine alone, and they are as few as those of a script.
pub record CanBeWatched (c : Config) (parts : List Part) : Type 0 where
  -- Each part is possible under the configuration.
  pub possible : All (IsPossiblePart c) (parts_of parts)
  -- Each step makes a call of the status machine.
  pub watched : IsTrue (are_watched (parts_of parts))
  -- They have no more steps than a script.
  pub few : sum_by steps_in (parts_of parts) ≤ 65536
  -- Each lane has a number.
  pub numbers : widths (parts_of parts) + 1 < 2 ^ 32
  -- Each part has an index.
  pub indices : length parts < 2 ^ 32
