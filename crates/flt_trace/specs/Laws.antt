-- What a life's calls and answers are, by how it is made of its parts.
use Rattle.std.specs.Prelude.{◌≡◌, ◌≤◌, List, [], ◌∷◌, All, IsTrue, length, map, replicate}
use Rattle.flt_config.specs.declared.TheConstants.{EVENTS}
use Rattle.flt_model.specs.Answer.{answers}
use Rattle.flt_model.specs.Start.{Start}
use Rattle.flt_queue.specs.declared.job.QueueOp.{QueueOp}
use Rattle.flt_step.specs.Part.{PartOf}
use Rattle.flt_step.specs.Step.{are_parts_in}
use Rattle.flt_step.specs.declared.step.Step.{Step}
use Rattle.flt_turn.specs.Journal.{ops_of}
use Rattle.flt_turn.specs.declared.vault.Entry.{Entry}
use Rattle.flt_life_model.specs.Answers.{Told}
use Rattle.flt_life_model.specs.Journal.{Journal}
use Rattle.flt_life_model.specs.Played.{IsLife}
use Rattle.flt_report.specs.Answer.{reply_text}
use Rattle.flt_trace.specs.Call.{CanBeMade}
use Rattle.flt_trace.specs.Answered.{taken_text, with_lanes}

-- A life of these parts, whose steps are in their ranges.
pub record IsLifeInRange (start : Start) (parts : List (PartOf Step)) (own : List Told) (lanes : List (List Told)) (journal : Journal) (queue : List (Entry QueueOp)) : Type 0 where
  pub events : length start.config.events.items ≤ EVENTS
  pub within : IsTrue (are_parts_in start.config parts)
  pub is : IsLife start parts own lanes journal queue

-- Its answers, each at its place, are the machine's to the calls of its journal.
abbrev pub ToldAnswersAreDue : Type 0
ToldAnswersAreDue =
    (start : Start) (parts : List (PartOf Step)) (own : List Told) (lanes : List (List Told)) (journal : Journal) (queue : List (Entry QueueOp))
    → IsLifeInRange start parts own lanes journal queue
    → with_lanes (replicate (length journal) taken_text) (own ∷ lanes) ≡ map reply_text (answers start [] (ops_of journal))

-- Each of its calls is one that a step or a save may make.
abbrev pub CallsCanBeMade : Type 0
CallsCanBeMade =
    (start : Start) (parts : List (PartOf Step)) (own : List Told) (lanes : List (List Told)) (journal : Journal) (queue : List (Entry QueueOp))
    → IsLifeInRange start parts own lanes journal queue → All (CanBeMade start.config) (ops_of journal)
