-- What is reported of a watch.
use Rattle.std.specs.Prelude.{ℕ, List, [], ◌∷◌, ◌++◌, codes, Option, None, Some}
use Rattle.std.specs.Fmt.{decimal}
use Rattle.flt_step.specs.declared.step.Step.{Step}
use Rattle.flt_step.specs.Part.{PartOf}
use Rattle.flt_life_model.specs.declared.life.Boot.{Boot}
use Rattle.flt_life_model.specs.declared.replies.LaneReplies.{LaneReplies}
use Rattle.flt_report.specs.Life.{life_text}

-- The line where a watch does not make the script.
abbrev pub other_line : List ℕ
other_line = codes "script other" ++ 10 ∷ []

-- The line of a kind and its value.
abbrev pub value_line : ℕ → ℕ → List ℕ
value_line kind value = codes "watch " ++ decimal kind ++ codes " value " ++ decimal value ++ 10 ∷ []

-- The same, where the kind has a subscriber.
abbrev pub value_text : ℕ → Option ℕ → List ℕ
value_text kind None = []
value_text kind (Some value) = value_line kind value

-- The lines of the kinds 0, 1 and 2, by the value of each.
abbrev pub values_text : (ℕ → Option ℕ) → List ℕ
values_text value = value_text 0 (value 0) ++ (value_text 1 (value 1) ++ value_text 2 (value 2))

-- The lines of the life, which is the first, and those of the kinds.
abbrev pub watch_text : List (PartOf Step) → Boot → List LaneReplies → (ℕ → Option ℕ) → List ℕ
watch_text parts boot answers value = life_text 1 parts boot answers ++ values_text value
