-- The script of a load: reports in four lanes, on 16 events, by a generator of numbers that begins at how many there are.
use Rattle.std.specs.Prelude.{ℕ, zero, suc, ◌+◌, ◌*◌, ◌/◌, ◌%◌, ◌^◌, ◌==◌, List, [], ◌∷◌, ◌++◌, map, filter, Bool, true, false}
use Rattle.std.proofs.Common.{inl, inr}
use Rattle.std.specs.List.{flat_map, range_with_len}
use Rattle.flt_config.specs.declared.config.Config.{Config}
use Rattle.flt_config.specs.declared.config.EventCfg.{EventCfg}
use Rattle.flt_config.specs.Plain.{plain_event}
use Rattle.flt_model.specs.declared.call.Report.{Report}
use Rattle.flt_model.specs.declared.call.Report.TheVariants.{Passed, Failed, PrePassed, PreFailed}
use Rattle.flt_step.specs.declared.step.Step.{Step}
use Rattle.flt_step.specs.declared.step.Step.TheVariants as step
use Rattle.flt_step.specs.Part.{PartOf}
use Rattle.flt_script.specs.Script.{ScriptContent}

-- The event of this number, with its DTC and the defaults of an event line.
abbrev pub load_event : ℕ → EventCfg
load_event number = plain_event (0x000100 + number)

-- The configuration: 16 events, and no application block.
unfoldable pub load_config : Config
load_config = record { id = 1; memory = 16; pages = 512; blocks = 0; events = record { items = map load_event (range_with_len 0 16) } }

-- The number after a number.
abbrev pub next_number : ℕ → ℕ
next_number number = (number * 1103515245 + 12345) % 2 ^ 31

-- The number of a report, which are counted from 1; before the first is how many reports there are.
unfoldable pub load_number : ℕ → ℕ → ℕ
load_number count zero = count
load_number count (suc place) = next_number (load_number count place)

-- The kind of a report, 0 to 3.
abbrev pub load_report : ℕ → Report
load_report zero = Passed
load_report (suc zero) = Failed
load_report (suc (suc zero)) = PrePassed
load_report (suc (suc (suc kind))) = PreFailed

-- What a lane reports by a number, on one of its four events.
abbrev pub load_step : ℕ → ℕ → Step
load_step lane number = step.Report (4 * lane + number / 65536 % 4) (load_report (number / 1048576 % 4))

-- What a lane reports, of this many reports in turn in all four lanes.
unfoldable pub load_lane : ℕ → ℕ → ℕ → List Step
load_lane count lane reports = map (λ place. load_step lane (load_number count (place + 1))) (filter (λ place. place % 4 == lane) (range_with_len 0 reports))

-- The four lanes.
abbrev pub load_lanes : ℕ → List (List Step)
load_lanes count = map (λ lane. load_lane count lane count) (range_with_len 0 4)

-- Steps by themselves.
abbrev pub plain_parts : List Step → List (PartOf Step)
plain_parts steps = map inl steps

-- The lanes as a block, or their steps one lane after the other.
abbrev pub load_parts : ℕ → Bool → List (PartOf Step)
load_parts count true = inr (load_lanes count) ∷ []
load_parts count false = flat_map plain_parts (load_lanes count)

-- The life of the reports, which ends with a save.
abbrev pub load_life : ℕ → Bool → List (PartOf Step)
load_life count lanes = inl (step.Cycle 0) ∷ load_parts count lanes ++ inl step.Save ∷ []

-- The life in which each event is shown.
abbrev pub shown_life : List (PartOf Step)
shown_life = plain_parts (map step.Show (range_with_len 0 16))

-- The script of a load of this many reports, in lanes or without.
abbrev pub load_script : ℕ → Bool → ScriptContent
load_script count lanes = record { config = load_config; lives = load_life count lanes ∷ shown_life ∷ [] }
