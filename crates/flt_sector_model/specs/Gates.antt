-- The gates of a sector, pages 0 and 1. A fault is reported by its page.
use Rattle.std.specs.Prelude.{ℕ, ◌==◌, if◌then◌else◌, List, [], Option, Some, None, Result, Ok, Err, slice_index_or}
use Rattle.flt_code.specs.Seal.{unsealed}
use Rattle.flt_code.specs.Word.{word_of}
use Rattle.flt_code.specs.declared.words.Word.{Word}
use Rattle.flt_code.specs.declared.words.Word.TheVariants.{Start, Active, Head, Gate}
use Rattle.flt_code.specs.Spoiled.{is_spoiled}

-- The sequence number of a start gate, which has to name this many used pages.
abbrev pub started_by : ℕ → Option Word → Result (Option ℕ) ℕ
started_by used (Some (Start sequence pages)) = if pages == used then Ok (Some sequence) else Err 0
started_by used (Some (Active sequence)) = Err 0
started_by used (Some (Head block length valid page)) = Err 0
started_by used (Some (Gate block page)) = Err 0
started_by used None = Err 0

-- The sequence number of an active gate.
abbrev pub activated_by : Option Word → Result (Option ℕ) ℕ
activated_by (Some (Active sequence)) = Ok (Some sequence)
activated_by (Some (Start sequence pages)) = Err 1
activated_by (Some (Head block length valid page)) = Err 1
activated_by (Some (Gate block page)) = Err 1
activated_by None = Err 1

-- What a gate says by its code word, or nothing if the page is not a code word.
abbrev pub gate_by_code : (Option Word → Result (Option ℕ) ℕ) → Option (List ℕ) → Result (Option ℕ) ℕ
gate_by_code says None = Ok None
gate_by_code says (Some code) = says (word_of code)

-- What a gate page says; a spoiled page is a fault.
abbrev pub gate_by : (Option Word → Result (Option ℕ) ℕ) → ℕ → List ℕ → Result (Option ℕ) ℕ
gate_by says fault page = if is_spoiled page then Err fault else gate_by_code says (unsealed page)

-- The number that both gates name, or nothing if one is missing.
abbrev pub both_gates : Result (Option ℕ) ℕ → Result (Option ℕ) ℕ → Result (Option ℕ) ℕ
both_gates (Err fault) active = Err fault
both_gates (Ok start) (Err fault) = Err fault
both_gates (Ok None) (Ok active) = Ok None
both_gates (Ok (Some start)) (Ok None) = Ok None
both_gates (Ok (Some start)) (Ok (Some active)) = if start == active then Ok (Some start) else Err 1

-- The number of a valid sector, or nothing if a gate is missing.
abbrev pub gates_of : ℕ → List (List ℕ) → Result (Option ℕ) ℕ
gates_of used pages = both_gates (gate_by (started_by used) 0 (slice_index_or pages 0 [])) (gate_by activated_by 1 (slice_index_or pages 1 []))
