-- What the units of an EEPROM hold. The number at position i of the list has two places of five units, a gate and four units of
-- bytes: place 0 from unit 10 i on, place 1 from unit 10 i + 5 on.
use Rattle.std.specs.Prelude.{◌+◌, ◌*◌, ◌-◌, ◌^◌, ◌==◌, ◌||◌, ℕ, Bool, true, false, not, List, [], ◌∷◌, take, nat_lt, slice_index_or, slice_range, if◌then◌else◌, Option, Some, None, Result, Ok, Err}
use Rattle.std.specs.List.{flat_map}
use Rattle.flt_flash.specs.Content.{Content, missing, invalid, bytes}
use Rattle.flt_flash.specs.Blocks.{byte_pages}
use Rattle.flt_flash.specs.Image.{sector_at}
use Rattle.flt_code.specs.Seal.{unsealed}
use Rattle.flt_code.specs.Spoiled.{is_spoiled}
use Rattle.flt_ea.specs.Gate.{gate_of}
use Rattle.flt_ea.specs.declared.gate.Gate.{Gate}
use Rattle.flt_ea.specs.declared.place.Held.{Held}

-- The unit of the gate of a place.
abbrev pub gate_unit : ℕ → ℕ → ℕ
gate_unit position place = 10 * position + 5 * place

abbrev pub gate_of_word : Option (List ℕ) → Option Gate
gate_of_word None = None
gate_of_word (Some word) = gate_of word

-- The gate of a unit; a place whose gate unit is no code word is empty.
abbrev pub gate_in : List ℕ → Option Gate
gate_in unit = gate_of_word (unsealed unit)

-- The gate of the greater sequence and its place, if one is not empty.
abbrev pub newer : Option Gate → Option Gate → Option Held
newer None None = None
newer None (Some second) = Some (record { place = 1; gate = second })
newer (Some first) None = Some (record { place = 0; gate = first })
newer (Some first) (Some second) = if nat_lt first.sequence second.sequence then Some (record { place = 1; gate = second }) else Some (record { place = 0; gate = first })

-- The unit of the gate of a place.
abbrev pub gate_at : List (List ℕ) → ℕ → ℕ → List ℕ
gate_at units position place = slice_index_or units (gate_unit position place) []

-- The current place of a position, with its gate.
abbrev pub current_place : List (List ℕ) → ℕ → Option Held
current_place units position = newer (gate_in (gate_at units position 0)) (gate_in (gate_at units position 1))

-- The bytes after a gate, in as many of the four units as they need.
abbrev pub bytes_after_gate : List (List ℕ) → ℕ → ℕ → List ℕ
bytes_after_gate units gate size = take size (flat_map (λ unit. unit) (slice_range units (gate + 1) (gate + 1 + byte_pages size)))

-- What a place holds.
abbrev pub place_content : List (List ℕ) → ℕ → Option Held → Content
place_content units position None = missing
place_content units position (Some held) = if held.gate.valid then bytes (bytes_after_gate units (gate_unit position held.place) held.gate.length) else invalid

-- The place to which its block is written next: the other one, or place 0 where both are empty.
abbrev pub next_place : Option Held → ℕ
next_place None = 0
next_place (Some held) = if held.place == 0 then 1 else 0

-- The sequence number that its block is written with next.
abbrev pub next_sequence : Option Held → ℕ
next_sequence None = 1
next_sequence (Some held) = held.gate.sequence + 1

-- The place has the last sequence number.
abbrev pub has_last_sequence : Option Held → Bool
has_last_sequence None = false
has_last_sequence (Some held) = held.gate.sequence == 2 ^ 32 - 1

-- What a block holds, its number being looked for from a position on.
unfoldable pub value_from : ℕ → List ℕ → List (List ℕ) → ℕ → Content
value_from position [] units block = missing
value_from position (number ∷ numbers) units block =
    if number == block then place_content units position (current_place units position) else value_from (position + 1) numbers units block

-- Some block has come to the last sequence number.
unfoldable pub spent_from : ℕ → List ℕ → List (List ℕ) → Bool
spent_from position [] units = false
spent_from position (number ∷ numbers) units = has_last_sequence (current_place units position) || spent_from (position + 1) numbers units

-- This block has.
unfoldable pub stuck_from : ℕ → List ℕ → List (List ℕ) → ℕ → Bool
stuck_from position [] units block = false
stuck_from position (number ∷ numbers) units block = if number == block then has_last_sequence (current_place units position) else stuck_from (position + 1) numbers units block

-- A code word that is no gate, or the gate of another block.
abbrev pub is_foreign_gate : ℕ → Option Gate → Bool
is_foreign_gate number None = true
is_foreign_gate number (Some gate) = not (gate.block == number)

abbrev pub is_foreign : ℕ → Option (List ℕ) → Bool
is_foreign number None = false
is_foreign number (Some word) = is_foreign_gate number (gate_of word)

abbrev pub same_sequence : Option Gate → Option Gate → Bool
same_sequence None second = false
same_sequence (Some first) None = false
same_sequence (Some first) (Some second) = first.sequence == second.sequence

-- A gate unit of this block that no driver leaves.
abbrev pub is_damaged : ℕ → List ℕ → Bool
is_damaged number unit = is_foreign number (unsealed unit) || is_spoiled unit

-- What the gate units of a block's two places say: the current place, or the first place that is damaged; at place 1 an equal
-- sequence is damage too.
abbrev pub judged_places : ℕ → List ℕ → List ℕ → Result (Option Held) ℕ
judged_places number first second =
    if is_damaged number first then Err 0
    else if is_damaged number second || same_sequence (gate_in first) (gate_in second) then Err 1
    else Ok (newer (gate_in first) (gate_in second))

-- The first damaged place, as place and position, positions in order and place 0 before place 1.
abbrev pub first_of : ℕ → Result (Option Held) ℕ → Option (ℕ × ℕ) → Option (ℕ × ℕ)
first_of position (Ok held) later = later
first_of position (Err place) later = Some (place, position)

unfoldable pub damage_from : ℕ → List ℕ → List (List ℕ) → Option (ℕ × ℕ)
damage_from position [] units = None
damage_from position (number ∷ numbers) units = first_of position (judged_places number (gate_at units position 0) (gate_at units position 1)) (damage_from (position + 1) numbers units)

-- The same of a device's image, which is one list of units.
abbrev pub value_in : List ℕ → List (List (List ℕ)) → ℕ → Content
value_in numbers image block = value_from 0 numbers (sector_at image 0) block

abbrev pub damage_in : List ℕ → List (List (List ℕ)) → Option (ℕ × ℕ)
damage_in numbers image = damage_from 0 numbers (sector_at image 0)

abbrev pub is_spent_in : List ℕ → List (List (List ℕ)) → Bool
is_spent_in numbers image = spent_from 0 numbers (sector_at image 0)

abbrev pub is_stuck_in : List ℕ → List (List (List ℕ)) → ℕ → Bool
is_stuck_in numbers image block = stuck_from 0 numbers (sector_at image 0) block
