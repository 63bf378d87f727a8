-- Worked images: when a record is refused, and for what.
use Rattle.std.specs.Prelude.{◌≡◌, ◌-◌, ◌^◌, ℕ, true, false, List, [], ◌∷◌, map, replicate, Option, Some, None}
use Rattle.flt_flash.specs.State.{first_state}
use Rattle.flt_flash.specs.Blocks.{BlocksState}
use Rattle.flt_flash.specs.declared.blocks.BlockFault.{BlockFault}
use Rattle.flt_flash.specs.declared.blocks.BlockFault.TheVariants.{Full, SequenceSpent}
use Rattle.flt_code.specs.declared.words.Word.TheVariants.{Head, Gate}
use Rattle.flt_sector_model.specs.Example.{says, piece, sector_of, valid_sector}
use Rattle.flt_fee.specs.Fee.{state_by}
use Rattle.flt_fee.specs.Refusal.{record_refusal}

-- A driver of the blocks 8 and 9 that has mounted, over sectors of 12 pages. The current sector has this number, and two records of 32
-- bytes: of block 8, and of this block. So four pages are left after its log, and each block that it holds has three of the ten for records.
abbrev pub with_two : ℕ → ℕ → BlocksState
with_two sequence block =
    state_by 12 (8 ∷ 9 ∷ []) false true
    (first_state 12 (sector_of 12 [])
    (valid_sector 12 sequence
    (says (Head 8 32 true 2) ∷ piece (replicate 32 1) ∷ says (Gate 8 2)
    ∷ says (Head block 32 true 5) ∷ piece (replicate 32 2) ∷ says (Gate block 5) ∷ []))
    0)

-- By what a record of block 9 is refused, of 64 bytes, which fits after the log, of 65 and of 97, which don't.
abbrev pub refusals : BlocksState → List (Option BlockFault)
refusals state = map (record_refusal state 9) (64 ∷ 65 ∷ 97 ∷ [])

-- The last sequence number and the one before it. Where one block is held, a record that does not fit is refused for lack of a number alone,
-- and with the last one; where both are, one that has no room is refused for that, whatever the number.
pub record LastNumber : Type 0 where
  pub spent : map (λ sequence. (with_two sequence 8).is_spent) ((2 ^ 32 - 2) ∷ (2 ^ 32 - 1) ∷ []) ≡ false ∷ true ∷ []
  pub one_before : refusals (with_two (2 ^ 32 - 2) 8) ≡ None ∷ None ∷ None ∷ []
  pub one_last : refusals (with_two (2 ^ 32 - 1) 8) ≡ None ∷ Some SequenceSpent ∷ Some SequenceSpent ∷ []
  pub two_before : refusals (with_two (2 ^ 32 - 2) 9) ≡ None ∷ Some (Full 6 5) ∷ Some (Full 6 6) ∷ []
  pub two_last : refusals (with_two (2 ^ 32 - 1) 9) ≡ None ∷ Some (Full 6 5) ∷ Some (Full 6 6) ∷ []
