-- Worked images.
use Rattle.std.specs.Prelude.{◌≡◌, ℕ, true, false, List, [], ◌∷◌, replicate, map, Some, None}
use Rattle.flt_flash.specs.Image.{blank_page}
use Rattle.flt_flash.specs.Content.{missing, invalid, bytes}
use Rattle.flt_code.specs.declared.words.Word.TheVariants.{Start, Active, Head, Gate}
use Rattle.flt_sector_model.specs.Log.{log}
use Rattle.flt_sector_model.specs.Blocks.{first_fault, block_value}
use Rattle.flt_sector_model.specs.Example.{says, piece, torn, spoiled, sector_of, valid_sector, image_of, ◌⇒◌, TellsFaults}

-- ---- every kind of item

abbrev pub blocks : List ℕ
blocks = 8 ∷ 9 ∷ 10 ∷ 11 ∷ []

-- A log of 20 pages from page 2 on.
abbrev pub every_log : List (List ℕ)
every_log =
    says (Head 8 40 true 2) ∷ piece (replicate 32 7) ∷ piece (replicate 8 7) ∷ says (Gate 8 2)
    ∷ says (Head 9 1 true 6) ∷ torn ∷ blank_page
    ∷ torn
    ∷ says (Head 9 1 true 10) ∷ piece (5 ∷ []) ∷ says (Gate 9 10)
    ∷ says (Head 9 2 true 13) ∷ piece (6 ∷ 6 ∷ []) ∷ torn
    ∷ says (Head 10 3 true 16) ∷ piece (1 ∷ 2 ∷ 3 ∷ []) ∷ says (Gate 10 16)
    ∷ says (Head 10 0 false 19) ∷ says (Gate 10 19)
    ∷ torn
    ∷ []

-- An older sector, in which block 11 had bytes.
abbrev pub older_log : List (List ℕ)
older_log = says (Head 11 1 true 2) ∷ piece (4 ∷ []) ∷ says (Gate 11 2) ∷ []

abbrev pub every_image : List (List (List ℕ))
every_image = image_of (valid_sector 24 7 every_log) (valid_sector 24 6 older_log)

-- Block 8 has 40 bytes, 9 the byte of its one complete record, 10 is invalid since its last one, 11 is missing in the newer sector.
-- The log ends after a torn head, and has no fault.
pub record EveryItem : Type 0 where
  pub contents : map (block_value 24 blocks every_image) blocks ≡ bytes (replicate 40 7) ∷ bytes (5 ∷ []) ∷ invalid ∷ missing ∷ []
  pub end : (log 24 blocks (valid_sector 24 7 every_log)).end ≡ 22
  pub undamaged : first_fault 24 blocks every_image ≡ None

-- ---- the faults of the gates, in the order in which a mount looks

-- A sector of 8 pages with these two as its first.
abbrev pub gated : List ℕ → List ℕ → List (List ℕ)
gated start active_page = sector_of 8 (start ∷ active_page ∷ [])

-- A start gate of 8 pages, and an active gate.
abbrev pub start : ℕ → List ℕ
start sequence = says (Start sequence 8)

abbrev pub active_page : ℕ → List ℕ
active_page sequence = says (Active sequence)

-- All four gates are wrong, and are corrected one after the other; then both sectors have one number. A sector with one gate is not valid, and not a fault.
abbrev pub GatesInOrder : Type 0
GatesInOrder =
    TellsFaults 8 blocks
    (image_of (gated spoiled spoiled) (gated spoiled spoiled) ⇒ Some (0, 0)
    ∷ image_of (gated (active_page 5) spoiled) (gated spoiled spoiled) ⇒ Some (0, 0)
    ∷ image_of (gated (says (Start 5 9)) spoiled) (gated spoiled spoiled) ⇒ Some (0, 0)
    ∷ image_of (gated (start 5) spoiled) (gated spoiled spoiled) ⇒ Some (0, 1)
    ∷ image_of (gated (start 5) (start 5)) (gated spoiled spoiled) ⇒ Some (0, 1)
    ∷ image_of (gated (start 5) (active_page 4)) (gated spoiled spoiled) ⇒ Some (0, 1)
    ∷ image_of (gated (start 5) (active_page 5)) (gated spoiled spoiled) ⇒ Some (1, 0)
    ∷ image_of (gated (start 5) (active_page 5)) (gated (says (Gate 8 0)) spoiled) ⇒ Some (1, 0)
    ∷ image_of (gated (start 5) (active_page 5)) (gated (start 5) spoiled) ⇒ Some (1, 1)
    ∷ image_of (gated (start 5) (active_page 5)) (gated (start 5) (says (Head 8 0 false 1))) ⇒ Some (1, 1)
    ∷ image_of (gated (start 5) (active_page 5)) (gated (start 5) (active_page 5)) ⇒ Some (1, 0)
    ∷ image_of (gated (start 5) (active_page 5)) (gated (start 5) torn) ⇒ None
    ∷ image_of (gated blank_page (active_page 5)) (gated torn blank_page) ⇒ None
    ∷ [])

-- ---- the faults of a log

-- Sector 1 is the current one, and has this log; the log of the other one is not looked at.
abbrev pub with_log : List (List ℕ) → List (List (List ℕ))
with_log log = image_of (valid_sector 8 5 (says (Gate 8 2) ∷ [])) (valid_sector 8 6 log)

-- A head of another page, of an unknown block, of a record that passes the used pages; words that are not a head; another word in the
-- place of a gate; pages that are written after the end. A log may fill the sector.
abbrev pub LogFaults : Type 0
LogFaults =
    TellsFaults 8 blocks
    (with_log (says (Head 8 0 false 3) ∷ []) ⇒ Some (1, 2)
    ∷ with_log (says (Head 12 0 false 2) ∷ []) ⇒ Some (1, 2)
    ∷ with_log (torn ∷ says (Head 8 128 true 3) ∷ []) ⇒ Some (1, 3)
    ∷ with_log (says (Gate 8 2) ∷ []) ⇒ Some (1, 2)
    ∷ with_log (says (Head 8 0 false 2) ∷ torn ∷ says (Start 6 8) ∷ []) ⇒ Some (1, 4)
    ∷ with_log (says (Head 8 1 true 2) ∷ torn ∷ says (Gate 8 3) ∷ []) ⇒ Some (1, 4)
    ∷ with_log (says (Head 8 1 true 2) ∷ torn ∷ says (Gate 9 2) ∷ []) ⇒ Some (1, 4)
    ∷ with_log (says (Head 8 1 true 2) ∷ torn ∷ says (Head 8 0 false 4) ∷ []) ⇒ Some (1, 4)
    ∷ with_log (torn ∷ blank_page ∷ blank_page ∷ torn ∷ says (Gate 8 2) ∷ []) ⇒ Some (1, 5)
    ∷ with_log (says (Head 8 128 true 2) ∷ []) ⇒ None
    ∷ [])
