-- Worked images.
use Rattle.std.specs.Prelude.{ℕ, List, [], ◌∷◌, ◌++◌, Ok, Err}
use Rattle.flt_sector_model.specs.Example.{torn, sector_of, valid_sector, image_of}
use Rattle.flt_store_model.specs.declared.place.Place.TheVariants.{Page, Block}
use Rattle.flt_store_model.specs.Holding.{first_generation, damaged, other, Fault}
use Rattle.flt_store_model.specs.Example.{small, own_mark, old_mark, summary, states, entry_content, Kept, block, other_mark}
use Rattle.flt_store_model.specs.Examples.{generation_one, generation_two, first_entry, first_commit, second_commit, old_first_commit}
use Rattle.flt_store_model.specs.WholeExample.{records, judged, AreJudged, Judged}
use Rattle.flt_flash.specs.Image.{blank_page}

-- The records of the first save: the mark, the blocks at index 0, then both copies of the commit.
abbrev pub first_blocks : List Kept
first_blocks = block 1 0 own_mark ∷ block 3 0 summary ∷ block 4 0 (states 0x2F) ∷ block 8 0 first_entry ∷ []

abbrev pub first_copies : List Kept
first_copies = block 2 0 first_commit ∷ block 2 1 first_commit ∷ []

-- Those of the second one, in which the entry alone changed: it is written at index 1, then copy 1 of the commit, then copy 2.
abbrev pub second_blocks : List Kept
second_blocks = first_blocks ++ first_copies ++ block 8 1 (entry_content 0 2 (0x03 ∷ 0x04 ∷ [])) ∷ []

abbrev pub second_copies : List Kept
second_copies = block 2 0 second_commit ∷ block 2 1 second_commit ∷ []

-- A sector that was never written, and an image of which sector 0 has these records.
abbrev pub blank_sector : List (List ℕ)
blank_sector = sector_of 64 []

abbrev pub image_saved : List Kept → List (List (List ℕ))
image_saved kept = image_of (valid_sector 64 1 (records 2 kept)) blank_sector

-- An image whose older sector remained after the first save.
abbrev pub switched : List (List (List ℕ))
switched = image_of (valid_sector 64 1 (records 2 (first_blocks ++ first_copies))) (valid_sector 64 2 (records 2 (second_blocks ++ second_copies)))

-- What an image holds before the first save, after each step of two saves, and after a switch of the sectors.
abbrev pub TwoSaves : Type 0
TwoSaves =
    AreJudged small
    (judged (image_of blank_sector blank_sector) (Ok (first_generation small)) (Ok (first_generation small))
    ∷ judged (image_of (sector_of 64 (torn ∷ torn ∷ torn ∷ [])) blank_sector) (Ok (first_generation small)) (Ok (first_generation small))
    ∷ judged (image_saved []) (Ok (first_generation small)) (Ok (first_generation small))
    ∷ judged (image_saved first_blocks) (Ok (first_generation small)) (Ok (first_generation small))
    ∷ judged (image_saved (first_blocks ++ block 2 0 first_commit ∷ [])) (Ok generation_one) (Ok (first_generation small))
    ∷ judged (image_saved (first_blocks ++ first_copies)) (Ok generation_one) (Ok generation_one)
    ∷ judged (image_saved second_blocks) (Ok generation_one) (Ok generation_one)
    ∷ judged (image_saved (second_blocks ++ block 2 0 second_commit ∷ [])) (Ok generation_two) (Ok generation_one)
    ∷ judged (image_saved (second_blocks ++ second_copies)) (Ok generation_two) (Ok generation_two)
    ∷ judged switched (Ok generation_two) (Ok generation_two)
    ∷ [])

-- One fault by both copies.
abbrev pub faulty : List (List (List ℕ)) → Fault → Judged
faulty image fault = judged image (Err fault) (Err fault)

-- A fault of the pages comes before one of the blocks: here a page after the end of a log whose mark is another configuration's, and two
-- sectors of one number. Without it the block is reported.
abbrev pub PagesBeforeBlocks : Type 0
PagesBeforeBlocks =
    AreJudged small
    (faulty (image_of (valid_sector 64 1 (records 2 (block 1 0 other_mark ∷ []) ++ blank_page ∷ torn ∷ [])) blank_sector) (damaged (Page 0 6))
    ∷ faulty (image_saved (block 1 0 other_mark ∷ [])) (other (record { id = 8; events = 1; entries = 1 }))
    ∷ faulty (image_of (valid_sector 64 1 (records 2 first_copies)) (valid_sector 64 1 [])) (damaged (Page 1 0))
    ∷ faulty (image_saved first_copies) (damaged (Block 1))
    ∷ [])

-- What version 1 left after a save.
abbrev pub old_save : List Kept
old_save =
    block 1 0 old_mark ∷ block 3 0 summary ∷ block 4 0 (states 0x2F) ∷ block 8 0 first_entry
    ∷ block 2 0 old_first_commit ∷ block 2 1 old_first_commit ∷ []

-- A start-up writes the mark anew, and the next save the entry at index 1 and then both copies of the commit, all in version 2.
abbrev pub started_up : List Kept
started_up = old_save ++ block 1 0 own_mark ∷ block 8 1 (entry_content 0 2 (0x03 ∷ 0x04 ∷ [])) ∷ []

-- Before and after its first save in version 1, after the mark was written anew, after the entry, after each copy of the commit; and where
-- a save was cut between the copies, and the start-up after it could not read copy 1 and wrote copy 2, of version 1, over it.
abbrev pub OldSave : Type 0
OldSave =
    AreJudged small
    (judged (image_saved (block 1 0 old_mark ∷ [])) (Ok (first_generation small)) (Ok (first_generation small))
    ∷ judged (image_saved old_save) (Ok generation_one) (Ok generation_one)
    ∷ judged (image_saved (old_save ++ block 1 0 own_mark ∷ [])) (Ok generation_one) (Ok generation_one)
    ∷ judged (image_saved started_up) (Ok generation_one) (Ok generation_one)
    ∷ judged (image_saved (started_up ++ block 2 0 second_commit ∷ [])) (Ok generation_two) (Ok generation_one)
    ∷ judged (image_saved (started_up ++ second_copies)) (Ok generation_two) (Ok generation_two)
    ∷ judged (image_saved (started_up ++ block 2 0 second_commit ∷ block 2 0 old_first_commit ∷ [])) (Ok generation_one) (Ok generation_one)
    ∷ [])
