-- Worked maps of blocks.
use Rattle.std.specs.Prelude.{◌≡◌, ℕ, true, false, List, [], ◌∷◌, ◌++◌, replicate, Some, Ok, Err, map}
use Rattle.std.specs.List.{concat}
use Rattle.flt_flash.specs.Content.{Content, missing, invalid, bytes}
use Rattle.flt_config.specs.Durable.{start_state}
use Rattle.flt_store_model.specs.declared.place.Place.TheVariants.{Block}
use Rattle.flt_store_model.specs.Form.{block_bytes}
use Rattle.flt_store_model.specs.Holding.{Generation, Fault, damaged, other, first_generation}
use Rattle.flt_store_model.specs.Successor.{changed_pages}
use Rattle.flt_store_model.specs.Example.{small, four, many, own_mark, old_mark, other_mark, commit, old_commit, summary, states, entry_content, failed_state, Kept, block, Judged, judged, AreJudged}

-- The event failed once in generation 1, and twice in generation 2.
abbrev pub generation_one : Generation
generation_one = record { number = 1; state = failed_state 0x2F 1 (0x01 ∷ 0x02 ∷ []) }

abbrev pub generation_two : Generation
generation_two = record { number = 2; state = failed_state 0x2F 2 (0x03 ∷ 0x04 ∷ []) }

-- The entry of generation 1.
abbrev pub first_entry : Content
first_entry = entry_content 0 1 (0x01 ∷ 0x02 ∷ [])

-- Its blocks, where the summary and the states are unchanged and the entry changed.
abbrev pub own_blocks : List Kept
own_blocks =
    block 1 0 own_mark ∷ block 3 0 summary ∷ block 4 0 (states 0x2F)
    ∷ block 8 0 first_entry ∷ block 8 1 (entry_content 0 2 (0x03 ∷ 0x04 ∷ [])) ∷ []

-- With these copies of the commit.
abbrev pub with_copies : Content → Content → List Kept
with_copies copy_1 copy_2 = block 2 0 copy_1 ∷ block 2 1 copy_2 ∷ own_blocks

abbrev pub first_commit : Content
first_commit = commit 1 0x00

abbrev pub second_commit : Content
second_commit = commit 2 0x20

-- Which generation the two copies of the commit name: before and after each step of a save, and if a copy has no bytes. An image
-- that was never saved holds nothing.
abbrev pub CopiesOfCommit : Type 0
CopiesOfCommit =
    AreJudged small
    (judged (with_copies first_commit first_commit) (Ok generation_one) (Ok generation_one)
    ∷ judged (with_copies second_commit first_commit) (Ok generation_two) (Ok generation_one)
    ∷ judged (with_copies second_commit second_commit) (Ok generation_two) (Ok generation_two)
    ∷ judged (with_copies first_commit missing) (Ok generation_one) (Ok (first_generation small))
    ∷ judged (with_copies invalid second_commit) (Ok generation_two) (Ok generation_two)
    ∷ judged (with_copies missing second_commit) (Ok generation_two) (Ok generation_two)
    ∷ judged (with_copies missing invalid) (Ok (first_generation small)) (Ok (first_generation small))
    ∷ judged (with_copies invalid missing) (Err (damaged (Block 2))) (Ok (first_generation small))
    ∷ judged [] (Ok (first_generation small)) (Ok (first_generation small))
    ∷ [])

-- Four records of 128 bytes that no generation of this configuration has; their 24 pages are what it leaves.
abbrev pub beyond_records : List Kept
beyond_records = map (λ id. block id 0 (bytes (replicate 128 0))) (9 ∷ 10 ∷ 11 ∷ 12 ∷ [])

-- And one more.
abbrev pub much_beyond : List Kept
much_beyond = block 13 0 (bytes (replicate 128 0)) ∷ beyond_records

-- And an invalid application block, and one that is too long.
abbrev pub bad_applications : List Kept
bad_applications = block 64 0 invalid ∷ block 65 0 (bytes (replicate 33 0)) ∷ much_beyond

-- One fault by both copies.
abbrev pub faulty : List Kept → Fault → Judged
faulty kept fault = judged kept (Err fault) (Err fault)

-- A mark, both copies of the commit, the summary, the states, the entry and other blocks.
abbrev pub standing : Content → Content → Content → Content → Content → List Kept → List Kept
standing mark both third fourth eighth rest =
    block 1 0 mark ∷ block 2 0 both ∷ block 2 1 both ∷ block 3 0 third ∷ block 4 0 fourth ∷ block 8 0 eighth ∷ rest

-- Each block is wrong, and they are corrected one after the other: the mark, the commit, the summary, the states, the entry, the
-- application blocks, the excess.
abbrev pub FaultsInOrder : Type 0
FaultsInOrder =
    AreJudged small
    (faulty (standing missing (bytes []) missing missing missing bad_applications) (damaged (Block 1))
    ∷ faulty (standing invalid (bytes []) missing missing missing bad_applications) (damaged (Block 1))
    ∷ faulty (standing (bytes (0x03 ∷ 0x00 ∷ 0x07 ∷ 0x00 ∷ 0x01 ∷ 0x01 ∷ 0x00 ∷ 0x00 ∷ [])) (bytes []) missing missing missing bad_applications) (damaged (Block 1))
    ∷ faulty (standing other_mark (bytes []) missing missing missing bad_applications) (other (record { id = 8; events = 1; entries = 1 }))
    ∷ faulty (standing own_mark (bytes []) missing missing missing bad_applications) (damaged (Block 2))
    ∷ faulty (standing own_mark (commit 0 0x00) missing missing missing bad_applications) (damaged (Block 2))
    ∷ faulty (standing own_mark (commit 1 0x04) missing missing missing bad_applications) (damaged (Block 2))
    ∷ faulty (standing own_mark first_commit missing missing missing bad_applications) (damaged (Block 3))
    ∷ faulty (standing own_mark first_commit summary invalid missing bad_applications) (damaged (Block 4))
    ∷ faulty (standing own_mark first_commit summary (states 0xAF) missing bad_applications) (damaged (Block 4))
    ∷ faulty (standing own_mark first_commit summary (states 0x2F) missing bad_applications) (damaged (Block 8))
    ∷ faulty (standing own_mark first_commit summary (states 0x2F) (entry_content 1 1 (0x01 ∷ 0x02 ∷ [])) bad_applications) (damaged (Block 8))
    ∷ faulty (standing own_mark first_commit summary (states 0x2F) first_entry bad_applications) (damaged (Block 64))
    ∷ faulty (standing own_mark first_commit summary (states 0x2F) first_entry (block 64 0 missing ∷ bad_applications)) (damaged (Block 65))
    ∷ faulty (standing own_mark first_commit summary (states 0x2F) first_entry much_beyond) (damaged (Block 0))
    ∷ judged (standing own_mark first_commit summary (states 0x2F) first_entry beyond_records) (Ok generation_one) (Ok generation_one)
    ∷ [])

-- Generation 1 as an image of version 1 has it: each byte of an index is where the block is.
abbrev pub old_first_commit : Content
old_first_commit = old_commit 1 0 0 0

abbrev pub old_second_commit : Content
old_second_commit = old_commit 2 0 0 1

-- The blocks with a mark of version 1.
abbrev pub old_blocks : Content → Content → List Kept
old_blocks copy_1 copy_2 = block 1 0 old_mark ∷ with_copies copy_1 copy_2

-- Both copies of the commit have these bytes.
abbrev pub twice : List ℕ → List Kept
twice held = with_copies (bytes held) (bytes held)

-- What copy 1 and copy 2 name if they are of version 1 (old) or 2. An image of version 1, before its first save, during it and after it, in
-- a second one; the same with its mark written anew. A save in version 2 that was cut between the copies; the same where copy 1 has no
-- bytes any more, and where the start-up after it wrote copy 2 over copy 1, or copy 1 over copy 2. Copies of one commit in two versions, and
-- a mark of version 1 with a commit of version 2. Bytes that are of neither version: a number 0, an index 2, a used block without an index,
-- one that is not used with an index, the length of the other version, and version 3.
abbrev pub OldImages : Type 0
OldImages =
    AreJudged small
    (judged (old_blocks missing missing) (Ok (first_generation small)) (Ok (first_generation small))
    ∷ judged (old_blocks old_first_commit missing) (Ok generation_one) (Ok (first_generation small))
    ∷ judged (old_blocks old_first_commit old_first_commit) (Ok generation_one) (Ok generation_one)
    ∷ judged (old_blocks old_second_commit old_first_commit) (Ok generation_two) (Ok generation_one)
    ∷ judged (with_copies old_first_commit old_first_commit) (Ok generation_one) (Ok generation_one)
    ∷ judged (with_copies second_commit old_first_commit) (Ok generation_two) (Ok generation_one)
    ∷ judged (with_copies invalid old_first_commit) (Ok generation_one) (Ok generation_one)
    ∷ judged (with_copies second_commit second_commit) (Ok generation_two) (Ok generation_two)
    ∷ judged (with_copies old_first_commit first_commit) (Ok generation_one) (Ok generation_one)
    ∷ judged (with_copies first_commit old_first_commit) (Ok generation_one) (Ok generation_one)
    ∷ judged (old_blocks first_commit first_commit) (Ok generation_one) (Ok generation_one)
    ∷ faulty (with_copies (old_commit 0 0 0 0) (old_commit 0 0 0 0)) (damaged (Block 2))
    ∷ faulty (with_copies (old_commit 1 0 0 2) (old_commit 1 0 0 2)) (damaged (Block 2))
    ∷ faulty (with_copies (old_commit 1 0 0xFF 0) (old_commit 1 0 0xFF 0)) (damaged (Block 2))
    ∷ faulty (twice (0x01 ∷ 0x00 ∷ 0x00 ∷ 0x00 ∷ 0x01 ∷ 0x00 ∷ 0x00 ∷ 0x00 ∷ replicate 2 0xFF ++ 0x00 ∷ replicate 15 0xFF)) (damaged (Block 2))
    ∷ faulty (twice (0x01 ∷ 0x00 ∷ 0x00 ∷ 0x00 ∷ 0x01 ∷ 0x00 ∷ 0x00 ∷ 0x00 ∷ 0x00 ∷ 0x00 ∷ [])) (damaged (Block 2))
    ∷ faulty (twice (0x02 ∷ 0x00 ∷ 0x00 ∷ 0x00 ∷ 0x01 ∷ 0x00 ∷ 0x00 ∷ replicate 3 0xFF ++ 0x00 ∷ replicate 15 0xFF)) (damaged (Block 2))
    ∷ faulty (twice (0x03 ∷ 0x00 ∷ 0x00 ∷ 0x00 ∷ 0x01 ∷ 0x00 ∷ 0x00 ∷ 0x00 ∷ 0x00 ∷ 0x00 ∷ [])) (damaged (Block 2))
    ∷ [])

-- Four events: each note names another one, the third event is lit, the last two have clean counts, and there was an overflow.
abbrev pub noted : Generation
noted = record {
  number = 1;
  state = record {
    events = record {
      items = record { status = 0x2F; failed = 1; clean = 0; lit = false } ∷ record { status = 0x26; failed = 2; clean = 0; lit = false }
          ∷ record { status = 0x28; failed = 3; clean = 258; lit = true } ∷ record { status = 0x28; failed = 255; clean = 5; lit = false } ∷ [];
    };
    entries = record {
      items = record { event = 2; occurrence = 254; first = record { items = 0x01 ∷ 0x02 ∷ [] }; recent = record { items = 0x03 ∷ 0x04 ∷ [] } } ∷ [];
    };
    overflow = true;
    first_failed = Some 1;
    first_confirmed = Some 3;
    recent_failed = Some 0;
    recent_confirmed = Some 2;
  };
}

-- Its blocks with a mark of this version, both copies of a commit, and a summary with this byte for the overflow.
abbrev pub of_four : ℕ → Content → ℕ → List Kept
of_four version both overflow =
    block 1 0 (bytes (version ∷ 0x00 ∷ 0x07 ∷ 0x00 ∷ 0x04 ∷ 0x01 ∷ 0x00 ∷ 0x00 ∷ []))
    ∷ block 2 0 both ∷ block 2 1 both
    ∷ block 3 0 (bytes (0x01 ∷ overflow ∷ 0x01 ∷ 0x00 ∷ 0x00 ∷ 0x01 ∷ 0x00 ∷ 0x03 ∷ 0x00 ∷ 0x00 ∷ 0x00 ∷ 0x02 ∷ replicate 20 0x00))
    ∷ block 4 0 (bytes (0x2F ∷ 0x01 ∷ 0x00 ∷ 0x00 ∷ 0x26 ∷ 0x02 ∷ 0x00 ∷ 0x00 ∷ 0x28 ∷ 0x03 ∷ 0x81 ∷ 0x02 ∷ 0x28 ∷ 0xFF ∷ 0x00 ∷ 0x05
    ∷ concat (replicate 12 (0x50 ∷ 0x00 ∷ 0x00 ∷ 0x00 ∷ []))))
    ∷ block 8 0 (entry_content 2 254 (0x03 ∷ 0x04 ∷ [])) ∷ []

-- Where each field is in the bytes, in both versions of the image; and an overflow is 00 or 01.
abbrev pub EachField : Type 0
EachField =
    AreJudged four
    (judged (of_four 2 (commit 1 0x00) 0x01) (Ok noted) (Ok noted)
    ∷ judged (of_four 1 (old_commit 1 0 0 0) 0x01) (Ok noted) (Ok noted)
    ∷ faulty (of_four 2 (commit 1 0x00) 0x02) (damaged (Block 3))
    ∷ [])

-- The last of 65 events failed once: its state is the first of block 24, which the commit names at index 1.
abbrev pub last_event_failed : Generation
last_event_failed = record {
  number = 1;
  state = record {
    events = record { items = replicate 64 start_state ++ record { status = 0x2F; failed = 1; clean = 0; lit = false } ∷ [] };
    entries = record {
      items = record { event = 64; occurrence = 1; first = record { items = 0x01 ∷ 0x02 ∷ [] }; recent = record { items = 0x01 ∷ 0x02 ∷ [] } } ∷ [];
    };
    overflow = false;
    first_failed = Some 64;
    first_confirmed = Some 64;
    recent_failed = Some 64;
    recent_confirmed = Some 64;
  };
}

-- Sixteen states of events that never failed.
abbrev pub start_states : Content
start_states = bytes (concat (replicate 16 (0x50 ∷ 0x00 ∷ 0x00 ∷ 0x00 ∷ [])))

-- Its blocks with both copies of a commit and this content of block 24 at index 1.
abbrev pub of_many : List ℕ → Content → List Kept
of_many both later =
    block 1 0 (bytes (0x02 ∷ 0x00 ∷ 0x07 ∷ 0x00 ∷ 0x41 ∷ 0x01 ∷ 0x00 ∷ 0x00 ∷ []))
    ∷ block 2 0 (bytes both) ∷ block 2 1 (bytes both)
    ∷ block 3 0 (bytes (0x01 ∷ 0x00 ∷ 0x01 ∷ 0x00 ∷ 0x00 ∷ 0x40 ∷ 0x00 ∷ 0x40 ∷ 0x00 ∷ 0x40 ∷ 0x00 ∷ 0x40 ∷ replicate 20 0x00))
    ∷ map (λ id. block id 0 start_states) (4 ∷ 5 ∷ 6 ∷ 7 ∷ [])
    ++ block 8 0 (entry_content 0x40 1 (0x01 ∷ 0x02 ∷ [])) ∷ block 24 1 later ∷ []

-- The commit names block 24 at index 1; block 25, which is not used, has no index; and version 1 has no index for block 24.
abbrev pub ManyEvents : Type 0
ManyEvents =
    AreJudged many
    (judged (of_many (0x02 ∷ 0x00 ∷ 0x00 ∷ 0x00 ∷ 0x01 ∷ 0x00 ∷ 0x00 ∷ 0x20 ∷ 0x00 ∷ 0x00 ∷ []) (states 0x2F)) (Ok last_event_failed) (Ok last_event_failed)
    ∷ faulty (of_many (0x02 ∷ 0x00 ∷ 0x00 ∷ 0x00 ∷ 0x01 ∷ 0x00 ∷ 0x00 ∷ 0x20 ∷ 0x00 ∷ 0x00 ∷ []) missing) (damaged (Block 24))
    ∷ faulty (of_many (0x02 ∷ 0x00 ∷ 0x00 ∷ 0x00 ∷ 0x01 ∷ 0x00 ∷ 0x00 ∷ 0x60 ∷ 0x00 ∷ 0x00 ∷ []) (states 0x2F)) (damaged (Block 2))
    ∷ faulty (of_many (0x02 ∷ 0x00 ∷ 0x00 ∷ 0x00 ∷ 0x01 ∷ 0x00 ∷ 0x00 ∷ 0x20 ∷ 0x00 ∷ 0x02 ∷ []) (states 0x2F)) (damaged (Block 2))
    ∷ faulty (of_many (0x01 ∷ 0x00 ∷ 0x00 ∷ 0x00 ∷ 0x01 ∷ replicate 6 0x00 ++ replicate 15 0xFF) (states 0x2F)) (damaged (Block 2))
    ∷ [])

-- The pages of the records that a save writes: 0 if no byte changed, the entry's 5 from generation 1 to 2, and if nothing was known
-- before also the 3 of the summary and the 4 of the states.
abbrev pub ChangedPages : Type 0
ChangedPages =
    map (λ before. changed_pages small before (block_bytes generation_two.state)) (block_bytes generation_two.state ∷ block_bytes generation_one.state ∷ (λ id. []) ∷ [])
    ≡ 0 ∷ 5 ∷ 12 ∷ []
