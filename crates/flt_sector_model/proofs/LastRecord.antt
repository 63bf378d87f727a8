-- What the last complete record of a block gives it.
use Rattle.std.proofs.Common.{◌≡◌, ◌+◌, ◌≤◌, ◌==◌, ◌&&◌, ℕ, zero, suc, Bool, true, false, List, [], ◌∷◌, ◌++◌, Option, Some, None, Result, Ok, Err, refl, ◌∙◌, ap, subst, arith}
use Rattle.std.specs.Prelude.{if◌then◌else◌}
use Rattle.std.proofs.lemmas.Bool.{and_parts, eqb-true, eq-eqb}
use Rattle.flt_flash.specs.Blocks.{byte_pages, record_pages}
use Rattle.flt_flash.specs.Image.{sector_at}
use Rattle.flt_sector_model.specs.Log.{Entry, LogFrom, item_at, with_entry, log_after, log_from, log}
use Rattle.flt_sector_model.specs.declared.log.Item.{Item}
use Rattle.flt_sector_model.specs.declared.log.Item.TheVariants.{End, Torn, Kept}
use Rattle.flt_sector_model.specs.Blocks.{or_earlier, last_complete, content_of, value_by}
use Rattle.flt_sector_model.specs.Reached.{IsRecord, IsReached, begins, behind_torn, behind_record}
use Rattle.flt_sector_model.specs.Laws.{IsCompleteAt, IsLastAt, recorded, LastRecordCounts}
use Rattle.flt_sector_model.proofs.Items.{ends, torn, kept, nothing, other, stands}
use Rattle.flt_sector_model.proofs.Told.{at_record}
use Rattle.flt_sector_model.proofs.Logged.{log_on, log_step, goes_on}

-- A record that comes after others is the last one.
last_behind : (block : ℕ) (before rest : List Entry) (entry : Entry) → last_complete block rest ≡ Some entry → last_complete block (before ++ rest) ≡ Some entry
last_behind block [] rest entry is = is
last_behind block (first ∷ before) rest entry is = ap (λ (later : Option Entry). or_earlier later first block) (last_behind block before rest entry is)

module _ (used : ℕ) (numbers : List ℕ) (pages : List (List ℕ)) where
  -- This entry of the log is a complete record of the block, from this page on.
  record IsEntryFrom (page block : ℕ) (entry : Entry) : Type 0 where
    from : page ≤ entry.page
    is_block : entry.block ≡ block
    is_complete : entry.complete ≡ true
    stands_there : IsCompleteAt used numbers pages block entry.page entry.length entry.valid

  -- The last complete record of the log from a page on is one.
  last_stands : (left page block : ℕ) (entry : Entry) → page ≤ used → IsReached used numbers pages page → last_complete block (log_from used numbers pages page left).entries ≡ Some entry → IsEntryFrom page block entry
  unfolding log_from
  last_stands zero page block entry below reached is = absurd (cc is)
  last_stands (suc left) page block entry below reached is = elim (stands used numbers pages page below) [
    | ends how told ↦ absurd (cc (by (Ok End) told))
    | torn none told ↦ further (page + 1) (omega arith) (last_stands left (page + 1) block entry (omega (arith, none.within)) (behind_torn reached none) (by (Ok Torn) told))
    | kept b size valid complete also told ↦
        let next : page + 2 + byte_pages size ≡ page + record_pages size = omega arith in
        let first : Entry = record { page = page; block = b; length = size; valid = valid; complete = complete } in
        let rest : List Entry = (log_from used numbers pages (page + record_pages size) left).entries in
        by_rest b size valid complete also (last_complete block rest)
        (λ same. further (page + record_pages size) (omega arith) (last_stands left (page + record_pages size) block entry also.head.within (behind_record reached also) same))
        (subst (λ (n : ℕ). or_earlier (last_complete block (log_from used numbers pages n left).entries) first block ≡ Some entry) next (by (Ok (Kept b size valid complete)) told))
    | nothing no_head told ↦ absurd (cc (by (Err page) told))
    | other b size valid gate told ↦ absurd (cc (by (Err (page + 1 + byte_pages size)) told))
  ]
    where
      by : (item : Result Item ℕ) → item_at used numbers pages page ≡ item → last_complete block (log_after used pages page (λ next. log_from used numbers pages next left) item).entries ≡ Some entry
      by item told = subst (λ (i : Result Item ℕ). last_complete block (log_after used pages page (λ next. log_from used numbers pages next left) i).entries ≡ Some entry) told is

      further : (next : ℕ) → page ≤ next → IsEntryFrom next block entry → IsEntryFrom page block entry
      further next past found = record { from = omega (arith, past, found.from); is_block = found.is_block; is_complete = found.is_complete; stands_there = found.stands_there }

      by_rest : (b size : ℕ) (valid complete : Bool) → IsRecord used numbers pages page b size valid complete → (later : Option Entry) → (later ≡ Some entry → IsEntryFrom page block entry)
          → or_earlier later (record { page = page; block = b; length = size; valid = valid; complete = complete }) block ≡ Some entry → IsEntryFrom page block entry
      by_rest b size valid complete also (Some last) behind told = behind told
      by_rest b size valid complete also None behind told = by_test (complete && (b == block)) refl told
        where
          by_test : (test : Bool) → (complete && (b == block)) ≡ test → (if test then Some (record { page = page; block = b; length = size; valid = valid; complete = complete }) else None) ≡ Some entry → IsEntryFrom page block entry
          by_test false failed chosen = absurd (cc chosen)
          by_test true passed chosen =
              let parts = and_parts complete (b == block) passed in
              let of_block : b ≡ block = eqb-true b block parts.1 in
              let here : record { page = page; block = b; length = size; valid = valid; complete = complete } ≡ entry = cc in
              subst (IsEntryFrom page block) here (record {
                from = omega arith;
                is_block = of_block;
                is_complete = parts.0;
                stands_there = record {
                  reached = reached;
                  stands = subst (λ (n : ℕ). IsRecord used numbers pages page n size valid true) of_block (subst (IsRecord used numbers pages page b size valid) parts.0 also);
                };
              })

  module _ (least : 2 ≤ used) (block : ℕ) where
    -- The last record is the last complete one.
    last_found : (page size : ℕ) (valid : Bool) → IsLastAt used numbers pages block page size valid
        → last_complete block (log used numbers pages).entries ≡ Some record { page = page; block = block; length = size; valid = valid; complete = true }
    last_found page size valid is =
        let was = goes_on used numbers pages page least is.is.reached in
        let entry : Entry = record { page = page; block = block; length = size; valid = valid; complete = true } in
        let next : page + 2 + byte_pages size ≡ page + record_pages size = omega arith in
        let rest : List Entry = (log_on used numbers pages (page + record_pages size)).entries in
        let here : (log_on used numbers pages page).entries ≡ entry ∷ rest =
        ap (λ (l : LogFrom). l.entries) (log_step used numbers pages page (Ok (Kept block size valid true)) was.below (at_record used numbers pages page block size valid true is.is.stands)
        ∙ ap (λ (n : ℕ). with_entry entry (log_on used numbers pages n)) next) in
        ap (last_complete block) (was.entries ∙ ap (λ (es : List Entry). was.before ++ es) here)
        ∙ last_behind block was.before (entry ∷ rest) entry (ap (λ (later : Option Entry). or_earlier later entry block) (none_later (last_complete block rest) refl) ∙ ap (λ (b : Bool). if b then Some entry else None) (eq-eqb block block refl))
      where
        none_later : (later : Option Entry) → last_complete block (log_on used numbers pages (page + record_pages size)).entries ≡ later → later ≡ None
        none_later None told = refl
        none_later (Some entry) told =
            let found = last_stands (used + 1) (page + record_pages size) block entry is.is.stands.head.within (behind_record is.is.reached is.is.stands) told in
            absurd (is.last entry.page entry.length entry.valid (omega (arith, found.from)) found.stands_there)

    none_found : ((page size : ℕ) (valid : Bool) → IsCompleteAt used numbers pages block page size valid → ⊥) → last_complete block (log used numbers pages).entries ≡ None
    none_found none = by (last_complete block (log used numbers pages).entries) refl
      where
        by : (last : Option Entry) → last_complete block (log used numbers pages).entries ≡ last → last ≡ None
        by None told = refl
        by (Some entry) told = absurd (none entry.page entry.length entry.valid (last_stands (used + 1) 2 block entry least begins told).stands_there)

recorded_by : (pages : List (List ℕ)) (block page size : ℕ) (valid : Bool) → content_of pages (Some record { page = page; block = block; length = size; valid = valid; complete = true }) ≡ recorded pages block page size valid
recorded_by pages block page size true = refl
recorded_by pages block page size false = refl

pub last_record_counts : LastRecordCounts
last_record_counts used numbers image at block least is = record {
  last = λ page size valid stands_last.
      ap (value_by used numbers image block) is ∙ ap (content_of (sector_at image at.sector)) (last_found used numbers (sector_at image at.sector) least block page size valid stands_last)
      ∙ recorded_by (sector_at image at.sector) block page size valid;
  none = λ none. ap (value_by used numbers image block) is ∙ ap (content_of (sector_at image at.sector)) (none_found used numbers (sector_at image at.sector) least block none);
}
