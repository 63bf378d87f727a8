-- What a sector holds after a record was appended to its log, whole or not.
use Rattle.std.proofs.Common.{◌≡◌, ◌⊎◌, inl, inr, ◌+◌, ◌<◌, ◌≤◌, ℕ, Bool, true, false, List, [], ◌∷◌, ◌++◌, append-nil, get_or, length, Some, refl, sym, ◌∙◌, ap, arith}
use Rattle.std.specs.Prelude.{if◌then◌else◌, ◌==◌}
use Rattle.std.specs.List.{list_any}
use Rattle.std.proofs.lemmas.Bool.{cases_eq}
use Rattle.flt_flash.specs.Content.{Content, invalid, bytes}
use Rattle.flt_code.specs.Word.{IsWord}
use Rattle.flt_code.specs.declared.words.Word.TheVariants.{Head, Gate}
use Rattle.flt_sector_model.specs.Page.{is_blank}
use Rattle.flt_pages.specs.Blank.{AreBlank}
use Rattle.flt_flash.specs.Blocks.{byte_pages}
use Rattle.flt_sector_model.specs.Log.{Entry}
use Rattle.flt_sector_model.specs.Blocks.{content_of, last_complete}
use Rattle.flt_pages.specs.Record.{KeptApart, IsTornAtHead, IsOpen, IsWhole, RecordLeft}
use Rattle.flt_pages.specs.LogHolds.{LogHolds, record_content, given}
use Rattle.flt_sector_model.specs.declared.log.Item.TheVariants.{Torn, Kept}
use Rattle.flt_pages.proofs.BlankPages.{blank_from_test}
use Rattle.flt_pages.proofs.LogOn.{log_same, log_more, end_least, blank_behind, all_below}
use Rattle.flt_pages.proofs.AtEnd.{torn_item, open_item, whole_item}
use Rattle.flt_pages.proofs.Values.{last_more, same_content}

module _ (used : ℕ) (numbers : List ℕ) (pages after : List (List ℕ)) (end : ℕ) (value : ℕ → Content) (begins : 2 ≤ used) (holds : LogHolds used numbers pages end value) where
  -- The pages after the end that nothing touched.
  still_blank : (to : ℕ) → end ≤ to → KeptApart pages after end to → AreBlank after to used
  still_blank to past apart k low high = apart.behind k low ∙ blank_behind used numbers pages after holds.entries end begins holds.is (λ j low lt. apart.before j lt) k (omega arith) high

  -- The records that were there.
  kept : (to : ℕ) → KeptApart pages after end to → (block : ℕ) → content_of after (last_complete block holds.entries) ≡ value block
  kept to apart block =
      same_content pages after end apart.size (λ j low lt. apart.before j lt) block holds.entries (all_below used numbers pages after holds.entries end begins holds.is (λ j low lt. apart.before j lt))
      ∙ holds.gives block

  pub torn_head : IsTornAtHead pages after end → end < used → (last : ℕ) × LogHolds used numbers after last value
  torn_head is below = by_test (is_blank (get_or after end [])) refl
    where
      by_test : (test : Bool) → test ≡ is_blank (get_or after end []) → (last : ℕ) × LogHolds used numbers after last value
      by_test true blank = (
        end,
        record {
          entries = holds.entries;
          is = log_same used numbers pages after holds.entries end begins holds.is (λ j low lt. is.apart.before j lt) (λ k low high. elim (cases_eq k end) [
            | inl same ↦ rw same (blank_from_test (get_or after end []) (sym blank))
            | inr other ↦ still_blank (end + 1) (omega arith) is.apart k (omega arith) high
          ]);
          gives = kept (end + 1) is.apart;
        },
      )
      by_test false written = (
        end + 1,
        record {
          entries = holds.entries ++ [];
          is = log_more used numbers pages after holds.entries end begins holds.is (λ j low lt. is.apart.before j lt) Torn (λ e. cc e) (torn_item used numbers after end below (sym written) is.torn) (still_blank (end + 1) (omega arith) is.apart);
          gives = λ block. ap (λ (l : List Entry). content_of after (last_complete block l)) (append-nil holds.entries) ∙ kept (end + 1) is.apart block;
        },
      )

  module _ (block : ℕ) (held : List ℕ) (valid : Bool) (proper : IsWord (Head block (length held) valid end)) (gate_proper : IsWord (Gate block end))
      (among : list_any (λ number. number == block) numbers ≡ true) (within : end + 2 + byte_pages (length held) ≤ used) where
    abbrev last : ℕ
    last = end + (2 + byte_pages (length held))

    pub open_record : IsOpen pages after end block (length held) valid → LogHolds used numbers after (end + (2 + byte_pages (length held))) value
    open_record is =
        let entry : Entry = record { page = end; block = block; length = length held; valid = valid; complete = false } in
        record {
          entries = holds.entries ++ entry ∷ [];
          is = log_more used numbers pages after holds.entries end begins holds.is (λ j low lt. is.apart.before j lt) (Kept block (length held) valid false) (λ e. cc e)
              (open_item used numbers after end (omega arith) block (length held) valid proper among within is.head is.gate)
              (λ k low high. still_blank (end + 2 + byte_pages (length held)) (omega arith) is.apart k (omega arith) high);
          gives = λ other. ap (content_of after) (last_more other holds.entries entry) ∙ kept (end + 2 + byte_pages (length held)) is.apart other;
        }

    pub whole_record : IsWhole pages after end block held valid → LogHolds used numbers after (end + (2 + byte_pages (length held))) (given block (record_content valid held) value)
    whole_record is =
        let entry : Entry = record { page = end; block = block; length = length held; valid = valid; complete = true } in
        record {
          entries = holds.entries ++ entry ∷ [];
          is = log_more used numbers pages after holds.entries end begins holds.is (λ j low lt. is.apart.before j lt) (Kept block (length held) valid true) (λ e. cc e)
              (whole_item used numbers after end (omega arith) block (length held) valid proper among within is.head gate_proper is.gate)
              (λ k low high. still_blank (end + 2 + byte_pages (length held)) (omega arith) is.apart k (omega arith) high);
          gives = λ other. ap (content_of after) (last_more other holds.entries entry) ∙ by_test (block == other) (kept (end + 2 + byte_pages (length held)) is.apart other);
        }
      where
        by_test : {other : ℕ} (test : Bool) → content_of after (last_complete other holds.entries) ≡ value other
            → content_of after (if test then Some (record { page = end; block = block; length = length held; valid = valid; complete = true }) else last_complete other holds.entries) ≡ (if test then record_content valid held else value other)
        by_test false same = same
        by_test true same = ap (λ (l : List ℕ). if valid then bytes l else invalid) is.holds

    -- Whatever a cut leaves, the log holds the old values or the new ones.
    pub left_record : RecordLeft pages after end block held valid
        → ((last : ℕ) × LogHolds used numbers after last value) ⊎ ((last : ℕ) × LogHolds used numbers after last (given block (record_content valid held) value))
    left_record (inl torn) = inl (torn_head torn (omega arith))
    left_record (inr (inl stands)) = inl (last, open_record stands)
    left_record (inr (inr whole)) = inr (last, whole_record whole)

-- Pages that agree from page 2 on hold the same.
pub held_same : (used : ℕ) (numbers : List ℕ) (pages after : List (List ℕ)) (end : ℕ) (value : ℕ → Content) → 2 ≤ used → length after ≡ length pages
    → ((k : ℕ) → 2 ≤ k → get_or after k [] ≡ get_or pages k []) → LogHolds used numbers pages end value → LogHolds used numbers after end value
held_same used numbers pages after end value begins size agree holds =
    let least = end_least used numbers pages after holds.entries end begins holds.is (λ k low lt. agree k low) in
    record {
      entries = holds.entries;
      is = log_same used numbers pages after holds.entries end begins holds.is (λ k low lt. agree k low)
          (λ k low high. agree k (omega (arith, least)) ∙ blank_behind used numbers pages after holds.entries end begins holds.is (λ j from lt. agree j from) k low high);
      gives = λ block. same_content pages after end size (λ k low lt. agree k low) block holds.entries (all_below used numbers pages after holds.entries end begins holds.is (λ k low lt. agree k low)) ∙ holds.gives block;
    }
