-- The log of a sector, as facts of single pages: the pages at which its items begin, and its records.
use Rattle.std.specs.Prelude.{ℕ, ◌+◌, ◌≤◌, ◌<◌, Bool, true, false, List, [], Contains, IsFalse, slice_index_or}
use Rattle.flt_flash.specs.Blocks.{byte_pages, record_pages}
use Rattle.flt_code.specs.declared.words.Word.TheVariants.{Head, Gate}
use Rattle.flt_sector_model.specs.Page.{is_blank}
use Rattle.flt_sector_model.specs.Says.{Says, IsNoCode}

-- The page in the place of the gate of a record.
abbrev pub gate_page : List (List ℕ) → ℕ → ℕ → List ℕ
gate_page pages page length = slice_index_or pages (page + 1 + byte_pages length) []

module _ (used : ℕ) (numbers : List ℕ) (pages : List (List ℕ)) where
  -- A page on which something was written that is not a code word.
  pub record IsTornHead (page : ℕ) : Type 0 where
    pub within : page < used
    pub written : IsFalse (is_blank (slice_index_or pages page []))
    pub no_code : IsNoCode (slice_index_or pages page [])

  -- A head that names its own page and one of the blocks, and whose record ends within the used pages.
  pub record IsHead (page block length : ℕ) (valid : Bool) : Type 0 where
    pub says : Says (Head block length valid page) (slice_index_or pages page [])
    pub known : Contains numbers block
    pub within : page + record_pages length ≤ used

  -- What is in that place: no code word, or the gate of this record, which is then complete.
  abbrev pub IsGated : ℕ → ℕ → ℕ → Bool → Type 0
  IsGated page block length false = IsNoCode (gate_page pages page length)
  IsGated page block length true = Says (Gate block page) (gate_page pages page length)

  -- A record, complete or not.
  pub record IsRecord (page block length : ℕ) (valid complete : Bool) : Type 0 where
    pub head : IsHead page block length valid
    pub gate : IsGated page block length complete

  -- An item of the log begins at this page, or its end is there.
  pub data IsReached : ℕ → Type 0 where
    begins : IsReached 2
    behind_torn : {page : ℕ} → IsReached page → IsTornHead page → IsReached (page + 1)
    behind_record : {page block length : ℕ} {valid complete : Bool} → IsReached page → IsRecord page block length valid complete
        → IsReached (page + record_pages length)
