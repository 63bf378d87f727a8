-- The log of a sector, from page 2 on: its items and its records. A fault is reported by its page.
use Rattle.std.specs.Prelude.{ℕ, ◌+◌, ◌-◌, ◌==◌, ◌&&◌, zero, suc, Bool, true, false, nat_le, if◌then◌else◌, List, [], ◌∷◌, Option, Some, None, Result, Ok, Err, slice_index_or}
use Rattle.std.specs.List.{list_any}
use Rattle.flt_flash.specs.Blocks.{byte_pages}
use Rattle.flt_code.specs.Seal.{unsealed}
use Rattle.flt_code.specs.Word.{word_of}
use Rattle.flt_code.specs.declared.words.Word.{Word}
use Rattle.flt_code.specs.declared.words.Word.TheVariants.{Start, Active, Head, Gate}
use Rattle.flt_sector_model.specs.declared.log.Item.{Item}
use Rattle.flt_sector_model.specs.declared.log.Item.TheVariants.{End, Torn, Kept}
use Rattle.flt_sector_model.specs.Page.{is_blank}

-- The gate of this head.
abbrev pub is_gate_of : ℕ → ℕ → Option Word → Bool
is_gate_of block head (Some (Gate b h)) = (b == block) && (h == head)
is_gate_of block head (Some (Start s p)) = false
is_gate_of block head (Some (Active s)) = false
is_gate_of block head (Some (Head b l v p)) = false
is_gate_of block head None = false

-- The record of a head, by the page in the place of its gate: complete with its own gate, incomplete with no code word there.
abbrev pub item_by_gate : ℕ → ℕ → Bool → ℕ → ℕ → Option (List ℕ) → Result Item ℕ
item_by_gate block length valid head gate None = Ok (Kept block length valid false)
item_by_gate block length valid head gate (Some code) = if is_gate_of block head (word_of code) then Ok (Kept block length valid true) else Err gate

-- The item that begins with this word: a head of its own page and of one of the numbers, whose record ends by the used pages.
abbrev pub item_by_head : ℕ → List ℕ → List (List ℕ) → ℕ → Option Word → Result Item ℕ
item_by_head used numbers pages page (Some (Head block length valid own)) =
    if (own == page) && list_any (λ number. number == block) numbers && nat_le (page + 2 + byte_pages length) used
    then item_by_gate block length valid page (page + 1 + byte_pages length) (unsealed (slice_index_or pages (page + 1 + byte_pages length) []))
    else Err page
item_by_head used numbers pages page (Some (Gate block head)) = Err page
item_by_head used numbers pages page (Some (Start sequence own)) = Err page
item_by_head used numbers pages page (Some (Active sequence)) = Err page
item_by_head used numbers pages page None = Err page

-- The item that begins with this code word; a page that is not a code word is a torn head.
abbrev pub item_by_code : ℕ → List ℕ → List (List ℕ) → ℕ → Option (List ℕ) → Result Item ℕ
item_by_code used numbers pages page None = Ok Torn
item_by_code used numbers pages page (Some code) = item_by_head used numbers pages page (word_of code)

-- The item at a page, of a sector with this many used pages and for these block numbers; a blank page is the end.
abbrev pub item_at : ℕ → List ℕ → List (List ℕ) → ℕ → Result Item ℕ
item_at used numbers pages page =
    if (page == used) then Ok End
    else if is_blank (slice_index_or pages page []) then Ok End
    else item_by_code used numbers pages page (unsealed (slice_index_or pages page []))

-- A record of the log: the page of its head, and what the head says.
pub record Entry : Type 0 where
  pub page : ℕ
  pub block : ℕ
  pub length : ℕ
  pub valid : Bool
  pub complete : Bool

-- The first page that is not blank, from here on, of this many.
abbrev pub first_written : List (List ℕ) → ℕ → ℕ → Option ℕ
first_written pages page zero = None
first_written pages page (suc left) = if is_blank (slice_index_or pages page []) then first_written pages (page + 1) left else Some page

-- The log from a page on: its records, its end, and its first fault.
pub record LogFrom : Type 0 where
  pub entries : List Entry
  pub end : ℕ
  pub fault : Option ℕ

-- The log with one more record before it.
abbrev pub with_entry : Entry → LogFrom → LogFrom
with_entry entry rest = record { entries = entry ∷ rest.entries; end = rest.end; fault = rest.fault }

-- The log from an item on, where `onward` is the log from a later page on; after the end every page has to be blank.
abbrev pub log_after : ℕ → List (List ℕ) → ℕ → (ℕ → LogFrom) → Result Item ℕ → LogFrom
log_after used pages page onward (Ok End) = record { entries = []; end = page; fault = first_written pages page (used - page) }
log_after used pages page onward (Ok Torn) = onward (page + 1)
log_after used pages page onward (Ok (Kept block length valid complete)) =
    with_entry (record { page = page; block = block; length = length; valid = valid; complete = complete }) (onward (page + 2 + byte_pages length))
log_after used pages page onward (Err fault) = record { entries = []; end = page; fault = Some fault }

-- The log from a page on, of at most this many items.
unfoldable pub log_from : ℕ → List ℕ → List (List ℕ) → ℕ → ℕ → LogFrom
log_from used numbers pages page zero = record { entries = []; end = page; fault = None }
log_from used numbers pages page (suc left) = log_after used pages page (λ next. log_from used numbers pages next left) (item_at used numbers pages page)

-- The whole log of a sector, after its two gates.
abbrev pub log : ℕ → List ℕ → List (List ℕ) → LogFrom
log used numbers pages = log_from used numbers pages 2 (used + 1)
