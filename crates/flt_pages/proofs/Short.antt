-- What an image gives a block is 128 bytes at most.
use Rattle.std.proofs.Common.{◌≡◌, ◌+◌, ◌≤◌, ℕ, zero, suc, Bool, true, false, List, length, Option, Some, None, Result, Ok, Err, refl, take, arith}
use Rattle.std.specs.Prelude.{if◌then◌else◌, ◌==◌, ◌&&◌, slice_range}
use Rattle.std.specs.List.{flat_map}
use Rattle.std.proofs.lemmas.List.{length-take}
use Rattle.flt_flash.specs.Content.{invalid, bytes, IsShort}
use Rattle.flt_flash.specs.Blocks.{byte_pages}
use Rattle.flt_sector_model.specs.declared.log.Item.{Item}
use Rattle.flt_sector_model.specs.declared.log.Item.TheVariants.{End, Torn, Kept}
use Rattle.flt_sector_model.specs.Log.{Entry, LogFrom, item_at, log_after, log_from}
use Rattle.flt_sector_model.specs.Blocks.{Current, current, bytes_behind, or_earlier, last_complete, content_of, pages_by, value_by, block_value}
use Rattle.flt_pages.proofs.Finding.{length_most}
use Rattle.flt_pages.proofs.Proper.{proper_item}

-- A record of 128 bytes at most, if there is one.
abbrev IsShortEntry : Option Entry → Type 0
IsShortEntry None = Unit {0}
IsShortEntry (Some entry) = entry.length ≤ 128

take_most : {A : Type 0} (n : ℕ) (xs : List A) → length (take n xs) ≤ n
take_most n xs = omega (arith, length-take n xs)

short_content : (pages : List (List ℕ)) (found : Option Entry) → IsShortEntry found → IsShort (content_of pages found)
short_content pages None is = omega arith
short_content pages (Some entry) is = by_test entry.valid
  where
    by_test : (valid : Bool) → IsShort (if valid then bytes (bytes_behind pages entry) else invalid)
    by_test true = omega (arith, is, take_most entry.length (flat_map (λ page. page) (slice_range pages (entry.page + 1) (entry.page + 1 + byte_pages entry.length))))
    by_test false = omega arith

module _ (used : ℕ) (numbers : List ℕ) (pages : List (List ℕ)) (block : ℕ) where
  earlier : (later : Option Entry) (entry : Entry) → IsShortEntry later → entry.length ≤ 128 → IsShortEntry (or_earlier later entry block)
  earlier (Some later) entry is most = is
  earlier None entry is most = by_test (entry.complete && (entry.block == block))
    where
      by_test : (test : Bool) → IsShortEntry (if test then Some entry else None)
      by_test true = most
      by_test false = tt

  short_after : (page : ℕ) (onward : ℕ → LogFrom) → ((next : ℕ) → IsShortEntry (last_complete block (onward next).entries)) → (at : Result Item ℕ) → item_at used numbers pages page ≡ at
      → IsShortEntry (last_complete block (log_after used pages page onward at).entries)
  short_after page onward rest (Ok End) is = tt
  short_after page onward rest (Ok Torn) is = rest (page + 1)
  short_after page onward rest (Ok (Kept of size valid complete)) is =
      earlier (last_complete block (onward (page + 2 + byte_pages size)).entries) (record { page = page; block = of; length = size; valid = valid; complete = complete })
      (rest (page + 2 + byte_pages size)) (length_most valid size (proper_item used numbers pages page of size valid complete is).kind)
  short_after page onward rest (Err fault) is = tt

  short_log : (left page : ℕ) → IsShortEntry (last_complete block (log_from used numbers pages page left).entries)
  unfolding log_from
  short_log zero page = tt
  short_log (suc left) page = short_after page (λ next. log_from used numbers pages next left) (λ next. short_log left next) (item_at used numbers pages page) refl

pub value_is_short : (used : ℕ) (numbers : List ℕ) (image : List (List (List ℕ))) (block : ℕ) → IsShort (block_value used numbers image block)
value_is_short used numbers image block = by (current used image)
  where
    by : (at : Result (Option Current) (ℕ × ℕ)) → IsShort (value_by used numbers image block at)
    by (Err place) = omega arith
    by (Ok None) = omega arith
    by (Ok (Some at)) = short_content (pages_by image (Ok (Some at))) _ (short_log used numbers (pages_by image (Ok (Some at))) block (used + 1) 2)
