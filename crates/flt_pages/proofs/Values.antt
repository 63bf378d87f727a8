-- What the records of a log hold after one more.
use Rattle.std.proofs.Common.{◌≡◌, ◌+◌, ◌-◌, ◌<◌, ◌≤◌, ℕ, Bool, true, false, List, [], ◌∷◌, ◌++◌, get_or, take, drop, length, length-take, length-drop, Option, Some, None, refl, sym, ◌∙◌, ap, arith}
use Rattle.std.specs.Prelude.{if◌then◌else◌, ◌==◌, ◌&&◌, slice_range}
use Rattle.std.specs.List.{flat_map}
use Rattle.flt_flash.specs.Content.{invalid, bytes}
use Rattle.flt_flash.specs.Blocks.{byte_pages}
use Rattle.flt_sector_model.specs.Log.{Entry}
use Rattle.std.proofs.lemmas.List.{ext_get_or, get_or-take, get_or-drop}
use Rattle.flt_pages.proofs.ItemPages.{AllBelow}
use Rattle.flt_sector_model.specs.Blocks.{or_earlier, last_complete, bytes_behind, content_of}

-- A record of the block or of another after the others.
pub last_more : (block : ℕ) (entries : List Entry) (entry : Entry) → last_complete block (entries ++ entry ∷ []) ≡ (if entry.complete && (entry.block == block) then Some entry else last_complete block entries)
last_more block [] entry = refl
last_more block (first ∷ rest) entry = ap (λ later. or_earlier later first block) (last_more block rest entry) ∙ by_test (entry.complete && (entry.block == block))
  where
    by_test : (test : Bool) → or_earlier (if test then Some entry else last_complete block rest) first block ≡ (if test then Some entry else or_earlier (last_complete block rest) first block)
    by_test true = refl
    by_test false = refl

-- Pages that agree from one on, below a bound.
module _ (pages after : List (List ℕ)) (first bound : ℕ) (size : length after ≡ length pages) (agree : (k : ℕ) → first ≤ k → k < bound → get_or after k [] ≡ get_or pages k []) where
  pub same_range : (from to : ℕ) → first ≤ from → to ≤ bound → slice_range after from to ≡ slice_range pages from to
  same_range from to low within = ext_get_or [] (slice_range after from to) (slice_range pages from to)
      (omega (arith, size, length-take (to - from) (drop from after), length-take (to - from) (drop from pages), length-drop from after, length-drop from pages))
      (λ k lt.
      let within_range : k < to - from = omega (arith, lt, length-take (to - from) (drop from after)) in
      get_or-take (to - from) (drop from after) k [] within_range ∙ get_or-drop from after k [] ∙ agree (from + k) (omega arith) (omega arith)
      ∙ sym (get_or-drop from pages k []) ∙ sym (get_or-take (to - from) (drop from pages) k [] within_range))

-- Pages that agree from page 2 on, below a bound.
module _ (pages after : List (List ℕ)) (bound : ℕ) (size : length after ≡ length pages) (agree : (k : ℕ) → 2 ≤ k → k < bound → get_or after k [] ≡ get_or pages k []) where
  pub same_bytes : (entry : Entry) → 2 ≤ entry.page → entry.page + 2 + byte_pages entry.length ≤ bound → bytes_behind after entry ≡ bytes_behind pages entry
  same_bytes entry low within = ap (λ (l : List (List ℕ)). take entry.length (flat_map (λ page. page) l)) (same_range pages after 2 bound size agree (entry.page + 1) (entry.page + 1 + byte_pages entry.length) (omega arith) (omega arith))

  -- The last complete record lies below the bound too.
  last_below : (block : ℕ) (entries : List Entry) → AllBelow bound entries → content_of after (last_complete block entries) ≡ content_of pages (last_complete block entries)
  last_below block [] below = refl
  last_below block (entry ∷ rest) below = by_later (last_complete block rest) (last_below block rest below.2)
    where
      by_later : (later : Option Entry) → content_of after later ≡ content_of pages later → content_of after (or_earlier later entry block) ≡ content_of pages (or_earlier later entry block)
      by_later (Some e) same = same
      by_later None same = by_test (entry.complete && (entry.block == block))
        where
          by_test : (test : Bool) → content_of after (if test then Some entry else None) ≡ content_of pages (if test then Some entry else None)
          by_test false = refl
          by_test true = ap (λ (l : List ℕ). if entry.valid then bytes l else invalid) (same_bytes entry below.0 below.1)

  pub same_content : (block : ℕ) (entries : List Entry) → AllBelow bound entries → content_of after (last_complete block entries) ≡ content_of pages (last_complete block entries)
  same_content = last_below
