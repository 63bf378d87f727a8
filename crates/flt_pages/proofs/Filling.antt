-- The pages of plain bytes, one more at a time.
use Rattle.std.proofs.Common.{◌≡◌, ◌⊎◌, inl, inr, ◌+◌, ◌-◌, ◌*◌, ◌<◌, ◌≤◌, ℕ, List, [], ◌∷◌, ◌++◌, append_assoc, append-nil, get_or, set, take, drop, length, length-take, length-drop, length-set, min, replicate, get_or-set_same, get_or-set_other, refl, sym, ◌∙◌, ap, arith}
use Rattle.std.specs.Prelude.{slice_range}
use Rattle.std.specs.List.{flat_map}
use Rattle.std.proofs.lemmas.List.{get_or-drop, take_more, take_all, take_at, drop-replicate}
use Rattle.std.proofs.Math.Seq.{take-add}
use Rattle.std.proofs.lemmas.Grind.{flat_map-append}
use Rattle.flt_flash.specs.Blocks.{byte_pages}
use Rattle.flt_flash.specs.Image.{blank_page}
use Rattle.flt_pages.specs.Record.{on_pages}
use Rattle.flt_pages.proofs.Values.{same_range}

-- This many pages from one on hold the first bytes, and ones after them.
pub record Filled (pages : List (List ℕ)) (first : ℕ) (bytes : List ℕ) (index : ℕ) : Type 0 where
  pub rest : List ℕ
  pub is : flat_map (λ page. page) (slice_range pages first (first + index)) ≡ take (32 * index) bytes ++ rest
  pub ones : rest ≡ replicate (32 * index - length bytes) 255

-- The bytes of one page.
piece_is : (bytes : List ℕ) (start end : ℕ) → start ≤ length bytes → (end ≡ start + 32) ⊎ ((end ≡ length bytes) × (length bytes < start + 32)) → slice_range bytes start end ≡ take 32 (drop start bytes)
piece_is bytes start end within (inl whole) = ap (λ n. take n (drop start bytes)) (let e : end - start ≡ 32 = omega arith in e)
piece_is bytes start end within (inr last) =
    take_all (end - start) (drop start bytes) (omega (arith, length-drop start bytes, last.0)) ∙ sym (take_all 32 (drop start bytes) (omega (arith, length-drop start bytes, last.1)))

-- The ones after the bytes of one page.
pub ones_behind : (bytes : List ℕ) (index end : ℕ) → index < byte_pages (length bytes) → (end ≡ 32 * index + 32) ⊎ ((end ≡ length bytes) × (length bytes < 32 * index + 32))
    → drop (length (slice_range bytes (32 * index) end)) blank_page ≡ replicate (32 * (index + 1) - length bytes) 255
unfolding blank_page
ones_behind bytes index end more ends = drop-replicate (length (slice_range bytes (32 * index) end)) 32 255 ∙ ap (λ n. replicate n 255) (many ends)
  where
    size : length (slice_range bytes (32 * index) end) ≡ min (end - 32 * index) (length bytes - 32 * index)
    size = omega (arith, length-take (end - 32 * index) (drop (32 * index) bytes), length-drop (32 * index) bytes)

    many : (end ≡ 32 * index + 32) ⊎ ((end ≡ length bytes) × (length bytes < 32 * index + 32)) → 32 - length (slice_range bytes (32 * index) end) ≡ 32 * (index + 1) - length bytes
    many (inl whole) = omega (arith, size, whole, more)
    many (inr last) = omega (arith, size, last.0, last.1, more)

module _ (pages : List (List ℕ)) (first : ℕ) (bytes : List ℕ) (index : ℕ) (fill : List ℕ) (end : ℕ) (within : first + index < length pages)
    (more : index < byte_pages (length bytes)) (filled : Filled pages first bytes index)
    (ends : (end ≡ 32 * index + 32) ⊎ ((end ≡ length bytes) × (length bytes < 32 * index + 32)))
    (ones : fill ≡ replicate (32 * (index + 1) - length bytes) 255) where
  abbrev after : List (List ℕ)
  after = set pages (first + index) (slice_range bytes (32 * index) end ++ fill)

  range_more : slice_range after first (first + (index + 1)) ≡ slice_range pages first (first + index) ++ (slice_range bytes (32 * index) end ++ fill) ∷ []
  range_more =
      let one : first + (index + 1) - first ≡ index + 1 = omega arith in
      let so_far : index ≡ first + index - first = omega arith in
      let room : index < length (drop first after) = omega (arith, length-drop first after, length-set pages (first + index) (slice_range bytes (32 * index) end ++ fill)) in
      ap (λ n. take n (drop first after)) one
      ∙ take_more (drop first after) index [] room
      ∙ ap (λ n. take n (drop first after) ++ get_or (drop first after) index [] ∷ []) so_far
      ∙ ap (λ (l : List (List ℕ)). l ++ get_or (drop first after) index [] ∷ [])
      (same_range pages after 0 (first + index) (length-set pages (first + index) (slice_range bytes (32 * index) end ++ fill)) (λ k low lt. get_or-set_other pages (first + index) k (slice_range bytes (32 * index) end ++ fill) [] (omega arith)) first (first + index) (omega arith) (omega arith))
      ∙ ap (λ (p : List ℕ). slice_range pages first (first + index) ++ p ∷ [])
      (get_or-drop first after index [] ∙ get_or-set_same pages (first + index) (slice_range bytes (32 * index) end ++ fill) [] within)

  taken : take (32 * (index + 1)) bytes ≡ take (32 * index) bytes ++ slice_range bytes (32 * index) end
  taken =
      let start : 32 * (index + 1) ≡ 32 * index + 32 = omega arith in
      ap (λ n. take n bytes) start ∙ take-add (32 * index) 32 bytes ∙ ap (λ (l : List ℕ). take (32 * index) bytes ++ l) (sym (piece_is bytes (32 * index) end (omega arith) ends))

  no_ones : filled.rest ≡ []
  no_ones = filled.ones ∙ ap (λ n. replicate n 255) (let none : 32 * index - length bytes ≡ 0 = omega (arith, more) in none)

  pub filled_more : Filled after first bytes (index + 1)
  filled_more = record {
    rest = fill;
    is =
        ap (flat_map (λ page. page)) range_more
        ∙ flat_map-append (λ page. page) (slice_range pages first (first + index)) ((slice_range bytes (32 * index) end ++ fill) ∷ [])
        ∙ ap (λ (l : List ℕ). l ++ ((slice_range bytes (32 * index) end ++ fill) ++ [])) (filled.is ∙ ap (λ (l : List ℕ). take (32 * index) bytes ++ l) no_ones ∙ append-nil (take (32 * index) bytes))
        ∙ ap (λ (l : List ℕ). take (32 * index) bytes ++ l) (append-nil (slice_range bytes (32 * index) end ++ fill))
        ∙ sym (append_assoc (take (32 * index) bytes) (slice_range bytes (32 * index) end) fill)
        ∙ ap (λ (l : List ℕ). l ++ fill) (sym taken);
    ones = ones;
  }

pub filled_all : (pages : List (List ℕ)) (first : ℕ) (bytes : List ℕ) (index : ℕ) → index ≡ byte_pages (length bytes) → Filled pages first bytes index
    → flat_map (λ page. page) (slice_range pages first (first + byte_pages (length bytes))) ≡ on_pages bytes
filled_all pages first bytes index last filled =
    ap (λ n. flat_map (λ (page : List ℕ). page) (slice_range pages first (first + n))) (sym last)
    ∙ filled.is
    ∙ ap (λ (l : List ℕ). l ++ filled.rest) (take_all (32 * index) bytes (omega arith))
    ∙ ap (λ (l : List ℕ). bytes ++ l) (filled.ones ∙ ap (λ n. replicate (32 * n - length bytes) 255) last)

-- The bytes at the start of whole pages.
pub bytes_on_pages : (bytes : List ℕ) → take (length bytes) (on_pages bytes) ≡ bytes
bytes_on_pages bytes = take_at bytes (replicate (32 * byte_pages (length bytes) - length bytes) 255) (length bytes) refl
