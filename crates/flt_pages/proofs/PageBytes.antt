-- The plain bytes after a head, page by page.
use Rattle.std.proofs.Common.{◌≡◌, ◌+◌, ◌-◌, ◌*◌, ◌<◌, ◌≤◌, ℕ, zero, suc, Bool, true, false, List, [], ◌∷◌, ◌++◌, get_or, take, drop, length, length-take, length-drop, length-append, refl, sym, ◌∙◌, ap, arith}
use Rattle.std.specs.Prelude.{slice_range, if◌then◌else◌, Some}
use Rattle.std.specs.List.{flat_map}
use Rattle.std.proofs.Math.Seq.{drop-append-add}
use Rattle.std.proofs.lemmas.Bool.{eqb-true}
use Rattle.std.proofs.lemmas.List.{get_or-drop, get_or-take, drop-take, take-append-le, ext_get_or}
use Rattle.flt_flash.specs.Image.{ArePages}
use Rattle.flt_flash.specs.Blocks.{byte_pages, record_pages, pages_of}
use Rattle.flt_flash.specs.Content.{invalid, bytes}
use Rattle.flt_code.specs.Word.{is_length}
use Rattle.flt_sector_model.specs.Log.{Entry}
use Rattle.flt_sector_model.specs.Blocks.{bytes_behind, content_of}

-- The bytes of pages, one after the other.
abbrev pub flat : List (List ℕ) → List ℕ
flat pages = flat_map (λ page. page) pages

tail_pages : (page : List ℕ) (pages : List (List ℕ)) → ArePages (page ∷ pages) → ArePages pages
tail_pages page pages sizes k within = sizes (suc k) (omega arith)

pub flat_size : (pages : List (List ℕ)) → ArePages pages → length (flat pages) ≡ 32 * length pages
flat_size [] sizes = refl
flat_size (page ∷ pages) sizes =
    let here : length page ≡ 32 = sizes 0 (omega arith) in
    omega (arith, length-append page (flat pages), here, flat_size pages (tail_pages page pages sizes))

flat_page : (pages : List (List ℕ)) → ArePages pages → (index : ℕ) → index < length pages → (m : ℕ) → m ≤ 32 → take m (drop (32 * index) (flat pages)) ≡ take m (get_or pages index [])
flat_page [] sizes index within m most = absurd (omega arith)
flat_page (page ∷ pages) sizes zero within m most =
    let here : length page ≡ 32 = sizes 0 (omega arith) in
    take-append-le m page (flat pages) (omega (arith, here))
flat_page (page ∷ pages) sizes (suc index) within m most =
    let here : length page ≡ 32 = sizes 0 (omega arith) in
    let far : 32 * suc index ≡ length page + 32 * index = omega (arith, here) in
    ap (λ n. take m (drop n (page ++ flat pages))) far
    ∙ ap (take m) (drop-append-add page (flat pages) (32 * index))
    ∙ flat_page pages (tail_pages page pages sizes) index (omega arith) m most

range_at : (pages : List (List ℕ)) (from to k : ℕ) → k < to - from → get_or (slice_range pages from to) k [] ≡ get_or pages (from + k) []
range_at pages from to k within = get_or-take (to - from) (drop from pages) k [] within ∙ get_or-drop from pages k []

pub range_pages : (pages : List (List ℕ)) (from to : ℕ) → to ≤ length pages → ArePages pages → ArePages (slice_range pages from to)
range_pages pages from to within sizes k lt =
    let inside : k < to - from = omega (arith, lt, length-take (to - from) (drop from pages)) in
    ap length (range_at pages from to k inside) ∙ sizes (from + k) (omega arith)

pub range_size : (pages : List (List ℕ)) (from to : ℕ) → to ≤ length pages → length (slice_range pages from to) ≡ to - from
range_size pages from to within = omega (arith, length-take (to - from) (drop from pages), length-drop from pages)

take_less : (m n : ℕ) (xs : List ℕ) → m ≤ n → take m (take n xs) ≡ take m xs
take_less m n xs less = ext_get_or 0 (take m (take n xs)) (take m xs)
    (omega (arith, length-take m (take n xs), length-take n xs, length-take m xs))
    (λ k lt.
    let inside : k < m = omega (arith, lt, length-take m (take n xs)) in
    get_or-take m (take n xs) k 0 inside ∙ get_or-take n xs k 0 (omega arith) ∙ sym (get_or-take m xs k 0 inside))

-- A record that lies within the pages.
module _ (pages : List (List ℕ)) (sizes : ArePages pages) (entry : Entry) (within : entry.page + record_pages entry.length ≤ length pages) where
  abbrev behind : List (List ℕ)
  behind = slice_range pages (entry.page + 1) (entry.page + 1 + byte_pages entry.length)

  behind_size : length (flat (slice_range pages (entry.page + 1) (entry.page + 1 + byte_pages entry.length))) ≡ 32 * byte_pages entry.length
  behind_size =
      flat_size behind (range_pages pages (entry.page + 1) (entry.page + 1 + byte_pages entry.length) (omega arith) sizes)
      ∙ ap (λ n. 32 * n) (let many : length behind ≡ byte_pages entry.length = omega (arith, range_size pages (entry.page + 1) (entry.page + 1 + byte_pages entry.length) (omega arith)) in many)

  pub bytes_size : length (bytes_behind pages entry) ≡ entry.length
  bytes_size = omega (arith, length-take entry.length (flat behind), behind_size)

  pub piece_behind : (index m : ℕ) → m ≤ 32 → index < byte_pages entry.length → 32 * index + m ≤ entry.length
      → slice_range (bytes_behind pages entry) (32 * index) (32 * index + m) ≡ take m (get_or pages (entry.page + 1 + index) [])
  piece_behind index m most more fits =
      let size : 32 * index + m - 32 * index ≡ m = omega arith in
      let long : entry.length ≡ 32 * index + (entry.length - 32 * index) = omega arith in
      let many : length behind ≡ byte_pages entry.length = omega (arith, range_size pages (entry.page + 1) (entry.page + 1 + byte_pages entry.length) (omega arith)) in
      ap (λ n. take n (drop (32 * index) (bytes_behind pages entry))) size
      ∙ ap (λ n. take m (drop (32 * index) (take n (flat behind)))) long
      ∙ ap (take m) (drop-take (32 * index) (entry.length - 32 * index) (flat behind))
      ∙ take_less m (entry.length - 32 * index) (drop (32 * index) (flat behind)) (omega arith)
      ∙ flat_page behind (range_pages pages (entry.page + 1) (entry.page + 1 + byte_pages entry.length) (omega arith) sizes) index (omega arith) m most
      ∙ ap (take m) (range_at pages (entry.page + 1) (entry.page + 1 + byte_pages entry.length) index (omega arith))

  -- The pages of the record are those that its content takes.
  pub content_pages : is_length entry.valid entry.length ≡ true → pages_of (content_of pages (Some entry)) ≡ record_pages entry.length
  content_pages kind = by_valid entry.valid kind
    where
      by_valid : (valid : Bool) → is_length valid entry.length ≡ true → pages_of (if valid then bytes (bytes_behind pages entry) else invalid) ≡ record_pages entry.length
      by_valid true kind = ap record_pages bytes_size
      by_valid false kind = (let none : entry.length ≡ 0 = eqb-true entry.length 0 kind in omega arith)
