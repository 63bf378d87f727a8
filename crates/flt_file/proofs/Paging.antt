-- What the pages in bytes are after a splice of pages, and where the bytes are torn.
use Rattle.std.proofs.Common.{◌≡◌, ◌≢◌, ◌⊎◌, inl, inr, ◌<◌, ◌≤◌, ◌+◌, ◌*◌, ℕ, zero, suc, List, [], ◌∷◌, length, drop, get_or, set, length-set, get_or-set_same, get_or-set_other, replicate, refl, sym, ◌∙◌, ap, subst, arith}
use Rattle.std.proofs.lemmas.List.{ext_get_or, length-take-le, length-drop, get_or-take, get_or-drop, get_or-replicate, length-replicate}
use Rattle.std.proofs.lemmas.List.FromFn.{length-map-range_with_len, get_or-map-range_with_len}
use Rattle.std.proofs.lemmas.Bool.{cases_eq, cases_lt}
use Rattle.flt_flash.specs.Image.{page_at, blank_page, programmed, erased}
use Rattle.flt_ea.specs.State.{unit_at, with_unit}
use Rattle.flt_flash.specs.Tearing.{IsTornByte, IsTornPage, IsTornSector, IsTorn}
use Rattle.flt_file.specs.Bytes.{spliced}
use Rattle.flt_file.specs.Layout.{page_in, pages_in, image_in, units_in}
use Rattle.flt_file.proofs.Splicing.{spliced_length, spliced_before, spliced_inside, spliced_after}

ap2 : {A B C : Type 0} (f : A → B → C) {a a' : A} {b b' : B} → a ≡ a' → b ≡ b' → f a b ≡ f a' b'
ap2 f {a} {a'} {b} {b'} e g = ap (λ x. f x b) e ∙ ap (λ y. f a' y) g

subst3 : {A B C : Type 0} (P : A → B → C → Type 0) {a a' : A} {b b' : B} {c c' : C} → a ≡ a' → b ≡ b' → c ≡ c' → P a b c → P a' b' c'
subst3 P {a} {a'} {b} {b'} {c} {c'} e f g p = subst (λ x. P x b' c') e (subst (λ y. P a y c') f (subst (λ z. P a b z) g p))

pub page_length : (held : List ℕ) (i : ℕ) → 32 * i + 32 ≤ length held → length (page_in held i) ≡ 32
page_length held i fits = length-take-le 32 (drop (32 * i) held) (omega (arith, length-drop (32 * i) held))

pub byte_of : (held : List ℕ) (i k : ℕ) → k < 32 → get_or (page_in held i) k 0 ≡ get_or held (32 * i + k) 0
byte_of held i k lt = get_or-take 32 (drop (32 * i) held) k 0 lt ∙ get_or-drop (32 * i) held k 0

-- Pages are spliced over those from a number on.
module _ (f n : ℕ) (new held : List ℕ) (size : length new ≡ 32 * n) (fits : 32 * f + 32 * n ≤ length held) where
  whole : 32 * f + length new ≤ length held
  whole = omega (arith, size)

  pub page_outside : (i : ℕ) → 32 * i + 32 ≤ length held → (i < f) ⊎ (f + n ≤ i) → page_in (spliced (32 * f) new held) i ≡ page_in held i
  page_outside i inside where_is =
      let long = spliced_length (32 * f) new held whole in
      let here = page_length held i inside in
      let there = page_length (spliced (32 * f) new held) i (omega (arith, long)) in
      ext_get_or 0 _ _ (there ∙ sym here) (λ k lt.
      let small : k < 32 = omega (arith, there) in
      byte_of (spliced (32 * f) new held) i k small ∙ same k small where_is ∙ sym (byte_of held i k small))
    where
      same : (k : ℕ) → k < 32 → (i < f) ⊎ (f + n ≤ i) → get_or (spliced (32 * f) new held) (32 * i + k) 0 ≡ get_or held (32 * i + k) 0
      same k lt (inl before) = spliced_before (32 * f) new held whole (32 * i + k) (omega arith)
      same k lt (inr after) = spliced_after (32 * f) new held whole (32 * i + k) (omega (arith, size))

  pub page_inside : (j : ℕ) → j < n → page_in (spliced (32 * f) new held) (f + j) ≡ page_in new j
  page_inside j lt =
      let long = spliced_length (32 * f) new held whole in
      let there = page_length (spliced (32 * f) new held) (f + j) (omega (arith, long)) in
      let here = page_length new j (omega (arith, size)) in
      ext_get_or 0 _ _ (there ∙ sym here) (λ k lt_k.
      let small : k < 32 = omega (arith, there) in
      byte_of (spliced (32 * f) new held) (f + j) k small
      ∙ ap (λ m. get_or (spliced (32 * f) new held) m 0) (omega arith)
      ∙ spliced_inside (32 * f) new held whole (32 * j + k) (omega (arith, size))
      ∙ sym (byte_of new j k small))

  pub sector_outside : (from pages : ℕ) → 32 * from + 32 * pages ≤ length held → (from + pages ≤ f) ⊎ (f + n ≤ from)
      → pages_in (spliced (32 * f) new held) from pages ≡ pages_in held from pages
  sector_outside from pages inside where_is =
      ext_get_or [] _ _ (length-map-range_with_len _ from pages ∙ sym (length-map-range_with_len _ from pages)) (λ j lt.
      let small : j < pages = omega (arith, length-map-range_with_len (page_in (spliced (32 * f) new held)) from pages) in
      get_or-map-range_with_len _ from pages j (from + j) [] small refl
      ∙ page_outside (from + j) (omega arith) (each j small where_is)
      ∙ sym (get_or-map-range_with_len _ from pages j (from + j) [] small refl))
    where
      each : (j : ℕ) → j < pages → (from + pages ≤ f) ⊎ (f + n ≤ from) → (from + j < f) ⊎ (f + n ≤ from + j)
      each j lt (inl before) = inl (omega arith)
      each j lt (inr after) = inr (omega arith)

-- One page is spliced.
module _ (from pages p : ℕ) (lt : p < pages) (b held : List ℕ) (size : length b ≡ 32) (fits : 32 * from + 32 * pages ≤ length held) where
  one : length b ≡ 32 * 1
  one = size

  page_itself : page_in b 0 ≡ b
  page_itself = ext_get_or 0 _ _ (page_length b 0 (omega (arith, size)) ∙ sym size) (λ k lt_k.
      byte_of b 0 k (omega (arith, page_length b 0 (omega (arith, size)))) ∙ ap (λ m. get_or b m 0) (omega arith))

  pub sector_set : pages_in (spliced (32 * (from + p)) b held) from pages ≡ set (pages_in held from pages) p b
  sector_set =
      let long = length-map-range_with_len (page_in (spliced (32 * (from + p)) b held)) from pages in
      let old_long = length-map-range_with_len (page_in held) from pages in
      ext_get_or [] _ _ (long ∙ sym old_long ∙ sym (length-set (pages_in held from pages) p b)) (λ j lt_j.
      let small : j < pages = omega (arith, long) in
      get_or-map-range_with_len (page_in (spliced (32 * (from + p)) b held)) from pages j (from + j) [] small refl
      ∙ each j small (cases_eq j p))
    where
      each : (j : ℕ) → j < pages → (j ≡ p) ⊎ (j ≢ p) → page_in (spliced (32 * (from + p)) b held) (from + j) ≡ get_or (set (pages_in held from pages) p b) j []
      each j small (inl same) =
          ap (λ m. page_in (spliced (32 * (from + p)) b held) m) (omega (arith, same))
          ∙ page_inside (from + p) 1 b held one (omega arith) 0 (omega arith)
          ∙ page_itself
          ∙ sym (ap (λ m. get_or (set (pages_in held from pages) p b) m []) same
          ∙ get_or-set_same (pages_in held from pages) p b [] (omega (arith, length-map-range_with_len (page_in held) from pages)))
      each j small (inr other) =
          page_outside (from + p) 1 b held one (omega arith) (from + j) (omega arith) (apart j other)
          ∙ sym (get_or-set_other (pages_in held from pages) p j b [] other
          ∙ get_or-map-range_with_len (page_in held) from pages j (from + j) [] small refl)
        where
          apart_by : (j : ℕ) → j ≢ p → (j < p) ⊎ (p ≤ j) → (from + j < from + p) ⊎ (from + p + 1 ≤ from + j)
          apart_by j differs (inl below) = inl (omega arith)
          apart_by j differs (inr above) = inr (omega (arith, differs))

          apart : (j : ℕ) → j ≢ p → (from + j < from + p) ⊎ (from + p + 1 ≤ from + j)
          apart j differs = apart_by j differs (cases_lt j p)

-- Each page of a sector is blank.
pub sector_blank : (from pages : ℕ) (held : List ℕ) → 32 * from + 32 * pages ≤ length held
    → pages_in (spliced (32 * from) (replicate (32 * pages) 255) held) from pages ≡ replicate pages blank_page
unfolding blank_page
sector_blank from pages held fits =
    let new : List ℕ = replicate (32 * pages) 255 in
    let size : length new ≡ 32 * pages = length-replicate (32 * pages) 255 in
    let long = length-map-range_with_len (page_in (spliced (32 * from) new held)) from pages in
    ext_get_or [] _ _ (long ∙ sym (length-replicate pages blank_page)) (λ j lt.
    let small : j < pages = omega (arith, long) in
    let blank = ext_get_or 0 (page_in new j) blank_page (page_length new j (omega (arith, size))) (λ k lt_k.
    let few : k < 32 = omega (arith, page_length new j (omega (arith, size))) in
    byte_of new j k few ∙ get_or-replicate (32 * pages) (32 * j + k) 255 0 (omega arith) ∙ sym (get_or-replicate 32 k 255 0 few)) in
    get_or-map-range_with_len (page_in (spliced (32 * from) new held)) from pages j (from + j) [] small refl
    ∙ page_inside from pages new held size fits j small
    ∙ blank
    ∙ sym (get_or-replicate pages j blank_page [] small))

-- The image of a flash after a program and after an erase.
module _ (pages : ℕ) (held : List ℕ) (size : length held ≡ 64 * pages) where
  pub image_programmed : (sector p : ℕ) (b : List ℕ) → sector < 2 → p < pages → length b ≡ 32
      → image_in pages (spliced (32 * (sector * pages + p)) b held) ≡ programmed (image_in pages held) sector p b
  image_programmed zero p b lt_sector lt long =
      let at : 0 * pages + p ≡ 0 + p = omega arith in
      ap (λ f. image_in pages (spliced (32 * f) b held)) at
      ∙ ap2 (λ (first second : List (List ℕ)). first ∷ second ∷ [])
      (sector_set 0 pages p lt b held long (omega (arith, size)))
      (sector_outside (0 + p) 1 b held long (omega (arith, size)) pages pages (omega (arith, size)) (inr (omega arith)))
  image_programmed (suc zero) p b lt_sector lt long =
      let at : 1 * pages + p ≡ pages + p = omega arith in
      ap (λ f. image_in pages (spliced (32 * f) b held)) at
      ∙ ap2 (λ (first second : List (List ℕ)). first ∷ second ∷ [])
      (sector_outside (pages + p) 1 b held long (omega (arith, size)) 0 pages (omega (arith, size)) (inl (omega arith)))
      (sector_set pages pages p lt b held long (omega (arith, size)))
  image_programmed (suc (suc sector)) p b lt_sector lt long = absurd (omega arith)

  pub image_erased : (sector : ℕ) → sector < 2
      → image_in pages (spliced (32 * (sector * pages)) (replicate (32 * pages) 255) held) ≡ erased (image_in pages held) sector
  image_erased zero lt_sector =
      let at : 0 * pages ≡ 0 = omega arith in
      let first_size = length-map-range_with_len (page_in held) 0 pages in
      ap (λ f. image_in pages (spliced (32 * f) (replicate (32 * pages) 255) held)) at
      ∙ ap2 (λ (first second : List (List ℕ)). first ∷ second ∷ [])
      (sector_blank 0 pages held (omega (arith, size)) ∙ ap (λ m. replicate m blank_page) (sym first_size))
      (sector_outside 0 pages (replicate (32 * pages) 255) held (length-replicate (32 * pages) 255) (omega (arith, size)) pages pages (omega (arith, size)) (inr (omega arith)))
  image_erased (suc zero) lt_sector =
      let at : 1 * pages ≡ pages = omega arith in
      let second_size = length-map-range_with_len (page_in held) pages pages in
      ap (λ f. image_in pages (spliced (32 * f) (replicate (32 * pages) 255) held)) at
      ∙ ap2 (λ (first second : List (List ℕ)). first ∷ second ∷ [])
      (sector_outside pages pages (replicate (32 * pages) 255) held (length-replicate (32 * pages) 255) (omega (arith, size)) 0 pages (omega (arith, size)) (inl (omega arith)))
      (sector_blank pages pages held (omega (arith, size)) ∙ ap (λ m. replicate m blank_page) (sym second_size))
  image_erased (suc (suc sector)) lt_sector = absurd (omega arith)

-- The units of an EEPROM after a write.
pub units_written : (units : ℕ) (held : List ℕ) → length held ≡ 32 * units → (u : ℕ) (b : List ℕ) → u < units → length b ≡ 32
    → units_in units (spliced (32 * u) b held) ≡ with_unit (units_in units held) u b
units_written units held size u b lt long =
    let at : u ≡ 0 + u = omega arith in
    ap (λ f. units_in units (spliced (32 * f) b held)) at
    ∙ ap (λ (first : List (List ℕ)). first ∷ []) (sector_set 0 units u lt b held long (omega (arith, size)))

-- Torn bytes are torn pages.
module _ {was asked now : List ℕ} (torn : IsTornPage was asked now) where
  torn_page : (i : ℕ) → 32 * i + 32 ≤ length was → IsTornPage (page_in was i) (page_in asked i) (page_in now i)
  torn_page i fits =
      let here = page_length was i fits in
      let there = page_length now i (omega (arith, torn.size)) in
      record {
        size = there ∙ sym here;
        bytes = λ k lt.
            let few : k < 32 = omega (arith, here) in
            subst3 IsTornByte (sym (byte_of was i k few)) (sym (byte_of asked i k few)) (sym (byte_of now i k few))
            (torn.bytes (32 * i + k) (omega arith));
      }

  torn_sector : (from pages : ℕ) → 32 * from + 32 * pages ≤ length was
      → IsTornSector (pages_in was from pages) (pages_in asked from pages) (pages_in now from pages)
  torn_sector from pages fits =
      let here = length-map-range_with_len (page_in was) from pages in
      record {
        size = length-map-range_with_len (page_in now) from pages ∙ sym here;
        pages = λ j lt.
            let few : j < pages = omega (arith, here) in
            subst3 IsTornPage (sym (get_or-map-range_with_len (page_in was) from pages j (from + j) [] few refl))
            (sym (get_or-map-range_with_len (page_in asked) from pages j (from + j) [] few refl))
            (sym (get_or-map-range_with_len (page_in now) from pages j (from + j) [] few refl))
            (torn_page (from + j) (omega arith));
      }

  pub torn_image : (pages : ℕ) → length was ≡ 64 * pages → {image : List (List (List ℕ))} → image_in pages asked ≡ image
      → IsTorn (image_in pages was) image (image_in pages now)
  torn_image pages size is = subst (λ image. IsTorn (image_in pages was) image (image_in pages now)) is (record { size = refl; sectors = sectors })
    where
      sectors : (sector : ℕ) → sector < 2 → IsTornSector (get_or (image_in pages was) sector []) (get_or (image_in pages asked) sector [])
          (get_or (image_in pages now) sector [])
      sectors zero lt = torn_sector 0 pages (omega (arith, size))
      sectors (suc zero) lt = torn_sector pages pages (omega (arith, size))
      sectors (suc (suc sector)) lt = absurd (omega arith)

  pub torn_units : (units : ℕ) → length was ≡ 32 * units → {image : List (List (List ℕ))} → units_in units asked ≡ image
      → IsTorn (units_in units was) image (units_in units now)
  torn_units units size is = subst (λ image. IsTorn (units_in units was) image (units_in units now)) is (record { size = refl; sectors = sectors })
    where
      sectors : (sector : ℕ) → sector < 1 → IsTornSector (get_or (units_in units was) sector []) (get_or (units_in units asked) sector [])
          (get_or (units_in units now) sector [])
      sectors zero lt = torn_sector 0 units (omega (arith, size))
      sectors (suc sector) lt = absurd (omega arith)

-- Where the pages of a sector are in the bytes of a flash.
pub page_fits : (pages sector p : ℕ) → sector < 2 → p < pages → 32 * (sector * pages + p) + 32 ≤ 64 * pages
page_fits pages zero p lt_sector lt = let same : 0 * pages ≡ 0 = omega arith in omega (arith, lt)
page_fits pages (suc zero) p lt_sector lt = let same : 1 * pages ≡ pages = omega arith in omega (arith, lt)
page_fits pages (suc (suc sector)) p lt_sector lt = absurd (omega arith)

pub sector_fits : (pages sector : ℕ) → sector < 2 → 32 * (sector * pages) + 32 * pages ≤ 64 * pages
sector_fits pages zero lt = let same : 0 * pages ≡ 0 = omega arith in omega arith
sector_fits pages (suc zero) lt = let same : 1 * pages ≡ pages = omega arith in omega arith
sector_fits pages (suc (suc sector)) lt = absurd (omega arith)

-- A page of a flash is the one of its number.
pub image_page : (pages : ℕ) (held : List ℕ) (sector p : ℕ) → sector < 2 → p < pages
    → page_in held (sector * pages + p) ≡ page_at (image_in pages held) sector p
image_page pages held zero p lt_sector lt =
    ap (page_in held) (omega arith) ∙ sym (get_or-map-range_with_len (page_in held) 0 pages p (0 + p) [] lt refl)
image_page pages held (suc zero) p lt_sector lt =
    ap (page_in held) (omega arith) ∙ sym (get_or-map-range_with_len (page_in held) pages pages p (pages + p) [] lt refl)
image_page pages held (suc (suc sector)) p lt_sector lt = absurd (omega arith)

pub units_unit : (units : ℕ) (held : List ℕ) (u : ℕ) → u < units → page_in held u ≡ unit_at (units_in units held) u
units_unit units held u lt = ap (page_in held) (omega arith) ∙ sym (get_or-map-range_with_len (page_in held) 0 units u (0 + u) [] lt refl)
