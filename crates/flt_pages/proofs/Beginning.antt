-- The gates of a sector that is begun and made active.
use Rattle.std.proofs.Common.{◌≡◌, ◌⊎◌, ⊎_elim, inl, inr, ◌<◌, ◌≤◌, ◌^◌, ℕ, false, List, [], get_or, set, replicate, length, length-set, get_or-set_same, get_or-set_other, Option, Some, None, Ok, ◌∙◌, ap, arith}
use Rattle.std.proofs.lemmas.List.{set-set, get_or-replicate, length-replicate}
use Rattle.flt_flash.specs.Image.{sector_at, programmed, erased, blank_page}
use Rattle.flt_flash.specs.State.{FlashState, HasShape}
use Rattle.flt_code.specs.Seal.{sealed, unsealed}
use Rattle.flt_code.specs.Spoiled.{is_spoiled}
use Rattle.flt_code.specs.Word.{word_bytes}
use Rattle.flt_code.specs.declared.words.Word.TheVariants.{Start, Active}
use Rattle.flt_code.proofs.WordCode.{word_code, unsealed_blank}
use Rattle.flt_code.proofs.Unspoiled.{unspoiled_word}
use Rattle.flt_sector_model.specs.Gates.{gates_of}
use Rattle.flt_pages.specs.Append.{TornCode, TornErase}
use Rattle.flt_pages.specs.Blank.{AreBlank}
use Rattle.flt_pages.proofs.TornGates.{torn_gates}
use Rattle.flt_pages.proofs.Begun.{unspoiled_blank, not_valid, valid}

-- The pages of a sector, which has the start gate of a number.
module _ (used sequence : ℕ) (fits : used < 2 ^ 16) (counts : sequence < 2 ^ 32) (pages : List (List ℕ)) (room : 1 < length pages) (stands : get_or pages 0 [] ≡ sealed (word_bytes (Start sequence used))) where
  first_page : (page : List ℕ) → get_or (set pages 1 page) 0 [] ≡ sealed (word_bytes (Start sequence used))
  first_page page = get_or-set_other pages 1 0 page [] (omega arith) ∙ stands

  second_page : (page : List ℕ) → get_or (set pages 1 page) 1 [] ≡ page
  second_page page = get_or-set_same pages 1 page [] room

  -- The active gate makes the sector valid.
  pub made_active : gates_of used (set pages 1 (sealed (word_bytes (Active sequence)))) ≡ Ok (Some sequence)
  made_active = valid used sequence fits counts (set pages 1 (sealed (word_bytes (Active sequence)))) (first_page (sealed (word_bytes (Active sequence)))) (second_page (sealed (word_bytes (Active sequence))))

  -- And without it the sector is not valid.
  pub not_active : (page : List ℕ) → is_spoiled page ≡ false → unsealed page ≡ None → gates_of used (set pages 1 page) ≡ Ok None
  not_active page fresh gone =
      not_valid used sequence fits counts (set pages 1 page)
      (ap is_spoiled (first_page page) ∙ unspoiled_word (word_bytes (Start sequence used)) (sealed (word_bytes (Start sequence used))) (word_code (Start sequence used)))
      (inl (first_page page)) (ap is_spoiled (second_page page) ∙ fresh) (ap unsealed (second_page page) ∙ gone)

  pub start_alone : get_or pages 1 [] ≡ blank_page → gates_of used pages ≡ Ok None
  start_alone blank =
      not_valid used sequence fits counts pages
      (ap is_spoiled stands ∙ unspoiled_word (word_bytes (Start sequence used)) (sealed (word_bytes (Start sequence used))) (word_code (Start sequence used)))
      (inl stands) (ap is_spoiled blank ∙ unspoiled_blank) (ap unsealed blank ∙ unsealed_blank)

module _ (used sequence : ℕ) (least : 2 ≤ used) (fits : used < 2 ^ 16) (counts : sequence < 2 ^ 32) (before : FlashState) (shape : HasShape before) (sector : ℕ) (in_sector : sector < 2) (most : used ≤ before.pages) where
  abbrev blanks : List (List ℕ)
  blanks = replicate (length (sector_at before.image sector)) blank_page

  abbrev pub start : List ℕ
  start = sealed (word_bytes (Start sequence used))

  enough : used ≤ length (sector_at before.image sector)
  enough = omega (arith, shape.pages sector in_sector)

  -- The image with the first page of an erased sector.
  begun_at : (page : List ℕ) → programmed (erased before.image sector) sector 0 page ≡ set before.image sector (set (replicate (length (sector_at before.image sector)) blank_page) 0 page)
  begun_at page =
      ap (λ (pages : List (List ℕ)). set (set before.image sector blanks) sector (set pages 0 page)) (get_or-set_same before.image sector blanks [] (omega (arith, shape.sectors)))
      ∙ set-set before.image sector blanks (set blanks 0 page)

  page_zero : (page : List ℕ) → get_or (set (replicate (length (sector_at before.image sector)) blank_page) 0 page) 0 [] ≡ page
  page_zero page = get_or-set_same blanks 0 page [] (omega (arith, length-replicate (length (sector_at before.image sector)) blank_page, enough))

  later_page : (page : List ℕ) (k : ℕ) → 0 < k → k < used → get_or (set (replicate (length (sector_at before.image sector)) blank_page) 0 page) k [] ≡ blank_page
  later_page page k low high = get_or-set_other blanks 0 k page [] (omega arith) ∙ get_or-replicate (length (sector_at before.image sector)) k blank_page [] (omega (arith, enough))

  -- What a begin that failed leaves: the sector is as valid as it was, or not valid.
  pub record BeginLeft (after : FlashState) : Type 0 where
    pub pages : List (List ℕ)
    pub image : after.image ≡ set before.image sector pages
    pub gates : (gates_of used pages ≡ gates_of used (sector_at before.image sector)) ⊎ (gates_of used pages ≡ Ok None)

  pub begin_left : (after : FlashState) (number : Option ℕ) → gates_of used (sector_at before.image sector) ≡ Ok number
      → TornErase before.image sector after.image ⊎ TornCode (erased before.image sector) sector 0 start after.image → BeginLeft after
  begin_left after number stood (inl erase) =
      record { pages = erase.torn; image = erase.only; gates = torn_gates used (sector_at before.image sector) erase.torn number (omega (arith, enough)) stood erase.tears }
  begin_left after number stood (inr code) = record {
    pages = set blanks 0 code.torn;
    image = code.only ∙ begun_at code.torn;
    gates = inr (not_valid used sequence fits counts (set blanks 0 code.torn)
        (ap is_spoiled (page_zero code.torn) ∙ code.unspoiled)
        (⊎_elim (λ is. inl (page_zero code.torn ∙ is)) (λ gone. inr (ap unsealed (page_zero code.torn) ∙ gone)) code.word)
        (ap is_spoiled (later_page code.torn 1 (omega arith) (omega arith)) ∙ unspoiled_blank)
        (ap unsealed (later_page code.torn 1 (omega arith) (omega arith)) ∙ unsealed_blank));
  }

  -- The start gate is there, and all after it is blank.
  pub record IsBegun (middle : FlashState) (pages : List (List ℕ)) : Type 0 where
    pub image : middle.image ≡ set before.image sector pages
    pub size : length pages ≡ length (sector_at before.image sector)
    pub stands : get_or pages 0 [] ≡ start
    pub blank : AreBlank pages 1 used

  pub is_begun : (middle : FlashState) → middle.image ≡ programmed (erased before.image sector) sector 0 start → IsBegun middle (set (replicate (length (sector_at before.image sector)) blank_page) 0 start)
  is_begun middle begun = record {
    image = begun ∙ begun_at start;
    size = length-set blanks 0 start ∙ length-replicate (length (sector_at before.image sector)) blank_page;
    stands = page_zero start;
    blank = λ k low high. later_page start k (omega arith) high;
  }
