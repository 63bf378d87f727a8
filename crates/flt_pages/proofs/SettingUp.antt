-- The steps of setting up a flash of which no sector is valid.
use Rattle.std.proofs.Common.{◌≡◌, ◌⊎◌, ⊎_elim, inl, inr, ◌<◌, ◌≤◌, ◌^◌, ℕ, Bool, true, false, List, [], get_or, set, replicate, length, get_or-set_same, get_or-set_other, Option, Some, None, Result, Ok, Err, refl, ◌∙◌, ap, arith}
use Rattle.std.specs.Prelude.{OnOk, ◌==◌, nat_lt}
use Rattle.std.proofs.lemmas.List.{set-set}
use Rattle.flt_flash.specs.Image.{sector_at, programmed, erased, blank_page}
use Rattle.flt_flash.specs.State.{FlashState, HasShape}
use Rattle.flt_flash.specs.declared.flash.FlashFailed.{FlashFailed}
use Rattle.flt_code.specs.Seal.{sealed}
use Rattle.flt_code.specs.Word.{word_bytes}
use Rattle.flt_code.specs.declared.words.Word.TheVariants.{Start, Active}
use Rattle.flt_sector_model.specs.Gates.{gates_of}
use Rattle.flt_sector_model.specs.Blocks.{current, current_by, greater_of}
use Rattle.flt_pages.specs.Append.{TornCode, TornErase, Appends}
use Rattle.flt_pages.proofs.TornGates.{chosen}
use Rattle.flt_pages.specs.SetUp.{IsFresh, HoldsNothing}
use Rattle.flt_pages.proofs.Beginning.{made_active, not_active, begin_left, is_begun}

none_valid : (first second : Result (Option ℕ) ℕ) → current_by first second ≡ Ok None → (first ≡ Ok None) × (second ≡ Ok None)
none_valid (Ok None) (Ok None) is = (refl, refl)
none_valid (Ok None) (Ok (Some m)) is = absurd (cc is)
none_valid (Ok (Some n)) (Ok None) is = absurd (cc is)
none_valid (Ok (Some n)) (Ok (Some m)) is = absurd (by_tests (n == m) (nat_lt n m) is)
  where
    by_tests : (same less : Bool) → chosen n m same less ≡ Ok None → ⊥
    by_tests true less told = cc told
    by_tests false true told = cc told
    by_tests false false told = cc told
none_valid (Ok n) (Err page) is = absurd (cc is)
none_valid (Err page) second is = absurd (cc is)

module _ (used : ℕ) (least : 4 ≤ used) (fits : used < 2 ^ 16) (before : FlashState) (shape : HasShape before) (most : used ≤ before.pages) (none : current used before.image ≡ Ok None) where
  abbrev start : List ℕ
  start = sealed (word_bytes (Start 1 used))

  abbrev active : List ℕ
  active = sealed (word_bytes (Active 1))

  both : (gates_of used (sector_at before.image 0) ≡ Ok None) × (gates_of used (sector_at before.image 1) ≡ Ok None)
  both = none_valid (gates_of used (sector_at before.image 0)) (gates_of used (sector_at before.image 1)) none

  -- The image with other pages in the first sector.
  current_is : (pages : List (List ℕ)) (number : Option ℕ) → gates_of used pages ≡ Ok number → current used (set before.image 0 pages) ≡ greater_of number None
  current_is pages number is =
      (λ i. current_by (gates_of used (get_or-set_same before.image 0 pages [] (omega (arith, shape.sectors)) i)) (gates_of used (get_or-set_other before.image 0 1 pages [] (omega arith) i)))
      ∙ (λ i. current_by (is i) (both.1 i))

  pub begin_failed : (after : FlashState) → TornErase before.image 0 after.image ⊎ TornCode (erased before.image 0) 0 0 start after.image → current used after.image ≡ Ok None
  begin_failed after torn =
      let left = begin_left used 1 (omega arith) fits (omega arith) before shape 0 (omega arith) most after None both.0 torn in
      ap (current used) left.image ∙ current_is left.pages None (⊎_elim (λ same. same ∙ both.0) (λ gone. gone) left.gates)

  -- The start gate is there.
  module _ (middle : FlashState) (begun : middle.image ≡ programmed (erased before.image 0) 0 0 start) where
    abbrev pages : List (List ℕ)
    pages = set (replicate (length (sector_at before.image 0)) blank_page) 0 start

    middle_image : middle.image ≡ set before.image 0 (set (replicate (length (sector_at before.image 0)) blank_page) 0 (sealed (word_bytes (Start 1 used))))
    middle_image = (is_begun used 1 (omega arith) fits (omega arith) before shape 0 (omega arith) most middle begun).image

    middle_pages : sector_at middle.image 0 ≡ set (replicate (length (sector_at before.image 0)) blank_page) 0 (sealed (word_bytes (Start 1 used)))
    middle_pages = ap (λ (image : List (List (List ℕ))). sector_at image 0) middle_image ∙ get_or-set_same before.image 0 pages [] (omega (arith, shape.sectors))

    laid : (page : List ℕ) → programmed middle.image 0 1 page ≡ set before.image 0 (set (set (replicate (length (sector_at before.image 0)) blank_page) 0 (sealed (word_bytes (Start 1 used)))) 1 page)
    laid page = (λ i. set (middle_image i) 0 (set (middle_pages i) 1 page)) ∙ set-set before.image 0 pages (set pages 1 page)

    room : 1 < length (set (replicate (length (sector_at before.image 0)) blank_page) 0 (sealed (word_bytes (Start 1 used))))
    room = omega (arith, (is_begun used 1 (omega arith) fits (omega arith) before shape 0 (omega arith) most middle begun).size, shape.pages 0 (omega arith))

    stands : get_or (set (replicate (length (sector_at before.image 0)) blank_page) 0 (sealed (word_bytes (Start 1 used)))) 0 [] ≡ sealed (word_bytes (Start 1 used))
    stands = (is_begun used 1 (omega arith) fits (omega arith) before shape 0 (omega arith) most middle begun).stands

    fresh_by : (after : FlashState) → after.image ≡ programmed middle.image 0 1 active → IsFresh used after.image
    fresh_by after is =
        let image = is ∙ laid active in
        record {
          current = ap (current used) image ∙ current_is (set pages 1 active) (Some 1) (made_active used 1 fits (omega arith) pages room stands);
          blank = λ k low high.
              ap (λ (i : List (List (List ℕ))). get_or (sector_at i 0) k []) image
              ∙ ap (λ (p : List (List ℕ)). get_or p k []) (get_or-set_same before.image 0 (set pages 1 active) [] (omega (arith, shape.sectors)))
              ∙ get_or-set_other pages 1 k active [] (omega arith) ∙ (is_begun used 1 (omega arith) fits (omega arith) before shape 0 (omega arith) most middle begun).blank k (omega arith) high;
        }

    pub activated_fresh : (after : FlashState) (result : Result (Unit {0}) FlashFailed) → Appends middle after 0 1 active result → HoldsNothing used after.image
    activated_fresh after (Ok x) is = inr (fresh_by after is.holds_asked)
    activated_fresh after (Err e) is = ⊎_elim
        (λ whole. inr (fresh_by after (is.torn.only ∙ ap (programmed middle.image 0 1) whole)))
        (λ gone. inl (ap (current used) (is.torn.only ∙ laid is.torn.torn) ∙ current_is (set pages 1 is.torn.torn) None (not_active used 1 fits (omega arith) pages room stands is.torn.torn is.torn.unspoiled gone))) is.torn.word

    pub done_fresh : (after : FlashState) (result : Result (Unit {0}) FlashFailed) → Appends middle after 0 1 active result → OnOk result (IsFresh used after.image)
    done_fresh after (Ok x) is = fresh_by after is.holds_asked
    done_fresh after (Err e) is = tt

pub wear_on : {fact : Type 0} (result : Result (Unit {0}) FlashFailed) → fact → OnOk result fact
wear_on (Ok x) is = is
wear_on (Err e) is = tt
