-- What an image means while its sectors are switched.
use Rattle.std.proofs.Common.{◌≡◌, ◌≢◌, ◌⊎◌, ⊎_elim, inl, inr, ◌+◌, ◌-◌, ◌<◌, ◌≤◌, ◌^◌, ℕ, zero, suc, Bool, true, false, List, [], get_or, set, replicate, length, length-set, get_or-set_same, get_or-set_other, Option, Some, None, Result, Ok, Err, refl, sym, ◌∙◌, ap, subst, arith}
use Rattle.std.specs.Prelude.{◌==◌, nat_lt}
use Rattle.std.proofs.lemmas.Bool.{ne_eqb, lt-ltb, le-ltb}
use Rattle.std.proofs.lemmas.List.{set-set}
use Rattle.flt_flash.specs.Image.{sector_at, page_at, programmed, erased, blank_page}
use Rattle.flt_flash.specs.Content.{Content}
use Rattle.flt_flash.specs.State.{FlashState, HasShape}
use Rattle.flt_flash.specs.declared.flash.FlashFailed.{FlashFailed}
use Rattle.flt_code.specs.Seal.{sealed}
use Rattle.flt_code.specs.Word.{word_bytes}
use Rattle.flt_code.specs.declared.words.Word.TheVariants.{Start, Active}
use Rattle.flt_sector_model.specs.Gates.{gates_of}
use Rattle.flt_sector_model.specs.Log.{log}
use Rattle.flt_sector_model.specs.Blocks.{Current, current, current_by}
use Rattle.flt_pages.specs.Append.{TornCode, TornErase, Appends}
use Rattle.flt_pages.specs.Blank.{AreBlank}
use Rattle.flt_pages.specs.LogHolds.{LogHolds, StandsAt}
use Rattle.flt_pages.specs.Live.{held_in}
use Rattle.flt_pages.specs.Told.{current_of}
use Rattle.flt_pages.specs.Recorded.{OnSector}
use Rattle.flt_pages.specs.declared.current.CurrentSector.{CurrentSector}
use Rattle.flt_pages.specs.declared.place.RecordPlace.{RecordPlace}
use Rattle.flt_pages.specs.RecordPlace.{TellsPlaces}
use Rattle.flt_pages.proofs.Telling.{still_tells}
use Rattle.flt_pages.proofs.LogAppended.{held_same}
use Rattle.flt_pages.proofs.Recording.{pages_on}
use Rattle.flt_pages.proofs.TornGates.{chosen, the_sector, first_alone, second_alone}
use Rattle.flt_pages.specs.Switch.{KeepsGates, GivesValues}
use Rattle.flt_pages.proofs.Beginning.{made_active, not_active, start_alone, begin_left, is_begun}

abbrev the_sequence : Result (Option Current) (ℕ × ℕ) → ℕ
the_sequence (Ok (Some at)) = at.sequence
the_sequence (Ok None) = 0
the_sequence (Err place) = 0

-- The gates of both sectors are without a fault where the image has a current one.
both_fine : (first second : Result (Option ℕ) ℕ) (at : Current) → current_by first second ≡ Ok (Some at) → ((one : Option ℕ) × (first ≡ Ok one)) × ((two : Option ℕ) × (second ≡ Ok two))
both_fine (Ok one) (Ok two) at is = ((one, refl), (two, refl))
both_fine (Ok one) (Err page) at is = absurd (cc is)
both_fine (Err page) second at is = absurd (cc is)

-- The current sector's own gates name its number.
first_number : (first second : Result (Option ℕ) ℕ) (sequence : ℕ) → current_by first second ≡ Ok (Some record { sector = 0; sequence = sequence }) → first ≡ Ok (Some sequence)
first_number (Err page) second sequence is = absurd (cc is)
first_number (Ok one) (Err page) sequence is = absurd (cc is)
first_number (Ok None) (Ok None) sequence is = absurd (cc is)
first_number (Ok (Some n)) (Ok None) sequence is = ap (λ m. Ok (Some m)) (ap the_sequence is)
first_number (Ok None) (Ok (Some m)) sequence is = absurd (cc (ap the_sector is))
first_number (Ok (Some n)) (Ok (Some m)) sequence is = by_tests (n == m) (nat_lt n m) is
  where
    by_tests : (same less : Bool) → chosen n m same less ≡ Ok (Some record { sector = 0; sequence = sequence }) → ◌≡◌ {A = Result (Option ℕ) ℕ} (Ok (Some n)) (Ok (Some sequence))
    by_tests true less told = absurd (cc told)
    by_tests false true told = absurd (cc (ap the_sector told))
    by_tests false false told = ap (λ k. Ok (Some k)) (ap the_sequence told)

second_number : (first second : Result (Option ℕ) ℕ) (sequence : ℕ) → current_by first second ≡ Ok (Some record { sector = 1; sequence = sequence }) → second ≡ Ok (Some sequence)
second_number (Err page) second sequence is = absurd (cc is)
second_number (Ok one) (Err page) sequence is = absurd (cc is)
second_number (Ok None) (Ok None) sequence is = absurd (cc is)
second_number (Ok None) (Ok (Some m)) sequence is = ap (λ k. Ok (Some k)) (ap the_sequence is)
second_number (Ok (Some n)) (Ok None) sequence is = absurd (cc (ap the_sector is))
second_number (Ok (Some n)) (Ok (Some m)) sequence is = by_tests (n == m) (nat_lt n m) is
  where
    by_tests : (same less : Bool) → chosen n m same less ≡ Ok (Some record { sector = 1; sequence = sequence }) → ◌≡◌ {A = Result (Option ℕ) ℕ} (Ok (Some m)) (Ok (Some sequence))
    by_tests true less told = absurd (cc told)
    by_tests false true told = ap (λ k. Ok (Some k)) (ap the_sequence told)
    by_tests false false told = absurd (cc (ap the_sector told))

-- Of two numbers the greater one, beside the one before it.
second_greater : (n : ℕ) → current_by (Ok (Some n)) (Ok (Some (n + 1))) ≡ Ok (Some record { sector = 1; sequence = n + 1 })
second_greater n = λ i. chosen n (n + 1) (ne_eqb n (n + 1) (λ e. omega (arith, e)) i) (lt-ltb n (n + 1) (omega arith) i)

first_greater : (n : ℕ) → current_by (Ok (Some (n + 1))) (Ok (Some n)) ≡ Ok (Some record { sector = 0; sequence = n + 1 })
first_greater n = λ i. chosen (n + 1) n (ne_eqb (n + 1) n (λ e. omega (arith, e)) i) (le-ltb (n + 1) n (omega arith) i)

-- The image with other pages in the sector that is not the current one.
module _ (used : ℕ) (image : List (List (List ℕ))) (two : length image ≡ 2) (sequence : ℕ) (pages : List (List ℕ)) where
  first_is : current used (set image 1 pages) ≡ current_by (gates_of used (sector_at image 0)) (gates_of used pages)
  first_is = λ i. current_by (gates_of used (get_or-set_other image 1 0 pages [] (omega arith) i)) (gates_of used (get_or-set_same image 1 pages [] (omega (arith, two)) i))

  second_is : current used (set image 0 pages) ≡ current_by (gates_of used pages) (gates_of used (sector_at image 1))
  second_is = λ i. current_by (gates_of used (get_or-set_same image 0 pages [] (omega (arith, two)) i)) (gates_of used (get_or-set_other image 0 1 pages [] (omega arith) i))

  -- The current sector stays so where the other is as valid as it was, or not valid.
  pub current_stays : (sector : ℕ) → sector < 2 → current used image ≡ Ok (Some record { sector = sector; sequence = sequence })
      → (gates_of used pages ≡ gates_of used (sector_at image (1 - sector))) ⊎ (gates_of used pages ≡ Ok None) → current used (set image (1 - sector) pages) ≡ Ok (Some record { sector = sector; sequence = sequence })
  current_stays zero within is (inl same) = first_is ∙ ap (current_by (gates_of used (sector_at image 0))) same ∙ is
  current_stays zero within is (inr gone) =
      first_is ∙ ap (current_by (gates_of used (sector_at image 0))) gone ∙ first_alone (gates_of used (sector_at image 0)) (gates_of used (sector_at image 1)) sequence is
  current_stays (suc zero) within is (inl same) = second_is ∙ ap (λ (g : Result (Option ℕ) ℕ). current_by g (gates_of used (sector_at image 1))) same ∙ is
  current_stays (suc zero) within is (inr gone) =
      second_is ∙ ap (λ (g : Result (Option ℕ) ℕ). current_by g (gates_of used (sector_at image 1))) gone ∙ second_alone (gates_of used (sector_at image 0)) (gates_of used (sector_at image 1)) sequence is
  current_stays (suc (suc sector)) within is gates = absurd (omega arith)

  -- And with the next number in the other sector that one is the current one.
  pub current_goes : (sector : ℕ) → sector < 2 → current used image ≡ Ok (Some record { sector = sector; sequence = sequence }) → gates_of used pages ≡ Ok (Some (sequence + 1))
      → current used (set image (1 - sector) pages) ≡ Ok (Some record { sector = 1 - sector; sequence = sequence + 1 })
  current_goes zero within is next =
      first_is ∙ (λ i. current_by (first_number (gates_of used (sector_at image 0)) (gates_of used (sector_at image 1)) sequence is i) (next i)) ∙ second_greater sequence
  current_goes (suc zero) within is next =
      second_is ∙ (λ i. current_by (next i) (second_number (gates_of used (sector_at image 0)) (gates_of used (sector_at image 1)) sequence is i)) ∙ first_greater sequence
  current_goes (suc (suc sector)) within is next = absurd (omega arith)

  pub other_fine : (sector : ℕ) → sector < 2 → current used image ≡ Ok (Some record { sector = sector; sequence = sequence }) → (number : Option ℕ) × (gates_of used (sector_at image (1 - sector)) ≡ Ok number)
  other_fine zero within is = (both_fine (gates_of used (sector_at image 0)) (gates_of used (sector_at image 1)) (record { sector = 0; sequence = sequence }) is).1
  other_fine (suc zero) within is = (both_fine (gates_of used (sector_at image 0)) (gates_of used (sector_at image 1)) (record { sector = 1; sequence = sequence }) is).0
  other_fine (suc (suc sector)) within is = absurd (omega arith)

-- A switch.
module _ (at : CurrentSector) (numbers : List ℕ) (before : FlashState) (shape : HasShape before) (least : 4 ≤ at.used) (fits : at.used < 2 ^ 16) (most : at.used ≤ before.pages)
    (now : current at.used before.image ≡ Ok (Some (current_of at))) (fine : (log at.used numbers (sector_at before.image at.sector)).fault ≡ None) (next : at.sequence + 1 < 2 ^ 32) where
  abbrev value : ℕ → Content
  value = held_in at.used numbers (sector_at before.image at.sector)

  abbrev start : List ℕ
  start = sealed (word_bytes (Start (at.sequence + 1) at.used))

  abbrev active : List ℕ
  active = sealed (word_bytes (Active (at.sequence + 1)))

  in_other : 1 - at.sector < 2
  in_other = omega arith

  apart : at.sector ≢ 1 - at.sector
  apart e = omega (arith, e, at.one_of_two)

  holds_now : LogHolds at.used numbers (sector_at before.image at.sector) (log at.used numbers (sector_at before.image at.sector)).end (held_in at.used numbers (sector_at before.image at.sector))
  holds_now = record {
    entries = (log at.used numbers (sector_at before.image at.sector)).entries;
    is = λ i. record { entries = (log at.used numbers (sector_at before.image at.sector)).entries; end = (log at.used numbers (sector_at before.image at.sector)).end; fault = fine i };
    gives = λ block. refl;
  }

  -- Whatever is in the other sector, while it is not valid or as valid as it was.
  pub keeps_old : (after : List (List (List ℕ))) (pages : List (List ℕ)) → after ≡ set before.image (1 - at.sector) pages
      → (gates_of at.used pages ≡ gates_of at.used (sector_at before.image (1 - at.sector))) ⊎ (gates_of at.used pages ≡ Ok None) → GivesValues at.used numbers after (held_in at.used numbers (sector_at before.image at.sector))
  keeps_old after pages is gates =
      let same = ap (λ (image : List (List (List ℕ))). sector_at image at.sector) is ∙ get_or-set_other before.image (1 - at.sector) at.sector pages [] apart in
      record {
        sector = at.sector;
        sequence = at.sequence;
        end = (log at.used numbers (sector_at before.image at.sector)).end;
        stands = record {
          current = ap (current at.used) is ∙ current_stays at.used before.image shape.sectors at.sequence pages at.sector at.one_of_two now gates;
          holds = subst (λ (p : List (List ℕ)). LogHolds at.used numbers p (log at.used numbers (sector_at before.image at.sector)).end (held_in at.used numbers (sector_at before.image at.sector))) (sym same) holds_now;
        };
      }

  pub switch_unbegun : (after : FlashState) → TornErase before.image (1 - at.sector) after.image ⊎ TornCode (erased before.image (1 - at.sector)) (1 - at.sector) 0 start after.image
      → GivesValues at.used numbers after.image (held_in at.used numbers (sector_at before.image at.sector))
  switch_unbegun after torn =
      let fine_there = other_fine at.used before.image shape.sectors at.sequence [] at.sector at.one_of_two now in
      let left = begin_left at.used (at.sequence + 1) (omega arith) fits next before shape (1 - at.sector) in_other most after fine_there.0 fine_there.1 torn in
      keeps_old after.image left.pages left.image left.gates

  -- The other sector is begun.
  module _ (middle : FlashState) (shape_middle : HasShape middle) (begun : middle.image ≡ programmed (erased before.image (1 - at.sector)) (1 - at.sector) 0 start) where
    abbrev first_pages : List (List ℕ)
    first_pages = set (replicate (length (sector_at before.image (1 - at.sector))) blank_page) 0 start

    middle_image : middle.image ≡ set before.image (1 - at.sector) (set (replicate (length (sector_at before.image (1 - at.sector))) blank_page) 0 (sealed (word_bytes (Start (at.sequence + 1) at.used))))
    middle_image = (is_begun at.used (at.sequence + 1) (omega arith) fits next before shape (1 - at.sector) in_other most middle begun).image

    middle_pages : sector_at middle.image (1 - at.sector) ≡ set (replicate (length (sector_at before.image (1 - at.sector))) blank_page) 0 (sealed (word_bytes (Start (at.sequence + 1) at.used)))
    middle_pages = ap (λ (image : List (List (List ℕ))). sector_at image (1 - at.sector)) middle_image ∙ get_or-set_same before.image (1 - at.sector) first_pages [] (omega (arith, shape.sectors, in_other))

    pub source_stays : sector_at middle.image at.sector ≡ sector_at before.image at.sector
    source_stays = ap (λ (image : List (List (List ℕ))). sector_at image at.sector) middle_image ∙ get_or-set_other before.image (1 - at.sector) at.sector first_pages [] apart

    pub begun_blank : AreBlank (sector_at middle.image (1 - at.sector)) 2 at.used
    begun_blank k low high =
        ap (λ (p : List (List ℕ)). get_or p k []) middle_pages
        ∙ (is_begun at.used (at.sequence + 1) (omega arith) fits next before shape (1 - at.sector) in_other most middle begun).blank k (omega arith) high

    -- The records are copied, or some of them.
    module _ (full : FlashState) (pages : List (List ℕ)) (on : OnSector middle full (1 - at.sector) pages) (gates : KeepsGates (sector_at middle.image (1 - at.sector)) pages) where
      full_image : full.image ≡ set before.image (1 - at.sector) pages
      full_image = on.image ∙ ap (λ (image : List (List (List ℕ))). set image (1 - at.sector) pages) middle_image ∙ set-set before.image (1 - at.sector) first_pages pages

      stands : get_or pages 0 [] ≡ sealed (word_bytes (Start (at.sequence + 1) at.used))
      stands = gates.before 0 (omega arith) ∙ ap (λ (p : List (List ℕ)). get_or p 0 []) middle_pages
          ∙ (is_begun at.used (at.sequence + 1) (omega arith) fits next before shape (1 - at.sector) in_other most middle begun).stands

      blank : get_or pages 1 [] ≡ blank_page
      blank = gates.before 1 (omega arith) ∙ ap (λ (p : List (List ℕ)). get_or p 1 []) middle_pages
          ∙ (is_begun at.used (at.sequence + 1) (omega arith) fits next before shape (1 - at.sector) in_other most middle begun).blank 1 (omega arith) (omega arith)

      room : 1 < length pages
      room = omega (arith, gates.size, ap length middle_pages, (is_begun at.used (at.sequence + 1) (omega arith) fits next before shape (1 - at.sector) in_other most middle begun).size, shape.pages (1 - at.sector) in_other)

      pub keeps_inactive : GivesValues at.used numbers full.image (held_in at.used numbers (sector_at before.image at.sector))
      keeps_inactive = keeps_old full.image pages full_image (inr (start_alone at.used (at.sequence + 1) fits next pages room stands blank))

      full_pages : sector_at full.image (1 - at.sector) ≡ pages
      full_pages = pages_on middle full (1 - at.sector) pages shape_middle in_other on

      pub active_blank : page_at full.image (1 - at.sector) 1 ≡ blank_page
      active_blank = ap (λ (p : List (List ℕ)). get_or p 1 []) full_pages ∙ blank

      laid : (page : List ℕ) → programmed full.image (1 - at.sector) 1 page ≡ set before.image (1 - at.sector) (set pages 1 page)
      laid page = (λ i. set (full_image i) (1 - at.sector) (set (full_pages i) 1 page)) ∙ set-set before.image (1 - at.sector) pages (set pages 1 page)

      -- The active gate is there.
      pub goes_over : (end : ℕ) → LogHolds at.used numbers pages end (held_in at.used numbers (sector_at before.image at.sector)) → (after : FlashState) → after.image ≡ programmed full.image (1 - at.sector) 1 active
          → StandsAt at.used numbers after.image (1 - at.sector) (at.sequence + 1) end (held_in at.used numbers (sector_at before.image at.sector))
      goes_over end holds after is =
          let image = is ∙ laid active in
          let there = ap (λ (i : List (List (List ℕ))). sector_at i (1 - at.sector)) image ∙ get_or-set_same before.image (1 - at.sector) (set pages 1 active) [] (omega (arith, shape.sectors, in_other)) in
          record {
            current = ap (current at.used) image
                ∙ current_goes at.used before.image shape.sectors at.sequence (set pages 1 active) at.sector at.one_of_two now (made_active at.used (at.sequence + 1) fits next pages room stands);
            holds = subst (λ (p : List (List ℕ)). LogHolds at.used numbers p end (held_in at.used numbers (sector_at before.image at.sector))) (sym there)
                (held_same at.used numbers pages (set pages 1 active) end value (omega arith) (length-set pages 1 active) (λ k low. get_or-set_other pages 1 k active [] (omega arith)) holds);
          }

      -- And the table of the copies gives what it holds.
      pub table_over : (end : ℕ) (places : List (Option RecordPlace)) → TellsPlaces numbers places (sector_at full.image (1 - at.sector)) end (held_in at.used numbers (sector_at middle.image at.sector)) → (after : FlashState)
          → after.image ≡ programmed full.image (1 - at.sector) 1 active → TellsPlaces numbers places (sector_at after.image (1 - at.sector)) end (held_in at.used numbers (sector_at before.image at.sector))
      table_over end places tells after is =
          let image = is ∙ laid active in
          let there = ap (λ (i : List (List (List ℕ))). sector_at i (1 - at.sector)) image ∙ get_or-set_same before.image (1 - at.sector) (set pages 1 active) [] (omega (arith, shape.sectors, in_other)) in
          subst (λ (p : List (List ℕ)). TellsPlaces numbers places p end (held_in at.used numbers (sector_at before.image at.sector))) (sym there)
          (still_tells pages (set pages 1 active) end (length-set pages 1 active) (λ k low lt. get_or-set_other pages 1 k active [] (omega arith)) numbers places value
          (subst (λ (p : List (List ℕ)). TellsPlaces numbers places p end (held_in at.used numbers (sector_at before.image at.sector))) full_pages
          (subst (λ (p : List (List ℕ)). TellsPlaces numbers places (sector_at full.image (1 - at.sector)) end (held_in at.used numbers p)) source_stays tells)))

      pub activation_left : (end : ℕ) → LogHolds at.used numbers pages end (held_in at.used numbers (sector_at before.image at.sector)) → (after : FlashState) (result : Result (Unit {0}) FlashFailed)
          → Appends full after (1 - at.sector) 1 active result → GivesValues at.used numbers after.image (held_in at.used numbers (sector_at before.image at.sector))
      activation_left end holds after (Ok x) is = record { sector = 1 - at.sector; sequence = at.sequence + 1; end = end; stands = goes_over end holds after is.holds_asked }
      activation_left end holds after (Err e) is = ⊎_elim
          (λ whole. record { sector = 1 - at.sector; sequence = at.sequence + 1; end = end; stands = goes_over end holds after (is.torn.only ∙ ap (programmed full.image (1 - at.sector) 1) whole) })
          (λ gone. keeps_old after.image (set pages 1 is.torn.torn) (is.torn.only ∙ laid is.torn.torn) (inr (not_active at.used (at.sequence + 1) fits next pages room stands is.torn.torn is.torn.unspoiled gone))) is.torn.word
