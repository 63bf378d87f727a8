-- A look at the gates of both sectors.
use Rattle.std.proofs.Common.{◌≡◌, ⊎_elim, ℕ, ◌<◌, ◌≤◌, ◌≢◌, List, Option, Some, Result, Ok, Err, sym, ◌∙◌, ap, subst, arith}
use Rattle.std.proofs.lemmas.Bool.Decides.{nat_tests}
use Rattle.flt_flash.specs.Image.{sector_at}
use Rattle.flt_sector_model.specs.Gates.{gates_of}
use Rattle.flt_sector_model.specs.Blocks.{current, current_by, greater_of}
use Rattle.flt_pages.specs.declared.fault.PageFault.{PageFault}
use Rattle.flt_pages.specs.declared.fault.PageFault.TheVariants.{Flash, Damaged}
use Rattle.flt_pages.specs.Told.{told, TellsOrFails, GivesCurrent}

pub first_fault_told : (used : ℕ) (fault : PageFault) (first second : Result (Option ℕ) ℕ) → TellsOrFails {T = Option ℕ} (Err fault) (told 0 first) → GivesCurrent used (Err fault) (current_by first second)
first_fault_told used Flash first second tells = tt
first_fault_told used (Damaged sector page) (Ok n) second tells = ⊎_elim (λ no. absurd (cc no)) (λ no. absurd (cc no)) tells
first_fault_told used (Damaged sector page) (Err at) second tells = ⊎_elim (λ no. absurd (cc no)) (λ same. cc same) tells

-- What a sector's gates say, where they are read.
told_is : (sector : ℕ) (number : Option ℕ) (gates : Result (Option ℕ) ℕ) → TellsOrFails {T = Option ℕ} (Ok number) (told sector gates) → gates ≡ Ok number
told_is sector number (Ok n) tells = ⊎_elim (λ no. absurd (cc no)) (λ same. let e : n ≡ number = cc same in ap Ok e) tells
told_is sector number (Err page) tells = ⊎_elim (λ no. absurd (cc no)) (λ no. absurd (cc no)) tells

second_by : (used : ℕ) (one : Option ℕ) (fault : PageFault) (second : Result (Option ℕ) ℕ) → TellsOrFails {T = Option ℕ} (Err fault) (told 1 second) → GivesCurrent used (Err fault) (current_by (Ok one) second)
second_by used one Flash second tells = tt
second_by used one (Damaged sector page) (Ok n) tells = ⊎_elim (λ no. absurd (cc no)) (λ no. absurd (cc no)) tells
second_by used one (Damaged sector page) (Err at) tells = ⊎_elim (λ no. absurd (cc no)) (λ same. cc same) tells

-- The gates of the second sector are read where the image is as before.
module _ (used : ℕ) (before after : List (List (List ℕ))) (image : after ≡ before) (first second one two : Option ℕ)
    (is_first : TellsOrFails {T = Option ℕ} (Ok first) (told 0 (gates_of used (sector_at before 0)))) (first_one : first ≡ one) where
  first_is : gates_of used (sector_at before 0) ≡ Ok one
  first_is = told_is 0 first (gates_of used (sector_at before 0)) is_first ∙ ap Ok first_one

  pub second_fault_told : (fault : PageFault) → TellsOrFails {T = Option ℕ} (Err fault) (told 1 (gates_of used (sector_at after 1))) → GivesCurrent used (Err fault) (current used before)
  second_fault_told fault tells =
      subst (λ (r : Result (Option ℕ) ℕ). GivesCurrent used (Err fault) (current_by r (gates_of used (sector_at before 1)))) (sym first_is)
      (second_by used one fault (gates_of used (sector_at before 1)) (subst (λ (i : List (List (List ℕ))). TellsOrFails {T = Option ℕ} (Err fault) (told 1 (gates_of used (sector_at i 1)))) image tells))

  pub both_told : TellsOrFails {T = Option ℕ} (Ok second) (told 1 (gates_of used (sector_at after 1))) → second ≡ two → current used before ≡ greater_of one two
  both_told is_second second_two =
      let two_is : gates_of used (sector_at before 1) ≡ Ok two =
      subst (λ (i : List (List (List ℕ))). gates_of used (sector_at i 1) ≡ Ok two) image (told_is 1 second (gates_of used (sector_at after 1)) is_second ∙ ap Ok second_two) in
      ap (λ (r : Result (Option ℕ) ℕ). current_by r (gates_of used (sector_at before 1))) first_is ∙ ap (λ (r : Result (Option ℕ) ℕ). current_by (Ok one) r) two_is

-- Of two valid sectors.
pub same_told : (first second : ℕ) → first ≡ second → greater_of (Some first) (Some second) ≡ Err (1, 0)
same_told first second same = grind (arith, nat_tests)

pub second_told : (first second : ℕ) → first ≢ second → first < second → greater_of (Some first) (Some second) ≡ Ok (Some (record { sector = 1; sequence = second }))
second_told first second other more = grind (arith, nat_tests)

pub first_told : (first second : ℕ) → first ≢ second → second ≤ first → greater_of (Some first) (Some second) ≡ Ok (Some (record { sector = 0; sequence = first }))
first_told first second other more = grind (arith, nat_tests)
