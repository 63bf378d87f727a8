-- A device in memory fails by a pattern: what it answers, and one of its sectors torn.
use Rattle.std.proofs.Common.{◌≡◌, inl, inr, ℕ, ◌<◌, List, [], length, get_or, set, length-set, get_or-set_same, get_or-set_other, refl}
use Rattle.std.specs.Prelude.{Option, None, Some, Result, Ok, Err, is_some, is_err, OnSome, OnErr}
use Rattle.std.proofs.lemmas.Bool.{cases_eq}
use Rattle.flt_flash.specs.declared.arm.Pattern.{Pattern}
use Rattle.flt_flash.specs.declared.flash.FlashFailed.{FlashFailed}
use Rattle.flt_flash.specs.Tearing.{IsTornSector, IsTorn}

-- What is torn by a pattern is torn where the answer is an error.
torn_answer : {P Q : Type 0} (failing : Option Pattern) (result : Result (Unit {0}) FlashFailed) → is_err result ≡ is_some failing → (P → Q) → OnSome failing P → OnErr result Q
torn_answer None (Ok done) same to torn = tt
torn_answer None (Err failed) same to torn = absurd (cc same)
torn_answer (Some pattern) (Ok done) same to torn = tt
torn_answer (Some pattern) (Err failed) same to torn = to torn

-- One sector of an image is torn, and the others are as they were.
torn_sector_in : (image : List (List (List ℕ))) (sector : ℕ) → sector < length image → (after torn : List (List ℕ)) → IsTornSector (get_or image sector []) after torn
    → IsTorn image (set image sector after) (set image sector torn)
torn_sector_in image sector within after torn is = record { size = length-set image sector torn; sectors = each }
  where
    as_before : (pages : List (List ℕ)) → IsTornSector pages pages pages
    as_before pages = record { size = refl; pages = λ page lt. record { size = refl; bytes = λ byte lt bit. inl refl } }

    each : (k : ℕ) → k < length image → IsTornSector (get_or image k []) (get_or (set image sector after) k []) (get_or (set image sector torn) k [])
    each k lt = elim (cases_eq k sector) [
      | inl same ↦ rw (same, get_or-set_same image sector after [] within, get_or-set_same image sector torn [] within) is
      | inr other ↦ rw (get_or-set_other image sector k after [] other, get_or-set_other image sector k torn [] other) (as_before (get_or image k []))
    ]

-- A change of one sector that fails by a pattern leaves a torn image.
pub torn_in : (change : List (List ℕ) → List (List ℕ)) (image : List (List (List ℕ))) (failing : Option Pattern) (result : Result (Unit {0}) FlashFailed) → is_err result ≡ is_some failing
    → (sector : ℕ) → sector < length image → (torn : List (List ℕ)) → OnSome failing (IsTornSector (get_or image sector []) (change (get_or image sector [])) torn)
    → OnErr result (IsTorn image (set image sector (change (get_or image sector []))) (set image sector torn))
torn_in change image failing result same sector within torn = torn_answer failing result same (torn_sector_in image sector within (change (get_or image sector [])) torn)
