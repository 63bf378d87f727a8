-- Tearing: what nothing touched stays, and a torn image is torn at one page or sector alone.
use Rattle.std.proofs.Common.{◌≡◌, inl, inr, ⊎_elim, ℕ, ◌<◌, List, [], length, get_or, set, length-set, get_or-set_same, get_or-set_other, sym, ◌∙◌, subst, arith}
use Rattle.std.proofs.lemmas.List.{ext_get_or}
use Rattle.std.proofs.lemmas.Bool.{cases_eq}
use Rattle.std.proofs.lemmas.Nat.Bits.{same_from_bits}
use Rattle.flt_flash.specs.Tearing.{IsTornByte, IsTornPage, IsTornSector, IsTorn}

pub same_byte : (before torn : ℕ) → IsTornByte before before torn → torn ≡ before
same_byte before torn bits = same_from_bits torn before (λ bit. ⊎_elim (λ e. e) (λ e. e) (bits bit))

pub same_page : (before torn : List ℕ) → IsTornPage before before torn → torn ≡ before
same_page before torn is = ext_get_or 0 torn before is.size (λ byte lt. same_byte _ _ (is.bytes byte (omega (arith, is.size))))

pub same_sector : (before torn : List (List ℕ)) → IsTornSector before before torn → torn ≡ before
same_sector before torn is = ext_get_or [] torn before is.size (λ page lt. same_page _ _ (is.pages page (omega (arith, is.size))))

-- One page of a sector.
module _ (pages : List (List ℕ)) (page : ℕ) (within : page < length pages) (bytes : List ℕ) where
  -- The torn page of a torn sector.
  pub torn_page_of : (new : List (List ℕ)) → IsTornSector pages (set pages page bytes) new → (torn : List ℕ) × IsTornPage (get_or pages page []) bytes torn × (new ≡ set pages page torn)
  torn_page_of new is =
      let here = is.pages page within in (
        get_or new page [],
        subst (λ p. IsTornPage (get_or pages page []) p (get_or new page [])) (get_or-set_same pages page bytes [] within) here,
        ext_get_or [] new (set pages page (get_or new page [])) (is.size ∙ sym (length-set pages page (get_or new page []))) (λ k lt. elim (cases_eq k page) [
          | inl same ↦ rw same (sym (get_or-set_same pages page (get_or new page []) [] within))
          | inr other ↦
              same_page (get_or pages k []) (get_or new k [])
              (subst (λ p. IsTornPage (get_or pages k []) p (get_or new k [])) (get_or-set_other pages page k bytes [] other) (is.pages k (omega (arith, is.size))))
              ∙ sym (get_or-set_other pages page k (get_or new page []) [] other)
        ]),
      )

-- One sector of an image.
module _ (image : List (List (List ℕ))) (sector : ℕ) (within : sector < length image) (after : List (List ℕ)) where
  pub torn_sector_of : (new : List (List (List ℕ))) → IsTorn image (set image sector after) new → (torn : List (List ℕ)) × IsTornSector (get_or image sector []) after torn × (new ≡ set image sector torn)
  torn_sector_of new is =
      let here = is.sectors sector within in (
        get_or new sector [],
        subst (λ p. IsTornSector (get_or image sector []) p (get_or new sector [])) (get_or-set_same image sector after [] within) here,
        ext_get_or [] new (set image sector (get_or new sector [])) (is.size ∙ sym (length-set image sector (get_or new sector []))) (λ k lt. elim (cases_eq k sector) [
          | inl same ↦ rw same (sym (get_or-set_same image sector (get_or new sector []) [] within))
          | inr other ↦
              same_sector (get_or image k []) (get_or new k [])
              (subst (λ p. IsTornSector (get_or image k []) p (get_or new k [])) (get_or-set_other image sector k after [] other) (is.sectors k (omega (arith, is.size))))
              ∙ sym (get_or-set_other image sector k (get_or new sector []) [] other)
        ]),
      )
