-- A pattern tears: each bit is as before or as after, and where nothing takes effect nothing changes.
use Rattle.std.proofs.Common.{◌≡◌, ◌⊎◌, inl, inr, ℕ, List, [], length, Bool, true, false, arith}
use Rattle.std.specs.Prelude.{if◌then◌else◌, nat_le, replicate}
use Rattle.std.proofs.lemmas.List.{ext_get_or, get_or-replicate}
use Rattle.std.proofs.lemmas.Nat.Bits.{same_from_bits}
use Rattle.flt_flash.specs.declared.arm.Pattern.{Pattern}
use Rattle.flt_flash.specs.declared.arm.Pattern.TheVariants.{Nothing}
use Rattle.flt_flash.specs.Image.{blank_page}
use Rattle.flt_flash.specs.Tearing.{IsTornPage, IsTornSector}
use Rattle.flt_flash.specs.Arms.{IsTornPageBy, IsErasedBy, takes_effect}

either : (b : Bool) (x y z : ℕ) → z ≡ (if b then y else x) → (z ≡ x) ⊎ (z ≡ y)
either true x y z is = inr is
either false x y z is = inl is

pub torn_page_by : (pattern : Pattern) (tail : ℕ) (before after torn : List ℕ) → IsTornPageBy pattern tail before after torn → IsTornPage before after torn
torn_page_by pattern tail before after torn is = record {
  size = is.size;
  bytes = λ byte lt bit. either (takes_effect pattern (nat_le tail byte) bit) _ _ _ (is.bytes byte lt bit);
}

pub untouched_page : (tail : ℕ) (before after torn : List ℕ) → IsTornPageBy Nothing tail before after torn → torn ≡ before
untouched_page tail before after torn is = ext_get_or 0 torn before is.size (λ byte lt. same_from_bits _ _ (is.bytes byte (omega (arith, is.size))))

pub untouched_sector : (before torn : List (List ℕ)) → IsErasedBy Nothing before torn → torn ≡ before
untouched_sector before torn is = ext_get_or [] torn before is.size (λ page lt. untouched_page _ _ _ _ (is.pages page (omega (arith, is.size))))

pub torn_sector_by : (pattern : Pattern) (before torn : List (List ℕ)) → IsErasedBy pattern before torn → IsTornSector before (replicate (length before) blank_page) torn
torn_sector_by pattern before torn is = record {
  size = is.size;
  pages = λ page lt. rw (get_or-replicate (length before) page blank_page [] lt) (torn_page_by pattern _ _ _ _ (is.pages page lt));
}
