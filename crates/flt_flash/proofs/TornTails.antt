-- What a torn byte is, and where the tails of an erase and of a program begin.
use Rattle.std.proofs.Common.{◌≡◌, ◌<◌, ℕ, Bool, true, false, List, [], length, get_or, get_or-set_same, sym, ◌∙◌, ap, arith}
use Rattle.std.specs.Prelude.{if◌then◌else◌, nat_le, slice_index}
use Rattle.std.proofs.lemmas.Bool.{le-leb, lt-leb}
use Rattle.std.proofs.lemmas.List.{ext_get_or}
use Rattle.std.proofs.lemmas.Nat.Bits.{same_from_bits}
use Rattle.flt_flash.specs.declared.arm.Pattern.TheVariants.{Tail}
use Rattle.flt_flash.specs.Image.{blank_page}
use Rattle.flt_flash.specs.Arms.{IsTornBy, IsTornPageBy}
use Rattle.flt_flash.specs.Examples.{BytesAreTorn, ErasesAreTorn, ProgramsAreTorn}
use Rattle.flt_flash.proofs.OddBits.{odd_bits}
use Rattle.flt_flash.proofs.PageSizes.{blank_size}

pub bytes_torn : BytesAreTorn
bytes_torn = record {
  nothing = λ before after torn is. same_from_bits torn before is;
  all = λ before after torn is. same_from_bits torn after is;
  tail = λ before after torn is. same_from_bits torn after is;
  rest = λ before after torn is. same_from_bits torn before is;
  odd = λ torn is. same_from_bits torn 0xAA (λ bit. is bit ∙ sym (odd_bits 0x00 0xFF (omega arith) (omega arith) bit));
  even = λ torn is. same_from_bits torn 0x55 (λ bit. is bit ∙ sym (odd_bits 0xFF 0x00 (omega arith) (omega arith) bit));
}

tail_byte : (in_tail : Bool) (before after torn : ℕ) → IsTornBy Tail in_tail before after torn → torn ≡ (if in_tail then after else before)
tail_byte true before after torn is = same_from_bits torn after is
tail_byte false before after torn is = same_from_bits torn before is

-- A byte of a page that is torn in its tail.
tail_of_page : (tail : ℕ) (before after torn : List ℕ) (byte : ℕ) → IsTornPageBy Tail tail before after torn → byte < length before
    → slice_index torn byte ≡ (if nat_le tail byte then slice_index after byte else slice_index before byte)
tail_of_page tail before after torn byte is within = tail_byte (nat_le tail byte) _ _ _ (is.bytes byte within)

erased_page : (blanked : Bool) (before torn : List ℕ) → length before ≡ 32 → IsTornPageBy Tail (if blanked then 0 else 32) before blank_page torn
    → torn ≡ (if blanked then blank_page else before)
erased_page true before torn size is =
    ext_get_or 0 torn blank_page (is.size ∙ size ∙ sym blank_size) (λ byte lt.
    tail_of_page 0 before blank_page torn byte is (omega (arith, is.size))
    ∙ ap (λ (b : Bool). if b then slice_index blank_page byte else slice_index before byte) (le-leb 0 byte (omega arith)))
erased_page false before torn size is =
    ext_get_or 0 torn before is.size (λ byte lt.
    tail_of_page 32 before blank_page torn byte is (omega (arith, is.size))
    ∙ ap (λ (b : Bool). if b then slice_index blank_page byte else slice_index before byte) (lt-leb 32 byte (omega (arith, is.size, size))))

pub erase_torn : ErasesAreTorn
erase_torn before torn page is sizes within = erased_page (nat_le 2 page) _ _ (sizes page within) (is.pages page within)

pub program_torn : ProgramsAreTorn
program_torn pages after page bytes byte is on within =
    ap (λ (p : List (List ℕ)). slice_index (get_or p page []) byte) is.only
    ∙ ap (λ (p : List ℕ). slice_index p byte) (get_or-set_same pages page is.torn [] on)
    ∙ tail_of_page 16 _ bytes is.torn byte is.by_pattern within
