-- When an arm acts, and what a pattern lets take effect.
use Rattle.std.specs.Prelude.{◌≡◌, ◌==◌, ◌&&◌, ℕ, ◌-◌, ◌%◌, ◌<◌, ◌++◌, Bool, true, false, nat_lt, nat_le, if◌then◌else◌, List, [], ◌∷◌, map, Option, Some, None, slice_index, slice_index_or, slice_set, length}
use Rattle.std.specs.List.{find, filter}
use Rattle.std.specs.Option.{option_or}
use Rattle.std.specs.Int.{bit_at}
use Rattle.flt_flash.specs.Image.{blank_page}
use Rattle.flt_flash.specs.declared.arm.Arm.{Arm}
use Rattle.flt_flash.specs.declared.arm.Arm.TheVariants.{Cut, Fault, Mute}
use Rattle.flt_flash.specs.declared.arm.ArmMade.{ArmMade}
use Rattle.flt_flash.specs.declared.arm.Pattern.{Pattern}
use Rattle.flt_flash.specs.declared.arm.Pattern.TheVariants.{Nothing, All, Tail, Odd}

-- An arm with nothing left to do.
abbrev pub idle_arm : Arm
idle_arm = Mute 0 0 0

-- The arm after one more program or erase.
abbrev pub after_write : Arm → Arm
after_write (Cut after pattern) = Cut (after - 1) pattern
after_write (Fault after pattern) = Fault (after - 1) pattern
after_write (Mute sector page times) = Mute sector page times

-- The arm makes reads of this page fail.
abbrev pub mutes : ℕ → ℕ → Arm → Bool
mutes sector page (Mute s p times) = (s == sector) && (p == page) && nat_lt 0 times
mutes sector page (Cut after pattern) = false
mutes sector page (Fault after pattern) = false

-- The arm after one more read of this page.
abbrev pub after_read : ℕ → ℕ → Arm → Arm
after_read sector page (Mute s p times) = if (s == sector) && (p == page) then Mute s p (times - 1) else Mute s p times
after_read sector page (Cut after pattern) = Cut after pattern
after_read sector page (Fault after pattern) = Fault after pattern

-- The arm has something left to do.
abbrev pub stands : Arm → Bool
stands (Cut after pattern) = nat_lt 0 after
stands (Fault after pattern) = nat_lt 0 after
stands (Mute sector page times) = nat_lt 0 times

-- A cut that has come to its program or erase.
abbrev pub is_due_cut : Arm → Bool
is_due_cut (Cut after pattern) = after == 0
is_due_cut (Fault after pattern) = false
is_due_cut (Mute sector page times) = false

-- A fault that has come to its program or erase.
abbrev pub is_due_fault : Arm → Bool
is_due_fault (Cut after pattern) = false
is_due_fault (Fault after pattern) = after == 0
is_due_fault (Mute sector page times) = false

-- Of the arms that meet at a program or erase one acts: a cut rather than a fault, and the one armed first.
abbrev pub acting : List Arm → Option Arm
acting arms = option_or (find is_due_cut arms) (find is_due_fault arms)

-- The arms that remain after a program or erase.
abbrev pub standing_after_write : List Arm → List Arm
standing_after_write arms = filter stands (map after_write arms)

-- The arms that remain after a read of this page.
abbrev pub standing_after_read : ℕ → ℕ → List Arm → List Arm
standing_after_read sector page arms = filter stands (map (after_read sector page) arms)

-- The arms made with one more, reported while there are 64 at most.
abbrev pub arms_told_with : Option (List ArmMade) → ArmMade → Option (List ArmMade)
arms_told_with None made = None
arms_told_with (Some earlier) made = if nat_lt (length earlier) 64 then Some (earlier ++ made ∷ []) else None

-- Whether a bit takes effect, of a byte that lies in the tail or not.
abbrev pub takes_effect : Pattern → Bool → ℕ → Bool
takes_effect Nothing in_tail bit = false
takes_effect All in_tail bit = true
takes_effect Tail in_tail bit = in_tail
takes_effect Odd in_tail bit = bit % 2 == 1

-- The torn byte has the bits that take effect from after, and the others from before.
abbrev pub IsTornBy : Pattern → Bool → ℕ → ℕ → ℕ → Type 0
IsTornBy pattern in_tail before after torn = (bit : ℕ) → bit_at torn bit ≡ (if takes_effect pattern in_tail bit then bit_at after bit else bit_at before bit)

-- A page torn by a pattern, whose tail begins at this byte.
pub record IsTornPageBy (pattern : Pattern) (tail : ℕ) (before after torn : List ℕ) : Type 0 where
  pub size : length torn ≡ length before
  pub bytes : (byte : ℕ) → byte < length before → IsTornBy pattern (nat_le tail byte) (slice_index before byte) (slice_index after byte) (slice_index torn byte)

-- The tail of an erase is the whole of each page from 2 on.
abbrev pub erase_tail : ℕ → ℕ
erase_tail page = if nat_le 2 page then 0 else 32

-- A sector whose erase is torn by a pattern.
pub record IsErasedBy (pattern : Pattern) (before torn : List (List ℕ)) : Type 0 where
  pub size : length torn ≡ length before
  pub pages : (page : ℕ) → page < length before → IsTornPageBy pattern (erase_tail page) (slice_index_or before page []) blank_page
      (slice_index_or torn page [])

-- A sector of which the program of one page is torn by a pattern, whose tail is bytes 16 to 31.
pub record IsProgrammedBy (pattern : Pattern) (before : List (List ℕ)) (page : ℕ) (bytes : List ℕ) (after : List (List ℕ)) : Type 0 where
  pub torn : List ℕ
  pub by_pattern : IsTornPageBy pattern 16 (slice_index_or before page []) bytes torn
  pub only : after ≡ slice_set before page torn
