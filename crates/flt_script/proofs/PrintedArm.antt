-- A fault to be armed is read again as it is printed, and can be armed.
use Rattle.std.proofs.Common.{◌≡◌, ℕ, ◌<◌, ◌≤◌, ◌^◌, List, [], ◌∷◌, length, true, ◌&&◌, Some, Ok, refl, ◌∙◌, arith, leb, length-append, lit<, lit≤}
use Rattle.std.specs.Prelude.{codes}
use Rattle.std.specs.Fmt.{decimal}
use Rattle.std.proofs.lemmas.Bool.{leb-true, and_parts}
use Rattle.flt_flash.specs.declared.arm.Arm.{Arm}
use Rattle.flt_flash.specs.declared.arm.Arm.TheVariants.{Cut, Fault, Mute}
use Rattle.flt_flash.specs.declared.arm.Pattern.{Pattern}
use Rattle.flt_flash.specs.declared.arm.Pattern.TheVariants.{Nothing, All, Tail, Odd}
use Rattle.flt_script.specs.declared.arm.ArmLine.{ArmLine}
use Rattle.flt_script.specs.declared.arm.ArmLine.TheVariants as written
use Rattle.flt_script.specs.declared.keyword.Keyword.TheVariants as keyword
use Rattle.flt_script.specs.Said as line
use Rattle.flt_script.specs.declared.line.StepLine.TheVariants as steps
use Rattle.flt_script.specs.Behind.{arm_of}
use Rattle.flt_script.specs.Laws.{EachArmCanBeMade}
use Rattle.flt_script.specs.Line.{keyword_of, three_numbers, number_and_pattern, line_with, line_of}
use Rattle.flt_step.specs.Words.{pattern_text, arm_text, with_number}
use Rattle.flt_script.specs.Pattern.{pattern_spelled}
use Rattle.flt_step.specs.Step.{is_arm_in}
use Rattle.flt_script.specs.Text.{words_of, is_space_or_tab, all_plain}
use Rattle.flt_script.proofs.PrintedNumber.{few_digits, number-decimal, words_of-decimal, plain_digits, words_of_number, plain_number, with_more}
use Rattle.flt_script.proofs.Solid.{words_of_one}

-- A pattern's word.
pattern_is_read : (pattern : Pattern) → pattern_spelled (pattern_text pattern) ≡ Some pattern
unfolding pattern_spelled
pattern_is_read Nothing = refl
pattern_is_read All = refl
pattern_is_read Tail = refl
pattern_is_read Odd = refl

words_of-pattern : (pattern : Pattern) → words_of (pattern_text pattern) ≡ pattern_text pattern ∷ []
unfolding is_space_or_tab
words_of-pattern Nothing = words_of_one (codes "none") refl (lit< tt)
words_of-pattern All = words_of_one (codes "all") refl (lit< tt)
words_of-pattern Tail = words_of_one (codes "tail") refl (lit< tt)
words_of-pattern Odd = words_of_one (codes "odd") refl (lit< tt)

plain_pattern : (pattern : Pattern) → all_plain (pattern_text pattern) ≡ true
plain_pattern Nothing = refl
plain_pattern All = refl
plain_pattern Tail = refl
plain_pattern Odd = refl

short_pattern : (pattern : Pattern) → length (pattern_text pattern) ≤ 100
short_pattern Nothing = lit≤ tt
short_pattern All = lit≤ tt
short_pattern Tail = lit≤ tt
short_pattern Odd = lit≤ tt

small_count : (n : ℕ) → (leb 1 n && leb n 65535) ≡ true → n < 10 ^ 10
small_count n among = let most = leb-true n 65535 (and_parts (leb 1 n) (leb n 65535) among).1 in omega arith

pub arm_is_read : (arm : Arm) → is_arm_in arm ≡ true
    → (w : ArmLine) × (line_of (arm_text arm) ≡ Ok (line.Step (steps.Arming w))) × (arm_of w ≡ Some arm)
unfolding keyword_of line_with number_and_pattern three_numbers arm_of is_space_or_tab
arm_is_read (Cut after pattern) among =
    let small = small_count after among in (
      written.Cut after pattern,
      with_more (codes "cut") refl (lit< tt) (lit≤ tt) after small (pattern_text pattern) (short_pattern pattern) (plain_pattern pattern) keyword.Cut refl refl
          ∙ rw (words_of-pattern pattern, number-decimal after small, pattern_is_read pattern) refl,
      rw among refl,
    )
arm_is_read (Fault after pattern) among =
    let small = small_count after among in (
      written.Fault after pattern,
      with_more (codes "fault") refl (lit< tt) (lit≤ tt) after small (pattern_text pattern) (short_pattern pattern) (plain_pattern pattern) keyword.Fault refl refl
          ∙ rw (words_of-pattern pattern, number-decimal after small, pattern_is_read pattern) refl,
      rw among refl,
    )
arm_is_read (Mute sector page times) among =
    let all = and_parts (leb sector 1 && leb page 1023 && leb 1 times) (leb times 65535) among in
    let three = and_parts (leb sector 1 && leb page 1023) (leb 1 times) all.0 in
    let two = and_parts (leb sector 1) (leb page 1023) three.0 in
    let low = leb-true sector 1 two.0 in
    let high = leb-true page 1023 two.1 in
    let most = leb-true times 65535 all.1 in
    let small_sector : sector < 10 ^ 10 = omega arith in
    let small_page : page < 10 ^ 10 = omega arith in
    let small_times : times < 10 ^ 10 = omega arith in
    let rest : List ℕ = with_number (decimal page) times in
    let few : length rest ≤ 100 = rw length-append (omega (arith, few_digits page small_page, few_digits times small_times)) in
    let plain : all_plain rest ≡ true = plain_number page small_page (decimal times) (plain_digits times small_times) in
    let words : words_of rest ≡ decimal page ∷ decimal times ∷ [] = words_of_number page small_page (decimal times) ∙ rw (words_of-decimal times small_times) refl in (
      written.Mute sector page times,
      with_more (codes "mute") refl (lit< tt) (lit≤ tt) sector small_sector rest few plain keyword.Mute refl refl
          ∙ rw (words, number-decimal sector small_sector, number-decimal page small_page, number-decimal times small_times) refl,
      rw (two.0, two.1, three.1, all.1) refl,
    )

some_count : (n : ℕ) → (leb 1 n && leb n 65535) ≡ true → 0 < n
some_count n among = let least = leb-true 1 n (and_parts (leb 1 n) (leb n 65535) among).0 in omega arith

pub each_arm_can_be_made : EachArmCanBeMade
each_arm_can_be_made config (Cut after pattern) among = some_count after among
each_arm_can_be_made config (Fault after pattern) among = some_count after among
each_arm_can_be_made config (Mute sector page times) among = tt
