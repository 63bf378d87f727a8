-- A printed job is read again.
use Rattle.std.proofs.Common.{◌≡◌, ℕ, ◌<◌, ◌≤◌, ◌^◌, List, [], ◌∷◌, length, Bool, true, false, Ok, refl, ◌∙◌, arith, ltb, leb, length-append, lit<, lit≤}
use Rattle.std.specs.Prelude.{map, codes}
use Rattle.std.proofs.lemmas.Bool.{le-leb, ltb-true, and_parts}
use Rattle.std.proofs.lemmas.List.{length-map}
use Rattle.std.proofs.lemmas.List.Folds.{list_all-append}
use Rattle.flt_script.specs.declared.keyword.Keyword.TheVariants as keyword
use Rattle.flt_script.specs.Said as line
use Rattle.flt_script.specs.declared.line.StepLine.TheVariants as written
use Rattle.flt_step.specs.declared.step.Step.TheVariants as step
use Rattle.flt_script.specs.Bytes.{bytes_of}
use Rattle.flt_step.specs.Words.{two_digits, spaced, bytes_text, step_text}
use Rattle.flt_script.specs.Laws.{are_bytes}
use Rattle.flt_script.specs.Line.{keyword_of, post_with, line_with, line_of}
use Rattle.flt_script.specs.Text.{words_of, is_space_or_tab, is_plain, all_plain}
use Rattle.flt_script.proofs.PrintedNumber.{number-decimal, with_more}
use Rattle.flt_script.proofs.PrintedRequest.{digits_are_solid, words_of-spaced, plain-spaced, length-spaced, each-two_digits}
use Rattle.flt_script.proofs.Solid.{solid_is_plain}

-- The bytes of a job.
module _ (byte : ℕ) (bytes : List ℕ) (most : length (byte ∷ bytes) ≤ 32) (small : are_bytes (byte ∷ bytes) ≡ true) where
  parts : (ltb byte 256 ≡ true) × (are_bytes bytes ≡ true)
  parts = and_parts (ltb byte 256) (are_bytes bytes) small

  first : byte < 256
  first = ltb-true byte 256 parts.0

  words : words_of (bytes_text (byte ∷ bytes)) ≡ map two_digits (byte ∷ bytes)
  words = words_of-spaced (two_digits byte) bytes (digits_are_solid byte first) (lit< tt) parts.1

  plain : all_plain (bytes_text (byte ∷ bytes)) ≡ true
  plain =
      list_all-append is_plain (two_digits byte) (spaced bytes)
      ∙ rw (solid_is_plain (two_digits byte) (digits_are_solid byte first), plain-spaced bytes parts.1) refl

  short : length (bytes_text (byte ∷ bytes)) ≤ 100
  short = rw (length-append (two_digits byte) (spaced bytes)) (omega (arith, length-spaced bytes, most))

  one : leb 1 (length (map two_digits (byte ∷ bytes))) ≡ true
  one = rw length-map (le-leb 1 (length (byte ∷ bytes)) (omega arith))

  few : leb (length (map two_digits (byte ∷ bytes))) 32 ≡ true
  few = rw length-map (le-leb (length (byte ∷ bytes)) 32 most)

  pub job_is_read : (urgent : Bool) (block : ℕ) → block < 10 ^ 10
      → line_of (step_text (step.Post urgent block (record { items = byte ∷ bytes }))) ≡ Ok (line.Step (written.Post urgent block (record { items = byte ∷ bytes })))
  unfolding line_with post_with bytes_of keyword_of is_space_or_tab
  job_is_read false block low =
      with_more (codes "post") refl (lit< tt) (lit≤ tt) block low (bytes_text (byte ∷ bytes)) short plain keyword.Post refl refl
      ∙ rw (words, number-decimal block low, one, few, each-two_digits (byte ∷ bytes) small) refl
  job_is_read true block low =
      with_more (codes "urge") refl (lit< tt) (lit≤ tt) block low (bytes_text (byte ∷ bytes)) short plain keyword.Urge refl refl
      ∙ rw (words, number-decimal block low, one, few, each-two_digits (byte ∷ bytes) small) refl

pub post_is_read : (urgent : Bool) (block : ℕ) (bytes : List ℕ) → block < 10 ^ 10 → 0 < length bytes → length bytes ≤ 32 → are_bytes bytes ≡ true
    → line_of (step_text (step.Post urgent block (record { items = bytes }))) ≡ Ok (line.Step (written.Post urgent block (record { items = bytes })))
post_is_read urgent block [] low some most small = absurd (omega arith)
post_is_read urgent block (byte ∷ bytes) low some most small = job_is_read byte bytes most small urgent block low
