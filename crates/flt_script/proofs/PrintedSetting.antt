-- Configuration lines other than those of events are read again as they are written.
use Rattle.std.proofs.Common.{◌≡◌, ℕ, ◌+◌, ◌*◌, ◌/◌, ◌%◌, ◌^◌, ◌<◌, ◌≤◌, ◌∷◌, ◌++◌, length, true, Some, Ok, refl, ap, ◌∙◌, arith, lit<, lit≤}
use Rattle.std.specs.Prelude.{codes}
use Rattle.std.specs.Fmt.{decimal}
use Rattle.std.specs.List.{list_all}
use Rattle.std.proofs.lemmas.Bool.{lt-ltb}
use Rattle.flt_script.specs.declared.keyword.Keyword.TheVariants as keyword
use Rattle.flt_script.specs.Said as line
use Rattle.flt_script.specs.Laws.{did_text, WrittenSettingsAreRead}
use Rattle.flt_script.specs.Line.{keyword_of, two_numbers, did_with, line_with, line_of}
use Rattle.flt_script.specs.Numeral.{numeral, hexadecimal}
use Rattle.flt_step.specs.Words.{with_number, with_two_numbers}
use Rattle.flt_script.specs.Text.{is_space_or_tab}
use Rattle.flt_script.proofs.PrintedNumber.{few_digits, number-decimal, words_of-decimal, plain_digits, with_one, with_more}
use Rattle.flt_script.proofs.PrintedRequest.{glyph_is_solid, glyph_value}
use Rattle.flt_script.proofs.Solid.{is_solid, solid_is_plain, words_of_one}

-- A data identifier.
module _ (id : ℕ) (small : id < 65536) where
  solid_did : list_all is_solid (did_text id) ≡ true
  solid_did = rw (
    glyph_is_solid (id / 256 / 16) (omega arith),
    glyph_is_solid (id / 256 % 16) (omega arith),
    glyph_is_solid (id % 256 / 16) (omega arith),
    glyph_is_solid (id % 256 % 16) (omega arith),
  ) refl

  did_is_read : hexadecimal 4 (did_text id) ≡ Some id
  unfolding hexadecimal numeral
  did_is_read =
      let value : (((0 * 16 + id / 256 / 16) * 16 + id / 256 % 16) * 16 + id % 256 / 16) * 16 + id % 256 % 16 ≡ id = omega arith in
      rw (
        glyph_value (id / 256 / 16) (omega arith),
        glyph_value (id / 256 % 16) (omega arith),
        glyph_value (id % 256 / 16) (omega arith),
        glyph_value (id % 256 % 16) (omega arith),
        lt-ltb (id / 256 / 16) 16 (omega arith),
        lt-ltb (id / 256 % 16) 16 (omega arith),
        lt-ltb (id % 256 / 16) 16 (omega arith),
        lt-ltb (id % 256 % 16) 16 (omega arith),
      ) (ap (λ (n : ℕ). Some n) value)

flash_is_read : (sectors pages : ℕ) → sectors < 10 ^ 10 → pages < 10 ^ 10 → line_of (with_two_numbers (codes "flash") sectors pages) ≡ Ok (line.Flash sectors pages)
unfolding keyword_of line_with two_numbers is_space_or_tab
flash_is_read sectors pages small_sectors small_pages =
    let few : length (decimal pages) ≤ 100 = omega (arith, few_digits pages small_pages) in
    with_more (codes "flash") refl (lit< tt) (lit≤ tt) sectors small_sectors (decimal pages) few (plain_digits pages small_pages) keyword.Flash refl refl
    ∙ rw (words_of-decimal pages small_pages, number-decimal sectors small_sectors, number-decimal pages small_pages) refl

did_line_is_read : (event id : ℕ) → event < 10 ^ 10 → id < 65536 → line_of (with_number (codes "did") event ++ 32 ∷ did_text id) ≡ Ok (line.Did event id)
unfolding keyword_of line_with did_with is_space_or_tab
did_line_is_read event id small_event small =
    let solid = solid_did id small in
    with_more (codes "did") refl (lit< tt) (lit≤ tt) event small_event (did_text id) (lit≤ tt) (solid_is_plain (did_text id) solid) keyword.Did refl refl
    ∙ rw (words_of_one (did_text id) solid (lit< tt), number-decimal event small_event, did_is_read id small) refl

pub written_settings_are_read : WrittenSettingsAreRead
unfolding keyword_of line_with is_space_or_tab
written_settings_are_read = record {
  config = λ id small. with_one (codes "config") refl (lit< tt) (lit≤ tt) id small keyword.Config refl refl ∙ rw (number-decimal id small) refl;
  memory = λ entries small. with_one (codes "memory") refl (lit< tt) (lit≤ tt) entries small keyword.Memory refl refl ∙ rw (number-decimal entries small) refl;
  blocks = λ blocks small. with_one (codes "blocks") refl (lit< tt) (lit≤ tt) blocks small keyword.Blocks refl refl ∙ rw (number-decimal blocks small) refl;
  flash = flash_is_read;
  did = did_line_is_read;
}
