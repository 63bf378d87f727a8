use Rattle.std.proofs.Common.{sym, ◌∙◌, ap, subst, ◌<◌, arith, Some}
use Rattle.flt_store_model.specs.declared.mark.Mark.{Mark}
use Rattle.flt_store_model.specs.Reading.{mark_from, are_bytes_of_mark}
use Rattle.flt_store_model.proofs.Marks.{tested_mark, no_mark, no_mark_by_size}
use Rattle.flt_image.proofs.mark.get_mark.Goals as goal

pub returns-then-bytes-ne-MARK_LENGTH : goal.returns-then-bytes-ne-MARK_LENGTH
returns-then-bytes-ne-MARK_LENGTH c = sym (no_mark_by_size c.args.bytes.now (λ is. omega (arith, is, c.if-bytes-ne-MARK_LENGTH.true)))

pub returns-then-are_bytes_of : goal.returns-then-are_bytes_of
unfolding mark_from
returns-then-are_bytes_of c =
    let same = sym (ap (are_bytes_of_mark c.args.bytes.now) c.mark_from-mark.ensures.value) ∙ sym c.are_bytes_of.ensures ∙ c.if-are_bytes_of.true in
    ap Some c.mark_from-mark.ensures.value ∙ sym (tested_mark c.args.bytes.now same (subst (λ (m : Mark). m.entries < 256) c.mark_from-mark.ensures.value (omega (arith, c.mark_from-mark.ensures.fields.entries))))

pub returns-else-are_bytes_of : goal.returns-else-are_bytes_of
returns-else-are_bytes_of c = sym (no_mark c.args.bytes.now (sym (ap (are_bytes_of_mark c.args.bytes.now) c.mark_from-mark.ensures.value) ∙ sym c.are_bytes_of.ensures ∙ c.if-are_bytes_of.false))
