use Rattle.std.proofs.Common.{◌∙◌, ◌*◌, ◌-◌, ◌%◌, ◌^◌, not, ◌==◌, ap, bit_and, bit_or}
use Rattle.std.specs.Prelude.{slice_set}
use Rattle.std.specs.Int.{w8}
use Rattle.std.proofs.lemmas.Nat.Bits.{bit_at_set_same, bit_at_set_other, bit_at_clear_same, bit_at_clear_other}
use Rattle.flt_dem.proofs.ConditionLemmas.{set_where}
use Rattle.flt_dem.proofs.conditions.Conditions.set.Goals as goal

pub returns-then-fulfilled : goal.returns-then-fulfilled
returns-then-fulfilled c =
    let old = c.self.inside.missing in
    let k = c.get-bit.result in
    set_where old (bit_and old (255 - 1 * 2 ^ k % 256)) k c.args.fulfilled c.get-bit.ensures.below
    (ap (λ bit. not (bit == 1)) (bit_at_clear_same w8 old k c.get-bit.ensures.below) ∙ cc)
    (λ i within ne. bit_at_clear_other w8 old k c.get-bit.ensures.below i within ne)
    ∙ ap (λ xs. slice_set xs k c.args.fulfilled) c.self.view_is
    ∙ ap (λ n. slice_set c.args.self.now n c.args.fulfilled) c.get-bit.ensures.number

pub returns-else-fulfilled : goal.returns-else-fulfilled
returns-else-fulfilled c =
    let old = c.self.inside.missing in
    let k = c.get-bit.result in
    set_where old (bit_or old (1 * 2 ^ k % 256)) k c.args.fulfilled c.get-bit.ensures.below
    (ap (λ bit. not (bit == 1)) (bit_at_set_same w8 old k c.get-bit.ensures.below) ∙ cc)
    (λ i within ne. bit_at_set_other w8 old k c.get-bit.ensures.below i ne)
    ∙ ap (λ xs. slice_set xs k c.args.fulfilled) c.self.view_is
    ∙ ap (λ n. slice_set c.args.self.now n c.args.fulfilled) c.get-bit.ensures.number
