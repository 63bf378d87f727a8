use Rattle.std.proofs.Common.{◌≡◌, ◌∙◌, ℕ, ◌++◌, subst, arith}
use Rattle.flt_image.specs.Table.{rows}
use Rattle.flt_image.proofs.Rows.{no_rows, rows_more}
use Rattle.flt_image.proofs.table.push_rows.Goals as goal

pub loop-place-init : goal.loop-place-init
loop-place-init c = no_rows c.args.table.now.items c.args.kind c.args.length c.args.first

pub loop-place-preserved : goal.loop-place-preserved
loop-place-preserved c =
    c.in_ok-push.ensures.items
    ∙ rows_more c.args.table.now.items c.loop-place.table.items c.args.kind c.args.length c.args.first c.loop-place.place c.loop-place.invariant

pub returns : goal.returns
returns c =
    let end : c.loop-place.place ≡ c.args.count = omega (arith, c.loop-place.auto.place-end, c.loop-place-test.false) in
    subst (λ (n : ℕ). c.loop-place.table.items ≡ c.args.table.now.items ++ rows c.args.kind c.args.length c.args.first n) end c.loop-place.invariant
