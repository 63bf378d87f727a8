use Rattle.std.proofs.Common.{rules, arith}
use Rattle.std.specs.Prelude.{nat_lt}
use Rattle.std.proofs.lemmas.Fn.{always_returns_same}
use Rattle.flt_pages.specs.declared.numbers.Row.{Row}
use Rattle.flt_pages.proofs.Rows.{next_row, no_next_row}
use Rattle.flt_pages.proofs.numbers.Numbers.next_from.Goals as goal

pub returns-then-at-len : goal.returns-then-at-len
returns-then-at-len c =
    let parted = c.partition_point-at.ensures.partitioned (λ (row : Row). nat_lt row.number c.args.from) (always_returns_same _ _ _ (λ a r g called. search rules)) in
    rw (← c.self.view_is) (next_row c.self.inside.given.items c.self.inside.rows.items c.self.invariant c.args.from c.partition_point-at.result c.index.result.now (rw (← c.deref.ensures.value) parted)
    (omega (arith, c.len.ensures)) c.index.ensures)

pub returns-else-at-len : goal.returns-else-at-len
returns-else-at-len c =
    let parted = c.partition_point-at.ensures.partitioned (λ (row : Row). nat_lt row.number c.args.from) (always_returns_same _ _ _ (λ a r g called. search rules)) in
    rw (← c.self.view_is) (no_next_row c.self.inside.given.items c.self.inside.rows.items c.self.invariant c.args.from c.partition_point-at.result (rw (← c.deref.ensures.value) parted)
    (omega (arith, c.len.ensures)))
