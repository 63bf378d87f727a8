use Rattle.std.proofs.Common.{◌≡◌, ◌+◌, ◌<◌, length, get_or, arith}
use Rattle.flt_pages.proofs.Rows.{row_behind}
use Rattle.flt_pages.proofs.numbers.Numbers.hinted_from.Goals as goal

pub returns-then-from-2 : goal.returns-then-from-2
returns-then-from-2 c =
    let at = c.in_ok-hint.field-0.now in
    let row = c.in_ok-row.row.now in
    let next = c.in_ok-next.next.now in
    let here : (at < length c.self.inside.rows.items) × (row ≡ get_or c.self.inside.rows.items at row) =
    rw (← c.deref-2.ensures.value) (c.in_ok-row.ensures.lookup.3.0, c.in_ok-row.ensures.lookup.1) in
    let behind : (at + 1 < length c.self.inside.rows.items) × (next ≡ get_or c.self.inside.rows.items (at + 1) next) =
    rw (← c.deref-3.ensures.value) (c.in_ok-next.ensures.lookup.3.0, c.in_ok-next.ensures.lookup.1) in
    rw (← c.self.view_is) (row_behind c.self.inside.given.items c.self.inside.rows.items c.self.invariant c.args.from at row next here.0 here.1 behind.0 behind.1
    (omega (arith, c.if-from.true, c.from.ensures)) (omega (arith, c.if-from-2.true, c.from-then-from.ensures)))
