use Rattle.std.proofs.Common.{rules, arith}
use Rattle.std.proofs.lemmas.List.Sorted.{answers_always}
use Rattle.flt_pages.specs.declared.numbers.Row.{Row}
use Rattle.flt_pages.proofs.Rows.{row_found, no_row}
use Rattle.flt_pages.proofs.numbers.Numbers.index_of.Goals as goal

pub returns-in-Ok-clause-found : goal.returns-in-Ok-clause-found
returns-in-Ok-clause-found c =
    let rows = c.self.inside.rows.items in
    let parted = c.in-Ok.ensures.position (λ (row : Row). row.number) (answers_always _ _ _ (λ f a r g called. search rules)) in
    rw (← c.self.view_is) (row_found c.self.inside.given.items rows c.self.invariant c.args.block c.in-Ok.at c.index.result.now (omega (arith, c.in-Ok.ensures.bound, c.deref.ensures.len))
    c.index.ensures (rw (← c.deref.ensures.value) parted))

pub returns-in-Err-clause-none : goal.returns-in-Err-clause-none
returns-in-Err-clause-none c =
    let parted = c.in-Err.ensures.position (λ (row : Row). row.number) (answers_always _ _ _ (λ f a r g called. search rules)) in
    rw (← c.self.view_is) (no_row c.self.inside.given.items c.self.inside.rows.items c.self.invariant c.args.block c.in-Err.field-0 (rw (← c.deref.ensures.value) parted))
