use Rattle.std.proofs.Common.{sym, ap, ◌∙◌, arith}
use mathlib.Core.Option.{none}
use Rattle.atomic_table.specs.Table.{step}
use Rattle.flt_turn.proofs.Joins.{joins, counts_seats}
use Rattle.flt_turn.proofs.turn.Turn.join.Goals as goal

pub join_seat-requires : goal.join_seat-requires
join_seat-requires g c =
    let words = c.self.invariant.0 in
    let lock = sym c.self.view_is in
    let main_lock = ap (λ x. x.lock) c.main.view_is ∙ (c.requires.lock.0 ∙ lock) in
    let other_lock = ap (λ x. x.lock) c.other.view_is ∙ (c.requires.lock.1 ∙ lock) in
    let number = ap (λ x. x.number) c.main.view_is ∙ c.requires.main in
    (main_lock, other_lock, c.other.invariant.empty, omega arith, joins _ _ _ _ _ _ _ c.main.invariant.idle c.other.invariant.idle number)

pub load-requires : goal.load-requires
load-requires g c =
    let words = c.self.invariant.0 in
    let told = c.join_seat.ensures in
    let idle = ap (λ me. me.0.stage) told.2 ∙ c.main.invariant.idle in
    let lock = told.0 ∙ (ap (λ x. x.lock) c.main.view_is ∙ (c.requires.lock.0 ∙ sym c.self.view_is)) in
    (lock, omega arith, counts_seats _ _ _ _ _ (step 1 0 0 0 none) idle)
