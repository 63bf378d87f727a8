use Rattle.std.proofs.Common.{◌∷◌, Some, sym, ap, ◌∙◌, arith}
use mathlib.Core.Option.{none}
use Rattle.atomic_table.specs.Table.{rest, step}
use Rattle.flt_turn.proofs.Draws.{draws_empty}
use Rattle.flt_turn.proofs.Looks.{looks_empty}
use Rattle.flt_turn.proofs.turn.Turn.take_turn.Goals as goal

pub fetch_add-ticket-requires : goal.fetch_add-ticket-requires
fetch_add-ticket-requires g c =
    let words = c.self.invariant.0 in
    (c.requires.lock ∙ sym c.self.view_is, omega arith, draws_empty _ _ _ _ _ c.requires.idle.0 c.requires.left)

pub load-served-requires : goal.load-served-requires
load-served-requires g c =
    let words = c.self.invariant.0 in
    let drew = c.fetch_add-ticket.ensures in
    let same = c.loop.invariant.2 ∙ drew.2 in (
      c.loop.invariant.0 ∙ (drew.0 ∙ (c.requires.lock ∙ sym c.self.view_is)),
      omega arith,
      looks_empty _ _ _ _ _ (step 1 1 0 0 none) c.fetch_add-ticket.result (ap (λ me. me.1) same ∙ c.requires.idle.1) (ap (λ me. me.0.stage) same),
    )

pub exchange-requires : goal.exchange-requires
exchange-requires g c =
    let drew = c.fetch_add-ticket.ensures in
    let same = c.loop.invariant.2 ∙ drew.2 in
    let told = (c.load-served.ensures.2 c.fetch_add-ticket.result (ap (λ me. me.0.stage) same)).1 c.if-served-ticket.true in
    let is = ap (λ me. me.1) told.1 in
    (c.load-served.ensures.0 ∙ (c.loop.invariant.0 ∙ (drew.0 ∙ (c.requires.lock ∙ sym c.self.view_is))), (Some told.0, is ∙ ap (λ held. (0, Some told.0) ∷ rest held) (sym is)))
