use Rattle.std.proofs.Common.{◌∷◌, ◌++◌, [], Some, sym, ap, ◌∙◌, arith}
use mathlib.Core.Option.{none}
use Rattle.atomic_table.specs.Table.{rest, step}
use Rattle.flt_turn.specs.Journal.{entry}
use Rattle.flt_turn.specs.Views.{done}
use Rattle.flt_turn.proofs.Serves.{serves_held}
use Rattle.flt_turn.proofs.turn.Turn.end_turn.Goals as goal

pub fetch_add-requires : goal.fetch_add-requires
fetch_add-requires g c =
    let before = c.args.token.now.me in
    let gave = c.exchange-empty.ensures in
    let words = c.self.invariant.0 in
    let is = gave.3 ∙ ap (λ held. (before.0, (0, Some c.args.vault) ∷ rest held)) c.requires.held in
    (gave.0 ∙ (c.requires.lock ∙ sym c.self.view_is), omega arith, serves_held _ _ _ _ _ (step 1 1 1 0 none) _ _ is c.requires.turn)

pub returns-then-peek-from-clause-done : goal.returns-then-peek-from-clause-done
returns-then-peek-from-clause-done g c = λ op longer.
    let before = c.args.token.now.me in
    let is = c.exchange-empty.ensures.3 ∙ ap (λ held. (before.0, (0, Some c.args.vault) ∷ rest held)) c.requires.held in
    let seat = ap (λ me. me.0) is in
    c.fetch_add.ensures.2 c.args.vault op (ap (λ me. me.1) is) (longer ∙ ap (λ v. v.seen ++ entry v.number op ∷ []) (sym seat)) ∙ ap (λ v. (done c.args.vault.journal.items op v, [])) seat

pub returns-else-peek-from-clause-done : goal.returns-else-peek-from-clause-done
returns-else-peek-from-clause-done g c = λ op longer.
    let before = c.args.token.now.me in
    let is = c.exchange-empty.ensures.3 ∙ ap (λ held. (before.0, (0, Some c.args.vault) ∷ rest held)) c.requires.held in
    let seat = ap (λ me. me.0) is in
    c.fetch_add.ensures.2 c.args.vault op (ap (λ me. me.1) is) (longer ∙ ap (λ v. v.seen ++ entry v.number op ∷ []) (sym seat)) ∙ ap (λ v. (done c.args.vault.journal.items op v, [])) seat
