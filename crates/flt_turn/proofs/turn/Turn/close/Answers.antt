use Rattle.std.proofs.Common.{refl, sym, ◌∙◌, subst}
use Rattle.std.proofs.Math.Logic.{∥∥₁_map}
use Rattle.flt_turn.specs.Journal.{ops_of}
use Rattle.flt_turn.proofs.Closes.{closes_shown, comes_as}
use Rattle.flt_turn.proofs.turn.Turn.close.Goals as goal

pub unwrap-vault-requires : goal.unwrap-vault-requires
unwrap-vault-requires g c =
    let found = closes_shown _ _ _ _ _ _ _ _ _ c.main.view_is c.main.invariant.idle c.requires.main c.requires.whole c.close_with-closed.ensures.values.2 c.take.ensures.value in
    rw found.1 refl

pub returns-clause-seen : goal.returns-clause-seen
returns-clause-seen g c =
    let found = closes_shown _ _ _ _ _ _ _ _ _ c.main.view_is c.main.invariant.idle c.requires.main c.requires.whole c.close_with-closed.ensures.values.2 c.take.ensures.value in
    let comes = comes_as _ _ _ found.0 c.unwrap-vault.result (sym found.1 ∙ c.unwrap-vault.ensures) found.2 in
    comes.seen

pub returns-clause-olds : goal.returns-clause-olds
returns-clause-olds g c =
    let found = closes_shown _ _ _ _ _ _ _ _ _ c.main.view_is c.main.invariant.idle c.requires.main c.requires.whole c.close_with-closed.ensures.values.2 c.take.ensures.value in
    let comes = comes_as _ _ _ found.0 c.unwrap-vault.result (sym found.1 ∙ c.unwrap-vault.ensures) found.2 in
    comes.olds

pub returns-clause-calls : goal.returns-clause-calls
returns-clause-calls g c =
    let found = closes_shown _ _ _ _ _ _ _ _ _ c.main.view_is c.main.invariant.idle c.requires.main c.requires.whole c.close_with-closed.ensures.values.2 c.take.ensures.value in
    let comes = comes_as _ _ _ found.0 c.unwrap-vault.result (sym found.1 ∙ c.unwrap-vault.ensures) found.2 in
    comes.calls

pub returns-clause-admitted : goal.returns-clause-admitted
returns-clause-admitted g c =
    let found = closes_shown _ _ _ _ _ _ _ _ _ c.main.view_is c.main.invariant.idle c.requires.main c.requires.whole c.close_with-closed.ensures.values.2 c.take.ensures.value in
    let comes = comes_as _ _ _ found.0 c.unwrap-vault.result (sym found.1 ∙ c.unwrap-vault.ensures) found.2 in
    comes.admitted

pub returns-clause-start : goal.returns-clause-start
returns-clause-start g c =
    let found = closes_shown _ _ _ _ _ _ _ _ _ c.main.view_is c.main.invariant.idle c.requires.main c.requires.whole c.close_with-closed.ensures.values.2 c.take.ensures.value in
    let comes = comes_as _ _ _ found.0 c.unwrap-vault.result (sym found.1 ∙ c.unwrap-vault.ensures) found.2 in
    comes.start_is

pub returns-clause-stands : goal.returns-clause-stands
returns-clause-stands g c =
    let found = closes_shown _ _ _ _ _ _ _ _ _ c.main.view_is c.main.invariant.idle c.requires.main c.requires.whole c.close_with-closed.ensures.values.2 c.take.ensures.value in
    let comes = comes_as _ _ _ found.0 c.unwrap-vault.result (sym found.1 ∙ c.unwrap-vault.ensures) found.2 in
    ∥∥₁_map c.unwrap-vault.result.stands (λ stood. subst (λ start. g.M.Machine.stands_for c.unwrap-vault.result.machine start (ops_of c.unwrap-vault.result.journal.items)) comes.start_is stood)
