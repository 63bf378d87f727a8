use Rattle.std.proofs.Common.{◌≡◌, ◌∙◌, Some, None, sym, ap, eqb-true, eq-eqb}
use Rattle.std.specs.Prelude.{option_map}
use Rattle.flt_config.specs.declared.config.DidUse.{DidUse}
use Rattle.flt_did.specs.Table.{dids_of}
use Rattle.flt_did.proofs.RowsLemmas.{found_width}
use Rattle.flt_did.proofs.table.DidTable.has.Goals as goal

pub returns-in-Some : goal.returns-in-Some
returns-in-Some g c = (
  λ e. found_width (dids_of c.args.self.now) c.args.did (sym c.width.ensures ∙ c.in-Some.is ∙ ap Some (eqb-true c.in-Some.width c.args.did.width e)),
  λ found.
      let width : Some c.in-Some.width ≡ Some c.args.did.width =
      sym c.in-Some.is ∙ c.width.ensures ∙ ap (λ o. option_map (λ (did : DidUse). did.width) o) found in
      eq-eqb c.in-Some.width c.args.did.width (cc),
)

pub returns-in-None : goal.returns-in-None
returns-in-None g c = (
  λ e. absurd (cc),
  λ found.
      let width : None ≡ Some c.args.did.width =
      sym c.in-None.is ∙ c.width.ensures ∙ ap (λ o. option_map (λ (did : DidUse). did.width) o) found in
      absurd (cc),
)
