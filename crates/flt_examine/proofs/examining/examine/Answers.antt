use Rattle.std.proofs.Common.{◌∙◌, None, Option, refl, subst, sym}
use Rattle.std.specs.Prelude.{option_map}
use Rattle.flt_did.specs.Table.{dids_of}
use Rattle.flt_filter.specs.Verdict.{Inside, IsToldOf, Outside, due_of}
use Rattle.flt_filter.specs.declared.verdict.Verdict.{Verdict}
use Rattle.flt_examine.specs.Examination.{Examines}
use Rattle.flt_examine.specs.declared.command.Command.{Command}
use Rattle.flt_examine.proofs.Telling.{usage_told}
use Rattle.flt_examine.proofs.examining.examine.Goals as goal

pub returns-in_default : goal.returns-in_default
returns-in_default g c =
    let inside : Inside = record {
      left = g.S.Source.left c.args.source.now;
      left_after = g.S.Source.left c.args.source.now;
      faults = g.S.Source.faults c.args.source.now;
      faults_after = g.S.Source.faults c.args.source.now;
    } in
    let outside : Outside = record {
      held = g.K.Sink.held c.args.sink.now;
      held_after = g.K.Sink.held c.tell.new.sink;
      faults = g.K.Sink.faults c.args.sink.now;
      faults_after = g.K.Sink.faults c.tell.new.sink;
    } in
    let told = subst (λ (made : Option Verdict). IsToldOf outside (option_map due_of made) c.tell.result) c.ok.ensures.value c.tell.ensures in
    let none = sym c.command_of.ensures ∙ c.in_default.is in
    subst (λ (command : Option Command). Examines (dids_of c.args.dids) inside outside command None c.tell.result) (sym none)
    (refl, (refl, refl), usage_told outside c.line-usage.result c.tell.result c.line-usage.ensures told)
