use Rattle.std.proofs.Common.{◌∙◌, ℕ, List, Global, Vec, subst, sym}
use Rattle.flt_did.specs.Table.{dids_of}
use Rattle.flt_life_model.specs.declared.life.Life.{Life}
use Rattle.flt_script.specs.Script.{content}
use Rattle.flt_examine.specs.Lines.{IsLastLine, LastFits}
use Rattle.flt_examine.specs.Traced.{RunsOnBlank}
use Rattle.flt_examine.proofs.Line.{last_fits, line_due}
use Rattle.flt_examine.proofs.Made.{of_ok, of_some}
use Rattle.flt_examine.proofs.tracing.trace_script.Goals as goal

pub last_line-requires : goal.last_line-requires
last_line-requires g c =
    let dids = dids_of c.args.dids in
    let outcome = c.in_ok-outcome.outcome in
    let run = subst (λ (bytes : List ℕ). RunsOnBlank dids bytes outcome) c.deref.ensures.value
    (of_some (RunsOnBlank dids c.deref.result.now) c.run_on_blank.result outcome c.in_ok-outcome.was c.run_on_blank.ensures) in
    subst (λ (lives : List Life). LastFits c.args.script.config lives) (sym c.deref-2.ensures.value)
    (last_fits dids c.args.bytes.items outcome (content c.args.script) c.requires run)

pub returns : goal.returns
returns g c =
    let dids = dids_of c.args.dids in
    let bytes = c.args.bytes.items in
    let outcome = c.in_ok-outcome.outcome in
    let config = c.args.script.config in
    let text = c.in_ok-text.text in
    let run = subst (λ (bytes : List ℕ). RunsOnBlank dids bytes outcome) c.deref.ensures.value
    (of_some (RunsOnBlank dids c.deref.result.now) c.run_on_blank.result outcome c.in_ok-outcome.was c.run_on_blank.ensures) in
    let line = of_ok (λ (line : Vec ℕ Global). IsLastLine config bytes c.deref-2.result.now line.items) c.last_line.result text (sym c.ok.ensures.value ∙ c.in_ok-text.was) c.last_line.ensures in
    let last = subst (λ (lives : List Life). IsLastLine config bytes lives text.items) c.deref-2.ensures.value line in
    (run, line_due c.told_answers_are_due.ensures c.calls_can_be_made.ensures dids bytes outcome (content c.args.script) text.items c.requires run last)
