use Rattle.std.proofs.Common.{◌∙◌, sym, ap}
use Rattle.std.proofs.lemmas.Bool.{not-true, not-false}
use Rattle.std.specs.Prelude.{bytes_eq}
use Rattle.flt_store_model.specs.Reading.{with_summary}
use Rattle.flt_image.proofs.Takings.{refuses, takes, summary_unfit, summary_differs, summary_taken, all_summed}
use Rattle.flt_image.proofs.summary.take_summary.Goals as goal

pub returns-then-not-is_summary_of : goal.returns-then-not-is_summary_of
returns-then-not-is_summary_of c =
    refuses c.args.into.now
    (summary_unfit c.args.config.now c.args.bytes.now c.args.into.now c.summary_from-read.result c.summary_from-read.ensures
    (λ fits. let yes = c.is_summary_of.ensures.1 fits in absurd (cc)))

pub returns-then-ne : goal.returns-then-ne
returns-then-ne c =
    let written = ap (bytes_eq c.args.bytes.now) c.summary_bytes.ensures in
    refuses c.args.into.now
    (summary_differs c.args.config.now c.args.bytes.now c.args.into.now c.summary_from-read.result c.summary_from-read.ensures
    (sym written ∙ not-true _ (sym c.ne.ensures ∙ c.if-ne.true)))

pub returns : goal.returns
returns c =
    let written = ap (bytes_eq c.args.bytes.now) c.summary_bytes.ensures in
    takes c.args.into.now c.set_summary.new.into (with_summary c.args.bytes.now c.args.into.now)
    (summary_taken c.args.config.now c.args.bytes.now c.args.into.now c.summary_from-read.result c.summary_from-read.ensures
    (c.is_summary_of.ensures.0 c.if-not-is_summary_of.false) (sym written ∙ not-false _ (sym c.ne.ensures ∙ c.if-ne.false)))
    (c.set_summary.ensures ∙ all_summed c.args.config.now c.args.bytes.now c.args.into.now c.summary_from-read.result c.summary_from-read.ensures)
