use Rattle.std.specs.Prelude.{option_map}
use Rattle.flt_filter.specs.Verdict.{Inside, Outside, due_of}
use Rattle.flt_filter.proofs.Told.{made_told}
use Rattle.flt_filter.proofs.answering.answer.Goals as goal

pub returns : goal.returns
returns g c =
    let inside : Inside = record {
      left = g.S.Source.left c.args.source.now;
      left_after = g.S.Source.left c.reckon-verdict.new.source;
      faults = g.S.Source.faults c.args.source.now;
      faults_after = g.S.Source.faults c.reckon-verdict.new.source;
    } in
    let outside : Outside = record {
      held = g.K.Sink.held c.args.sink.now;
      held_after = g.K.Sink.held c.tell.new.sink;
      faults = g.K.Sink.faults c.args.sink.now;
      faults_after = g.K.Sink.faults c.tell.new.sink;
    } in
    made_told (g.J.Judge.is_judged c.args.judge) inside outside (option_map due_of c.reckon-verdict.result) c.tell.result c.reckon-verdict.ensures c.tell.ensures
