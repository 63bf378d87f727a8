use Rattle.std.proofs.Common.{◌≤◌}
use Rattle.flt_live.specs.Ahead.{ahead_in}
use Rattle.flt_live.specs.Answered.{IsReady}
use Rattle.flt_live.specs.Heard.{talk}
use Rattle.flt_live.proofs.Hearing.{IsDarkGoing}
use Rattle.flt_live.proofs.living.take_dark_lines.Given as goal

abbrev pub invariant-loop : goal.invariant-loop
invariant-loop g l = record {
  ready : IsReady l.room;
  later_read : g.S.Source.faults l.initial.source ≤ g.S.Source.faults l.source;
  later_write : g.K.Sink.faults l.initial.sink ≤ g.K.Sink.faults l.sink;
  going : IsDarkGoing l.config
      (talk (ahead_in (g.S.Source.left l.initial.source) l.initial.ear) (g.S.Source.faults l.initial.source) (g.K.Sink.held l.initial.sink) (g.K.Sink.faults l.initial.sink))
      (talk (ahead_in (g.S.Source.left l.source) l.ear) (g.S.Source.faults l.source) (g.K.Sink.held l.sink) (g.K.Sink.faults l.sink));
}
