use Rattle.std.proofs.Common.{◌≡◌, ◌≤◌, List}
use Rattle.std.specs.Prelude.{◌^◌, ◌-◌, length, min}
use Rattle.flt_dcm.specs.Whole.{config_of}
use Rattle.flt_lives.specs.Media.{sectors}
use Rattle.flt_live.specs.Answered.{IsReady}
use Rattle.flt_live.specs.Ahead.{ahead_in}
use Rattle.flt_live.specs.Heard.{talk}
use Rattle.flt_live.specs.Span.{ArePassed, LifeSpan}
use Rattle.flt_live.proofs.Spans.{IsLeft}
use Rattle.flt_live.proofs.session.live_on.Given as goal

abbrev pub invariant-loop : goal.invariant-loop
invariant-loop g l = record {
  same : config_of l.unit ≡ l.config;
  ready : IsReady l.room;
  later_read : g.S.Source.faults l.initial.source ≤ g.S.Source.faults l.source;
  later_write : g.K.Sink.faults l.initial.sink ≤ g.K.Sink.faults l.sink;
  passed : (lives : List LifeSpan) × (l.number ≡ min (length lives) (2 ^ 32 - 1))
      × ArePassed g.H.Shelf.tells l.config (talk (g.S.Source.left l.initial.source) (g.S.Source.faults l.initial.source) (g.K.Sink.held l.initial.sink) (g.K.Sink.faults l.initial.sink)) lives
      (talk (ahead_in (g.S.Source.left l.source) l.ear) (g.S.Source.faults l.source) (g.K.Sink.held l.sink) (g.K.Sink.faults l.sink))
      × IsLeft g.H.Shelf.tells (sectors l.config) lives (g.H.Shelf.kept l.shelf);
}
