use Rattle.std.proofs.Common.{◌≡◌, ◌≤◌, ℕ, []}
use Rattle.flt_dcm.specs.Whole.{config_of, unit_seen}
use Rattle.flt_store.specs.Store.{driver_of}
use Rattle.flt_flash.specs.Content.{Content}
use Rattle.flt_store_model.specs.Holding.{Generation, SameApplications}
use Rattle.flt_lives.specs.Living.{IsLiving}
use Rattle.flt_live.specs.Ahead.{ahead_in}
use Rattle.flt_live.specs.Answered.{IsReady, IsUp}
use Rattle.flt_live.specs.Heard.{talk}
use Rattle.flt_live.proofs.Hearing.{IsGoing}
use Rattle.flt_live.proofs.living.take_lines.Given as goal

abbrev pub invariant-loop : goal.invariant-loop
invariant-loop g l = record {
  same : config_of l.unit ≡ l.config;
  up : IsUp l.config (unit_seen l.unit) l.queue l.store;
  ready : IsReady l.room;
  later_read : g.S.Source.faults l.initial.source ≤ g.S.Source.faults l.source;
  later_write : g.K.Sink.faults l.initial.sink ≤ g.K.Sink.faults l.sink;
  going : (first : Generation) (found : ℕ → Content) → IsLiving l.config first [] [] (unit_seen l.initial.unit) l.initial.store
      → SameApplications found (driver_of l.initial.store).value
      → IsGoing l.config first found (driver_of l.initial.store)
      (talk (ahead_in (g.S.Source.left l.initial.source) l.initial.ear) (g.S.Source.faults l.initial.source) (g.K.Sink.held l.initial.sink) (g.K.Sink.faults l.initial.sink))
      (talk (ahead_in (g.S.Source.left l.source) l.ear) (g.S.Source.faults l.source) (g.K.Sink.held l.sink) (g.K.Sink.faults l.sink))
      (unit_seen l.unit) l.queue l.store;
}
