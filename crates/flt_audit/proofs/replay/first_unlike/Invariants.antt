use Rattle.std.proofs.Common.{◌≡◌, [], drop, reverse, take}
use Rattle.flt_model.specs.Start.{Start}
use Rattle.flt_dcm.specs.Unit.{Stands}
use Rattle.flt_dcm.specs.Whole.{config_of, unit_seen}
use Rattle.flt_turn.specs.Journal.{ops_of}
use Rattle.flt_trace.specs.Trace.{texts_seen}
use Rattle.flt_audit.specs.Audit.{unlike_from}
use Rattle.flt_audit.proofs.Unlike.{due_after}
use Rattle.flt_audit.proofs.replay.first_unlike.Given as goal

abbrev pub invariant-loop-place : goal.invariant-loop-place
invariant-loop-place g l = record {
  config : config_of l.unit ≡ config_of l.initial.unit;
  stands : (life : Start) → Stands life [] (unit_seen l.initial.unit) → Stands life (ops_of (reverse (take l.place l.calls))) (unit_seen l.unit);
  left : (life : Start) → Stands life [] (unit_seen l.initial.unit)
      → unlike_from 0 (texts_seen l.texts) (due_after life [] l.calls)
      ≡ unlike_from l.place (drop l.place (texts_seen l.texts)) (due_after life (ops_of (reverse (take l.place l.calls))) (drop l.place l.calls));
}
