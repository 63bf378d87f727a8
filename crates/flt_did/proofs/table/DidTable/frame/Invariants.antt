use Rattle.std.proofs.Common.{◌≡◌, take, length}
use Rattle.flt_config.specs.Ranges.{frame_width}
use Rattle.flt_model.specs.Frame.{frame_bytes}
use Rattle.flt_did.proofs.table.DidTable.frame.Given as goal

abbrev pub invariant-loop-did : goal.invariant-loop-did
invariant-loop-did g l = record {
  bytes : l.frame.items ≡ frame_bytes (take l.did-index l.did-items) l.signals.values;
  width : length l.frame.items ≡ frame_width (take l.did-index l.did-items);
}
