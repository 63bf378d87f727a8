use Rattle.std.proofs.Common.{◌≡◌, ◌+◌, ◌*◌, take, ◌≤◌}
use Rattle.std.specs.Prelude.{slice_range}
use Rattle.flt_flash.specs.Image.{sector_at}
use Rattle.flt_flash.specs.State.{OnlyReads}
use Rattle.flt_pages.proofs.PageBytes.{flat}
use Rattle.flt_ea.proofs.record.read_bytes.Given as goal

abbrev pub invariant-loop-index : goal.invariant-loop-index
invariant-loop-index g l = record {
  reads : OnlyReads (g.E.Eeprom.state l.initial.device) (g.E.Eeprom.state l.device);
  front : take (32 * l.index) l.held ≡ flat (slice_range (sector_at (g.E.Eeprom.state l.initial.device).image 0) (l.gate + 1) (l.gate + 1 + l.index));
  operations : (g.E.Eeprom.state l.device).operations ≤ (g.E.Eeprom.state l.initial.device).operations + l.index;
}
