use Rattle.std.proofs.Common.{◌+◌, ◌≤◌}
use Rattle.flt_flash.specs.Image.{sector_at}
use Rattle.flt_pages.specs.Record.{KeptApart}
use Rattle.flt_pages.specs.Recorded.{OnSector}
use Rattle.flt_pages.proofs.Filling.{Filled}
use Rattle.flt_ea.proofs.record.fill.Given as goal

abbrev pub invariant-loop-index : goal.invariant-loop-index
invariant-loop-index g l = record {
  on : OnSector (g.E.Eeprom.state l.initial.device) (g.E.Eeprom.state l.device) 0 (sector_at (g.E.Eeprom.state l.device).image 0);
  apart : KeptApart (sector_at (g.E.Eeprom.state l.initial.device).image 0) (sector_at (g.E.Eeprom.state l.device).image 0) l.first (l.first + l.index);
  filled : Filled (sector_at (g.E.Eeprom.state l.device).image 0) l.first l.bytes l.index;
  operations : (g.E.Eeprom.state l.device).operations ≤ (g.E.Eeprom.state l.initial.device).operations + l.index;
}
