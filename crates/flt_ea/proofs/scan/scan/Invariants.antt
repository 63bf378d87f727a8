use Rattle.std.proofs.Common.{◌≡◌, ◌≤◌, ◌+◌, ◌*◌, length, drop}
use Rattle.flt_flash.specs.Image.{sector_at}
use Rattle.flt_flash.specs.State.{OnlyReads}
use Rattle.flt_ea.specs.Image.{damage_from}
use Rattle.flt_ea.specs.Scan.{IsTable}
use Rattle.flt_ea.proofs.scan.scan.Given as goal

abbrev pub invariant-loop-position : goal.invariant-loop-position
invariant-loop-position g l = record {
  reads : OnlyReads (g.E.Eeprom.state l.initial.device) (g.E.Eeprom.state l.device);
  operations : (g.E.Eeprom.state l.device).operations ≤ (g.E.Eeprom.state l.initial.device).operations + 2 * l.position;
  size : length l.table ≡ length l.initial.table;
  sound : (let units = sector_at (g.E.Eeprom.state l.initial.device).image 0 in damage_from 0 l.numbers units ≡ damage_from l.position (drop l.position l.numbers) units);
  table : IsTable l.position (sector_at (g.E.Eeprom.state l.initial.device).image 0) l.table;
}
