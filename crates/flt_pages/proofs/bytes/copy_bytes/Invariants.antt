use Rattle.std.proofs.Common.{◌+◌, ◌≤◌, ◌*◌}
use Rattle.flt_flash.specs.Image.{sector_at}
use Rattle.flt_pages.specs.Record.{KeptApart}
use Rattle.flt_pages.specs.RecordPlace.{record_bytes_at}
use Rattle.flt_pages.specs.Recorded.{OnSector}
use Rattle.flt_pages.proofs.Filling.{Filled}
use Rattle.flt_pages.proofs.bytes.copy_bytes.Given as goal

abbrev pub invariant-loop-index : goal.invariant-loop-index
invariant-loop-index g l = record {
  on : OnSector (g.F.Flash.state l.initial.flash) (g.F.Flash.state l.flash) l.other (sector_at (g.F.Flash.state l.flash).image l.other);
  apart : KeptApart (sector_at (g.F.Flash.state l.initial.flash).image l.other) (sector_at (g.F.Flash.state l.flash).image l.other) l.first (l.first + l.index);
  filled : Filled (sector_at (g.F.Flash.state l.flash).image l.other) l.first (record_bytes_at (sector_at (g.F.Flash.state l.initial.flash).image l.sector) l.place) l.index;
  operations : (g.F.Flash.state l.flash).operations ≤ (g.F.Flash.state l.initial.flash).operations + 2 * l.index;
}
