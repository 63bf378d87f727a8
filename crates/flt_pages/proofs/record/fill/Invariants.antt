use Rattle.std.proofs.Common.{◌+◌, ◌≤◌}
use Rattle.flt_flash.specs.Image.{sector_at}
use Rattle.flt_pages.specs.Record.{KeptApart}
use Rattle.flt_pages.proofs.Filling.{Filled}
use Rattle.flt_pages.specs.Recorded.{OnSector}
use Rattle.flt_pages.proofs.record.fill.Given as goal

abbrev pub invariant-loop-index : goal.invariant-loop-index
invariant-loop-index g l = record {
  on : OnSector (g.F.Flash.state l.initial.flash) (g.F.Flash.state l.flash) l.sector (sector_at (g.F.Flash.state l.flash).image l.sector);
  apart : KeptApart (sector_at (g.F.Flash.state l.initial.flash).image l.sector) (sector_at (g.F.Flash.state l.flash).image l.sector) l.first (l.first + l.index);
  filled : Filled (sector_at (g.F.Flash.state l.flash).image l.sector) l.first l.bytes l.index;
  operations : (g.F.Flash.state l.flash).operations ≤ (g.F.Flash.state l.initial.flash).operations + l.index;
}
