use Rattle.std.proofs.Common.{◌≡◌, ◌+◌, ◌*◌, take, ◌≤◌}
use Rattle.std.specs.Prelude.{slice_range}
use Rattle.flt_flash.specs.Image.{sector_at}
use Rattle.flt_flash.specs.State.{OnlyReads}
use Rattle.flt_pages.proofs.PageBytes.{flat}
use Rattle.flt_pages.proofs.bytes.read_record.Given as goal

abbrev pub invariant-loop-index : goal.invariant-loop-index
invariant-loop-index g l = record {
  reads : OnlyReads (g.F.Flash.state l.initial.flash) (g.F.Flash.state l.flash);
  front : take (32 * l.index) l.held ≡ flat (slice_range (sector_at (g.F.Flash.state l.initial.flash).image l.sector) (l.place.page + 1) (l.place.page + 1 + l.index));
  operations : (g.F.Flash.state l.flash).operations ≤ (g.F.Flash.state l.initial.flash).operations + l.index;
}
