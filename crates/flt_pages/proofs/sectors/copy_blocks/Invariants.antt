use Rattle.std.proofs.Common.{◌≡◌, ◌+◌, ◌-◌, ◌*◌, ◌≤◌, length}
use Rattle.flt_flash.specs.Image.{sector_at}
use Rattle.flt_pages.specs.Live.{held_in}
use Rattle.flt_pages.proofs.CopyingBlocks.{Copying, Moves}
use Rattle.flt_pages.proofs.sectors.copy_blocks.Given as goal

abbrev pub invariant-copies : goal.invariant-copies
invariant-copies g l = record {
  copying : Copying l.at l.numbers (g.F.Flash.state l.initial.flash) (g.F.Flash.state l.flash) l.end l.from;
  operations : (g.F.Flash.state l.flash).operations + 4 ≤ (g.F.Flash.state l.initial.flash).operations + 2 * l.end;
  most : l.from ≤ 65536;
  size : length l.places ≡ length l.numbers;
  moves : Moves l.at l.numbers l.places (g.F.Flash.state l.initial.flash) (g.F.Flash.state l.flash) l.end l.from (held_in l.at.used l.numbers (sector_at (g.F.Flash.state l.initial.flash).image l.at.sector));
}

abbrev pub decreases-copies : goal.decreases-copies
decreases-copies g l = 65536 - l.from
