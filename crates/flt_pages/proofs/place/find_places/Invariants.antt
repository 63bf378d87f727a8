use Rattle.std.proofs.Common.{◌≡◌, ◌<◌, ◌≤◌, ℕ, ◌+◌, ◌-◌, None, get_or, length}
use Rattle.flt_flash.specs.Image.{sector_at}
use Rattle.flt_flash.specs.State.{OnlyReads}
use Rattle.flt_pages.proofs.Scanning.{GoesOn}
use Rattle.flt_pages.proofs.Finding.{Seeks}
use Rattle.flt_pages.proofs.place.find_places.Given as goal

abbrev pub invariant-log : goal.invariant-log
invariant-log g l = record {
  reads : OnlyReads (g.F.Flash.state l.initial.flash) (g.F.Flash.state l.flash);
  goes_on : GoesOn l.at.used l.numbers (sector_at (g.F.Flash.state l.initial.flash).image l.at.sector) l.page;
  operations : (g.F.Flash.state l.flash).operations + 2 ≤ (g.F.Flash.state l.initial.flash).operations + l.page;
  size : length l.places ≡ length l.numbers;
  seeks : (k : ℕ) → k < length l.numbers → Seeks l.at.used l.numbers (sector_at (g.F.Flash.state l.initial.flash).image l.at.sector) (get_or l.numbers k 0) l.page (get_or l.places k None);
}

abbrev pub decreases-log : goal.decreases-log
decreases-log g l = l.at.used - l.page
