use Rattle.std.proofs.Common.{◌≡◌, ◌-◌}
use Rattle.flt_flash.specs.Image.{sector_at}
use Rattle.flt_dump.specs.Copy.{copy_state}
use Rattle.flt_dump.proofs.Putting.{Puts}
use Rattle.flt_dump.proofs.listing.put_log.Given as goal

abbrev pub invariant-log : goal.invariant-log
invariant-log l = record {
  image : (copy_state l.copy).image ≡ (copy_state l.fn.copy).image;
  pages : (copy_state l.copy).pages ≡ (copy_state l.fn.copy).pages;
  puts : Puts l.at.used l.numbers (sector_at (copy_state l.fn.copy).image l.at.sector) l.fn.out.items l.out.items l.page;
}

abbrev pub decreases-log : goal.decreases-log
decreases-log l = l.at.used - l.page
