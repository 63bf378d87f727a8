use Rattle.std.proofs.Common.{◌≡◌, ◌≤◌, ◌+◌, ◌-◌}
use Rattle.flt_flash.specs.Image.{sector_at}
use Rattle.flt_flash.specs.State.{OnlyReads}
use Rattle.flt_sector_model.specs.Log.{first_written}
use Rattle.flt_pages.proofs.items.blank_from.Given as goal

abbrev pub invariant-loop-at : goal.invariant-loop-at
invariant-loop-at g l = record {
  operations : (g.F.Flash.state l.flash).operations ≤ (g.F.Flash.state l.initial.flash).operations + (l.at - l.page);
  reads : OnlyReads (g.F.Flash.state l.initial.flash) (g.F.Flash.state l.flash);
  blank : (let pages = sector_at (g.F.Flash.state l.initial.flash).image l.sector in first_written pages l.page (l.used - l.page) ≡ first_written pages l.at (l.used - l.at));
}
