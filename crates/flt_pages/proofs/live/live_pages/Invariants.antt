use Rattle.std.proofs.Common.{◌≡◌, take}
use Rattle.std.specs.Prelude.{sum_by}
use Rattle.flt_pages.specs.RecordPlace.{pages_found}
use Rattle.flt_pages.proofs.live.live_pages.Given as goal

abbrev pub invariant-loop-found : goal.invariant-loop-found
invariant-loop-found l = l.live ≡ sum_by pages_found (take l.found-index l.places)
