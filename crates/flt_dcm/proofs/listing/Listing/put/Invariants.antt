use Rattle.std.proofs.Common.{◌≡◌, ◌++◌}
use Rattle.std.specs.List.{flat_map}
use Rattle.flt_dcm.specs.Listing.{listed, head_of}
use Rattle.flt_dcm.proofs.ListLemmas.{seen_to}
use Rattle.flt_dcm.proofs.listing.Listing.put.Given as goal

abbrev pub invariant-loop-event : goal.invariant-loop-event
invariant-loop-event l = l.out.items ≡ head_of l.self ++ flat_map (listed l.self) (seen_to l.dem l.event)
