use Rattle.std.proofs.Common.{◌≡◌, [], ◌∷◌, ◌++◌}
use Rattle.std.specs.List.{flat_map}
use Rattle.flt_model.specs.Response.{records_of}
use Rattle.flt_dcm.proofs.ListLemmas.{seen_to}
use Rattle.flt_dcm.proofs.listing.put_stored.Given as goal

abbrev pub invariant-loop-event : goal.invariant-loop-event
invariant-loop-event l = l.out.items ≡ (0x59 ∷ 0x03 ∷ []) ++ flat_map records_of (seen_to l.dem l.event)
