use Rattle.std.proofs.Common.{◌≡◌, ◌≤◌, length, filter}
use Rattle.flt_model.specs.Response.{is_masked}
use Rattle.flt_dcm.proofs.ListLemmas.{seen_to}
use Rattle.flt_dcm.proofs.response.count_masked.Given as goal

abbrev pub invariant-loop-event : goal.invariant-loop-event
invariant-loop-event l = record {
  count : l.count ≡ length (filter (is_masked l.mask) (seen_to l.dem l.event));
  most : l.count ≤ l.event;
}
