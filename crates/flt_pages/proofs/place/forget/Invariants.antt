use Rattle.std.proofs.Common.{◌≡◌, ◌<◌, ℕ, None, get_or, length}
use Rattle.flt_pages.proofs.place.forget.Given as goal

abbrev pub invariant-loop-index : goal.invariant-loop-index
invariant-loop-index l = record {
  size : length l.places ≡ length l.initial.places;
  none : (k : ℕ) → k < l.index → get_or l.places k None ≡ None;
}
