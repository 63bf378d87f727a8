use Rattle.std.proofs.Common.{◌≡◌, ℕ, ◌<◌, ◌≤◌, get_or}
use Rattle.std.specs.Prelude.{nat_le}
use Rattle.flt_flash.specs.Arms.{IsTornBy}
use Rattle.flt_flash.proofs.pages.tear_page.Given as goal

abbrev pub invariant-loop-byte : goal.invariant-loop-byte
invariant-loop-byte l =
    ((k : ℕ) → k < l.byte → IsTornBy l.pattern (nat_le l.tail k) (get_or l.initial.page k 0) (get_or l.after k 0) (get_or l.page k 0))
    × ((k : ℕ) → l.byte ≤ k → get_or l.page k 0 ≡ get_or l.initial.page k 0)
