use Rattle.std.proofs.Common.{◌≡◌, ℕ, ◌<◌, ◌≤◌, [], get_or}
use Rattle.flt_flash.specs.Image.{blank_page}
use Rattle.flt_flash.specs.Arms.{IsTornPageBy, erase_tail}
use Rattle.flt_flash.proofs.pages.tear_sector.Given as goal

abbrev pub invariant-loop-page : goal.invariant-loop-page
invariant-loop-page l =
    ((k : ℕ) → k < l.page → IsTornPageBy l.pattern (erase_tail k) (get_or l.initial.pages k []) blank_page (get_or l.pages k []))
    × ((k : ℕ) → l.page ≤ k → get_or l.pages k [] ≡ get_or l.initial.pages k [])
