use Rattle.std.proofs.Common.{◌≡◌, take}
use Rattle.flt_flash.specs.Image.{ArePages}
use Rattle.flt_flash.proofs.pages.pages_of.Given as goal

abbrev pub invariant-loop-page : goal.invariant-loop-page
invariant-loop-page l = record { items : l.made.items ≡ take l.page-index l.pages; bytes : ArePages l.made.items }
