use Rattle.std.proofs.Common.{◌≡◌, ◌+◌, [], take, get_or}
use Rattle.flt_flash.specs.Changes.{blank_image, changed_by}
use Rattle.flt_flash.proofs.boot.Boots.page.Given as goal

abbrev pub invariant-loop-index : goal.invariant-loop-index
invariant-loop-index l = l.found ≡ get_or (changed_by (blank_image (l.self.first.count + l.self.second.count)) (take l.index l.self.changes.items)) l.page []
