use Rattle.std.proofs.Common.{ℕ, List, Bor, ◌+◌, ◌≤◌, ◌<◌, [], length, sym, ◌∙◌, ap, arith}
use Rattle.std.proofs.lemmas.List.{get_or-replicate, length-replicate}
use Rattle.flt_flash.specs.Image.{blank_page}
use Rattle.flt_flash.specs.Changes.{blank_image}
use Rattle.flt_flash.specs.declared.boot.BootMark.{BootMark}
use Rattle.flt_flash.proofs.Changes.{page_changed, page_stays}
use Rattle.flt_flash.proofs.boot.Boots.page.Goals as goal
use Rattle.flt_flash.proofs.boot.Boots.page.Goals.{then-change-page, else-change-page}

pub loop-index-init : goal.loop-index-init
unfolding blank_page
loop-index-init c = sym (get_or-replicate (c.args.self.now.first.count + c.args.self.now.second.count) c.args.page blank_page [] c.requires.page)

pub loop-index-preserved : goal.loop-index-preserved
loop-index-preserved c =
    let blank = blank_image (c.args.self.now.first.count + c.args.self.now.second.count) in
    let changes = c.args.self.now.changes.items in
    let inside : c.args.page < length blank = omega (arith, c.requires.page, length-replicate (c.args.self.now.first.count + c.args.self.now.second.count) blank_page) in
    let reached : c.index.result.now.changes ≤ length changes =
    omega (arith, c.args.self.now.reached c.args.boot c.index.result.now c.requires.boot, ap (λ (mark : BootMark). mark.changes) c.index.ensures) in
    let at : c.loop-index.index < length changes = omega (arith, reached, c.loop-index-test.true) in
    elim c.if-change-page.branch [
      | then-change-page w ↦ ap (λ (b : Bor (List ℕ)). b.now) w.found-is ∙ page_changed blank changes c.loop-index.index c.index-change.result.now at c.index-change.ensures c.args.page inside w.if-change-page.true
      | else-change-page w ↦ ap (λ (b : Bor (List ℕ)). b.now) w.found-is ∙ c.loop-index.invariant ∙ page_stays blank changes c.loop-index.index c.index-change.result.now at c.index-change.ensures c.args.page (λ same. w.if-change-page.false (sym same))
    ]
