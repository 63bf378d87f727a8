use Rattle.std.proofs.Common.{◌∙◌, ap, sym, inr, arith, List, ℕ}
use Rattle.flt_flash.specs.Image.{blank_page, page_at, sector_at}
use Rattle.flt_flash.proofs.Following.{reads_on}
use Rattle.flt_pages.specs.Told.{told_fault}
use Rattle.flt_pages.proofs.BlankPages.{blank_here, written_here, unless, lest}
use Rattle.flt_pages.proofs.items.blank_from.Goals as goal

pub returns-then-ne-clause-blank : goal.returns-then-ne-clause-blank
unfolding blank_page
returns-then-ne-clause-blank g c =
    let pages = sector_at (g.F.Flash.state c.args.flash.now).image c.args.sector in
    let is = c.in_ok-read.ensures.read ∙ ap (λ (image : List (List (List ℕ))). page_at image c.args.sector c.loop-at.at) c.loop-at.invariant.reads.image in
    inr (sym (ap (told_fault c.args.sector) (c.loop-at.invariant.blank ∙ written_here pages c.args.used c.loop-at.at (omega arith) c.in_ok-read.field-0 is (unless _ c.if-ne.ensures))))

pub loop-at-preserved : goal.loop-at-preserved
unfolding blank_page
loop-at-preserved g c =
    let pages = sector_at (g.F.Flash.state c.args.flash.now).image c.args.sector in
    let is = c.in_ok-read.ensures.read ∙ ap (λ (image : List (List (List ℕ))). page_at image c.args.sector c.loop-at.at) c.loop-at.invariant.reads.image in
    record {
      operations = omega (arith, c.loop-at.invariant.operations, c.in_ok-read.ensures.operations);
      reads = reads_on c.loop-at.invariant.reads c.in_ok-read.ensures.reads;
      blank = c.loop-at.invariant.blank ∙ blank_here pages c.args.used c.loop-at.at (omega arith) c.in_ok-read.field-0 is (lest _ c.if-ne.ensures);
    }
