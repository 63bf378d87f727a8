use Rattle.std.proofs.Common.{◌<◌, List, ℕ, ◌++◌, ◌-◌, length, replicate, ◌∙◌, ap, arith}
use Rattle.std.proofs.lemmas.List.{length_push}
use Rattle.flt_flash.specs.Image.{blank_page}
use Rattle.flt_flash.proofs.PageArrays.{one_blank_more}
use Rattle.flt_flash.proofs.array.PageArray.reach.Goals as goal

pub loop-page-preserved : goal.loop-page-preserved
unfolding blank_page
loop-page-preserved c =
    let array = c.loop-page.self in
    let less : length array.front.items < array.count = omega (arith, c.loop-page.invariant.at, c.loop-page.invariant.count, c.loop-page-test.true, c.requires) in
    record {
      at = omega (arith, c.loop-page.invariant.at, ap length c.push_reserved.ensures.items, length_push array.front.items blank_page);
      pages =
          ap (λ (front : List (List ℕ)). front ++ replicate (array.count - length front) blank_page) c.push_reserved.ensures.items
          ∙ one_blank_more array.front.items array.count less
          ∙ c.loop-page.invariant.pages;
      count = c.loop-page.invariant.count;
    }
