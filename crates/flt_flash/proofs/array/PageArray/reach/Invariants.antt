use Rattle.std.proofs.Common.{◌≡◌, length}
use Rattle.flt_flash.specs.PageArrays.{all_pages}
use Rattle.flt_flash.proofs.array.PageArray.reach.Given as goal

abbrev pub invariant-loop-page : goal.invariant-loop-page
invariant-loop-page l = record {
  at : l._page ≡ length l.self.front.items;
  pages : all_pages l.self ≡ all_pages l.initial.self;
  count : l.self.count ≡ l.initial.self.count;
}
