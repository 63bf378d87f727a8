use Rattle.std.proofs.Common.{◌≡◌, inl, inr, ℕ, List, ◌<◌, ◌≤◌, [], ◌++◌, length, get_or, get_or-set_same, get_or-set_other, below_more, sym, ◌∙◌, ap, arith}
use Rattle.std.proofs.lemmas.Bool.{cases_lt}
use Rattle.std.proofs.lemmas.List.{append_assoc, ext_get_or}
use Rattle.flt_flash.specs.PageArrays.{all_pages, page_count}
use Rattle.flt_flash.proofs.PageArrays.{page_behind}
use Rattle.flt_flash.proofs.boot.keep_changes.Goals as goal

pub loop-index-preserved : goal.loop-index-preserved
loop-index-preserved c =
    let i = c.loop-index.index in
    let last = all_pages c.loop-index.last in
    let page = c.page.result.now in
    let was = c.loop-index.invariant in
    let did = c.keep_change.ensures in
    let within : i < length last = omega (arith, c.loop-index-test.true, c.max-reached.ensures, c.len.ensures, c.len-2.ensures, c.args.last.now.fits, c.args.pages.now.fits, c.requires.same, was.count, page_count c.loop-index.last) in
    record {
      count = did.count ∙ was.count;
      kept = below_more _ i
          (λ k lt. ap (λ (l : List (List ℕ)). get_or l k []) did.pages ∙ get_or-set_other last i k page [] (omega (arith, lt)) ∙ was.kept k lt)
          (ap (λ (l : List (List ℕ)). get_or l i []) did.pages ∙ get_or-set_same last i page [] within ∙ c.page.ensures);
      rest = λ k le. ap (λ (l : List (List ℕ)). get_or l k []) did.pages ∙ get_or-set_other last i k page [] (omega (arith, le)) ∙ was.rest k (omega (arith, le));
      few = omega (arith, did.few, was.few);
      behind = (
        was.behind.0 ++ did.behind.0,
        did.behind.1 ∙ ap (λ front. front ++ did.behind.0) was.behind.1 ∙ append_assoc c.args.changes.now.items was.behind.0 did.behind.0,
      );
      lead = λ blank before after size here. did.lead blank before after size (was.lead blank before after size here);
      room = omega (arith, did.room, was.room);
    }

pub returns-clause-pages : goal.returns-clause-pages
returns-clause-pages c =
    let was = c.loop-index.invariant in
    let start = c.args.last.now in
    let pages = c.args.pages.now in
    let index = c.loop-index.index in
    let size : length (all_pages c.loop-index.last) ≡ length (all_pages pages) = omega (arith, page_count c.loop-index.last, page_count pages, was.count, c.requires.same) in
    let behind : (k : ℕ) → index ≤ k → k < length (all_pages c.loop-index.last) → get_or (all_pages c.loop-index.last) k [] ≡ get_or (all_pages pages) k [] =
    λ k le lt.
    was.rest k le
    ∙ sym (page_behind start.front.items start.count k (omega (arith, le, c.loop-index-test.false, c.max-reached.ensures, c.len.ensures, c.len-2.ensures)) (omega (arith, lt, page_count c.loop-index.last, was.count)))
    ∙ page_behind pages.front.items pages.count k (omega (arith, le, c.loop-index-test.false, c.max-reached.ensures, c.len.ensures, c.len-2.ensures)) (omega (arith, lt, size, page_count pages)) in
    ext_get_or [] (all_pages c.loop-index.last) (all_pages pages) size (λ k lt. elim (cases_lt k index) [
      | inl less ↦ was.kept k less
      | inr le ↦ behind k le lt
    ])
