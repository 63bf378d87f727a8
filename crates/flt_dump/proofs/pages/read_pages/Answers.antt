use Rattle.std.proofs.Common.{◌≡◌, ◌∙◌, ℕ, suc, ◌+◌, ◌-◌, Err, sym, ap, arith}
use Rattle.flt_script.specs.Text.{lines_of}
use Rattle.flt_dump.specs.Dump.{pages_spelled}
use Rattle.flt_dump.proofs.Paging.{before_pages, one_page, no_line, wrong_page, all_pages, line_more}
use Rattle.flt_dump.proofs.pages.read_pages.Goals as goal

pub returns-in_default-clause-wrong : goal.returns-in_default-clause-wrong
returns-in_default-clause-wrong c =
    let pages = c.loop-index.pages.items in
    let number = c.args.first + c.loop-index.index in
    let lines = lines_of c.loop-index.rest.now in
    let left : c.args.count - c.loop-index.index ≡ suc (c.args.count - (c.loop-index.index + 1)) = omega arith in
    c.loop-index.invariant.pages ∙ ap (λ (n : ℕ). before_pages pages (pages_spelled number n lines)) left
    ∙ no_line pages number lines (c.args.count - (c.loop-index.index + 1)) c.in_default.ensures

pub returns-in_default-read_page-clause-wrong : goal.returns-in_default-read_page-clause-wrong
returns-in_default-read_page-clause-wrong c =
    let pages = c.loop-index.pages.items in
    let number = c.args.first + c.loop-index.index in
    let lines = lines_of c.loop-index.rest.now in
    let left : c.args.count - c.loop-index.index ≡ suc (c.args.count - (c.loop-index.index + 1)) = omega arith in
    c.loop-index.invariant.pages ∙ ap (λ (n : ℕ). before_pages pages (pages_spelled number n lines)) left
    ∙ wrong_page pages number lines (c.args.count - (c.loop-index.index + 1)) c.in-Some.line.now (lines_of c.in-Some.others.now) c.in-Some.ensures (sym c.in_default-read_page.ensures)

pub loop-index-preserved : goal.loop-index-preserved
loop-index-preserved c =
    let pages = c.loop-index.pages.items in
    let number = c.args.first + c.loop-index.index in
    let lines = lines_of c.loop-index.rest.now in
    let left : c.args.count - c.loop-index.index ≡ suc (c.args.count - (c.loop-index.index + 1)) = omega arith in
    let next : number + 1 ≡ c.args.first + (c.loop-index.index + 1) = omega arith in
    record {
      many = c.push_reserved.ensures.len ∙ ap (λ (n : ℕ). n + 1) c.loop-index.invariant.many;
      room = c.push_reserved.ensures.capacity ∙ c.loop-index.invariant.room;
      pages = c.loop-index.invariant.pages ∙ ap (λ (n : ℕ). before_pages pages (pages_spelled number n lines)) left
          ∙ one_page pages number lines (c.args.count - (c.loop-index.index + 1)) c.in-Some.line.now (lines_of c.in-Some.others.now) c.in-Some-read_page.page c.in-Some.ensures (sym c.in-Some-read_page.ensures)
          ∙ ap (λ l. before_pages l (pages_spelled (number + 1) (c.args.count - (c.loop-index.index + 1)) (lines_of c.in-Some.others.now))) (sym c.push_reserved.ensures.items)
          ∙ ap (λ (n : ℕ). before_pages c.push_reserved.new.self.items (pages_spelled n (c.args.count - (c.loop-index.index + 1)) (lines_of c.in-Some.others.now))) next;
    }

pub returns-in-Some-next_line-clause-wrong : goal.returns-in-Some-next_line-clause-wrong
returns-in-Some-next_line-clause-wrong c =
    let pages = c.loop-index.pages.items in
    let lines = lines_of c.loop-index.rest.now in
    let none : c.args.count - c.loop-index.index ≡ 0 = omega arith in
    let all : c.args.first + c.loop-index.index ≡ c.args.first + c.args.count = omega arith in
    c.loop-index.invariant.pages ∙ ap (λ (n : ℕ). before_pages pages (pages_spelled (c.args.first + c.loop-index.index) n lines)) none
    ∙ line_more pages (c.args.first + c.loop-index.index) lines c.in-Some-next_line.field-0.0.now (lines_of c.in-Some-next_line.field-0.1.now) c.in-Some-next_line.ensures ∙ ap Err all

pub returns-in-None-clause-pages : goal.returns-in-None-clause-pages
returns-in-None-clause-pages c =
    let pages = c.loop-index.pages.items in
    let lines = lines_of c.loop-index.rest.now in
    let none : c.args.count - c.loop-index.index ≡ 0 = omega arith in
    c.loop-index.invariant.pages ∙ ap (λ (n : ℕ). before_pages pages (pages_spelled (c.args.first + c.loop-index.index) n lines)) none
    ∙ all_pages pages (c.args.first + c.loop-index.index) lines c.in-None.ensures
