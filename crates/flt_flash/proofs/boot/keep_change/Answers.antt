use Rattle.std.proofs.Common.{◌+◌, ◌<◌, List, ℕ, [], ◌++◌, length, set, sym, ◌∙◌, ap, arith}
use Rattle.std.proofs.lemmas.List.{set-get_or, set-append_left, set-append_right}
use Rattle.std.proofs.lemmas.Bool.{not-false}
use Rattle.std.specs.Cmp.Lexicographic.{same_text}
use Rattle.flt_flash.specs.Changes.{changed_by}
use Rattle.flt_flash.specs.PageArrays.{all_pages, page_count}
use Rattle.flt_flash.proofs.Changes.{changed_more}
use Rattle.flt_flash.proofs.boot.keep_change.Goals as goal

pub returns-then-ne-clause-lead : goal.returns-then-ne-clause-lead
returns-then-ne-clause-lead c blank before after size here =
    let last = all_pages c.args.last.now in
    let page = c.args.page in
    let bytes = c.args.bytes.now in
    let within : page < length last = omega (arith, c.requires.within, page_count c.args.last.now) in
    ap (changed_by blank) c.push_reserved.ensures.items
    ∙ changed_more blank c.args.changes.now.items (record { page = c.args.from + page; bytes = bytes })
    ∙ ap (λ (image : List (List ℕ)). set image (c.args.from + page) bytes) here
    ∙ set-append_right before (last ++ after) c.args.from (c.args.from + page) bytes size (omega arith)
    ∙ ap (λ (n : ℕ). before ++ set (last ++ after) n bytes) (omega arith)
    ∙ ap (λ (l : List (List ℕ)). before ++ l) (set-append_left last after page bytes within)
    ∙ ap (λ (l : List (List ℕ)). before ++ (l ++ after)) (sym c.write.ensures.whole)

pub returns-else-ne-clause-pages : goal.returns-else-ne-clause-pages
returns-else-ne-clause-pages c =
    let last = all_pages c.args.last.now in
    let same = same_text c.page.result.now c.args.bytes.now (sym (not-false _ (sym c.ne.ensures ∙ c.if-ne.false))) in
    sym (ap (λ (bytes : List ℕ). set last c.args.page bytes) (sym same ∙ c.page.ensures) ∙ set-get_or last c.args.page [])
