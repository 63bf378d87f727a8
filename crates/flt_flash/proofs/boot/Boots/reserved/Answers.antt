use Rattle.std.proofs.Common.{◌≡◌, ◌+◌, ◌++◌, List, ℕ, replicate, sym, ◌∙◌, ap}
use Rattle.std.proofs.lemmas.List.{replicate-append-replicate}
use Rattle.flt_flash.specs.Image.{blank_page}
use Rattle.flt_flash.specs.Changes.{blank_image, changed_by}
use Rattle.flt_flash.specs.PageArrays.{all_pages}
use Rattle.flt_flash.proofs.boot.Boots.reserved.Goals as goal

pub invariant_of-result-clause-last_is : goal.invariant_of-result-clause-last_is
invariant_of-result-clause-last_is c =
    let first = c.in_ok-first.first in
    let second = c.in_ok-second.second in
    let blank : all_pages first ++ all_pages second ≡ blank_image (c.args.first + c.args.second) =
    ap (λ (l : List (List ℕ)). l ++ all_pages second) c.in_ok-first.ensures.pages
    ∙ ap (λ (l : List (List ℕ)). replicate c.args.first blank_page ++ l) c.in_ok-second.ensures.pages
    ∙ replicate-append-replicate c.args.first c.args.second blank_page in
    let changes = c.in_ok-changes.changes.items in
    blank
    ∙ ap (λ (n : ℕ). blank_image (n + c.args.second)) (sym c.in_ok-first.ensures.count)
    ∙ ap (λ (n : ℕ). blank_image (first.count + n)) (sym c.in_ok-second.ensures.count)
    ∙ ap (λ l. changed_by (blank_image (first.count + second.count)) l) (sym c.in_ok-changes.ensures.items)
