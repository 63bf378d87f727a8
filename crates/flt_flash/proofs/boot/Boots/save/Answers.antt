use Rattle.std.proofs.Common.{◌≡◌, ◌+◌, ◌≤◌, ◌++◌, [], List, ℕ, length, length-append, subst, refl, sym, ◌∙◌, ap, arith}
use Rattle.std.proofs.lemmas.List.{append_assoc, append-nil}
use Rattle.flt_flash.specs.Changes.{blank_image, changed_by, AreReached}
use Rattle.flt_flash.specs.PageArrays.{all_pages, page_count}
use Rattle.flt_flash.proofs.Saved.{adds_one, reached_more}
use Rattle.flt_flash.proofs.boot.Boots.save.Goals as goal

pub invariant_of-self-clause-last_is : goal.invariant_of-self-clause-last_is
invariant_of-self-clause-last_is c =
    let old = c.args.self.now in
    let blank = blank_image (old.first.count + old.second.count) in
    let first = c.keep_changes.new.last in
    let second = c.keep_changes-2.new.last in
    let changes = c.keep_changes-2.new.changes.items in
    let size : length (all_pages first) ≡ c.args.first.now.count = omega (arith, page_count first, c.keep_changes.ensures.count, c.requires.first) in
    let one = c.keep_changes.ensures.lead blank [] (all_pages old.second) refl (sym old.last_is) in
    let two = c.keep_changes-2.ensures.lead blank (all_pages first) [] size (one ∙ ap (λ (l : List (List ℕ)). all_pages first ++ l) (sym (append-nil (all_pages old.second)))) in
    ap (λ (l : List (List ℕ)). all_pages first ++ l) (sym (append-nil (all_pages second)))
    ∙ sym two
    ∙ ap (λ (n : ℕ). changed_by (blank_image (n + old.second.count)) changes) (sym c.keep_changes.ensures.count)
    ∙ ap (λ (n : ℕ). changed_by (blank_image (first.count + n)) changes) (sym c.keep_changes-2.ensures.count)

pub invariant_of-self-clause-reached : goal.invariant_of-self-clause-reached
invariant_of-self-clause-reached c =
    let old = c.args.self.now in
    let one = c.keep_changes.ensures in
    let two = c.keep_changes-2.ensures in
    let changes = c.keep_changes-2.new.changes in
    let more : length old.changes.items ≤ length changes.items = omega (
      arith,
      ap length one.behind.1,
      length-append old.changes.items one.behind.0,
      ap length two.behind.1,
      length-append c.keep_changes.new.changes.items two.behind.0,
    ) in
    let last : c.len.result ≤ length changes.items = omega (arith, c.len.ensures, changes.ok.0) in
    subst (AreReached (length changes.items)) (sym c.push_reserved.ensures.items)
    (reached_more (length old.changes.items) (length changes.items) old.marks.items (record { faults = c.args.faults; changes = c.len.result }) more last old.reached)

pub returns : goal.returns
returns c =
    let old = c.args.self.now in
    let one = c.keep_changes.ensures in
    let two = c.keep_changes-2.ensures in
    let counts : c.len.result ≡ length c.keep_changes-2.new.changes.items = omega (arith, c.len.ensures, c.keep_changes-2.new.changes.ok.0) in
    adds_one old _ c.args.faults c.len.result (one.behind.0 ++ two.behind.0)
    c.push_reserved.ensures.items
    counts
    (two.behind.1 ∙ ap (λ front. front ++ two.behind.0) one.behind.1 ∙ append_assoc old.changes.items one.behind.0 two.behind.0)
    one.count
    two.count
    (all_pages c.args.first.now ++ all_pages c.args.second.now)
    (ap (λ (l : List (List ℕ)). l ++ all_pages c.keep_changes-2.new.last) one.pages ∙ ap (λ (l : List (List ℕ)). all_pages c.args.first.now ++ l) two.pages)
    refl
