-- Which blocks a save leaves where they were, and what it writes of the others.
use Rattle.std.proofs.Common.{◌≡◌, inl, inr, ⊎_elim, ℕ, ◌≤◌, ◌&&◌, Bool, false, List, [], length, Option, Some, None, refl, sym, ◌∙◌, ap, subst, arith}
use Rattle.std.specs.Prelude.{IsTrue, ◌≢◌, not, bytes_eq, if◌then◌else◌}
use Rattle.std.specs.List.{range_with_len}
use Rattle.std.proofs.lemmas.Bool.{cases_Bool, and_from, not_from_false}
use Rattle.std.proofs.lemmas.List.Sums.{sum_by-le-sum_by}
use Rattle.std.proofs.lemmas.Slice.Eq.{bytes_eq-Decides}
use Rattle.flt_flash.specs.Content.{Content}
use Rattle.flt_flash.specs.Blocks.{record_pages}
use Rattle.flt_config.specs.declared.config.Config.{Config}
use Rattle.flt_config.specs.declared.persist.Persist.{Persist}
use Rattle.flt_store_model.specs.declared.commit.Commit.{Commit}
use Rattle.flt_store_model.specs.Layout.{first_part, parts, is_used, index_in, part_of_block}
use Rattle.flt_store_model.specs.Form.{block_bytes}
use Rattle.flt_store_model.specs.Reading.{commit_in}
use Rattle.flt_store_model.specs.Holding.{Generation}
use Rattle.flt_store_model.specs.Successor.{number_in, IsNext, KeepsIndices, is_written, pages_changed, changed_pages}
use Rattle.flt_store_model.proofs.Choices.{chosen, not_chosen}
use Rattle.flt_store_model.proofs.Commits.{commit_read}
use Rattle.flt_store_model.proofs.Pages.{used_range}
use Rattle.flt_image.specs.Blocks.{AreBlocksOf}
use Rattle.flt_store.specs.Cost.{written_sum, pages_to_write}
use Rattle.flt_store.specs.Keeping.{HasCommit, KeepsFrom, StandAtZero}
use Rattle.flt_store.specs.Known.{Knows, KnowsNamed}
use Rattle.flt_store.specs.Started.{IsStarted, NamesOf}
use Rattle.flt_store.proofs.Started.{bytes_same}
use Rattle.flt_store.proofs.Successors.{used_of, moved_of, some_length}

-- The commit that a started image has is the one by which it was started.
pub same_commit : (c : Config) (value : ℕ → Content) (started_by : Option Commit) (g : Generation) → IsStarted c value started_by g → (commit : Commit) → HasCommit c value commit → started_by ≡ Some commit
same_commit c value None g started commit has = (let none = started.first in let some = has.1 in absurd (cc (none, some)))
same_commit c value (Some by) g started commit has =
    let raw : started.first.0 ≡ has.0 = bytes_same (started.first.0) (has.0) (sym started.first.1 ∙ has.1) in
    let read : commit_in c started.first.0 ≡ Some by = commit_read c started.first.0 by started.names.form started.first.2 in
    sym read ∙ ap (commit_in c) raw ∙ has.2

pub some_same : (x y : Commit) → Some x ≡ Some y → x ≡ y
some_same x y same = cc same

module _ (c : Config) (kept bytes_of : ℕ → List ℕ) (old new : Persist) (told : AreBlocksOf c new bytes_of) where
  indices : (commit next : Commit) → Knows c kept old → IsNext c (Some commit) kept bytes_of next → KeepsIndices c old new commit next
  indices commit next knows follows id used same =
      let range = used_range c id used in
      ⊎_elim
      (λ stays. stays.1)
      (λ moves. absurd (moves.0 (knows id used ∙ same ∙ sym (told.bytes id used))))
      ((follows.blocks id range.0 range.1).used used)

  pub keeps_from : (after : ℕ → Content) (from : Option Commit) (next : Commit) (g : Generation) → KnowsNamed c from kept old → IsStarted c after (Some next) g → IsNext c from kept bytes_of next
      → KeepsFrom c old new from after
  keeps_from after from next g knows ended follows one two is has_two =
      let by_two : next ≡ two = some_same next two (same_commit c after (Some next) g ended two has_two) in
      subst (λ (commit : Commit). KeepsIndices c old new one commit) by_two
      (indices one next (subst (λ (commit : Option Commit). KnowsNamed c commit kept old) is knows) (subst (λ (commit : Option Commit). IsNext c commit kept bytes_of next) is follows))

-- What was distinguished differs.
differs : (one two : List ℕ) → one ≢ two → bytes_eq one two ≡ false
differs one two apart = elim (cases_Bool (bytes_eq one two)) [
  | inl same ↦ absurd (apart ((bytes_eq-Decides one two).0 same))
  | inr other ↦ other
]

-- A block that is written is one whose bytes changed.
module _ (c : Config) (current : Option Commit) (next : Commit) (bytes_of before : ℕ → List ℕ) (state : Persist) (told : AreBlocksOf c state bytes_of)
    (changed : (id : ℕ) → IsTrue (is_written c current next id) → before id ≢ block_bytes state id) where
  each_written : (id : ℕ) → (if is_written c current next id then record_pages (length (bytes_of id)) else 0) ≤ pages_changed c before (block_bytes state) id
  each_written id = elim (cases_Bool (is_written c current next id)) [
    | inl written ↦
        let used = used_of c current next id written in
        let here = chosen (is_written c current next id) (record_pages (length (bytes_of id))) 0 written in
        let size = ap (λ (raw : List ℕ). record_pages (length raw)) (told.bytes id used) in
        let test = and_from (is_used c id) (not (bytes_eq (before id) (block_bytes state id))) used (not_from_false (bytes_eq (before id) (block_bytes state id)) (differs (before id) (block_bytes state id) (changed id written))) in
        let there = chosen (is_used c id && not (bytes_eq (before id) (block_bytes state id))) (record_pages (length (block_bytes state id))) 0 test in
        omega (arith, here, size, there)
    | inr left ↦ (let here = not_chosen (is_written c current next id) (record_pages (length (bytes_of id))) 0 left in omega (arith, here))
  ]

  sum_written : written_sum c current next (λ id. record_pages (length (bytes_of id))) parts ≤ changed_pages c before (block_bytes state)
  unfolding written_sum changed_pages
  sum_written = sum_by-le-sum_by (λ id. if is_written c current next id then record_pages (length (bytes_of id)) else 0) (pages_changed c before (block_bytes state)) (range_with_len first_part parts) each_written

pub written_pages : (c : Config) (current : Option Commit) (next : Commit) (kept bytes_of : ℕ → List ℕ) (state : Persist) → IsNext c current kept bytes_of next → AreBlocksOf c state bytes_of
    → written_sum c current next (λ id. record_pages (length (bytes_of id))) parts ≤ pages_to_write c current kept (block_bytes state)
written_pages c None next kept bytes_of state follows told = sum_written c None next bytes_of (λ id. []) state told some
  where
    some : (id : ℕ) → IsTrue (is_written c None next id) → [] ≢ block_bytes state id
    some id written none =
        let used = used_of c None next id written in
        let size = told.sizes id used in
        let least = some_length (part_of_block id) in
        let length_is : 0 ≡ length (bytes_of id) = ap (λ (raw : List ℕ). length raw) (none ∙ sym (told.bytes id used)) in
        omega (arith, size, least, length_is)
written_pages c (Some commit) next kept bytes_of state follows told = sum_written c (Some commit) next bytes_of kept state told changed
  where
    changed : (id : ℕ) → IsTrue (is_written c (Some commit) next id) → kept id ≢ block_bytes state id
    changed id written same =
        let used = used_of c (Some commit) next id written in
        let range = used_range c id used in
        ⊎_elim
        (λ stays. moved_of c (Some commit) next id written (sym stays.1))
        (λ moves. moves.0 (same ∙ sym (told.bytes id used)))
        ((follows.blocks id range.0 range.1).used used)

-- The same, by other words for the bytes before.
module _ (c : Config) (one two after : ℕ → List ℕ) (same : (id : ℕ) → IsTrue (is_used c id) → one id ≡ two id) where
  each_same : (id : ℕ) → pages_changed c one after id ≤ pages_changed c two after id
  each_same id = elim (cases_Bool (is_used c id)) [
    | inl used ↦ (let equal : pages_changed c one after id ≡ pages_changed c two after id =
        ap (λ (raw : List ℕ). if is_used c id && not (bytes_eq raw (after id)) then record_pages (length (after id)) else 0) (same id used) in omega (arith, equal))
    | inr unused ↦ (let none : pages_changed c one after id ≡ 0 =
        ap (λ (test : Bool). if test && not (bytes_eq (one id) (after id)) then record_pages (length (after id)) else 0) unused in omega (arith, none))
  ]

  same_pages : changed_pages c one after ≤ changed_pages c two after
  unfolding changed_pages
  same_pages = sum_by-le-sum_by (pages_changed c one after) (pages_changed c two after) (range_with_len first_part parts) each_same

  pub pages_by : (current : Option Commit) → pages_to_write c current one after ≤ pages_to_write c current two after
  pages_by None = omega arith
  pages_by (Some commit) = same_pages

-- A save that is not the first writes what changed.
pub pages_of_later : (c : Config) (current : Option Commit) (before after : ℕ → List ℕ) → (number_in current ≡ 0 → ⊥) → pages_to_write c current before after ≡ changed_pages c before after
pages_of_later c None before after later = absurd (later refl)
pages_of_later c (Some commit) before after later = refl

-- A commit names no generation of number 0.
unnamed : (c : Config) (value : ℕ → Content) (commit : Option Commit) (g : Generation) → NamesOf c value commit g → g.number ≡ 0 → commit ≡ None
unnamed c value None g names zero = refl
unnamed c value (Some commit) g names zero = let least = names.form.least in let same = names.number in absurd (omega (arith, least, same, zero))

-- The first save names each used block at index 0.
pub stand_at_zero : (c : Config) (before after : ℕ → Content) (from : Option Commit) (kept bytes_of : ℕ → List ℕ) (next : Commit) (g now : Generation) → IsStarted c before from g → g.number ≡ 0
    → IsStarted c after (Some next) now → IsNext c from kept bytes_of next → StandAtZero c after
stand_at_zero c before after from kept bytes_of next g now started zero ended follows two has_two id used =
    let by_two : next ≡ two = some_same next two (same_commit c after (Some next) now ended two has_two) in
    let none : from ≡ None = unnamed c before from g started.names zero in
    let first : IsNext c None kept bytes_of next = subst (λ (commit : Option Commit). IsNext c commit kept bytes_of next) none follows in
    let range = used_range c id used in
    subst (λ (commit : Commit). index_in commit id ≡ 0) by_two ((first.blocks id range.0 range.1).used used)
