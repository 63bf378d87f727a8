-- What each step of judging comes to.
use Rattle.std.proofs.Common.{◌≡◌, ◌≢◌, ℕ, zero, suc, ◌+◌, ◌<◌, ◌≤◌, Bool, true, false, not, List, refl, ◌∙◌, ap, subst, arith, inl, inr}
use Rattle.std.specs.Prelude.{nat_le, find, Option, Some, None, Result, Ok, Err, IsTrue, if◌then◌else◌}
use Rattle.std.specs.List.{range_with_len}
use Rattle.std.proofs.lemmas.Bool.{cases_eq, not-true, not-false, leb-true, leb-false}
use Rattle.flt_flash.specs.Content.{Content, missing, invalid, bytes}
use Rattle.flt_config.specs.declared.config.Config.{Config}
use Rattle.flt_config.specs.declared.persist.Persist.{Persist}
use Rattle.flt_config.specs.Validity.{needed_pages}
use Rattle.flt_store_model.specs.declared.mark.Mark.{Mark}
use Rattle.flt_store_model.specs.declared.commit.Commit.{Commit}
use Rattle.flt_store_model.specs.declared.place.Place.TheVariants.{Block}
use Rattle.flt_store_model.specs.Layout.{mark_id, number_of, application_number, part_of_block, is_used, index_in}
use Rattle.flt_store_model.specs.Form.{mark_of, IsCommit, IsBytesOfMark, IsBytesOfCommit}
use Rattle.flt_store_model.specs.Reading.{mark_in, commit_in, taken}
use Rattle.flt_store_model.specs.Excess.{excess, IsBorne}
use Rattle.flt_store_model.specs.Holding.{Fault, damaged, other, ◌>>=◌, is_same_mark, judged_mark, marked, or_damaged, with_content, with_named, parts_read, is_application, application_fault, applications_judged, excess_judged}
use Rattle.flt_store_model.specs.Faults.{IsMarkDamaged, mark_missing, mark_invalid, no_mark, IsOthers, IsCommitDamaged, commit_invalid, no_commit, IsApplicationDamaged}
use Rattle.flt_store_model.proofs.Marks.{read_mark, mark_read}
use Rattle.flt_store_model.proofs.Commits.{read_commit, commit_read}
use Rattle.flt_store_model.proofs.Bridge.{same_mark, mark_same, applications_fine}
use Rattle.flt_config.specs.Durable.{initial_state}

-- ---- the mark
module _ (c : Config) (mark commit : Content) where
  pub data MarkIs (result : Result (Unit {0}) Fault) : Type 0 where
    mark_fine : (IsMarkDamaged mark commit → ⊥) → ((found : Mark) → IsOthers c mark found → ⊥) → result ≡ Ok tt → MarkIs result
    mark_damaged : IsMarkDamaged mark commit → result ≡ Err (damaged (Block mark_id)) → MarkIs result
    mark_others : (IsMarkDamaged mark commit → ⊥) → (found : Mark) → IsOthers c mark found → result ≡ Err (other found) → MarkIs result

  -- Bytes that are read as a mark are not damaged.
  read_fine : (held : List ℕ) → mark ≡ bytes held → (found : Mark) → mark_in held ≡ Some found → IsMarkDamaged mark commit → ⊥
  read_fine held is found read (mark_missing none some) = cc
  read_fine held is found read (mark_invalid none) = cc
  read_fine held is found read (no_mark raw same none) =
      let equal : held ≡ raw = cc in
      let form = read_mark held found read in
      none found form.0 (subst (IsBytesOfMark found) equal form.1)

  -- And are that mark alone.
  read_alone : (held : List ℕ) → mark ≡ bytes held → (found : Mark) → mark_in held ≡ Some found → (m : Mark) → IsOthers c mark m → m ≡ found
  read_alone held is found read m others =
      let content = others.is in
      let equal : others.held ≡ held = cc in
      let again : mark_in held ≡ Some m = mark_read held m others.form (subst (IsBytesOfMark m) equal others.reads) in
      cc

  by_own : (held : List ℕ) → mark ≡ bytes held → (found : Mark) → mark_in held ≡ Some found → (own : Bool) → is_same_mark found (mark_of c) ≡ own
      → MarkIs (if own then Ok tt else Err (other found))
  by_own held is found read true own = mark_fine (read_fine held is found read)
      (λ m others. others.differs (read_alone held is found read m others ∙ same_mark found (mark_of c) own)) refl
  by_own held is found read false differs =
      let form = read_mark held found read in
      mark_others (read_fine held is found read) found
      (record { held = held; is = is; form = form.0; reads = form.1; differs = λ same. (let own : is_same_mark found (mark_of c) ≡ true = ap (λ (m : Mark). is_same_mark m (mark_of c)) same ∙ mark_same (mark_of c) in cc) }) refl

  by_read : (held : List ℕ) → mark ≡ bytes held → (found : Option Mark) → mark_in held ≡ found → MarkIs (judged_mark c found)
  by_read held is None none = mark_damaged (no_mark held is (λ form proper same. (let read = mark_read held form proper same in cc))) refl
  by_read held is (Some found) read = by_own held is found read (is_same_mark found (mark_of c)) refl

pub mark_is : (c : Config) (mark commit : Content) → MarkIs c mark commit (marked c mark commit)
unfolding marked
mark_is c missing missing = mark_fine (λ d. elim d [ mark_missing _ some ↦ some refl | mark_invalid none ↦ cc | no_mark held none _ ↦ cc ]) (λ found others. (let is = others.is in cc)) refl
mark_is c missing invalid = mark_damaged (mark_missing refl (λ e. cc e)) refl
mark_is c missing (bytes held) = mark_damaged (mark_missing refl (λ e. cc e)) refl
mark_is c invalid commit = mark_damaged (mark_invalid refl) refl
mark_is c (bytes held) commit = by_read c (bytes held) commit held refl (mark_in held) refl

-- ---- the commit
pub data CommitIs (c : Config) (content : Content) : Type 0 where
  is_first : content ≡ missing → CommitIs c content
  commit_damaged : IsCommitDamaged c content → (content ≢ missing) → ((held : List ℕ) → content ≡ bytes held → commit_in c held ≡ None) → CommitIs c content
  is_commit_of : (held : List ℕ) → content ≡ bytes held → (commit : Commit) → commit_in c held ≡ Some commit → CommitIs c content

pub commit_is : (c : Config) (content : Content) → CommitIs c content
commit_is c missing = is_first refl
commit_is c invalid = commit_damaged (commit_invalid refl) (λ e. cc e) (λ held is. cc is)
commit_is c (bytes held) = by (commit_in c held) refl
  where
    by : (found : Option Commit) → commit_in c held ≡ found → CommitIs c (bytes held)
    by None none = commit_damaged (no_commit held refl (λ form proper same. (let read = commit_read c held form proper same in cc))) (λ e. cc e)
        (λ raw is. (let equal : held ≡ raw = cc in subst (λ (h : List ℕ). commit_in c h ≡ None) equal none))
    by (Some commit) read = is_commit_of held refl commit read

-- A commit that is missing, or is read, is not damaged.
pub first_fine : (c : Config) (content : Content) → content ≡ missing → IsCommitDamaged c content → ⊥
first_fine c content none (commit_invalid is) = cc
first_fine c content none (no_commit held is nothing) = cc

pub commit_fine : (c : Config) (content : Content) (held : List ℕ) → content ≡ bytes held → (commit : Commit) → commit_in c held ≡ Some commit → IsCommitDamaged c content → ⊥
commit_fine c content held is commit read (commit_invalid none) = cc
commit_fine c content held is commit read (no_commit raw same none) =
    let equal : held ≡ raw = cc in
    let form = read_commit c held commit read in
    none commit form.0 (subst (IsBytesOfCommit commit) equal form.1)

-- A commit that is named is the one that is read.
pub named_alone : (c : Config) (content : Content) (held : List ℕ) → content ≡ bytes held → (commit : Commit) → commit_in c held ≡ Some commit
    → (raw : List ℕ) → content ≡ bytes raw → (named : Commit) → IsCommit c named → IsBytesOfCommit named raw → named ≡ commit
named_alone c content held is commit read raw same named form reads =
    let equal : raw ≡ held = cc in
    let again : commit_in c held ≡ Some named = commit_read c held named form (subst (IsBytesOfCommit named) equal reads) in
    cc

-- ---- the blocks that it names
module _ (c : Config) (value : ℕ → Content) (commit : Commit) where
  -- This many blocks are read, or one of them is the first that is not.
  pub data PartsAre (count : ℕ) : Type 0 where
    all_read : (p : Persist) → parts_read c value commit count ≡ Ok p → PartsAre count
    failed : (before : ℕ) → before < count → (p : Persist) → parts_read c value commit before ≡ Ok p → IsTrue (is_used c (3 + before))
        → parts_read c value commit (before + 1) ≡ Err (damaged (Block (3 + before))) → parts_read c value commit count ≡ Err (damaged (Block (3 + before))) → PartsAre count

  -- What one block more gives.
  data OneIs (id : ℕ) (result : Result Persist Fault) : Type 0 where
    gives : (q : Persist) → result ≡ Ok q → OneIs id result
    fails : IsTrue (is_used c id) → result ≡ Err (damaged (Block id)) → OneIs id result

  one_is : (id : ℕ) (p : Persist) → OneIs id (with_named c value commit id p)
  one_is id p = by_used (is_used c id) refl
    where
      by_part : is_used c id ≡ true → (found : Option Persist) → OneIs id (or_damaged id found)
      by_part used None = fails used refl
      by_part used (Some q) = gives q refl

      by_content : is_used c id ≡ true → (content : Content) → OneIs id (with_content c id content p)
      by_content used missing = fails used refl
      by_content used invalid = fails used refl
      by_content used (bytes held) = by_part used (taken c (part_of_block id) held p)

      by_used : (used : Bool) → is_used c id ≡ used → OneIs id (if used then with_content c id (value (number_of id (index_in commit id))) p else Ok p)
      by_used true used = by_content used (value (number_of id (index_in commit id)))
      by_used false unused = gives p refl

  more : (count : ℕ) → parts_read c value commit (count + 1) ≡ (parts_read c value commit count >>= with_named c value commit (3 + count))
  unfolding parts_read
  more count = let next : count + 1 ≡ suc count = omega arith in ap (parts_read c value commit) next

  pub parts_are : (count : ℕ) → PartsAre count
  unfolding parts_read
  parts_are zero = all_read (initial_state c) refl
  parts_are (suc count) = by (parts_are count)
    where
      step : (p : Persist) → parts_read c value commit count ≡ Ok p → OneIs (3 + count) (with_named c value commit (3 + count) p) → PartsAre (suc count)
      step p is (gives q one) = all_read q (ap (λ (r : Result Persist Fault). r >>= with_named c value commit (3 + count)) is ∙ one)
      step p is (fails used one) =
          let told = ap (λ (r : Result Persist Fault). r >>= with_named c value commit (3 + count)) is ∙ one in
          failed count (omega arith) p is used (more count ∙ told) told

      by : PartsAre count → PartsAre (suc count)
      by (all_read p is) = step p is (one_is (3 + count) p)
      by (failed before below p is used first told) = failed before (omega (arith, below)) p is used first (ap (λ (r : Result Persist Fault). r >>= with_named c value commit (3 + count)) told)

-- ---- the application blocks
-- The first number of a range that passes.
pub record IsFirstIn (test : ℕ → Bool) (first count found : ℕ) : Type 0 where
  pub at_least : first ≤ found
  pub within : found < first + count
  pub passes : test found ≡ true
  pub before : (k : ℕ) → first ≤ k → k < found → test k ≡ false

pub find_is_first : (test : ℕ → Bool) (first count found : ℕ) → find test (range_with_len first count) ≡ Some found → IsFirstIn test first count found
find_is_first test first zero found is = absurd (cc is)
find_is_first test first (suc count) found is = by (find_is_first test (first + 1) count found) (test first) refl is
  where
    by : (find test (range_with_len (first + 1) count) ≡ Some found → IsFirstIn test (first + 1) count found) → (passed : Bool) → test first ≡ passed
        → (if passed then Some first else find test (range_with_len (first + 1) count)) ≡ Some found → IsFirstIn test first (suc count) found
    by later true passed told =
        let here : first ≡ found = cc in
        record { at_least = omega (arith, here); within = omega (arith, here); passes = subst (λ (n : ℕ). test n ≡ true) here passed; before = λ k low high. absurd (omega (arith, here, low, high)) }
    by later false not_passed told =
        let rest = later told in
        record {
          at_least = omega (arith, rest.at_least);
          within = omega (arith, rest.within);
          passes = rest.passes;
          before = λ k low high. elim (cases_eq k first) [ inl here ↦ ap test here ∙ not_passed | inr apart ↦ rest.before k (omega (arith, low, apart)) high ];
        }

module _ (value : ℕ → Content) where
  pub data ApplicationsAre (result : Result (Unit {0}) Fault) : Type 0 where
    all_fine : ((id : ℕ) → IsApplicationDamaged value id → ⊥) → result ≡ Ok tt → ApplicationsAre result
    one_damaged : (block : ℕ) → block < 40 → IsApplicationDamaged value (64 + block) → ((id : ℕ) → id < 64 + block → IsApplicationDamaged value id → ⊥) → result ≡ Err (damaged (Block (64 + block))) → ApplicationsAre result

  pub applications_are : ApplicationsAre (applications_judged value)
  unfolding applications_judged
  applications_are = by (find test (range_with_len 0 40)) refl
    where
      test : ℕ → Bool
      test block = not (is_application (value (application_number block)))

      by : (found : Option ℕ) → find test (range_with_len 0 40) ≡ found → ApplicationsAre (application_fault found)
      by None none = all_fine (λ id is. (let fine = applications_fine value (ap application_fault none) is.block is.within in let not_fine = is.damaged_there in cc)) refl
      by (Some block) told =
          let first = find_is_first test 0 40 block told in
          one_damaged block first.within (record { block = block; at = refl; within = first.within; damaged_there = not-true _ first.passes })
          (λ id below is.
          let passes : is_application (value (application_number is.block)) ≡ true = not-false _ (first.before is.block (omega arith) (omega (arith, is.at, below))) in
          let fails = is.damaged_there in
          cc) refl

-- ---- the excess
pub data ExcessIs (c : Config) (value : ℕ → Content) (result : Result (Unit {0}) Fault) : Type 0 where
  is_borne : IsBorne c value → result ≡ Ok tt → ExcessIs c value result
  too_great : (IsBorne c value → ⊥) → result ≡ Err (damaged (Block 0)) → ExcessIs c value result

pub excess_is : (c : Config) (value : ℕ → Content) → ExcessIs c value (excess_judged c value)
unfolding excess_judged
excess_is c value = by (nat_le (excess c value + needed_pages c) c.pages) refl
  where
    by : (within : Bool) → nat_le (excess c value + needed_pages c) c.pages ≡ within → ExcessIs c value (if within then Ok tt else Err (damaged (Block 0)))
    by true is = is_borne (leb-true (excess c value + needed_pages c) c.pages is) refl
    by false is = too_great (λ borne. (let past = leb-false (excess c value + needed_pages c) c.pages is in omega (arith, past, borne))) refl
