-- What an image holds by its bytes is what its blocks have.
use Rattle.std.proofs.Common.{◌≡◌, ℕ, zero, suc, ◌+◌, ◌-◌, ◌<◌, ◌≤◌, Bool, true, false, not, List, refl, sym, ◌∙◌, ap, subst, arith, inl, inr}
use Rattle.std.specs.Prelude.{nat_le, find, Option, Some, None, Result, Ok, Err}
use Rattle.std.specs.List.{range_with_len}
use Rattle.std.proofs.lemmas.Bool.{cases_Bool, cases_eq, and_parts, and_from, leb-true, le-leb, eqb-true, eq-eqb, not-false, not_from_true}
use Rattle.flt_flash.specs.Content.{Content, missing, invalid, bytes}
use Rattle.flt_config.specs.declared.config.Config.{Config}
use Rattle.flt_config.specs.declared.persist.Persist.{Persist}
use Rattle.flt_config.specs.Durable.{Fits}
use Rattle.flt_config.specs.Validity.{needed_pages}
use Rattle.flt_store_model.specs.declared.mark.Mark.{Mark}
use Rattle.flt_store_model.specs.declared.commit.Commit.{Commit}
use Rattle.flt_store_model.specs.Layout.{mark_number, application_number, parts}
use Rattle.flt_store_model.specs.Form.{mark_of, IsMark, IsBytesOfCommit}
use Rattle.flt_store_model.specs.Reading.{mark_in, commit_in}
use Rattle.flt_store_model.specs.Excess.{excess, IsBorne}
use Rattle.flt_store_model.specs.Holding.{Generation, first_generation, Fault, ◌>>=◌, is_same_mark, judged_mark, marked, parts_read, generation_of, named, is_application, application_fault, applications_judged, excess_judged, held_by, MarkAllows, BlocksHold, CommitNames, Names, Holds}
use Rattle.flt_store_model.proofs.Choices.{chosen, not_chosen}
use Rattle.flt_store_model.proofs.Marks.{read_mark, mark_read}
use Rattle.flt_store_model.proofs.Commits.{read_commit, commit_read}
use Rattle.flt_store_model.proofs.Steps.{both_ok}
use Rattle.flt_store_model.proofs.Sofar.{sofar, read_fits, read_blocks}
use Rattle.flt_store_model.proofs.Short.{HasSizes}
use Rattle.flt_store_model.proofs.Whole.{whole_read}

-- ---- the mark
pub same_mark : (first second : Mark) → is_same_mark first second ≡ true → first ≡ second
same_mark first second is =
    let a = and_parts _ _ is in
    let b = and_parts _ _ a.0 in
    let id = eqb-true first.id second.id b.0 in
    let events = eqb-true first.events second.events b.1 in
    let entries = eqb-true first.entries second.entries a.1 in
    λ i. record { id = id i; events = events i; entries = entries i }

pub mark_same : (mark : Mark) → is_same_mark mark mark ≡ true
mark_same mark = and_from _ _ (and_from _ _ (eq-eqb mark.id mark.id refl) (eq-eqb mark.events mark.events refl)) (eq-eqb mark.entries mark.entries refl)

judged_as_own : (c : Config) (o : Option Mark) → judged_mark c o ≡ Ok tt → o ≡ Some (mark_of c)
judged_as_own c None is = absurd (cc)
judged_as_own c (Some mark) is = elim (cases_Bool (is_same_mark mark (mark_of c))) [
  | inl same ↦ ap Some (same_mark mark (mark_of c) same)
  | inr other ↦ absurd (let fault = sym (not_chosen (is_same_mark mark (mark_of c)) (Ok tt) (Err _) other) ∙ is in cc)
]

own_judged : (c : Config) (o : Option Mark) → o ≡ Some (mark_of c) → judged_mark c o ≡ Ok tt
own_judged c o is = subst (λ (x : Option Mark). judged_mark c x ≡ Ok tt) (sym is) (chosen (is_same_mark (mark_of c) (mark_of c)) (Ok tt) (Err _) (mark_same (mark_of c)))

marked_allows : (c : Config) (mark commit : Content) → marked c mark commit ≡ Ok tt → MarkAllows c mark commit
unfolding marked
marked_allows c missing missing is = refl
marked_allows c missing invalid is = absurd (cc)
marked_allows c missing (bytes held) is = absurd (cc)
marked_allows c invalid missing is = absurd (cc)
marked_allows c invalid invalid is = absurd (cc)
marked_allows c invalid (bytes held) is = absurd (cc)
marked_allows c (bytes held) commit is = (read_mark held (mark_of c) (judged_as_own c (mark_in held) is)).1

allows_marked : (c : Config) (mark commit : Content) → IsMark (mark_of c) → MarkAllows c mark commit → marked c mark commit ≡ Ok tt
unfolding marked
allows_marked c missing missing own allows = refl
allows_marked c missing invalid own allows = absurd (cc)
allows_marked c missing (bytes held) own allows = absurd (cc)
allows_marked c invalid commit own allows = absurd allows
allows_marked c (bytes held) commit own allows = own_judged c (mark_in held) (mark_read held (mark_of c) own allows)

-- ---- the commit and its blocks
named_by : (c : Config) (value : ℕ → Content) (held : List ℕ) (g : Generation) (o : Option Commit) → c.memory ≤ 16 → commit_in c held ≡ o → generation_of c value o ≡ Ok g
    → (commit : Commit) × IsBytesOfCommit commit held × CommitNames c value commit g
named_by c value held g None memory is gives = absurd (cc)
named_by c value held g (Some commit) memory is gives =
    let found = read_commit c held commit is in
    let steps = both_ok (parts_read c value commit parts) (λ state. Ok (record { number = commit.generation; state = state })) g gives in
    let known = sofar c value commit parts steps.0 (omega arith) steps.1 in
    let same : record { number = commit.generation; state = steps.0 } ≡ g = cc in (
      commit,
      found.1,
      record {
        form = found.0;
        number = ap (λ (x : Generation). x.number) same;
        blocks = subst (BlocksHold c value commit) (ap (λ (x : Generation). x.state) same) (read_blocks c value commit steps.0 known);
        fits = subst (Fits c) (ap (λ (x : Generation). x.state) same) (read_fits c value commit steps.0 memory known);
      },
    )

named_names : (c : Config) (value : ℕ → Content) (content : Content) (g : Generation) → c.memory ≤ 16 → named c value content ≡ Ok g → Names c value content g
unfolding named
named_names c value missing g memory is = let same : first_generation c ≡ g = cc in sym same
named_names c value invalid g memory is = absurd (cc)
named_names c value (bytes held) g memory is = named_by c value held g (commit_in c held) memory refl is

names_named : (c : Config) (value : ℕ → Content) (content : Content) (g : Generation) → HasSizes c → Names c value content g → named c value content ≡ Ok g
unfolding named
names_named c value missing g sizes is = ap Ok (sym is)
names_named c value invalid g sizes is = absurd is
names_named c value (bytes held) g sizes is =
    let commit = is.0 in
    let names = is.2 in
    let found : commit_in c held ≡ Some commit = commit_read c held commit names.form is.1 in
    let state : parts_read c value commit parts ≡ Ok g.state = whole_read c sizes value commit g.state names.fits names.blocks in
    let number = names.number in
    ap (generation_of c value) found
    ∙ ap (λ (r : Result Persist Fault). r >>= (λ state. Ok (record { number = commit.generation; state = state }))) state
    ∙ ap (λ (n : ℕ). Ok (record { number = n; state = g.state })) number

-- ---- the application blocks and the excess
no_fault_found : (test : ℕ → Bool) (first count : ℕ) → find test (range_with_len first count) ≡ None → (k : ℕ) → k < count → test (first + k) ≡ false
no_fault_found test first zero none k below = absurd (omega (arith, below))
no_fault_found test first (suc count) none k below = elim (cases_Bool (test first)) [
  | inl passes ↦ absurd (let some = sym (chosen (test first) (Some first) (find test (range_with_len (first + 1) count)) passes) ∙ none in cc)
  | inr fails ↦
      let rest : find test (range_with_len (first + 1) count) ≡ None = sym (not_chosen (test first) (Some first) (find test (range_with_len (first + 1) count)) fails) ∙ none in
      elim (cases_eq k 0) [
        | inl start ↦ let here : first ≡ first + k = omega (arith, start) in subst (λ (n : ℕ). test n ≡ false) here fails
        | inr other ↦
            let here : first + 1 + (k - 1) ≡ first + k = omega (arith, other) in
            subst (λ (n : ℕ). test n ≡ false) here (no_fault_found test (first + 1) count rest (k - 1) (omega (arith, below, other)))
      ]
]

pub find_no_fault : (test : ℕ → Bool) (first count : ℕ) → ((k : ℕ) → k < count → test (first + k) ≡ false) → find test (range_with_len first count) ≡ None
find_no_fault test first zero fails = refl
find_no_fault test first (suc count) fails =
    let start : first + 0 ≡ first = omega arith in
    not_chosen (test first) (Some first) (find test (range_with_len (first + 1) count)) (subst (λ (n : ℕ). test n ≡ false) start (fails 0 (omega arith)))
    ∙ find_no_fault test (first + 1) count (λ k below.
    let here : first + (k + 1) ≡ first + 1 + k = omega arith in
    subst (λ (n : ℕ). test n ≡ false) here (fails (k + 1) (omega (arith, below))))

no_fault : (o : Option ℕ) → application_fault o ≡ Ok tt → o ≡ None
no_fault None is = refl
no_fault (Some block) is = absurd (cc)

pub applications_fine : (value : ℕ → Content) → applications_judged value ≡ Ok tt → (block : ℕ) → block < 40 → is_application (value (application_number block)) ≡ true
unfolding applications_judged
applications_fine value is block below =
    let test : ℕ → Bool = λ b. not (is_application (value (application_number b))) in
    let here : 0 + block ≡ block = omega arith in
    not-false _ (subst (λ (n : ℕ). test n ≡ false) here (no_fault_found test 0 40 (no_fault _ is) block below))

pub fine_applications : (value : ℕ → Content) → ((block : ℕ) → block < 40 → is_application (value (application_number block)) ≡ true) → applications_judged value ≡ Ok tt
unfolding applications_judged
fine_applications value fine =
    let test : ℕ → Bool = λ b. not (is_application (value (application_number b))) in
    ap application_fault (find_no_fault test 0 40 (λ k below.
    let here : k ≡ 0 + k = omega arith in
    subst (λ (n : ℕ). test n ≡ false) here (not_from_true _ (fine k below))))

borne : (c : Config) (value : ℕ → Content) → excess_judged c value ≡ Ok tt → IsBorne c value
unfolding excess_judged
borne c value is = elim (cases_Bool (nat_le (excess c value + needed_pages c) c.pages)) [
  | inl within ↦ leb-true _ c.pages within
  | inr past ↦ absurd (let fault = sym (not_chosen (nat_le (excess c value + needed_pages c) c.pages) (Ok tt) (Err _) past) ∙ is in cc)
]

excess_borne : (c : Config) (value : ℕ → Content) → IsBorne c value → excess_judged c value ≡ Ok tt
unfolding excess_judged
excess_borne c value is = chosen (nat_le (excess c value + needed_pages c) c.pages) (Ok tt) (Err _) (le-leb _ c.pages is)

-- ---- the whole
module _ (c : Config) (value : ℕ → Content) (commit : Content) (g : Generation) where
  -- What the steps say.
  pub held_holds : c.memory ≤ 16 → held_by c value commit ≡ Ok g → Holds c value commit g
  unfolding held_by
  held_holds memory is =
      let a = both_ok (marked c (value mark_number) commit) (λ _. named c value commit >>= (λ h. applications_judged value >>= (λ _. excess_judged c value >>= (λ _. Ok h)))) g is in
      let b = both_ok (named c value commit) (λ h. applications_judged value >>= (λ _. excess_judged c value >>= (λ _. Ok h))) g a.2 in
      let d = both_ok (applications_judged value) (λ _. excess_judged c value >>= (λ _. Ok b.0)) g b.2 in
      let e = both_ok (excess_judged c value) (λ _. Ok b.0) g d.2 in
      let same : b.0 ≡ g = cc in
      record {
        mark = marked_allows c (value mark_number) commit a.1;
        names = named_names c value commit g memory (b.1 ∙ ap Ok same);
        applications = applications_fine value d.1;
        excess = borne c value e.1;
      }

  pub holds_held : HasSizes c → IsMark (mark_of c) → Holds c value commit g → held_by c value commit ≡ Ok g
  unfolding held_by
  holds_held sizes own is =
      ap (λ (r : Result (Unit {0}) Fault). r >>= (λ _. named c value commit >>= (λ h. applications_judged value >>= (λ _. excess_judged c value >>= (λ _. Ok h))))) (allows_marked c (value mark_number) commit own is.mark)
      ∙ ap (λ (r : Result Generation Fault). r >>= (λ h. applications_judged value >>= (λ _. excess_judged c value >>= (λ _. Ok h)))) (names_named c value commit g sizes is.names)
      ∙ ap (λ (r : Result (Unit {0}) Fault). r >>= (λ _. excess_judged c value >>= (λ _. Ok g))) (fine_applications value is.applications)
      ∙ ap (λ (r : Result (Unit {0}) Fault). r >>= (λ _. Ok g)) (excess_borne c value is.excess)
