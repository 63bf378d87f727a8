-- The reported fault is the first in the order of judging.
use Rattle.std.proofs.Common.{◌≡◌, ◌≢◌, ◌↔◌, ℕ, zero, suc, ◌+◌, ◌*◌, ◌<◌, ◌≤◌, List, refl, sym, ◌∙◌, ap, subst, arith, inl, inr}
use Rattle.std.specs.Prelude.{Some, None, Result, Ok, Err, IsTrue, IsOk}
use Rattle.std.proofs.lemmas.Bool.{cases_order, and_parts, leb-true, ltb-true}
use Rattle.flt_flash.specs.Content.{Content, missing, invalid, bytes}
use Rattle.flt_config.specs.declared.config.Config.{Config}
use Rattle.flt_config.specs.declared.persist.Persist.{Persist}
use Rattle.flt_store_model.specs.declared.mark.Mark.{Mark}
use Rattle.flt_store_model.specs.declared.commit.Commit.{Commit}
use Rattle.flt_store_model.specs.declared.place.Place.TheVariants.{Page, Block}
use Rattle.flt_store_model.specs.Layout.{mark_id, commit_id, mark_number, is_used, parts, end_part}
use Rattle.flt_store_model.specs.Form.{IsBytesOfMark}
use Rattle.flt_store_model.specs.Reading.{mark_in, commit_in}
use Rattle.flt_store_model.specs.Excess.{IsBorne}
use Rattle.flt_store_model.specs.Holding.{Generation, first_generation, Fault, damaged, other, ◌>>=◌, marked, parts_read, generation_of, named, applications_judged, excess_judged, held_by}
use Rattle.flt_store_model.specs.Faults.{IsMarkDamaged, IsOthers, IsCommitDamaged, HoldBelow, IsPartDamaged, IsApplicationDamaged, HasFault, judging_order, HasFirstFault}
use Rattle.flt_store_model.proofs.Marks.{mark_read}
use Rattle.flt_store_model.proofs.Commits.{read_commit}
use Rattle.flt_store_model.proofs.Short.{HasSizes}
use Rattle.flt_store_model.proofs.Below.{read_below, below_read}
use Rattle.flt_store_model.proofs.FaultCases.{MarkIs, mark_fine, mark_damaged, mark_others, mark_is, CommitIs, is_first, commit_damaged, is_commit_of, commit_is, first_fine, commit_fine, named_alone, PartsAre, all_read, failed, parts_are, ApplicationsAre, all_fine, one_damaged, applications_are, ExcessIs, is_borne, too_great, excess_is}

-- The used blocks are those of the parts.
part_within : (c : Config) (id : ℕ) → IsTrue (is_used c id) → (3 ≤ id) × (id < end_part)
part_within c id used = let range = and_parts _ _ (and_parts _ _ used).0 in (leb-true 3 id range.0, ltb-true id end_part range.1)

-- A block is judged by its identifier.
rank_at : (id : ℕ) → 0 < id → judging_order (damaged (Block id)) ≡ 2 * id
rank_at zero some = absurd (omega (arith, some))
rank_at (suc k) some = omega arith

-- What the content of a commit copy names.
named_first : (c : Config) (value : ℕ → Content) (content : Content) → content ≡ missing → named c value content ≡ Ok (first_generation c)
unfolding named
named_first c value content is = ap (named c value) is

named_none : (c : Config) (value : ℕ → Content) (content : Content) → content ≢ missing → ((held : List ℕ) → content ≡ bytes held → commit_in c held ≡ None) → named c value content ≡ Err (damaged (Block commit_id))
unfolding named
named_none c value missing some none = absurd (some refl)
named_none c value invalid some none = refl
named_none c value (bytes held) some none = ap (generation_of c value) (none held refl)

named_form : (c : Config) (value : ℕ → Content) (content : Content) (held : List ℕ) → content ≡ bytes held → (form : Commit) → commit_in c held ≡ Some form → named c value content ≡ generation_of c value (Some form)
unfolding named
named_form c value content held is form read = ap (named c value) is ∙ ap (generation_of c value) read

module _ (c : Config) (value : ℕ → Content) (commit : Content) where
  -- What a first fault excludes, up to a rank.
  record NoneBefore (bound : ℕ) : Type 0 where
    mark : 2 < bound → IsMarkDamaged (value mark_number) commit → ⊥
    own : 3 < bound → (found : Mark) → IsOthers c (value mark_number) found → ⊥
    commit_ : 4 < bound → IsCommitDamaged c commit → ⊥
    parts : (id : ℕ) → 2 * id < bound → IsPartDamaged c value commit id → ⊥
    applications : (id : ℕ) → 2 * id < bound → IsApplicationDamaged value id → ⊥
    borne : 208 < bound → IsBorne c value

  none_before : (bound : ℕ) → NoneBefore bound → (fault : Fault) → judging_order fault < bound → HasFault c value commit fault → ⊥
  none_before bound none (other found) below is = none.own below found is
  none_before bound none (damaged (Page sector page)) below is = is
  none_before bound none (damaged (Block zero)) below (inl is) = omega (arith, is.0)
  none_before bound none (damaged (Block zero)) below (inr (inl is)) = omega (arith, is.0)
  none_before bound none (damaged (Block zero)) below (inr (inr (inl is))) = omega (arith, (part_within c 0 is.used).0)
  none_before bound none (damaged (Block zero)) below (inr (inr (inr (inl is)))) = omega (arith, is.at)
  none_before bound none (damaged (Block zero)) below (inr (inr (inr (inr is)))) = is.1 (none.borne below)
  none_before bound none (damaged (Block (suc k))) below (inl is) = none.mark (omega (arith, is.0, below)) is.1
  none_before bound none (damaged (Block (suc k))) below (inr (inl is)) = none.commit_ (omega (arith, is.0, below)) is.1
  none_before bound none (damaged (Block (suc k))) below (inr (inr (inl is))) = none.parts (suc k) (omega (arith, below)) is
  none_before bound none (damaged (Block (suc k))) below (inr (inr (inr (inl is)))) = none.applications (suc k) (omega (arith, below)) is
  none_before bound none (damaged (Block (suc k))) below (inr (inr (inr (inr is)))) = omega (arith, is.0)

  -- What an image is judged to be.
  data HeldIs (result : Result Generation Fault) : Type 0 where
    holds : (g : Generation) → ((fault : Fault) → HasFault c value commit fault → ⊥) → result ≡ Ok g → HeldIs result
    has : (fault : Fault) → HasFirstFault c value commit fault → result ≡ Err fault → HeldIs result

  -- The mark, the commit and the blocks that it names are fine.
  record IsFine : Type 0 where
    mark : IsMarkDamaged (value mark_number) commit → ⊥
    own : (found : Mark) → IsOthers c (value mark_number) found → ⊥
    commit_ : IsCommitDamaged c commit → ⊥
    parts : (id : ℕ) → IsPartDamaged c value commit id → ⊥

  module _ (g : Generation) (fine : IsFine) where
    by_excess : ((id : ℕ) → IsApplicationDamaged value id → ⊥) → (result : Result (Unit {0}) Fault) → ExcessIs c value result → HeldIs (result >>= (λ _. Ok g))
    by_excess applications result (is_borne borne told) =
        holds g (λ fault is. none_before (judging_order fault + 1) (record { mark = λ _. fine.mark; own = λ _. fine.own; commit_ = λ _. fine.commit_; parts = λ id _. fine.parts id; applications = λ id _. applications id; borne = λ _. borne }) fault (omega arith) is)
        (ap (λ (r : Result (Unit {0}) Fault). r >>= (λ _. Ok g)) told)
    by_excess applications result (too_great past told) =
        has (damaged (Block 0))
        (record {
          is = inr (inr (inr (inr (refl, past))));
          first = λ earlier below is. none_before 208
              (record { mark = λ _. fine.mark; own = λ _. fine.own; commit_ = λ _. fine.commit_; parts = λ id _. fine.parts id; applications = λ id _. applications id; borne = λ no. absurd (omega (arith, no)) }) earlier below is;
        })
        (ap (λ (r : Result (Unit {0}) Fault). r >>= (λ _. Ok g)) told)

    by_applications : (result : Result (Unit {0}) Fault) → ApplicationsAre value result → HeldIs (result >>= (λ _. excess_judged c value >>= (λ _. Ok g)))
    by_applications result (all_fine applications told) =
        subst (λ (r : Result (Unit {0}) Fault). HeldIs (r >>= (λ _. excess_judged c value >>= (λ _. Ok g)))) (sym told) (by_excess applications (excess_judged c value) (excess_is c value))
    by_applications result (one_damaged block within is before told) =
        has (damaged (Block (64 + block)))
        (record {
          is = inr (inr (inr (inl is)));
          first = λ earlier below also. none_before (2 * (64 + block))
              (record {
                mark = λ _. fine.mark;
                own = λ _. fine.own;
                commit_ = λ _. fine.commit_;
                parts = λ id _. fine.parts id;
                applications = λ id low. before id (omega (arith, low));
                borne = λ no. absurd (omega (arith, no, within));
              }) earlier (omega (arith, rank_at (64 + block) (omega arith), below)) also;
        })
        (ap (λ (r : Result (Unit {0}) Fault). r >>= (λ _. excess_judged c value >>= (λ _. Ok g))) told)

  -- The mark is fine.
  module _ (mark : IsMarkDamaged (value mark_number) commit → ⊥) (own : (found : Mark) → IsOthers c (value mark_number) found → ⊥) where
    abbrev judged_on : Result Generation Fault → Result Generation Fault
    judged_on result = result >>= (λ g. applications_judged value >>= (λ _. excess_judged c value >>= (λ _. Ok g)))

    -- A fault of a block below the application blocks.
    has_low : (id : ℕ) → 0 < id → id < 64 → HasFault c value commit (damaged (Block id)) → (4 < 2 * id → IsCommitDamaged c commit → ⊥) → ((k : ℕ) → k < id → IsPartDamaged c value commit k → ⊥)
        → HasFirstFault c value commit (damaged (Block id))
    has_low id some low is commit_ parts = record {
      is = is;
      first = λ earlier below also. none_before (2 * id)
          (record {
            mark = λ _. mark;
            own = λ _. own;
            commit_ = commit_;
            parts = λ k below. parts k (omega (arith, below));
            applications = λ k below is. omega (arith, below, is.at, low);
            borne = λ no. absurd (omega (arith, no, low));
          }) earlier (omega (arith, rank_at id some, below)) also;
    }

    -- Where the commit is a commit, the parts before one that was read are fine.
    part_before : HasSizes c → (held : List ℕ) → commit ≡ bytes held → (form : Commit) → commit_in c held ≡ Some form → (count : ℕ) → count ≤ parts → (p : Persist) → parts_read c value form count ≡ Ok p
        → (id : ℕ) → id < 3 + count → IsPartDamaged c value commit id → ⊥
    part_before sizes held is form read count most p whole id below part =
        let same : part.named ≡ form = named_alone c commit held is form read part.held part.is part.named part.form part.reads in
        let stands = read_below c sizes value form count most p whole in
        part.none p (subst (λ (k : Commit). HoldBelow c value k (id + 1) p) (sym same)
        (record { one_each = stands.one_each; blocks = λ other used low. stands.blocks other used (omega (arith, low, below)); fits = λ other used low. stands.fits other used (omega (arith, low, below)) }))

    by_parts : HasSizes c → (held : List ℕ) → commit ≡ bytes held → (form : Commit) → commit_in c held ≡ Some form → PartsAre c value form parts
        → HeldIs (judged_on (generation_of c value (Some form)))
    by_parts sizes held is form read (all_read p whole) =
        let g : Generation = record { number = form.generation; state = p } in
        let fine : IsFine = record {
          mark = mark;
          own = own;
          commit_ = commit_fine c commit held is form read;
          parts = λ id part. part_before sizes held is form read parts (omega arith) p whole id (part_within c id part.used).1 part;
        } in
        subst (λ (r : Result Persist Fault). HeldIs (judged_on (r >>= (λ state. Ok (record { number = form.generation; state = state }))))) (sym whole)
        (by_applications g fine (applications_judged value) (applications_are value))
    by_parts sizes held is form read (failed before below p whole used first told) =
        let proper = read_commit c held form read in
        let part : IsPartDamaged c value commit (3 + before) = record {
          held = held;
          is = is;
          named = form;
          form = proper.0;
          reads = proper.1;
          used = used;
          none = λ state stands.
              let next : 3 + before + 1 ≡ 3 + (before + 1) = omega arith in
              let found = below_read c sizes value form (before + 1) (omega (arith, below)) state (subst (λ (n : ℕ). HoldBelow c value form n state) next stands) in
              let given = found.1 in
              cc;
        } in
        has (damaged (Block (3 + before)))
        (has_low (3 + before) (omega arith) (omega (arith, below)) (inr (inr (inl part))) (λ _. commit_fine c commit held is form read)
        (λ k low also. part_before sizes held is form read before (omega (arith, below)) p whole k low also))
        (ap (λ (r : Result Persist Fault). judged_on (r >>= (λ state. Ok (record { number = form.generation; state = state })))) told)

    by_commit : HasSizes c → CommitIs c commit → HeldIs (judged_on (named c value commit))
    by_commit sizes (is_first none) =
        let fine : IsFine = record { mark = mark; own = own; commit_ = first_fine c commit none; parts = λ id part. (let some = part.is in cc) } in
        subst (λ (r : Result Generation Fault). HeldIs (judged_on r)) (sym (named_first c value commit none)) (by_applications (first_generation c) fine (applications_judged value) (applications_are value))
    by_commit sizes (commit_damaged is some none) =
        has (damaged (Block commit_id)) (has_low commit_id (omega arith) (omega arith) (inr (inl (refl, is))) (λ low. absurd (omega (arith, low))) (λ k low part. omega (arith, low, (part_within c k part.used).0)))
        (ap judged_on (named_none c value commit some none))
    by_commit sizes (is_commit_of held is form read) =
        subst (λ (r : Result Generation Fault). HeldIs (judged_on r)) (sym (named_form c value commit held is form read)) (by_parts sizes held is form read (parts_are c value form parts))

  by_mark : HasSizes c → (result : Result (Unit {0}) Fault) → MarkIs c (value mark_number) commit result
      → HeldIs (result >>= (λ _. named c value commit >>= (λ g. applications_judged value >>= (λ _. excess_judged c value >>= (λ _. Ok g)))))
  by_mark sizes result (mark_fine right own told) = subst (λ (r : Result (Unit {0}) Fault). HeldIs (r >>= (λ _. judged_on right own (named c value commit)))) (sym told) (by_commit right own sizes (commit_is c commit))
  by_mark sizes result (mark_damaged is told) =
      has (damaged (Block mark_id))
      (record {
        is = inl (refl, is);
        first = λ earlier below also. none_before 2
            (record {
              mark = λ no. absurd (omega (arith, no));
              own = λ no. absurd (omega (arith, no));
              commit_ = λ no. absurd (omega (arith, no));
              parts = λ id low part. omega (arith, low, (part_within c id part.used).0);
              applications = λ id low app. omega (arith, low, app.at);
              borne = λ no. absurd (omega (arith, no));
            }) earlier below also;
      })
      (ap (λ (r : Result (Unit {0}) Fault). r >>= (λ _. named c value commit >>= (λ g. applications_judged value >>= (λ _. excess_judged c value >>= (λ _. Ok g))))) told)
  by_mark sizes result (mark_others right found is told) =
      has (other found)
      (record {
        is = is;
        first = λ earlier below also. none_before 3
            (record {
              mark = λ _. right;
              own = λ no. absurd (omega (arith, no));
              commit_ = λ no. absurd (omega (arith, no));
              parts = λ id low part. omega (arith, low, (part_within c id part.used).0);
              applications = λ id low app. omega (arith, low, app.at);
              borne = λ no. absurd (omega (arith, no));
            }) earlier below also;
      })
      (ap (λ (r : Result (Unit {0}) Fault). r >>= (λ _. named c value commit >>= (λ g. applications_judged value >>= (λ _. excess_judged c value >>= (λ _. Ok g))))) told)

  held_is : HasSizes c → HeldIs (held_by c value commit)
  unfolding held_by
  held_is sizes = by_mark sizes (marked c (value mark_number) commit) (mark_is c (value mark_number) commit)

  -- One mark is another's at most.
  one_other : (first second : Mark) → IsOthers c (value mark_number) first → IsOthers c (value mark_number) second → first ≡ second
  one_other first second one two =
      let a = one.is in
      let b = two.is in
      let equal : one.held ≡ two.held = cc in
      let read : mark_in one.held ≡ Some first = mark_read one.held first one.form one.reads in
      let also : mark_in one.held ≡ Some second = mark_read one.held second two.form (subst (IsBytesOfMark second) (sym equal) two.reads) in
      cc

  -- The identifiers of faults end before the last rank.
  id_small : (id : ℕ) → HasFault c value commit (damaged (Block id)) → id < 104
  id_small id (inl is) = omega (arith, is.0)
  id_small id (inr (inl is)) = omega (arith, is.0)
  id_small id (inr (inr (inl is))) = omega (arith, (part_within c id is.used).1)
  id_small id (inr (inr (inr (inl is)))) = omega (arith, is.at, is.within)
  id_small id (inr (inr (inr (inr is)))) = omega (arith, is.0)

  -- Two faults of one rank are one.
  same_fault : (first second : Fault) → judging_order first ≡ judging_order second → HasFault c value commit first → HasFault c value commit second → first ≡ second
  same_fault (damaged (Page s p)) second rank one two = absurd one
  same_fault first (damaged (Page s p)) rank one two = absurd two
  same_fault (other first) (other second) rank one two = ap other (one_other first second one two)
  same_fault (other first) (damaged (Block zero)) rank one two = absurd (omega (arith, rank))
  same_fault (other first) (damaged (Block (suc k))) rank one two = absurd (omega (arith, rank))
  same_fault (damaged (Block zero)) (other second) rank one two = absurd (omega (arith, rank))
  same_fault (damaged (Block (suc k))) (other second) rank one two = absurd (omega (arith, rank))
  same_fault (damaged (Block zero)) (damaged (Block zero)) rank one two = refl
  same_fault (damaged (Block zero)) (damaged (Block (suc k))) rank one two = absurd (let small = id_small (suc k) two in omega (arith, rank, small))
  same_fault (damaged (Block (suc k))) (damaged (Block zero)) rank one two = absurd (let small = id_small (suc k) one in omega (arith, rank, small))
  same_fault (damaged (Block (suc k))) (damaged (Block (suc m))) rank one two = let same : suc k ≡ suc m = omega (arith, rank) in ap (λ (n : ℕ). damaged (Block n)) same

  pub fault_is_first : HasSizes c → (fault : Fault) → (held_by c value commit ≡ Err fault) ↔ HasFirstFault c value commit fault
  fault_is_first sizes fault = (first_where, told_where)
    where
      first_where : held_by c value commit ≡ Err fault → HasFirstFault c value commit fault
      first_where is = elim (held_is sizes) [
        | holds g none told ↦ absurd (cc)
        | has found first told ↦ (let same : found ≡ fault = cc in subst (HasFirstFault c value commit) same first)
      ]

      told_where : HasFirstFault c value commit fault → held_by c value commit ≡ Err fault
      told_where is = elim (held_is sizes) [
        | holds g none told ↦ absurd (none fault is.is)
        | has found first told ↦ told ∙ ap Err (elim (cases_order (judging_order found) (judging_order fault)) [
          | inl same ↦ same_fault found fault same first.is is.is
          | inr (inl less) ↦ absurd (is.first found less first.is)
          | inr (inr more) ↦ absurd (first.first fault more is.is)
        ])
      ]

  pub holds_without_fault : HasSizes c → IsOk (held_by c value commit) ↔ ((fault : Fault) → HasFault c value commit fault → ⊥)
  holds_without_fault sizes = (none_where, held_where)
    where
      none_where : IsOk (held_by c value commit) → (fault : Fault) → HasFault c value commit fault → ⊥
      none_where is = elim (held_is sizes) [
        | holds g none told ↦ none
        | has found first told ↦ absurd (let no = subst (λ (r : Result Generation Fault). IsOk r) told is in cc)
      ]

      held_where : ((fault : Fault) → HasFault c value commit fault → ⊥) → IsOk (held_by c value commit)
      held_where without = elim (held_is sizes) [
        | holds g none told ↦ subst (λ (r : Result Generation Fault). IsOk r) (sym told) refl
        | has found first told ↦ absurd (without found first.is)
      ]
