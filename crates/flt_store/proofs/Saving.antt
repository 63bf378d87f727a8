-- What the writes of a save leave of a started image.
use Rattle.std.proofs.Common.{◌≡◌, ◌⊎◌, inl, inr, ⊎_elim, ℕ, false, List, ◌+◌, ◌<◌, ◌≤◌, Option, Some, None, refl, sym, ◌∙◌, ap, subst, arith}
use Rattle.std.specs.Prelude.{IsTrue, ◌≢◌}
use Rattle.std.proofs.lemmas.Bool.{cases_Bool, and_from}
use Rattle.flt_flash.specs.Content.{Content, bytes}
use Rattle.flt_config.specs.declared.config.Config.{Config}
use Rattle.flt_config.specs.declared.persist.Persist.{Persist}
use Rattle.flt_store_model.specs.declared.commit.Commit.{Commit}
use Rattle.flt_store_model.specs.Layout.{number_of, mark_number, first_commit, second_commit, application_number, is_used, index_in}
use Rattle.flt_store_model.specs.Form.{commit_bytes, block_bytes, IsCommit}
use Rattle.flt_store_model.specs.Excess.{IsBorne}
use Rattle.flt_store_model.specs.Holding.{Generation, BlocksHold, either_copy, only_bytes, is_application, IsSound, OldOrNew}
use Rattle.flt_store_model.specs.Successor.{IsContentOf, number_in, IsPlaced, IsNext, is_moved, is_written, OnlyNewBlocks}
use Rattle.flt_image.specs.Blocks.{AreBlocksOf}
use Rattle.flt_store.specs.Cause.{IsWithinOwn}
use Rattle.flt_store.specs.Known.{MayKnow}
use Rattle.flt_store.specs.Writing.{AreWritten}
use Rattle.flt_store.specs.Started.{NamesOf, IsStarted, AgreeButForCommit}
use Rattle.flt_store_model.proofs.Pages.{used_range}
use Rattle.flt_store.proofs.Causes.{borne_stays}
use Rattle.flt_store.proofs.Successors.{Apart, used_of, moved_of, small_index, unmoved}
use Rattle.flt_store.proofs.Started.{holds_of, sound_started, numbered, names_kept, mark_kept, applications_kept, second_of, equal_still}

module _ (c : Config) where
  module _ (current : Option Commit) (next : Commit) (bytes_of : ℕ → List ℕ) (before after : ℕ → Content) (only : OnlyNewBlocks c current next bytes_of before after) where
    -- A number that is none of the next commit's places holds what it held.
    kept : (number : ℕ) → ((id : ℕ) → IsTrue (is_written c current next id) → index_in next id ≤ 1 → number ≢ number_of id (index_in next id)) → after number ≡ before number
    kept number apart = ⊎_elim (λ same. same) (λ block. absurd (apart block.0 block.1.written block.1.small block.1.place)) (only number)

    pub kept_low : (number : ℕ) → number < 24 → after number ≡ before number
    kept_low number low = kept number (λ id written small same. let range = used_range c id (used_of c current next id written) in omega (arith, range.0, same))

    pub kept_application : (block : ℕ) → after (application_number block) ≡ before (application_number block)
    kept_application block = kept (application_number block) (λ id written small same. let range = used_range c id (used_of c current next id written) in omega (arith, range.1, small, same))

    pub kept_named : (commit : Commit) → IsCommit c commit → ((id : ℕ) → IsTrue (is_written c current next id) → index_in commit id ≢ index_in next id) → (id : ℕ) → IsTrue (is_used c id)
        → after (number_of id (index_in commit id)) ≡ before (number_of id (index_in commit id))
    kept_named commit form moved id used = kept (number_of id (index_in commit id)) (λ other written new same.
        let old = small_index c commit form id used in
        let same_id : other ≡ id = omega (arith, old, new, same) in
        moved other written (let index : index_in commit id ≡ index_in next other = omega (arith, same, same_id) in ap (index_in commit) same_id ∙ index))

    -- The generation before is still stored.
    pub settled : (g : Generation) → IsWithinOwn c before after → IsStarted c before current g → IsStarted c after current g
    settled g within started = record {
      mark = kept_low mark_number (omega arith) ∙ started.mark;
      first = subst (IsContentOf current) (sym (kept_low first_commit (omega arith))) started.first;
      equal = equal_still (kept_low first_commit (omega arith)) (kept_low second_commit (omega arith)) started.equal;
      names = names current (λ id written. moved_of c current next id written) started.names;
      applications = λ block below. subst (λ (content : Content). IsTrue (is_application content)) (sym (kept_application block)) (started.applications block below);
      excess = borne_stays c before after within started.excess;
    }
      where
        names : (named : Option Commit) → ((id : ℕ) → IsTrue (is_written c current next id) → Apart named next id) → NamesOf c before named g → NamesOf c after named g
        names None moved is = is
        names (Some commit) moved is = record { form = is.form; number = is.number; blocks = λ id used. kept_named commit is.form moved id used ∙ is.blocks id used; fits = is.fits }

    -- The blocks of the next commit hold the state, those that were written and those that were not.
    pub blocks_hold : (kept_bytes : ℕ → List ℕ) (g : Generation) (state : Persist) → IsNext c current kept_bytes bytes_of next → AreBlocksOf c state bytes_of → AreWritten c current next bytes_of after
        → NamesOf c before current g → MayKnow c current kept_bytes g.state → BlocksHold c after next state
    blocks_hold kept_bytes g state follows told stand names known id used = elim (cases_Bool (is_moved current next id)) [
      | inl moved ↦ stand id (and_from (is_used c id) (is_moved current next id) used moved) ∙ ap bytes (told.bytes id used)
      | inr still ↦
          let range = used_range c id used in
          by current still ((follows.blocks id range.0 range.1).used used) names known (λ other written. moved_of c current next other written)
    ]
      where
        by : (named : Option Commit) → is_moved named next id ≡ false → IsPlaced named (kept_bytes id) (bytes_of id) id (index_in next id) → NamesOf c before named g → MayKnow c named kept_bytes g.state
            → ((other : ℕ) → IsTrue (is_written c current next other) → Apart named next other) → after (number_of id (index_in next id)) ≡ bytes (block_bytes state id)
        by None still placed names known moved = absurd cc
        by (Some commit) still placed names known moved =
            let same = unmoved c commit next kept_bytes bytes_of g.state state id used still placed known told in
            ap (λ (index : ℕ). after (number_of id index)) (sym same.0) ∙ kept_named commit names.form moved id used ∙ names.blocks id used ∙ ap bytes same.1

  -- Where nothing that is named was changed, both are the old one.
  pub still_old : (value : ℕ → Content) (current : Option Commit) (g new : Generation) → IsStarted c value current g → OldOrNew c value g g new
  still_old value current g new started = record { held = g; spare = g; sound = sound_started c value current g started; held_is = inl refl; spare_is = inl refl; rises = omega arith }

  module _ (before after : ℕ → Content) (agree : AgreeButForCommit before after) (excess : IsBorne c after) where
    -- A started image whose copies of the commit were both given another commit.
    restarted : (current commit : Option Commit) (g h : Generation) → IsStarted c before current g → NamesOf c before commit h
        → IsContentOf commit (after first_commit) → only_bytes (after second_commit) ≡ after first_commit → IsStarted c after commit h
    restarted current commit g h started names first equal = record {
      mark = mark_kept c before after agree started.mark;
      first = first;
      equal = equal;
      names = names_kept c before after agree commit h names;
      applications = applications_kept c before after agree started.applications;
      excess = excess;
    }

    -- Only the first copy was given the next commit.
    half_way : (current : Option Commit) (next : Commit) (g new : Generation) → IsStarted c before current g → new.number ≡ number_in current + 1 → NamesOf c before (Some next) new
        → IsContentOf (Some next) (after first_commit) → after second_commit ≡ before second_commit → IsSound c after new g
    half_way current next g new started number names first second =
        let old = numbered c before current g started.names in
        let mark = mark_kept c before after agree started.mark in
        let blocks = applications_kept c before after agree started.applications in
        record {
          holds = holds_of c after (either_copy (after first_commit) (after second_commit)) (Some next) new (first.0, ap (λ (content : Content). either_copy content (after second_commit)) first.1, first.2)
              mark (names_kept c before after agree (Some next) new names) blocks excess;
          spares = holds_of c after (only_bytes (after second_commit)) current g (subst (λ (content : Content). IsContentOf current (only_bytes content)) (sym second) (second_of started))
              mark (names_kept c before after agree current g started.names) blocks excess;
          order = omega (arith, old, number);
          step = omega (arith, old, number);
          same = λ equal. absurd (omega (arith, old, number, equal));
        }

    module _ (current : Option Commit) (next : Commit) (g new : Generation) (started : IsStarted c before current g)
        (number : new.number ≡ number_in current + 1) (names : NamesOf c before (Some next) new) where
      abbrev IsTried : ℕ → Type 0
      IsTried copy = (after copy ≡ before copy) ⊎ (after copy ≡ bytes (commit_bytes next))

      of_next : (content : Content) → content ≡ bytes (commit_bytes next) → IsContentOf (Some next) content
      of_next content is = (commit_bytes next, is, inl refl)

      -- Both copies were given the next commit.
      pub committed : after first_commit ≡ bytes (commit_bytes next) → after second_commit ≡ bytes (commit_bytes next) → IsStarted c after (Some next) new
      committed first second = restarted current (Some next) g new started names (of_next (after first_commit) first) (ap only_bytes second ∙ sym first)

      half : after first_commit ≡ bytes (commit_bytes next) → after second_commit ≡ before second_commit → OldOrNew c after g g new
      half first second = record {
        held = new;
        spare = g;
        sound = half_way current next g new started number names (of_next (after first_commit) first) second;
        held_is = inr (inr refl);
        spare_is = inl refl;
        rises = omega arith;
      }

      unchanged : after first_commit ≡ before first_commit → after second_commit ≡ before second_commit → OldOrNew c after g g new
      unchanged first second =
          still_old after current g new
          (restarted current current g g started started.names (subst (IsContentOf current) (sym first) started.first) (equal_still first second started.equal))

      -- The copies were tried one after the other.
      pub interrupted : (IsTried first_commit × (after second_commit ≡ before second_commit)) ⊎ ((after first_commit ≡ bytes (commit_bytes next)) × IsTried second_commit) → OldOrNew c after g g new
      interrupted (inl (inl first, second)) = unchanged first second
      interrupted (inl (inr first, second)) = half first second
      interrupted (inr (first, inl second)) = half first second
      interrupted (inr (first, inr second)) = record {
        held = new;
        spare = new;
        sound = sound_started c after (Some next) new (committed first second);
        held_is = inr (inr refl);
        spare_is = inr (inr refl);
        rises = omega (arith, number, numbered c before current g started.names);
      }
