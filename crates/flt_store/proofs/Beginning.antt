-- What a start-up makes of the generation that it judged.
use Rattle.std.proofs.Common.{◌≡◌, inl, inr, ⊎_elim, ℕ, ◌-◌, Bool, true, false, length, Option, Some, None, Result, Ok, refl, sym, ◌∙◌, ap, subst, arith}
use Rattle.std.specs.Prelude.{IsFalse, IsErrOf}
use Rattle.flt_flash.specs.Content.{Content, missing, invalid, bytes}
use Rattle.flt_flash.specs.State.{HasRisenBy}
use Rattle.flt_flash.specs.Blocks.{BlocksState}
use Rattle.flt_flash.specs.Calls.{Follows, SameValues}
use Rattle.flt_flash.specs.declared.blocks.Blocks.{Ghosts}
use Rattle.flt_flash.specs.declared.blocks.BlockFault.{BlockFault}
use Rattle.flt_flash.specs.declared.blocks.BlockFault.TheVariants.{Flash, SequenceSpent}
use Rattle.flt_nvm.specs.declared.nvm.Nvm.{Nvm}
use Rattle.flt_nvm.specs.Blocks.{Repairs}
use Rattle.flt_nvm.specs.Driver.{driver_of}
use Rattle.flt_config.specs.declared.config.Config.{Config}
use Rattle.flt_config.specs.declared.persist.Persist.{Persist}
use Rattle.flt_config.specs.Durable.{Fits}
use Rattle.flt_store_model.specs.Layout.{commit_id, number_of, mark_number, first_commit, second_commit}
use Rattle.flt_store_model.specs.Excess.{IsBorne}
use Rattle.flt_store_model.specs.Laws.{IsGiven}
use Rattle.flt_store_model.specs.Holding.{Generation, Fault, Holds, IsSound, MarkAllows, OldOrNew, SameApplications, either_copy, only_bytes, held, spare}
use Rattle.flt_config.proofs.InitialFits.{initial_fits}
use Rattle.flt_store_model.proofs.ImageLaws.{held_stands, spare_stands}
use Rattle.flt_restore.specs.declared.commit.CommitCopy.{CommitCopy}
use Rattle.flt_restore.specs.Restored.{HasBytes, IsJudged, IsCopy, IsRestored, generation}
use Rattle.flt_store.specs.Started.{HasMark, IsStarted}
use Rattle.flt_store.specs.Cause.{StoreWrites}
use Rattle.flt_store.specs.Dark.{IsCommitUnmended}
use Rattle.flt_store.specs.Spent.{IsCommitStuck}
use Rattle.flt_store.specs.Start.{Begins, IsFoundIn}
use Rattle.flt_store.proofs.Causes.{borne_stays, writes_on}
use Rattle.flt_store.proofs.Dark.{commit_from}
use Rattle.flt_store.proofs.Marks.{TriesMark, keeps_marked, borne_marked, applications_marked}
use Rattle.flt_store.proofs.Started.{holds_still, sound_still}
use Rattle.flt_store.proofs.Mending.{Mends, mended_within, mended_writes, mended_started, mended_tried, mended_applications, commit_unmended, commit_stuck}
use Rattle.flt_store.proofs.OutOfNumbers.{commit_stuck_from}

first_missing : (first second : Content) → either_copy first second ≡ missing → first ≡ missing
first_missing missing second is = refl
first_missing invalid missing is = absurd (cc is)
first_missing invalid invalid is = absurd (cc is)
first_missing invalid (bytes raw) is = absurd (cc is)
first_missing (bytes raw) second is = absurd (cc is)

second_missing : (first second : Content) → either_copy first second ≡ missing → only_bytes second ≡ missing
second_missing first missing is = refl
second_missing first invalid is = refl
second_missing missing (bytes raw) is = absurd (cc is)
second_missing invalid (bytes raw) is = absurd (cc is)
second_missing (bytes other) (bytes raw) is = absurd (cc is)

borne_of : (c : Config) (value : ℕ → Content) (found : Option CommitCopy) (g : Generation) → Begins c value found g → IsBorne c value
borne_of c value None g begins = begins.0.excess
borne_of c value (Some found) g begins = begins.0.excess

-- What a generation begins with stays, where the mark alone was written.
module _ {c : Config} {before after : BlocksState} (tries : TriesMark c before after) where
  pub copy_marked : (found : CommitCopy) → IsCopy c before.value found → IsCopy c after.value found
  copy_marked found is = record {
    least = is.least;
    most = is.most;
    holds = tries.others (number_of commit_id (found.copy - 1)) (λ same. omega (arith, same)) ∙ is.holds;
    read = is.read;
  }

  begins_marked : (found : Option CommitCopy) (g : Generation) → Begins c before.value found g → Begins c after.value found g
  begins_marked None g begins = (
    holds_still (keeps_marked tries) missing g begins.0,
    tries.others first_commit (λ same. omega (arith, same)) ∙ begins.1,
    ap only_bytes (tries.others second_commit (λ same. omega (arith, same))) ∙ begins.2,
  )
  begins_marked (Some found) g begins = (holds_still (keeps_marked tries) (bytes found.bytes.items) g begins.0, copy_marked found begins.1)

  pub borne_with_mark : (found : Option CommitCopy) (g : Generation) → Begins c before.value found g → IsBorne c after.value
  borne_with_mark found g begins = borne_marked tries (borne_of c before.value found g begins)

  -- No copy was found, and the mark is there.
  pub none_started : ((commit : Content) → MarkAllows c (before.value mark_number) commit → HasMark c after.value) → (g : Generation) → Begins c before.value None g → IsStarted c after.value None g
  none_started marked g begins = let now = begins_marked None g begins in record {
    mark = marked missing begins.0.mark;
    first = now.1;
    equal = now.2 ∙ sym now.1;
    names = now.0.names;
    applications = now.0.applications;
    excess = now.0.excess;
  }

module _ {B : Type 0} {b : Ghosts B} where
  -- Nothing was written but the mark, and then the copies of the commit were repaired by the one that was found.
  pub record Begun (c : Config) (before middle after : Nvm B b) (found : CommitCopy) (result : Result (Unit {0}) BlockFault) : Type 0 where
    pub tries : TriesMark c (driver_of before) (driver_of middle)
    pub is : IsCopy c (driver_of before).value found
    pub repairs : Repairs commit_id found.copy (bytes found.bytes.items) (length found.bytes.items) middle after result

module _ {B : Type 0} {b : Ghosts B} {c : Config} {before middle after : Nvm B b} {found : CommitCopy} {result : Result (Unit {0}) BlockFault} (begun : Begun c before middle after found result) where
  mends : Mends c middle after found.copy found.bytes.items found.commit result
  mends = let is = copy_marked begun.tries found begun.is in record { least = is.least; most = is.most; holds = is.holds; read = is.read; repairs = begun.repairs }

  pub begun_started : result ≡ Ok tt → ((commit : Content) → MarkAllows c ((driver_of before).value mark_number) commit → HasMark c (driver_of middle).value)
      → (g : Generation) → Begins c (driver_of before).value (Some found) g → IsStarted c (driver_of after).value (Some found.commit) g
  begun_started done marked g begins = mended_started mends done g (marked (bytes found.bytes.items) begins.0.mark) (holds_still (keeps_marked begun.tries) (bytes found.bytes.items) g begins.0)

  pub begun_tried : (h s new : Generation) → IsSound c (driver_of before).value h s → OldOrNew c (driver_of after).value h s new
  begun_tried h s new sound = mended_tried mends h s new (sound_still (keeps_marked begun.tries) h s sound)

  pub begun_borne : (held : Option CommitCopy) (g : Generation) → Begins c (driver_of before).value held g → IsBorne c (driver_of after).value
  begun_borne held g begins = borne_stays c (driver_of middle).value (driver_of after).value (mended_within mends) (borne_with_mark begun.tries held g begins)

  pub begun_applications : SameApplications (driver_of before).value (driver_of after).value
  begun_applications block below = mended_applications mends block below ∙ applications_marked begun.tries block below

  pub begun_writes : StoreWrites (driver_of before) (driver_of after) result
  begun_writes = writes_on (driver_of before) (driver_of middle) (driver_of after) result begun.tries.keeps_driver (mended_writes mends)

  pub begun_unmended : IsErrOf result Flash → IsCommitUnmended (driver_of before) (driver_of after)
  begun_unmended told = commit_from (driver_of before) (driver_of middle) (driver_of after) begun.tries.keeps_driver begun.tries.others (commit_unmended mends told)

  pub begun_stuck : IsErrOf result SequenceSpent → IsCommitStuck (driver_of before) (driver_of after)
  begun_stuck told = commit_stuck_from (driver_of before) (driver_of middle) (driver_of after) begun.tries.keeps_driver begun.tries.others (commit_stuck mends told)

-- What was restored is where a start-up begins.
begins_at : (c : Config) → IsGiven c → (before after : BlocksState) (found : Option CommitCopy) (state : Persist) → IsRestored c before after found state → Begins c before.value found (generation found state)
begins_at c given before after None state = ⊎_elim
    (λ by_either.
    let is = (held_stands c given before.value (generation None state)).0 by_either.0 in (
      subst (λ (content : Content). Holds c before.value content (generation None state)) by_either.1 is,
      first_missing (before.value first_commit) (before.value second_commit) by_either.1,
      second_missing (before.value first_commit) (before.value second_commit) by_either.1,
    ))
    (λ by_second. absurd (no_bytes (before.value second_commit) by_second.1 by_second.2))
  where
    no_bytes : (content : Content) → only_bytes content ≡ missing → HasBytes content → ⊥
    no_bytes missing is has = has
    no_bytes invalid is has = has
    no_bytes (bytes raw) is has = cc is
begins_at c given before after (Some found) state = ⊎_elim
    (λ by_either.
    let is = (held_stands c given before.value (generation (Some found) state)).0 by_either.0 in
    (subst (λ (content : Content). Holds c before.value content (generation (Some found) state)) by_either.1.0 is, by_either.1.1))
    (λ by_second.
    let is = (spare_stands c given before.value (generation (Some found) state)).0 by_second.0 in
    (subst (λ (content : Content). Holds c before.value content (generation (Some found) state)) by_second.1.0 is, by_second.1.1))

pub begins_of : (c : Config) → IsGiven c → (before after : BlocksState) (found : Option CommitCopy) (state : Persist) → SameValues before after → IsRestored c before after found state
    → Begins c after.value found (generation found state)
begins_of c given before after found state same restored =
    let values : before.value ≡ after.value = λ i number. sym (same number) i in
    subst (λ (value : ℕ → Content). Begins c value found (generation found state)) values (begins_at c given before after found state restored)

-- So the copy that was found is there.
found_at : (c : Config) (before after : BlocksState) (found : Option CommitCopy) (state : Persist) → IsRestored c before after found state → IsFoundIn c before.value found
found_at c before after None state restored = tt
found_at c before after (Some found) state restored = ⊎_elim (λ by_either. by_either.1.1) (λ by_second. by_second.1.1) restored

pub found_in : (c : Config) (before after : BlocksState) (found : Option CommitCopy) (state : Persist) → SameValues before after → IsRestored c before after found state → IsFoundIn c after.value found
found_in c before after found state same restored =
    let values : before.value ≡ after.value = λ i number. sym (same number) i in
    subst (λ (value : ℕ → Content). IsFoundIn c value found) values (found_at c before after found state restored)

-- The state from which a start-up begins fits.
pub begun_fits : (c : Config) (value : ℕ → Content) (found : Option CommitCopy) (state : Persist) → Begins c value found (generation found state) → Fits c state
begun_fits c value None state begins = subst (λ (g : Generation). Fits c g.state) (sym begins.0.names) (initial_fits c)
begun_fits c value (Some found) state begins = begins.0.names.2.fits

-- What was judged between a mount and the writes was judged in the whole start-up.
pub judged_in : (c : Config) (first second third fourth : BlocksState) (judged : Result Generation Fault) → SameValues first second → HasRisenBy 0 first.device.faults second.device.faults
    → HasRisenBy 0 third.device.faults fourth.device.faults → IsJudged c second third judged → IsJudged c first fourth judged
judged_in c first second third fourth judged same before after =
    ⊎_elim
    (λ by_either. inl (subst (λ (value : ℕ → Content). held c value ≡ judged) values by_either))
    (λ by_second. inr (subst (λ (value : ℕ → Content). spare c value ≡ judged) values by_second.0, subst HasBytes (same second_commit) by_second.1, (let rose = by_second.2 in omega (arith, rose, before, after))))
  where
    values : second.value ≡ first.value
    values i number = same number i

-- The number of the generation that was restored, in words of its commit.
pub same_generation : (found : Option CommitCopy) (state : Persist) (number : ℕ) → (generation found state).number ≡ number → generation found state ≡ record { number = number; state = state }
same_generation None state number is i = record { number = is i; state = state }
same_generation (Some found) state number is i = record { number = is i; state = state }

-- A driver that is not spent was not.
pub not_spent : (before after : BlocksState) → Follows before after → IsFalse after.is_spent → IsFalse before.is_spent
not_spent before after follows later = by before.is_spent refl
  where
    by : (spent : Bool) → before.is_spent ≡ spent → IsFalse before.is_spent
    by false is = is
    by true is = let stays = follows.stays_spent is in absurd (cc (stays, later))
