-- What is answered of an image that was judged by one copy of its commit or the other.
use Rattle.std.proofs.Common.{◌≡◌, ◌⊎◌, ℕ, ◌-◌, List, refl, sym, ◌∙◌, ap, subst, arith, inl, inr, ⊎_elim}
use Rattle.std.specs.Prelude.{Option, Some, None, Result, Ok, IsTrue}
use Rattle.flt_flash.specs.Content.{Content, missing, invalid, bytes}
use Rattle.flt_flash.specs.State.{HasRisenBy}
use Rattle.flt_flash.specs.Blocks.{BlocksState}
use Rattle.flt_config.specs.declared.config.Config.{Config}
use Rattle.flt_config.specs.declared.persist.Persist.{Persist}
use Rattle.flt_store_model.specs.Layout.{number_of, commit_id, first_commit, second_commit}
use Rattle.flt_store_model.specs.Reading.{commit_in}
use Rattle.flt_store_model.specs.Holding.{Generation, Fault, held_by, either_copy, only_bytes}
use Rattle.flt_restore.specs.declared.commit.CommitCopy.{CommitCopy}
use Rattle.flt_restore.specs.declared.fault.StartFault.{StartFault}
use Rattle.flt_restore.specs.declared.fault.StartFault.TheVariants.{Flash, Damaged, OtherConfig, SequenceSpent}
use Rattle.flt_restore.specs.Judging.{HasFaultCause, IsReadFrom, IsOfCopy, IsSource}
use Rattle.flt_restore.specs.Restored.{HasBytes, IsJudged, generation, IsCopy, IsCommitOf, IsRestored, Refuses}

-- ---- the copy that was read
copy_is : (c : Config) (value : ℕ → Content) (found : CommitCopy) (raw : List ℕ) → raw ≡ found.bytes.items → commit_in c found.bytes.items ≡ Some found.commit
    → ((found.copy ≡ 1) × (value first_commit ≡ bytes raw)) ⊎ ((found.copy ≡ 2) × (value second_commit ≡ bytes raw)) → IsCopy c value found
copy_is c value found raw same read (inl first) =
    let place : number_of commit_id (found.copy - 1) ≡ 16 = omega (arith, first.0) in
    record { least = omega (arith, first.0); most = omega (arith, first.0); holds = ap value place ∙ first.1 ∙ ap bytes same; read = read }
copy_is c value found raw same read (inr second) =
    let place : number_of commit_id (found.copy - 1) ≡ 17 = omega (arith, second.0) in
    record { least = omega (arith, second.0); most = omega (arith, second.0); holds = ap value place ∙ second.1 ∙ ap bytes same; read = read }

pub commit_by_either : (c : Config) (value : ℕ → Content) (content : Content) (copy : ℕ) (commit : Option CommitCopy) → content ≡ either_copy (value first_commit) (value second_commit)
    → IsOfCopy (value first_commit) (value second_commit) content copy → IsReadFrom c content copy commit → IsCommitOf c value (either_copy (value first_commit) (value second_commit)) commit
commit_by_either c value content copy None is from read = sym is ∙ read
commit_by_either c value content copy (Some found) is from read = (
  sym is ∙ read.1,
  copy_is c value found found.bytes.items refl read.2
      (subst (λ (n : ℕ). ((n ≡ 1) × (value first_commit ≡ bytes found.bytes.items)) ⊎ ((n ≡ 2) × (value second_commit ≡ bytes found.bytes.items))) (sym read.0) (from found.bytes.items read.1)),
)

no_bytes : (content : Content) → content ≡ missing → HasBytes content → ⊥
no_bytes missing is has = has
no_bytes invalid is has = has
no_bytes (bytes raw) is has = cc

pub commit_by_second : (c : Config) (value : ℕ → Content) (content : Content) (commit : Option CommitCopy) → content ≡ value second_commit → HasBytes content → IsReadFrom c content 2 commit
    → IsCommitOf c value (only_bytes (value second_commit)) commit
commit_by_second c value content None is has read = absurd (no_bytes content read has)
commit_by_second c value content (Some found) is has read =
    let here : value second_commit ≡ bytes found.bytes.items = sym is ∙ read.1 in
    (ap only_bytes here, copy_is c value found found.bytes.items refl read.2 (inr (read.0, here)))

pub only_itself : (content : Content) → HasBytes content → only_bytes content ≡ content
only_itself missing has = absurd has
only_itself invalid has = absurd has
only_itself (bytes raw) has = refl

-- ---- the answers, from the state at which the commit was read
module _ (c : Config) (start before after : BlocksState) (values : before.value ≡ start.value) (content : Content) (copy : ℕ) (source : IsSource start before content copy)
    (counts : HasRisenBy 0 before.device.faults after.device.faults) where
  held_there : (judged : Result Generation Fault) → held_by c before.value content ≡ judged → held_by c start.value content ≡ judged
  held_there judged is = subst (λ (value : ℕ → Content). held_by c value content ≡ judged) values is

  judged : (found : Result Generation Fault) → held_by c before.value content ≡ found → IsJudged c start after found
  judged found is = elim source [
    | inl either ↦ inl (ap (held_by c start.value) (sym either.0) ∙ held_there found is)
    | inr second ↦ inr (
      ap (held_by c start.value) (ap only_bytes (sym second.0) ∙ only_itself content second.1) ∙ held_there found is,
      subst HasBytes second.0 second.1,
      omega (arith, counts, second.3),
    )
  ]

  pub refused : (fault : StartFault) → HasFaultCause c before after (held_by c before.value content) fault → HasRisenBy 0 start.device.faults before.device.faults → Refuses c start after fault
  refused Flash tells rises = omega (arith, tells, rises)
  refused (Damaged place) tells rises = judged _ tells
  refused (OtherConfig found wanted) tells rises = (judged _ tells.0, tells.1)
  refused SequenceSpent tells rises = absurd tells

  pub spent : (g : Generation) → held_by c before.value content ≡ Ok g → IsTrue after.is_spent → Refuses c start after SequenceSpent
  spent g is last = ((g, judged (Ok g) is), last)

  pub restores : (commit : Option CommitCopy) (state : Persist) → held_by c before.value content ≡ Ok (generation commit state) → IsReadFrom c content copy commit → IsRestored c start after commit state
  restores commit state is from = elim source [
    | inl either ↦ inl (ap (held_by c start.value) (sym either.0) ∙ held_there (Ok (generation commit state)) is, commit_by_either c start.value content copy commit either.0 either.1 from)
    | inr second ↦ inr (
      ap (held_by c start.value) (ap only_bytes (sym second.0) ∙ only_itself content second.1) ∙ held_there (Ok (generation commit state)) is,
      commit_by_second c start.value content commit second.0 second.1 (subst (λ (n : ℕ). IsReadFrom c content n commit) second.2 from),
      subst HasBytes second.0 second.1,
      omega (arith, counts, second.3),
    )
  ]

-- What was restored was judged.
pub judged_of : (c : Config) (before after : BlocksState) (found : Option CommitCopy) (state : Persist) → IsRestored c before after found state → IsJudged c before after (Ok (generation found state))
judged_of c before after found state = ⊎_elim (λ by_either. inl by_either.0) (λ by_second. inr (by_second.0, by_second.2, by_second.3))
