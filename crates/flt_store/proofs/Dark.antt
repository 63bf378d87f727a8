-- What failed after a mount, in words of the whole start-up.
use Rattle.std.proofs.Common.{◌≡◌, ◌⊎◌, inl, inr, ℕ, ◌-◌, ◌≤◌, Bool, true, false, List, length, Some, Err, ◌∙◌, refl, sym, subst, arith}
use Rattle.std.specs.Prelude.{IsTrue, IsFalse}
use Rattle.flt_flash.specs.Content.{bytes}
use Rattle.flt_flash.specs.Blocks.{BlocksState}
use Rattle.flt_flash.specs.Calls.{Follows, OthersKept, SameValues}
use Rattle.flt_flash.specs.declared.blocks.BlockFault.{BlockFault}
use Rattle.flt_flash.specs.declared.blocks.BlockFault.TheVariants.{Flash as FlashFault, SequenceSpent as Stuck}
use Rattle.flt_flash.proofs.CallsInARow.{no_call, more_calls}
use Rattle.flt_nvm.specs.Leaves.{GivesInAJob}
use Rattle.flt_nvm.specs.Reads.{IsUnmended}
use Rattle.flt_config.specs.declared.config.Config.{Config}
use Rattle.flt_store_model.specs.Laws.{IsGiven}
use Rattle.flt_store_model.specs.Layout.{commit_id, mark_number, number_of, numbers}
use Rattle.flt_store_model.specs.Excess.{IsBorne}
use Rattle.flt_store_model.specs.Form.{mark_of}
use Rattle.flt_restore.specs.declared.fault.StartFault.TheVariants.{Flash}
use Rattle.flt_restore.specs.Unread.{IsImageUnread}
use Rattle.flt_restore.proofs.Failing.{image_unread_from}
use Rattle.flt_store.specs.Cause.{HasRoom, StoreWrites}
use Rattle.flt_store.specs.Dark.{FailsToWrite, IsMarkUnwritten, IsCommitUnmended, IsUnbegun, IsUnrestarted}
use Rattle.flt_store.proofs.Causes.{was_flash}
use Rattle.flt_restore.specs.Restored.{IsMarkDue}
use Rattle.flt_restore.specs.Told.{start_fault_of}

pub write_at_once : (number : ℕ) (raw : List ℕ) (before after : BlocksState) → GivesInAJob number (bytes raw) (length raw) before after (Err FlashFault) → after.last_failed ≡ Some number
    → FailsToWrite number raw before after
write_at_once number raw before after fails named = record { first = before; last = after; earlier = no_call before; fails = fails; later = no_call after; named = named }

-- Where nothing but the mark was written before it.
pub commit_from : (before middle after : BlocksState) → Follows before middle → OthersKept mark_number before middle → IsCommitUnmended middle after → IsCommitUnmended before after
commit_from before middle after so_far same unmended = record {
  copy = unmended.copy;
  least = unmended.least;
  most = unmended.most;
  raw = unmended.raw;
  holds = sym (same _ (λ mark. omega (arith, mark))) ∙ unmended.holds;
  first = unmended.first;
  earlier = more_calls before middle unmended.first so_far unmended.earlier;
  same = λ other apart. unmended.same other apart ∙ same other apart;
  unmended = unmended.unmended;
}

module _ (before middle after : BlocksState) (so_far : Follows before middle) (same : SameValues before middle) where
  mark_from : (c : Config) → IsMarkUnwritten c middle after → IsMarkUnwritten c before after
  mark_from c (due, unwritten) = (
    subst (IsMarkDue (mark_of c)) (same mark_number) due,
    record {
      first = unwritten.first;
      last = unwritten.last;
      earlier = more_calls before middle unwritten.first so_far unwritten.earlier;
      fails = unwritten.fails;
      later = unwritten.later;
      named = unwritten.named;
    },
  )

  pub unrestarted_from : IsCommitUnmended middle after → IsUnrestarted before after
  unrestarted_from commit = inr (commit_from before middle after so_far (λ other apart. same other) commit)

  pub unbegun_from : (c : Config) → IsUnbegun c middle after → IsUnbegun c before after
  unbegun_from c (inl mark) = inl (mark_from c mark)
  unbegun_from c (inr commit) = inr (commit_from before middle after so_far (λ other apart. same other) commit)

  pub unready_from : (c : Config) → IsImageUnread c middle after ⊎ IsUnbegun c middle after → IsImageUnread c before after ⊎ IsUnbegun c before after
  unready_from c (inl unread) = inl (image_unread_from c before middle after so_far same unread)
  unready_from c (inr unbegun) = inr (unbegun_from c unbegun)

not_stuck : (fault : BlockFault) → start_fault_of fault ≡ Flash → fault ≡ Stuck → ⊥
not_stuck fault is stuck = let told : start_fault_of Stuck ≡ Flash = subst (λ (f : BlockFault). start_fault_of f ≡ Flash) stuck is in absurd (cc told)

-- A write that is reported as a fault of the flash was failed by it.
pub was_flash_of_write : {T : Type 0} (c : Config) → IsGiven c → (before after : BlocksState) (fault : BlockFault) → StoreWrites {T = T} before after (Err fault) → before.numbers ≡ numbers → HasRoom c before.room
    → IsTrue before.has_mounted → IsBorne c after.value → start_fault_of fault ≡ Flash → fault ≡ FlashFault
was_flash_of_write {T} c given before after fault writes all room has borne is = was_flash {T = T} c given before after fault writes all room has borne (not_stuck fault is)

-- A repair that failed at once.
pub unmended_at : (before after : BlocksState) (raw : List ℕ) (copy : ℕ) → 1 ≤ copy → copy ≤ 2 → before.value (number_of commit_id (copy - 1)) ≡ bytes raw
    → IsUnmended before after (number_of commit_id (2 - copy)) (bytes raw) → IsCommitUnmended before after
unmended_at before after raw copy least most holds unmended = record {
  copy = copy;
  least = least;
  most = most;
  raw = raw;
  holds = holds;
  first = before;
  earlier = no_call before;
  same = λ other apart. refl;
  unmended = unmended;
}

pub is_unsettled : (was_settled : Bool) → (IsTrue was_settled → ⊥) → IsFalse was_settled
is_unsettled true never = absurd (never refl)
is_unsettled false never = refl
