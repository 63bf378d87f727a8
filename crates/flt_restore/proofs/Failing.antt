-- What could not be read, stated for more calls.
use Rattle.std.proofs.Common.{◌≡◌, ℕ, List, Option, Some, None, Result, Ok, Err, inl, inr, refl, sym, ◌∙◌, subst, arith}
use Rattle.std.specs.Prelude.{IfErr, IfSome, IsErrOf, IsSomeAnd, IsTrue}
use Rattle.std.specs.Result.{IsErrAnd}
use Rattle.flt_flash.specs.Content.{Content}
use Rattle.flt_flash.specs.Blocks.{BlocksState}
use Rattle.flt_flash.specs.Calls.{Follows, ReadsAlone, SameValues}
use Rattle.flt_flash.specs.declared.blocks.BlockFault.{BlockFault}
use Rattle.flt_flash.specs.declared.blocks.BlockFault.TheVariants.{Flash as FlashFault, Full, SequenceSpent, Damaged}
use Rattle.flt_flash.proofs.CallsInARow.{no_call, more_calls}
use Rattle.flt_nvm.specs.declared.got.Got.{Got}
use Rattle.flt_nvm.specs.declared.table.Kind.{Kind}
use Rattle.flt_nvm.specs.declared.table.Kind.TheVariants.{Native, Redundant, Dataset}
use Rattle.flt_nvm.specs.declared.table.BlockCfg.{BlockCfg}
use Rattle.flt_nvm.specs.Table.{block_in, AsKept, ByKind}
use Rattle.flt_nvm.specs.Reads.{IsUnread, LooksInAJob}
use Rattle.flt_nvm.specs.Leaves.{HasNoBytes}
use Rattle.flt_image.specs.Table.{block_table}
use Rattle.flt_config.specs.declared.config.Config.{Config}
use Rattle.flt_store_model.specs.Layout.{mark_number, first_commit, second_commit, number_of}
use Rattle.flt_restore.specs.Found.{IsIndexOf, IsSingle}
use Rattle.flt_restore.specs.declared.fault.StartFault.{StartFault}
use Rattle.flt_restore.specs.declared.fault.StartFault.TheVariants.{Flash}
use Rattle.flt_store_model.specs.declared.commit.Commit.{Commit}
use Rattle.flt_store_model.specs.Holding.{either_copy}
use Rattle.flt_restore.specs.Judging.{IsOfCopy, IsSource}
use Rattle.flt_restore.specs.Unread.{FailsToRead, IsCommitUnread, IsPartUnread, IsStateUnread, IsImageUnread}

pub fails_from : (number : ℕ) (before middle after : BlocksState) → Follows before middle → FailsToRead number middle after → FailsToRead number before after
fails_from number before middle after so_far unread = record {
  first = unread.first;
  last = unread.last;
  earlier = more_calls before middle unread.first so_far unread.earlier;
  fails = unread.fails;
  later = unread.later;
  named = unread.named;
}

has_none : (before middle : BlocksState) → SameValues before middle → (number : ℕ) → HasNoBytes (middle.value number) → HasNoBytes (before.value number)
has_none before middle same number none = subst HasNoBytes (same number) none

pub commit_unread_from : (before middle after : BlocksState) → Follows before middle → SameValues before middle → IsCommitUnread middle after → IsCommitUnread before after
commit_unread_from before middle after so_far same (inl (between, first, second)) = inl (between, fails_from first_commit before middle between so_far first, second)
commit_unread_from before middle after so_far same (inr (inl (first, none))) = inr (inl (fails_from first_commit before middle after so_far first, has_none before middle same second_commit none))
commit_unread_from before middle after so_far same (inr (inr (second, none))) = inr (inr (fails_from second_commit before middle after so_far second, has_none before middle same first_commit none))

pub part_unread_from : (c : Config) (commit : Commit) (before middle after : BlocksState) → Follows before middle → IsPartUnread c commit middle after → IsPartUnread c commit before after
part_unread_from c commit before middle after so_far unread = record { id = unread.id; used = unread.used; fails = fails_from _ before middle after so_far unread.fails }

-- What counts as the commit does so from an earlier state on.
pub source_from : (start before after : BlocksState) (content : Content) (copy : ℕ) → Follows start before → SameValues start before → IsSource before after content copy → IsSource start after content copy
source_from start before after content copy so_far same source = elim source [
  | inl either ↦ inl (
      subst (λ (value : ℕ → Content). (content ≡ either_copy (value first_commit) (value second_commit)) × IsOfCopy (value first_commit) (value second_commit) content copy) (λ i block. same block i) either
      )
  | inr second ↦ inr (second.0 ∙ same second_commit, second.1, second.2, omega (arith, so_far.counts, second.3))
]

pub state_unread_from : (c : Config) (before middle after : BlocksState) → Follows before middle → SameValues before middle → IsStateUnread c middle after → IsStateUnread c before after
state_unread_from c before middle after so_far same unread = record {
  middle = unread.middle;
  earlier = more_calls before middle unread.middle so_far unread.earlier;
  content = unread.content;
  copy = unread.copy;
  source = source_from before middle unread.middle unread.content unread.copy so_far same unread.source;
  unread = unread.unread;
}

pub image_unread_from : (c : Config) (before middle after : BlocksState) → Follows before middle → SameValues before middle → IsImageUnread c middle after → IsImageUnread c before after
image_unread_from c before middle after so_far same (inl mark) = inl (fails_from mark_number before middle after so_far mark)
image_unread_from c before middle after so_far same (inr (inl commit)) = inr (inl (commit_unread_from before middle after so_far same commit))
image_unread_from c before middle after so_far same (inr (inr state)) = inr (inr (state_unread_from c before middle after so_far same state))

-- A fault that is handed on was the fault of the step.
pub was_flash : {T U : Type 0} (result : Result T StartFault) (fault : StartFault) → IsErrAnd result (λ e. e ≡ fault) → IsErrOf result Flash → IsErrOf {T = U} (Err fault) Flash
was_flash (Ok value) fault is flash = absurd is
was_flash (Err e) fault is flash = cc

pub if_err : {T E : Type 0} {P Q : E → Type 0} (result : Result T E) → ((fault : E) → P fault → Q fault) → IfErr result P → IfErr result Q
if_err (Ok value) next holds = tt
if_err (Err fault) next holds = next fault holds

-- What holds of a fault holds of the answer that has it.
pub if_err_of : {T E : Type 0} (P : E → Type 0) (result : Result T E) (fault : E) → IsErrAnd result (λ e. e ≡ fault) → P fault → IfErr result P
if_err_of P (Ok value) fault is holds = absurd is
if_err_of P (Err e) fault is holds = subst P (sym is) holds

-- What is said of a block of one copy, or of an index of a part.
module _ {Single : Type 0} (Both : Type 0) (index : ℕ) where
  of_kind : (kind : Kind) → IsIndexOf kind index → ByKind kind Single Both → Single
  of_kind Native single fact = fact
  of_kind Redundant single fact = absurd single
  of_kind (Dataset indices) single fact = fact

  of_found : (found : Option BlockCfg) → IsSomeAnd found (λ block. IsIndexOf block.kind index) → IfSome found (λ block. ByKind block.kind Single Both) → Single
  of_found None single fact = absurd single
  of_found (Some block) single fact = of_kind block.kind single fact

of_single : {Single : Type 0} (Both : Type 0) (table : List BlockCfg) (id index : ℕ) → table ≡ block_table → IsSingle id index → AsKept table id Single Both → Single
of_single {Single} Both table id index is single fact =
    of_found Both index (block_in block_table id) single (subst (λ (blocks : List BlockCfg). AsKept blocks id Single Both) is fact)

-- A read of a mounted driver answers no fault but one of the flash.
module _ (table : List BlockCfg) (id index : ℕ) (is : table ≡ block_table) (single : IsSingle id index) (before after : BlocksState) (mounted : IsTrue before.has_mounted)
    (Jobs Copies : Type 0) where
  pub fails_single : (result : Result Got BlockFault) (fault : BlockFault) → result ≡ Err fault → ReadsAlone before after result
      → AsKept table id (LooksInAJob (number_of id index) before after result) Jobs
      → (IsErrOf result FlashFault → AsKept table id (IsUnread (number_of id index) before after) Copies) → FailsToRead (number_of id index) before after
  fails_single (Ok got) fault was reads jobs unread = absurd (cc was)
  fails_single (Err FlashFault) fault was reads jobs unread = record {
    first = before;
    last = after;
    earlier = no_call before;
    fails = of_single Jobs table id index is single jobs;
    later = no_call after;
    named = (of_single Copies table id index is single (unread refl)).named;
  }
  fails_single (Err (Full live needed)) fault was reads jobs unread = absurd (reads.never_full.full live needed refl)
  fails_single (Err SequenceSpent) fault was reads jobs unread = absurd (reads.never_full.spent refl)
  fails_single (Err (Damaged sector page)) fault was reads jobs unread = absurd (cc ((reads.calls.damaged sector page refl).1, mounted))
