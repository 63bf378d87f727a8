-- A start-up that has no sequence number left for the commit.
use Rattle.std.proofs.Common.{inl, inr, ⊎_elim, ◌∙◌, sym, subst, arith}
use Rattle.flt_flash.specs.Blocks.{BlocksState}
use Rattle.flt_flash.specs.Calls.{Follows, OthersKept, SameSpent, SameValues}
use Rattle.flt_config.specs.declared.config.Config.{Config}
use Rattle.flt_store_model.specs.Layout.{mark_number}
use Rattle.flt_store_model.specs.Form.{mark_of}
use Rattle.flt_restore.specs.Restored.{IsMarkDue}
use Rattle.flt_store.specs.Spent.{IsBegunStuck, IsCommitStuck, IsOutOfNumbers}

-- Where nothing but the mark was written before it.
pub commit_stuck_from : (before middle after : BlocksState) → Follows before middle → OthersKept mark_number before middle → IsCommitStuck middle after → IsCommitStuck before after
commit_stuck_from before middle after so_far same is = record {
  copy = is.copy;
  least = is.least;
  most = is.most;
  raw = is.raw;
  holds = sym (same _ (λ mark. omega (arith, mark))) ∙ is.holds;
  needed = ⊎_elim (λ differs. inl (λ equal. differs (same _ (λ mark. omega (arith, mark)) ∙ equal))) (λ rose. inr (let counts = so_far.counts in omega (arith, counts, rose))) is.needed;
  stuck = is.stuck;
}

-- Where nothing was written before it.
module _ (c : Config) (before middle after : BlocksState) (so_far : Follows before middle) (same : SameValues before middle) where
  pub begun_stuck_from : IsBegunStuck c middle after → IsBegunStuck c before after
  begun_stuck_from (inl mark) = inl (record { due = subst (IsMarkDue (mark_of c)) (same mark_number) mark.due; stuck = mark.stuck })
  begun_stuck_from (inr commit) = inr (commit_stuck_from before middle after so_far (λ other apart. same other) commit)

  pub out_of_numbers_from : SameSpent before middle → IsOutOfNumbers c middle after → IsOutOfNumbers c before after
  out_of_numbers_from spent (inl was) = inl (sym spent ∙ was)
  out_of_numbers_from spent (inr stuck) = inr (begun_stuck_from stuck)
