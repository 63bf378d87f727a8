-- One part more of a generation that is read.
use Rattle.std.proofs.Common.{◌≡◌, ℕ, zero, suc, ◌+◌, ◌-◌, ◌<◌, ◌≤◌, sym, ◌∙◌, ap, subst, arith, inl, inr}
use Rattle.std.specs.Prelude.{Result, Ok, Err}
use Rattle.std.proofs.lemmas.Bool.{cases_lt}
use Rattle.flt_flash.specs.Content.{Content}
use Rattle.flt_flash.specs.Blocks.{BlocksState}
use Rattle.flt_config.specs.declared.config.Config.{Config}
use Rattle.flt_config.specs.declared.persist.Persist.{Persist}
use Rattle.flt_store_model.specs.declared.commit.Commit.{Commit}
use Rattle.flt_store_model.specs.Layout.{first_part, end_part, parts}
use Rattle.flt_store_model.specs.Holding.{Fault, ◌>>=◌, with_named, parts_read}
use Rattle.flt_restore.specs.declared.fault.StartFault.{StartFault}
use Rattle.flt_restore.specs.declared.fault.StartFault.TheVariants.{Flash, Damaged, OtherConfig, SequenceSpent}
use Rattle.flt_restore.specs.Found.{Reads}
use Rattle.flt_restore.specs.Judging.{HasFaultCause}
use Rattle.flt_restore.proofs.Telling.{same_values, tells_from, tells_next}

module _ (c : Config) (value : ℕ → Content) (commit : Commit) where
  one_more : (count : ℕ) (out next : Persist) → parts_read c value commit count ≡ Ok out → with_named c value commit (first_part + count) out ≡ Ok next → parts_read c value commit (suc count) ≡ Ok next
  unfolding parts_read
  one_more count out next is took = ap (λ (r : Result Persist Fault). r >>= with_named c value commit (first_part + count)) is ∙ took

  -- A fault stays to the end.
  stops : (count total : ℕ) (fault : Fault) → count ≤ total → parts_read c value commit count ≡ Err fault → parts_read c value commit total ≡ Err fault
  unfolding parts_read
  stops count zero fault within is = let none : count ≡ 0 = omega (arith, within) in subst (λ (n : ℕ). parts_read c value commit n ≡ Err fault) none is
  stops count (suc total) fault within is = elim (cases_lt count (suc total)) [
    | inl below ↦ ap (λ (r : Result Persist Fault). r >>= with_named c value commit (first_part + total)) (stops count total fault (omega (arith, below)) is)
    | inr past ↦ let all : count ≡ suc total = omega (arith, within, past) in subst (λ (n : ℕ). parts_read c value commit n ≡ Err fault) all is
  ]

  tells_all : (before after : BlocksState) (count : ℕ) (fault : StartFault) → count ≤ parts → HasFaultCause c before after (parts_read c value commit count) fault → HasFaultCause c before after (parts_read c value commit parts) fault
  tells_all before after count Flash within tells = tells
  tells_all before after count (Damaged place) within tells = stops count parts _ within tells
  tells_all before after count (OtherConfig found wanted) within tells = (stops count parts _ within tells.0, tells.1)
  tells_all before after count SequenceSpent within tells = absurd tells

  -- A fault of one part is that of all.
  fault_of_all : (before after : BlocksState) (count : ℕ) (out : Persist) (fault : StartFault) → count < parts → parts_read c value commit count ≡ Ok out
      → HasFaultCause c before after (with_named c value commit (first_part + count) out) fault → HasFaultCause c before after (parts_read c value commit parts) fault
  unfolding parts_read
  fault_of_all before after count out fault below is tells =
      tells_all before after (suc count) fault (omega (arith, below)) (tells_next c before after (parts_read c value commit count) (with_named c value commit (first_part + count)) out fault is tells)

module _ (c : Config) (before middle : BlocksState) (reads : Reads before middle) (commit : Commit) (id : ℕ) (low : first_part ≤ id) (high : id < end_part) (out : Persist)
    (is : parts_read c before.value commit (id - first_part) ≡ Ok out) where
  at : first_part + (id - first_part) ≡ id
  at = omega (arith, low)

  pub part_taken : (next : Persist) → with_named c middle.value commit id out ≡ Ok next → parts_read c before.value commit (id + 1 - first_part) ≡ Ok next
  part_taken next took =
      let count : suc (id - first_part) ≡ id + 1 - first_part = omega (arith, low) in
      let here : with_named c before.value commit id out ≡ Ok next = subst (λ (value : ℕ → Content). with_named c value commit id out ≡ Ok next) (same_values before middle reads) took in
      subst (λ (n : ℕ). parts_read c before.value commit n ≡ Ok next) count
      (one_more c before.value commit (id - first_part) out next is (subst (λ (n : ℕ). with_named c before.value commit n out ≡ Ok next) (sym at) here))

  pub part_refused : (after : BlocksState) (fault : StartFault) → HasFaultCause c middle after (with_named c middle.value commit id out) fault → HasFaultCause c before after (parts_read c before.value commit parts) fault
  part_refused after fault tells =
      let here : HasFaultCause c middle after (with_named c before.value commit id out) fault =
      subst (λ (value : ℕ → Content). HasFaultCause c middle after (with_named c value commit id out) fault) (same_values before middle reads) tells in
      fault_of_all c before.value commit before after (id - first_part) out fault (omega (arith, low, high)) is
      (subst (λ (n : ℕ). HasFaultCause c before after (with_named c before.value commit n out) fault) (sym at) (tells_from c before middle after _ fault reads here))
