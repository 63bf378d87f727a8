-- A job that reads is one whatever the value of its answer is.
use Rattle.std.proofs.Common.{◌≡◌, ℕ, zero, suc, List, Result, Ok, Err, inl, inr, ap, arith}
use Rattle.std.proofs.lemmas.Grind.{common_steps}
use Rattle.std.specs.Prelude.{IsErrOf, IfOk, OnErr}
use Rattle.flt_flash.specs.Blocks.{BlocksState}
use Rattle.flt_flash.specs.declared.blocks.BlockFault.{BlockFault}
use Rattle.flt_flash.specs.declared.blocks.BlockFault.TheVariants.{Flash, Full, SequenceSpent, Damaged}
use Rattle.flt_flash.specs.Calls.{ReadCosts, ReadsAlone}
use Rattle.flt_nvm.specs.Tries.{Tries, Looks}
use Rattle.flt_nvm.specs.declared.got.Got.{Got}
use Rattle.flt_nvm.specs.Leaves.{FlashTakesThree, GotOf}
use Rattle.flt_nvm.specs.Reads.{LooksInAJob, ReadsNumber}
use Rattle.flt_nvm.proofs.Named.{tries_named}

no_fault : {T : Type 0} (value : T) (fault : BlockFault) → IsErrOf (Ok value) fault → ⊥
no_fault value fault is = absurd (cc is)

-- A fault is the same one in an answer of another type.
same_fault : (S T : Type 0) (fault other : BlockFault) → IsErrOf {T = T} (Err fault) other → IsErrOf {T = S} (Err fault) other
same_fault S T fault other is = let same : fault ≡ other = cc is in ap Err same

module _ (before after : BlocksState) where
  reads_ok : {S T : Type 0} (x : S) (y : T) → ReadsAlone before after (Ok x) → ReadsAlone before after (Ok y)
  reads_ok x y reads = record {
    values = reads.values;
    calls = record { keeps_driver = reads.calls.keeps_driver; flash = λ is. absurd (no_fault y Flash is); damaged = λ sector page is. absurd (no_fault y (Damaged sector page) is); refuses_damage = reads.calls.refuses_damage };
    never_full = record { full = λ live needed. no_fault y (Full live needed); spent = no_fault y SequenceSpent };
    spent = reads.spent;
    settled = reads.settled;
    stale = reads.stale;
    image = reads.image;
  }

  reads_err : (S T : Type 0) (fault : BlockFault) → ReadsAlone {T = S} before after (Err fault) → ReadsAlone {T = T} before after (Err fault)
  reads_err S T fault reads = record {
    values = reads.values;
    calls = record {
      keeps_driver = reads.calls.keeps_driver;
      flash = λ is. reads.calls.flash (same_fault S T fault Flash is);
      damaged = λ sector page is. reads.calls.damaged sector page (same_fault S T fault (Damaged sector page) is);
      refuses_damage = reads.calls.refuses_damage;
    };
    never_full = record {
      full = λ live needed is. reads.never_full.full live needed (same_fault S T fault (Full live needed) is);
      spent = λ is. reads.never_full.spent (same_fault S T fault SequenceSpent is);
    };
    spent = reads.spent;
    settled = reads.settled;
    stale = reads.stale;
    image = reads.image;
  }

module _ (block : ℕ) (before after : BlocksState) where
  look_ok : {S T : Type 0} (x : S) (y : T) → Looks block before after (Ok x) → Looks block before after (Ok y)
  look_ok x y looks = record { reads = reads_ok before after x y looks.reads; once = record { calls = looks.once.calls; named = looks.once.named }; costs = looks.costs }

  look_err : (S T : Type 0) (fault : BlockFault) → Looks {T = S} block before after (Err fault) → Looks {T = T} block before after (Err fault)
  look_err S T fault looks = record { reads = reads_err before after S T fault looks.reads; once = record { calls = looks.once.calls; named = looks.once.named }; costs = looks.costs }

pub looks_ok : {S T : Type 0} (block most : ℕ) (before after : BlocksState) (x : S) (y : T) → Tries most (Looks block) before after (Ok x) → Tries most (Looks block) before after (Ok y)
unfolding Tries
looks_ok block zero before after x y tries = tries
looks_ok block (suc zero) before after x y tries = look_ok block before after x y tries
looks_ok block (suc (suc more)) before after x y (inl ends) = inl (look_ok block before after x y ends.0, no_fault y Flash)
looks_ok {S} {T} block (suc (suc more)) before after x y (inr (between, failed, rest)) = inr (between, look_err block before between S T Flash failed, looks_ok block (suc more) between after x y rest)

pub looks_err : (S T : Type 0) (block most : ℕ) (before after : BlocksState) (fault : BlockFault) → Tries {T = S} most (Looks block) before after (Err fault) → Tries {T = T} most (Looks block) before after (Err fault)
unfolding Tries
looks_err S T block zero before after fault tries = tries
looks_err S T block (suc zero) before after fault tries = look_err block before after S T fault tries
looks_err S T block (suc (suc more)) before after fault (inl ends) = inl (look_err block before after S T fault ends.0, λ is. ends.1 (same_fault S T fault Flash is))
looks_err S T block (suc (suc more)) before after fault (inr (between, failed, rest)) =
    inr (between, look_err block before between S T Flash failed, looks_err S T block (suc more) between after fault rest)

module _ {T : Type 0} (block : ℕ) (before after : BlocksState) (result : Result T BlockFault) (tries : Tries 3 (Looks block) before after result) where
  -- What a job that reads leaves.
  reads_in_a_job : ReadsAlone before after result
  unfolding Tries
  reads_in_a_job = grind (arith, common_steps)

  costs_in_a_job : ReadCosts before after block
  unfolding Tries
  costs_in_a_job = grind (arith, common_steps)

  read_takes_three : FlashTakesThree before after result
  unfolding Tries
  read_takes_three = grind (arith, common_steps)

-- All that a job leaves that reads a number, as this copy.
pub reads_number : (copy block : ℕ) (before after : BlocksState) (out_before out_after : List ℕ) (result : Result Got BlockFault) → LooksInAJob block before after result
    → IfOk result (λ got. GotOf copy (before.value block) got out_before out_after) → OnErr result (out_after ≡ out_before) → ReadsNumber copy block before after out_before out_after result
reads_number copy block before after out_before out_after result job got nothing = record {
  job = job;
  got = got;
  nothing = nothing;
  reads = reads_in_a_job block before after result job;
  costs = costs_in_a_job block before after result job;
  three = read_takes_three block before after result job;
  named = tries_named (Looks block) block (λ earlier later answer one. one.once.named) 3 before after result job;
}
