-- What a job leaves follows from what each of its tries leaves.
use Rattle.std.proofs.Common.{◌≡◌, ◌⊎◌, inl, inr, ⊎_elim, ℕ, zero, suc, true, false, Some, Result, Ok, Err, is_ok, refl, ◌∙◌, ap, subst, arith}
use Rattle.flt_flash.specs.Content.{Content}
use Rattle.flt_flash.specs.declared.blocks.BlockFault.{BlockFault}
use Rattle.flt_flash.specs.declared.blocks.BlockFault.TheVariants.{Flash, Full, SequenceSpent, Damaged}
use Rattle.flt_flash.specs.Blocks.{BlocksState}
use Rattle.std.proofs.lemmas.Grind.{common_steps}
use Rattle.flt_flash.specs.Calls.{BlockCalls, Changes, Settles}
use Rattle.flt_nvm.specs.Table.{driver_number}
use Rattle.flt_nvm.specs.Tries.{Tries, Changing}
use Rattle.flt_nvm.proofs.Named.{tries_named}
use Rattle.flt_nvm.specs.Leaves.{FlashTakesThree, Gives, GivesBoth, GivesCopies, GivesInAJob, GivesInTwoJobs, GivesNumber}

module _ (block : ℕ) (asked : Content) (size : ℕ) where
  -- One try.
  gives_at_once : (before after : BlocksState) (result : Result (Unit {0}) BlockFault) → Changes before after block asked size result → Gives before after block asked size result
  gives_at_once before after (Ok x) does = record { holds_asked = does.holds_asked; either = inr does.holds_asked; others = does.others; full = λ live needed told. (does.full live needed told).0; spent = λ told. (does.spent told).0 }
  gives_at_once before after (Err fault) does =
      record { holds_asked = tt; either = by_fault fault does; others = does.others; full = λ live needed told. (does.full live needed told).0; spent = λ told. (does.spent told).0 }
    where
      by_fault : (fault : BlockFault) → Changes before after block asked size (Err fault) → (after.value block ≡ before.value block) ⊎ (after.value block ≡ asked)
      by_fault Flash does = does.failed refl
      by_fault (Full live needed) does = inl ((does.full live needed refl).1 block)
      by_fault SequenceSpent does = inl ((does.spent refl).1 block)
      by_fault (Damaged sector page) does = inl (does.damaged sector page refl block)

  -- A try that failed, and then more.
  gives_again : (first second third : BlocksState) (failed result : Result (Unit {0}) BlockFault) → Gives first second block asked size failed → Gives second third block asked size result → Gives first third block asked size result
  gives_again first second third failed result one two = record {
    holds_asked = two.holds_asked;
    either = ⊎_elim (λ kept. ⊎_elim (λ stood. inl (kept ∙ stood)) (λ changed. inr (kept ∙ changed)) one.either) (λ changed. inr changed) two.either;
    others = λ other apart. two.others other apart ∙ one.others other apart;
    full = two.full;
    spent = two.spent;
  }

  pub gives_in_a_job : (most : ℕ) (before after : BlocksState) (result : Result (Unit {0}) BlockFault) → Tries most (Changing block asked size) before after result → Gives before after block asked size result
  unfolding Tries
  gives_in_a_job zero before after result tries = absurd tries
  gives_in_a_job (suc zero) before after result tries = gives_at_once before after result tries.changes
  gives_in_a_job (suc (suc more)) before after result (inl ends) = gives_at_once before after result ends.0.changes
  gives_in_a_job (suc (suc more)) before after result (inr (between, failed, rest)) =
      gives_again before between after (Err Flash) result (gives_at_once before between (Err Flash) failed.changes) (gives_in_a_job (suc more) between after result rest)

module _ (block : ℕ) (asked : Content) (size : ℕ) (before after : BlocksState) (result : Result (Unit {0}) BlockFault) (tries : Tries 3 (Changing block asked size) before after result) where
  calls_in_a_job : BlockCalls before after result
  unfolding Tries
  calls_in_a_job = grind (arith, common_steps)

  settles_in_a_job : Settles result after
  unfolding Tries
  settles_in_a_job = grind (arith, common_steps)

  takes_three : FlashTakesThree before after result
  unfolding Tries
  takes_three = grind (arith, common_steps)

  -- All that a job leaves that gives a number a content.
  pub gives_number : GivesNumber block asked size before after result
  gives_number = record {
    job = tries;
    gives = gives_in_a_job block asked size 3 before after result tries;
    calls = calls_in_a_job;
    stale = settles_in_a_job;
    three = takes_three;
    named = tries_named (Changing block asked size) block (λ earlier later answer one. one.once.named) 3 before after result tries;
  }

module _ (id : ℕ) (asked : Content) (size first : ℕ) (first_is : first ≡ driver_number id 0) where
  -- The job on the first copy failed.
  first_job_alone : (before after : BlocksState) (result : Result (Unit {0}) BlockFault) → is_ok result ≡ false
      → GivesInAJob first asked size before after result → GivesInTwoJobs id asked size before after result
  first_job_alone before after (Ok value) failed job = absurd (cc failed)
  first_job_alone before after (Err fault) failed job = inl (subst (λ (n : ℕ). GivesInAJob n asked size before after (Err fault)) first_is job, refl)

  -- The job on the second copy followed.
  both_jobs : (second : ℕ) → second ≡ driver_number id 1 → (before between after : BlocksState) (answer result : Result (Unit {0}) BlockFault) → is_ok answer ≡ true
      → GivesInAJob first asked size before between answer → GivesInAJob second asked size between after result → GivesInTwoJobs id asked size before after result
  both_jobs second second_is before between after (Err fault) result answered job next = absurd (cc answered)
  both_jobs second second_is before between after (Ok value) result answered job next =
      inr (between, subst (λ (n : ℕ). GivesInAJob n asked size before between (Ok tt)) first_is job, subst (λ (n : ℕ). GivesInAJob n asked size between after result) second_is next)

  -- What the job on the first copy leaves, where it failed.
  first_gives_alone : (before after : BlocksState) (fault : BlockFault) → Gives before after first asked size (Err fault) → GivesBoth before after id asked size (Err fault)
  first_gives_alone before after fault gives =
      let one = subst (λ (n : ℕ). Gives before after n asked size (Err fault)) first_is gives in
      record {
        first = tt;
        second = tt;
        either = inl (one.either, one.others (driver_number id 1) (λ same. omega (arith, same)));
        others = λ other apart also. one.others other apart;
        full = one.full;
        spent = λ told. inl (one.spent told);
      }

  -- All that is left where the job on the first copy failed, and where one on the second followed.
  pub gives_first : (before after : BlocksState) (fault : BlockFault) → GivesNumber first asked size before after (Err fault) → GivesCopies id asked size before after (Err fault)
  gives_first before after fault gives = record {
    jobs = first_job_alone before after (Err fault) refl gives.job;
    gives = first_gives_alone before after fault gives.gives;
    calls = gives.calls;
    stale = gives.stale;
    three = gives.three;
    named = λ told. inl (gives.named.flash told ∙ ap Some first_is);
  }

  pub gives_both : (second : ℕ) → second ≡ driver_number id 1 → (before between after : BlocksState) (value : Unit {0}) (result : Result (Unit {0}) BlockFault)
      → GivesNumber first asked size before between (Ok value) → GivesNumber second asked size between after result → GivesCopies id asked size before after result
  gives_both second second_is before between after value result one two = record {
    jobs = both_jobs second second_is before between after (Ok value) result refl one.job two.job;
    gives = grind (arith, common_steps);
    calls = grind (arith, common_steps);
    stale = two.stale;
    three = grind (arith, common_steps);
    named = λ told. inr (two.named.flash told ∙ ap Some second_is);
  }
