-- The status of a run has its cause.
use Rattle.std.proofs.Common.{◌≡◌, ⊎_elim, inl, inr, ℕ, None, Ok, Err, refl, arith}
use Rattle.flt_flash.specs.State.{HasRisenBy}
use Rattle.flt_config.specs.declared.config.Config.{Config}
use Rattle.flt_store_model.specs.declared.place.Place.TheVariants.{Page, Block}
use Rattle.flt_store_model.specs.Holding.{Generation, Fault, held}
use Rattle.flt_restore.specs.declared.fault.StartFault.{StartFault}
use Rattle.flt_restore.specs.declared.fault.StartFault.TheVariants as faults
use Rattle.flt_life_model.specs.declared.life.Boot.{Boot}
use Rattle.flt_life_model.specs.declared.life.Boot.TheVariants.{Started, Dark, Refused}
use Rattle.flt_life_model.specs.Chain.{LifeView, IsLifeBegunBy, IsFound, IsRefused}
use Rattle.flt_life_model.specs.Moment.{Moment}
use Rattle.flt_life_model.specs.Statuses.{IsJudgedFaulty, StatusHasCause, status_by}

module _ (c : Config) (boot next : Moment) (ended : ℕ) where
  -- An image in which a generation is held is judged faulty only by its second copy.
  found_by_three : (g : Generation) → held c boot.value ≡ Ok g → (fault : Fault) → IsFound c boot ended (Err fault) → HasRisenBy 3 boot.faults ended
  found_by_three g is fault = ⊎_elim (λ other. absurd (cc (is, other))) (λ spare. spare.1)

  faulty : IsJudgedFaulty c boot ended → (boot.damage ≡ None → (g : Generation) → held c boot.value ≡ Ok g → HasRisenBy 3 boot.faults ended) → StatusHasCause c boot next ended 6
  faulty judged risen = record {
    started = λ e. absurd (omega (arith, e));
    refused = λ _. judged;
    spent = λ e. absurd (omega (arith, e));
    dark = λ e. absurd (omega (arith, e));
    completed = λ undamaged g is left few. absurd (few (risen undamaged g is));
  }

  refused : (fault : StartFault) → IsRefused c boot next ended fault → StatusHasCause c boot next ended (status_by (Refused fault))
  refused faults.Flash is = absurd is
  refused (faults.Damaged (Page sector page)) is =
      let damaged = is.0 in
      faulty (inl ((sector, page), damaged)) (λ undamaged g holds. absurd (cc (undamaged, damaged)))
  refused (faults.Damaged (Block id)) is = faulty (inr (is.0, (_, is.1))) (λ undamaged g holds. found_by_three g holds _ is.1)
  refused (faults.OtherConfig found wanted) is = faulty (inr (is.0, (_, is.1))) (λ undamaged g holds. found_by_three g holds _ is.1)
  refused faults.SequenceSpent is = record {
    started = λ e. absurd (omega (arith, e));
    refused = λ e. absurd (omega (arith, e));
    spent = λ _. (is.0, is.2);
    dark = λ e. absurd (omega (arith, e));
    completed = λ undamaged g holds left few. (let spent = is.2 in absurd (cc (left, spent)));
  }

  pub by_boot : (life : LifeView) (b : Boot) → IsLifeBegunBy c boot next ended life b → StatusHasCause c boot next ended (status_by b)
  by_boot life (Started number state) is = record {
    started = λ _. ((_, is.0), is.1);
    refused = λ e. absurd (omega (arith, e));
    spent = λ e. absurd (omega (arith, e));
    dark = λ e. absurd (omega (arith, e));
    completed = λ undamaged g holds left few. refl;
  }
  by_boot life Dark is = record {
    started = λ e. absurd (omega (arith, e));
    refused = λ e. absurd (omega (arith, e));
    spent = λ e. absurd (omega (arith, e));
    dark = λ _. is.0;
    completed = λ undamaged g holds left few. absurd (few is.0);
  }
  by_boot life (Refused fault) is = refused fault is.0
