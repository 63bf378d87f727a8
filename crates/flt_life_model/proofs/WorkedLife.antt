-- The worked life.
use Rattle.std.proofs.Common.{◌≡◌, ⊎_elim, ℕ, inl, inr, refl, arith}
use Rattle.flt_config.specs.declared.persist.Persist.{Persist}
use Rattle.flt_store_model.specs.Holding.{Generation}
use Rattle.flt_model.specs.Start.{Start}
use Rattle.flt_queue.specs.Queue.{waiting, pending, taken}
use Rattle.flt_life_model.specs.Examples.{journal, answers_told, saved_generation, snapshot_taken as taken_last, LifeLeaves, PlacesRise, BlockHolds}
use Rattle.flt_fork.specs.Mixing.{Rise}
use Rattle.flt_life_model.specs.Saving.{IsUnacknowledged}

same_generation : (g : Generation) (number : ℕ) (state : Persist) → g.number ≡ number → g.state ≡ state → g ≡ record { number = number; state = state }
same_generation g number state is and = λ i. record { number = is i; state = and i }

unacknowledged : (start : Start) (g : Generation) → IsUnacknowledged start journal answers_told (saved_generation start) g → g ≡ record { number = 9; state = taken_last start }
unacknowledged start g left =
    let past = left.past in
    let most = left.most in
    let number : g.number ≡ 9 = omega (arith, past, most) in
    same_generation g 9 (taken_last start) number (⊎_elim (λ is. is) (λ never. absurd never) left.taken)

pub leaves : LifeLeaves
leaves start first = record {
  acknowledged = (refl, refl);
  rising = ((omega arith, omega arith), tt);
  newer = inr (record { past = omega arith; most = omega arith; taken = inl refl });
  others = λ g. ⊎_elim (λ same. inl same) (λ other. inr (unacknowledged start g other));
}

pub places : PlacesRise
unfolding Rise
places = record { rise = (omega arith, (omega arith, (omega arith, tt))); apart = λ never. (let later = never.1.0 in omega (arith, later)) }

pub holds : BlockHolds
unfolding waiting pending taken
holds before held first second = record { one_of = λ may. ⊎_elim (λ last. inr last.1) (λ done. inl done) may; between = λ may. may }
