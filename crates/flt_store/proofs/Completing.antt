-- A call that met none of the causes of its errors answers Ok.
use Rattle.std.proofs.Common.{◌≡◌, Result, Ok, Err, ⊎_elim, ap, refl, sym}
use Rattle.std.specs.Prelude.{◌⊎◌, ◌≢◌, IsOk, IsErrOf}
use Rattle.std.specs.Result.{IsErrAnd}
use Rattle.flt_store_model.specs.Holding.{Generation, last_number}
use Rattle.flt_store.specs.declared.fault.SaveFault.{SaveFault}
use Rattle.flt_store.specs.declared.fault.SaveFault.TheVariants as saving
use Rattle.flt_store.specs.declared.fault.PutFault.{PutFault}
use Rattle.flt_store.specs.declared.fault.PutFault.TheVariants as putting

pub save_met_none : {T : Type 0} (result : Result T SaveFault) → (IsErrOf result saving.Flash → ⊥) → (IsErrOf result saving.Spent → ⊥) → (IsErrOf result saving.SequenceSpent → ⊥) → IsOk result
save_met_none (Ok number) flash spent sequence = refl
save_met_none (Err saving.Flash) flash spent sequence = absurd (flash refl)
save_met_none (Err saving.Spent) flash spent sequence = absurd (spent refl)
save_met_none (Err saving.SequenceSpent) flash spent sequence = absurd (sequence refl)

-- A fault that is handed on is that of the sequence numbers, where it is neither the flash's nor that of the generations' numbers.
pub handed_sequence : {T : Type 0} (answer : Result T SaveFault) (fault : SaveFault) → IsErrAnd answer (λ e. e ≡ fault) → (fault ≡ saving.Flash → ⊥) → (fault ≡ saving.Spent → ⊥) → IsErrOf answer saving.SequenceSpent
handed_sequence (Ok value) fault is flash spent = absurd is
handed_sequence (Err saving.Flash) fault is flash spent = absurd (flash (sym is))
handed_sequence (Err saving.Spent) fault is flash spent = absurd (spent (sym is))
handed_sequence (Err saving.SequenceSpent) fault is flash spent = refl

pub put_met_none : {T : Type 0} (result : Result T PutFault) → (IsErrOf result putting.Flash → ⊥) → (IsErrOf result putting.SequenceSpent → ⊥) → IsOk result
put_met_none (Ok number) flash sequence = refl
put_met_none (Err putting.Flash) flash sequence = absurd (flash refl)
put_met_none (Err putting.SequenceSpent) flash sequence = absurd (sequence refl)

-- The generation from which a save goes on has not the last number, where the held one has not and the flash did not fail three times.
pub not_last : {Q F : Type 0} (held spare last : Generation) → held.number ≢ last_number → (F → ⊥) → (last ≡ held) ⊎ ((last ≡ spare) × Q × F) → last.number ≡ last_number → ⊥
not_last held spare last before never is number = ⊎_elim
    (λ by_held. before (cc (ap (λ (d : Generation). d.number) by_held, number)))
    (λ by_spare. never by_spare.2)
    is
