-- A watched machine goes on standing for its base and calls when a call's changes are reported.
use Rattle.std.proofs.Common.{◌≡◌, ◌∙◌, ℕ, ◌+◌, ◌-◌, ◌^◌, List, ◌∷◌, min, arith, ap}
use Rattle.std.specs.Prelude.{fold}
use Rattle.flt_model.specs.Start.{Start, History}
use Rattle.flt_model.specs.declared.call.Op.{Op}
use Rattle.flt_dcm.specs.Unit.{Stands, UnitView}
use Rattle.flt_notify.specs.Changes.{changes_from, statuses_after}
use Rattle.flt_notify.specs.Value.{next_values}
use Rattle.flt_notify.specs.Watch.{IsWatching}
use Rattle.flt_notify.proofs.ValueLemmas.{values_follow}

pub watching_follows : (life : Start) (past : History) (op : Op) (old new : UnitView) (values now before after : List ℕ) (calls later : ℕ)
    → IsWatching life past old values before calls
    → Stands life (op ∷ past) new
    → now ≡ fold (next_values 0) values (changes_from calls 0 (statuses_after life past) (statuses_after life (op ∷ past)))
    → after ≡ statuses_after life (op ∷ past)
    → later ≡ min (calls + 1) (2 ^ 32 - 1)
    → IsWatching life (op ∷ past) new now after later
watching_follows life past op old new values now before after calls later watched stands told noted counted = record {
  unit_stands = stands;
  values_stand = told
      ∙ ap (λ vs. fold (next_values 0) vs (changes_from calls 0 (statuses_after life past) (statuses_after life (op ∷ past)))) watched.values_stand
      ∙ values_follow life past op calls;
  bytes_stand = noted;
  counted = omega (arith, counted, watched.counted);
}
