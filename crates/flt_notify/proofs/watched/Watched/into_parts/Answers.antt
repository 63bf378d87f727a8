use Rattle.std.proofs.Common.{◌∙◌, Some, ap}
use Rattle.std.specs.Prelude.{slice_index_or}
use Rattle.flt_notify.proofs.ValueLemmas.{values_by_kind}
use Rattle.flt_notify.proofs.watched.Watched.into_parts.Goals as goal

pub returns-clause-told : goal.returns-clause-told
returns-clause-told g c = λ life past watched kind within known.
    rw known (ap (λ values. Some (slice_index_or values kind 0)) watched.values_stand ∙ ap Some (values_by_kind life past kind within))
