use Rattle.std.proofs.Common.{◌≡◌, ◌∙◌, [], refl, sym, ap, subst}
use Rattle.flt_dcm.specs.Unit.{Stands}
use Rattle.flt_shared.specs.Boxed.{unit_in}
use Rattle.flt_shared.specs.Start.{start_of}
use Rattle.flt_notify.specs.Changes.{statuses, statuses_after}
use Rattle.flt_notify.proofs.watched.Watched.make.Goals as goal

pub returns-clause-stands : goal.returns-clause-stands
returns-clause-stands g c =
    let life = start_of (unit_in c.args.unit) in
    let stands = subst (Stands life []) (sym c.deref.ensures) c.requires.started in
    let bytes : c.in_ok-statuses.statuses.value.items ≡ statuses_after life [] =
    ap (λ v. v.items) c.in_ok-statuses.ensures.ok ∙ c.statuses_of.ensures ∙ ap statuses (c.states.ensures.stands life [] stands) in
    record {
      unit_stands = c.requires.started;
      values_stand = c.requires.zero;
      bytes_stand = bytes;
      counted = refl;
    }
