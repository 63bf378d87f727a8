use Rattle.std.proofs.Common.{rules, ◌∙◌, ap, sym, refl, to_z}
use Rattle.std.proofs.lemmas.Int.{to_z-of_z}
use mir.Val.{SFits}
use Rattle.std.specs.Int.{w16}
use Rattle.flt_model.specs.Debounce.{IsOfKind, last_direction}
use Rattle.flt_model.specs.declared.call.DebState.TheVariants.{Count}
use Rattle.flt_debounce.specs.Step.{run_after}
use Rattle.flt_debounce.proofs.Kind.{counted_state}
use Rattle.flt_debounce.proofs.Run.{timed-reported}
use Rattle.flt_debounce.proofs.report.Goals as goal
use Rattle.flt_debounce.proofs.report.Goals.{in-Count, in_default}

pub returns-after-state-clause-kind : goal.returns-after-state-clause-kind
returns-after-state-clause-kind c = λ kind.
    let held = counted_state c.in-Counter.fail_at c.in-Counter.pass_at c.in-Counter.up c.in-Counter.down c.in-Counter.jump_up c.in-Counter.jump_down c.args.state.now (rw c.in-Counter.is at kind) in
    elim c.match-state.branch [
      | in-Count w ↦
          let fits_before : SFits w16 w.in-Count.value = search rules in
          let fits_after : SFits w16 c.after-value.result = search rules in
          let count : IsOfKind c.args.rules.now (Count (to_z w16 c.match-state.before-bits)) =
          rw (w.before-is, to_z-of_z w16 w.in-Count.value fits_before) (rw w.in-Count.is at kind) in
          rw (to_z-of_z w16 c.after-value.result fits_after) (c.after-value.ensures.kind count)
      | in_default w ↦ absurd (w.in_default.not-Count held.value held.is)
    ]

pub returns-in-Time-clause-debounced : goal.returns-in-Time-clause-debounced
returns-in-Time-clause-debounced c = λ past e.
    let range = rw c.in-Time.is at c.requires in
    let was = rw c.in-Time.is at e in
    rw c.in-Time.is
    (c.after.ensures ∙ ap (λ s. run_after s c.args.report) was
    ∙ sym (timed-reported _ _ past range.0.0 range.1.0 c.args.report (last_direction past) refl))
