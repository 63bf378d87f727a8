use Rattle.std.proofs.Common.{rules, ◌≡◌, ◌<◌, ◌∙◌, Some, length, sym, ap, subst, arith}
use Rattle.std.specs.Prelude.{slice_get}
use Rattle.std.proofs.lemmas.Int.{to_z-of_z}
use Rattle.std.specs.Int.{w8}
use mir.Val.{SFits}
use Rattle.flt_model.specs.Start.{count}
use Rattle.flt_model.specs.Durable.{state_at}
use Rattle.flt_model.specs.Trace.{trace}
use Rattle.flt_model.specs.declared.call.Op.TheVariants as ops
use Rattle.flt_model.specs.declared.call.ReplyOf.TheVariants as replies
use Rattle.flt_dem.specs.Standing.{DurablePartStands}
use Rattle.flt_dem.specs.View.{detection_counter_of}
use Rattle.flt_dem.proofs.ViewLemmas.{counter_told}
use Rattle.flt_dem.proofs.IdleLemmas.{stands_idle}
use Rattle.flt_dem.proofs.state.DemState.show.Goals as goal

pub returns-clause-answer : goal.returns-clause-answer
returns-clause-answer c = λ life past s.
    let event = c.args.event in
    let inside = rw (← c.self.view_is) at s in
    let configured = rw (← c.self.view_is) at c.requires in
    let durable = inside.events.durable_stands in
    let within : event < count life = omega (arith, configured, ap (λ k. length k.events.items) durable.config) in
    let states : Some c.state-state.result ≡ Some (state_at life (trace life past) event) =
    sym c.state-state.ensures ∙ ap (λ f. slice_get f.states event) c.durable-durable.ensures ∙ durable.states_stand.each event within in
    let state : c.state-state.result ≡ state_at life (trace life past) event = cc in
    let fits : SFits w8 c.detection_counter.result = search rules in
    let counter = c.detection_counter.ensures ∙ ap (λ m. detection_counter_of m event) c.self.view_is ∙ counter_told life past c.args.self.now s event within in
    let stood = subst (λ f. DurablePartStands life (trace life past) f) (sym c.durable-durable.ensures) durable in
    let stored = c.occurrence.ensures life (trace life past) stood in
    let overflow = c.overflow.ensures ∙ stood.memory_stands.overflow in
    rw (to_z-of_z w8 c.detection_counter.result fits) (λ i. replies.Shown (record {
      status = (state i).status;
      fdc = counter i;
      failed = (state i).failed;
      clean = (state i).clean;
      stored = stored i;
      overflow = overflow i;
    }))

pub returns-clause-stands : goal.returns-clause-stands
returns-clause-stands c = λ life past s. stands_idle life past c.args.self.now (ops.Show c.args.event) tt s
