use Rattle.std.proofs.Common.{◌≡◌, ◌∙◌, sym, ap, subst}
use Rattle.flt_model.specs.declared.call.Op.TheVariants as ops
use Rattle.flt_dem.specs.DurablePart.{without_entry}
use Rattle.flt_dem.specs.Events.{EventsView, holding}
use Rattle.flt_dem.specs.Calls.{TakesPart}
use Rattle.flt_dem.proofs.events.Events.clear_one.Goals as goal

pub returns-clause-part : goal.returns-clause-part
returns-clause-part c = λ life past tester dtc bytes clears reached.
    let event = c.args.event in
    let kept = c.forget.new.self in
    let last : EventsView = record { durable = c.remove_entry.new.self; debounces = c.self.inside.debounces.items } in
    let same : holding (without_entry event c.args.self.now.durable.memory) kept ≡ last =
    ap (λ m. holding (without_entry event m) kept) (sym c.forget.ensures.memory)
    ∙ ap (λ (e : EventsView). holding (without_entry event e.durable.memory) e) (sym c.self.view_is)
    ∙ (λ i. record { durable = (sym c.remove_entry.ensures) i; debounces = c.self.inside.debounces.items }) in
    subst (λ e. TakesPart life past (ops.Request tester bytes) event c.args.self.now e) same
    (c.forget.ensures.part c.args.self.now.durable.memory life past tester dtc bytes clears reached)
