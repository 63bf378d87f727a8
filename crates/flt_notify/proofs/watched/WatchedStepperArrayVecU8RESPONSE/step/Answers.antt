use Rattle.std.proofs.Common.{◌≡◌, [], ◌∷◌, ◌++◌, reverse}
use Rattle.std.proofs.lemmas.List.{reverse-append}
use Rattle.flt_shared.specs.Start.{start_of}
use Rattle.flt_notify.proofs.WatchLemmas.{watching_follows}
use Rattle.flt_notify.proofs.watched.WatchedStepperArrayVecU8RESPONSE.step.Goals as goal

pub returns-clause-stands : goal.returns-clause-stands
returns-clause-stands g c = λ ops watched.
    let life = start_of c.args.self.now.guarded.state.value in
    let op = c.args.op.now in
    let more : reverse (ops ++ op ∷ []) ≡ op ∷ reverse ops = reverse-append ops (op ∷ []) in
    let stands = rw more at (c.step-kind.ensures.stands ops watched.unit_stands) in
    let told = c.tell.ensures.reports life (reverse ops) watched.bytes_stand stands in
    rw more (rw c.tell.ensures.unit (watching_follows life (reverse ops) op c.args.self.now.guarded.state.value c.step-kind.new.self.state.value
    c.args.self.now.values c.tell.new.self.values c.args.self.now.statuses.value.items c.tell.new.self.statuses.value.items c.args.self.now.calls c.tell.new.self.calls
    watched stands told.values_are told.noted c.tell.ensures.calls))
