use Rattle.std.proofs.Common.{◌<◌, ◌∷◌, length, sym, arith}
use Rattle.flt_model.specs.Start.{count, base_of, event_of}
use Rattle.flt_model.specs.Mark.{Of, marks_of}
use Rattle.flt_model.specs.Mark.Mark.{Displaced}
use Rattle.flt_model.proofs.Common.{slice_get-set_other}
use Rattle.flt_dem.proofs.StateLemmas.{read_state, state_marked, states_added, states_refused}
use Rattle.flt_dem.proofs.durable.follow.Goals as goal

pub returns-in-Displaced-clause-stand : goal.returns-in-Displaced-clause-stand
returns-in-Displaced-clause-stand c = λ life event signals marks s.
    let other = c.in-Displaced.other in
    let below : other < length c.args.states.now = rw c.in-Displaced.is at c.requires in
    let within : other < count life = omega (arith, s.one_each, below) in
    let displaced = state_marked life other Displaced signals marks c.args.states.now c.displaced.new.state within
    (c.displaced.ensures.marked (event_of life other) (base_of life other) (marks_of other marks) (read_state life other marks c.args.states.now within s)) s in
    rw c.in-Displaced.is (states_added life event signals (Of other Displaced signals ∷ marks) _ displaced)

pub returns-in-Added-clause-stand : goal.returns-in-Added-clause-stand
returns-in-Added-clause-stand c = λ life event signals marks s. rw c.in-Added.is (states_added life event signals marks c.args.states.now s)

pub returns-in-Refused-clause-stand : goal.returns-in-Refused-clause-stand
returns-in-Refused-clause-stand c = λ life event signals marks s. rw c.in-Refused.is (states_refused life event signals marks c.args.states.now s)

pub returns-in-Displaced-clause-others : goal.returns-in-Displaced-clause-others
returns-in-Displaced-clause-others c = λ other apart.
    let ne = rw c.in-Displaced.is at apart in
    slice_get-set_other c.args.states.now c.in-Displaced.other other c.displaced.new.state (λ same. ne (sym same))
