use Rattle.std.proofs.Common.{rules}
use Rattle.flt_fork.proofs.Passed.{passing_begins, passing_more}
use Rattle.flt_fork.proofs.passing.pass_all.Goals as goal

pub loop-lane-init : goal.loop-lane-init
loop-lane-init g c = passing_begins (g.L.Passing.passes c.args.locks.now) (g.L.Passing.can_pass c.args.locks.now) c.args.main.now c.args.lanes.items c.args.out.now _ c.into_iter-lane-iterator.ensures.into_iter_gives.0 c.requires.can

pub loop-lane-preserved : goal.loop-lane-preserved
loop-lane-preserved g c =
    let steps = c.in-Some.ensures.steps.0 in
    passing_more (g.L.Passing.passes c.args.locks.now) (g.L.Passing.can_pass c.args.locks.now) c.args.main.now c.args.lanes.items c.loop-lane.main c.args.out.now c.loop-lane.out c.loop-lane.yielded c.loop-lane.lane-iterator.rest.items
    c.next.new.self.rest.items c.in-Some.lane c.loop-lane.invariant steps c.pass-passed.new.main c.pass-passed.result _ c.pass-passed.ensures.passed c.pass-passed.ensures.later (search rules) (search rules) (search rules)
