use Rattle.std.proofs.Common.{sym, ◌∙◌}
use Rattle.flt_config.proofs.CheckLaws.{distinct_behind-twice, distinct_behind-once, distinct_behind-end}
use Rattle.flt_config.proofs.valid_config.check_distinct.Goals as goal

pub returns-in-Some : goal.returns-in-Some
returns-in-Some c =
    sym (c.loop-second.invariant
    ∙ distinct_behind-twice c.args.events.now c.loop-second.second c.in-Some.first c.index-events-second.result c.loop-second-test.true
    c.index-events-second.is (sym c.first_with_dtc.ensures ∙ c.in-Some.is))

pub loop-second-preserved : goal.loop-second-preserved
loop-second-preserved c =
    c.loop-second.invariant
    ∙ distinct_behind-once c.args.events.now c.loop-second.second c.index-events-second.result c.loop-second-test.true
    c.index-events-second.is (sym c.first_with_dtc.ensures ∙ c.in_default.is)

pub returns : goal.returns
returns c = sym (c.loop-second.invariant ∙ distinct_behind-end c.args.events.now c.loop-second.second c.loop-second-test.false)
