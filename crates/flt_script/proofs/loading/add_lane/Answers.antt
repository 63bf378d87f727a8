use Rattle.std.proofs.Common.{◌≡◌, ◌+◌, ◌*◌, ◌%◌, ◌++◌, ◌∙◌, ap, arith, map, sym}
use Rattle.std.proofs.lemmas.List.{append-nil}
use Rattle.flt_script.specs.Load.{load_lane, load_number}
use Rattle.flt_script.proofs.Loads.{four_more, none_yet, reported}
use Rattle.flt_script.proofs.loading.add_lane.Goals as goal

pub loop-round-init : goal.loop-round-init
unfolding load_number load_lane
loop-round-init g c = record { list = sym (append-nil c.args.list.now.items); number = c.first_number-number.ensures ∙ ap (load_number c.args.count) (omega arith) }

pub loop-round-preserved : goal.loop-round-preserved
loop-round-preserved g c =
    let round = c.loop-round._round in
    let lane = c.args.lane in
    record {
      list = rw (c.in_ok-push.ensures.items, c.of.ensures, c.load_step.ensures, c.loop-round.invariant.list, c.loop-round.invariant.number) (
          reported g.T.OfStep.of c.args.list.now.items c.args.count lane round 4 c.requires (omega arith)
          ∙ ap (λ places. c.args.list.now.items ++ map g.T.OfStep.of (load_lane c.args.count lane places)) (omega arith));
      number = four_more c.args.count (4 * round + lane + 1) c.loop-round.number _ c.loop-round.invariant.number c.fourth_number-number.ensures
          ∙ ap (load_number c.args.count) (omega arith);
    }

pub returns-in_ok-push-2 : goal.returns-in_ok-push-2
returns-in_ok-push-2 g c =
    let round = c.loop-round._round in
    let lane = c.args.lane in
    let whole : 4 * round + c.args.count % 4 ≡ c.args.count = omega (arith, c.loop-round-test) in
    rw (c.in_ok-push-2.ensures.items, c.of-then-lane-count.ensures, c.load_step-then-lane-count.ensures, c.loop-round.invariant.list, c.loop-round.invariant.number) (
    reported g.T.OfStep.of c.args.list.now.items c.args.count lane round (c.args.count % 4) c.if-lane-count.true (omega arith)
    ∙ ap (λ places. c.args.list.now.items ++ map g.T.OfStep.of (load_lane c.args.count lane places)) whole)

pub returns-else-lane-count : goal.returns-else-lane-count
returns-else-lane-count g c =
    let round = c.loop-round._round in
    let whole : 4 * round + c.args.count % 4 ≡ c.args.count = omega (arith, c.loop-round-test) in
    rw (c.loop-round.invariant.list) (
    ap (λ steps. c.args.list.now.items ++ map g.T.OfStep.of steps)
    (sym (none_yet c.args.count c.args.lane round (c.args.count % 4) c.requires c.if-lane-count.false) ∙ ap (load_lane c.args.count c.args.lane) whole))
