use Rattle.std.proofs.Common.{◌≡◌, ◌<◌, ◌-◌, ◌∷◌, ◌++◌, ◌&&◌, ◌||◌, [], true, refl, sym, ◌∙◌, arith, rules}
use Rattle.std.specs.Prelude.{not, vec_len}
use Rattle.flt_step.specs.Step.{is_lane_step, is_store_step}
use Rattle.flt_script.proofs.InMemory.{last_kept, lane_written}
use Rattle.flt_script.proofs.lane.add_lane_step.Goals as goal

pub returns-in_err-push-clause-kept : goal.returns-in_err-push-clause-kept
returns-in_err-push-clause-kept c =
    let lane = c.in-Some.lane.now in
    let some : 0 < vec_len c.args.lanes.now = c.in-Some.ensures.variant.0 refl in
    let same : c.push.new.self.items ≡ lane.items = c.in_err-push.ensures.items in
    let kept = last_kept c.args.lanes.now.items (vec_len c.args.lanes.now - 1) lane c.push.new.self (omega arith) c.in-Some.ensures.value same in
    search (rules, kept)

pub returns-clause-added : goal.returns-clause-added
returns-clause-added c =
    let lane = c.in-Some.lane.now in
    let some : 0 < vec_len c.args.lanes.now = c.in-Some.ensures.variant.0 refl in
    let more : c.push.new.self.items ≡ lane.items ++ c.args.step ∷ [] = c.in_ok-push.ensures.items in
    let may : not (not (is_lane_step c.args.step) || is_store_step c.args.step && c.args.used_earlier) ≡ true = sym c.may_stand.ensures ∙ c.if-not-may_stand.false in
    lane_written c.args.step c.args.lanes.now.items (vec_len c.args.lanes.now - 1) lane c.push.new.self c.args.used_earlier may c.requires (omega arith) c.in-Some.ensures.value more
