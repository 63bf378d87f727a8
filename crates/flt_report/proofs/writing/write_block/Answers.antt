use Rattle.std.proofs.Common.{◌≡◌, ◌++◌, map, append_assoc, subst, rules, ◌∙◌}
use Rattle.std.proofs.KnownBytes.{Appends-trans}
use Rattle.std.specs.Io.KnownBytes.{Appends}
use Rattle.flt_io.specs.Sink.{AppendsFront}
use Rattle.flt_life_model.specs.Room.{told_in}
use Rattle.flt_report.specs.Block.{par_line, end_line}
use Rattle.flt_report.specs.Life.{lane_steps, lanes_text}
use Rattle.flt_report.proofs.Written.{front_first, front_behind, front_next, front_of}
use Rattle.flt_report.proofs.writing.write_block.Goals as goal

pub returns-in_err-push : goal.returns-in_err-push
returns-in_err-push g c =
    let lanes = lanes_text c.args.number (lane_steps c.args.lanes.now) (map told_in c.args.told.now) in
    let line : c.deref.result.now ≡ par_line = c.deref.ensures.value ∙ c.in_ok-put_par.ensures.ok ∙ (λ i. c.clear.ensures.items i ++ par_line) in
    let front = front_first _ _ par_line (lanes ++ end_line) (subst (AppendsFront (g.K.Sink.held c.args.sink.now) (g.K.Sink.held c.push.new.self)) line c.in_err-push.ensures.err) in
    search (rules, front)

pub returns-in_err-write_lanes : goal.returns-in_err-write_lanes
returns-in_err-write_lanes g c =
    let lanes = lanes_text c.args.number (lane_steps c.args.lanes.now) (map told_in c.args.told.now) in
    let line : c.deref.result.now ≡ par_line = c.deref.ensures.value ∙ c.in_ok-put_par.ensures.ok ∙ (λ i. c.clear.ensures.items i ++ par_line) in
    let first = subst (Appends (g.K.Sink.held c.args.sink.now) (g.K.Sink.held c.push.new.self)) line c.in_ok-push.ensures.ok in
    let front = front_behind _ _ _ par_line lanes end_line first c.in_err-write_lanes.ensures.err in
    search (rules, front)

pub returns-in_err-put_end : goal.returns-in_err-put_end
returns-in_err-put_end g c =
    let lanes = lanes_text c.args.number (lane_steps c.args.lanes.now) (map told_in c.args.told.now) in
    let line : c.deref.result.now ≡ par_line = c.deref.ensures.value ∙ c.in_ok-put_par.ensures.ok ∙ (λ i. c.clear.ensures.items i ++ par_line) in
    let first = subst (Appends (g.K.Sink.held c.args.sink.now) (g.K.Sink.held c.push.new.self)) line c.in_ok-push.ensures.ok in
    let both = Appends-trans _ _ _ par_line lanes first c.in_ok-write_lanes.ensures.ok in
    let front = subst (AppendsFront (g.K.Sink.held c.args.sink.now) (g.K.Sink.held c.write_lanes.new.sink)) (append_assoc par_line lanes end_line) (front_of _ _ (par_line ++ lanes) end_line both) in
    search (rules, front)

pub returns-in_err-push-2 : goal.returns-in_err-push-2
returns-in_err-push-2 g c =
    let lanes = lanes_text c.args.number (lane_steps c.args.lanes.now) (map told_in c.args.told.now) in
    let line : c.deref.result.now ≡ par_line = c.deref.ensures.value ∙ c.in_ok-put_par.ensures.ok ∙ (λ i. c.clear.ensures.items i ++ par_line) in
    let first = subst (Appends (g.K.Sink.held c.args.sink.now) (g.K.Sink.held c.push.new.self)) line c.in_ok-push.ensures.ok in
    let both = Appends-trans _ _ _ par_line lanes first c.in_ok-write_lanes.ensures.ok in
    let end : c.deref-2.result.now ≡ end_line = c.deref-2.ensures.value ∙ c.in_ok-put_end.ensures.ok ∙ (λ i. c.clear-2.ensures.items i ++ end_line) in
    let last = subst (AppendsFront (g.K.Sink.held c.write_lanes.new.sink) (g.K.Sink.held c.push-2.new.self)) end c.in_err-push-2.ensures.err in
    let front = subst (AppendsFront (g.K.Sink.held c.args.sink.now) (g.K.Sink.held c.push-2.new.self)) (append_assoc par_line lanes end_line) (front_next _ _ _ (par_line ++ lanes) end_line both last) in
    search (rules, front)
