use Rattle.std.proofs.Common.{◌≡◌, ◌<◌, ◌+◌, length, get_or, ap, subst, arith, rules, ◌∙◌}
use Rattle.std.specs.Prelude.{Vec}
use Rattle.std.specs.Io.KnownBytes.{Appends}
use Rattle.flt_io.specs.Sink.{AppendsFront}
use Rattle.flt_step.specs.declared.step.Part.{Part}
use Rattle.flt_life_model.specs.declared.life.Life.{Life}
use Rattle.flt_step.specs.Part.{parts_of}
use Rattle.flt_report.specs.Left.{IsWritten}
use Rattle.flt_run.specs.Left.{lives_left}
use Rattle.flt_report.specs.Life.{life_text}
use Rattle.flt_report.proofs.Written.{goes_on, stops, ends}
use Rattle.flt_run.proofs.LivesLeft.{lives_more, lives_end}
use Rattle.flt_run.proofs.ending.write_lives.Goals as goal

pub loop-index-preserved : goal.loop-index-preserved
loop-index-preserved g c =
    let script = c.args.made.now.script.items in
    let lives = c.args.made.now.lives.items in
    let index = c.loop-index.index in
    let whole = lives_left script lives c.args.from in
    let there = c.loop-index-test.true in
    let count = c.min-count.ensures in
    let scripts = c.len.ensures in
    let script_size = c.args.made.now.script.ok.0 in
    let many = c.len-2.ensures in
    let size = c.args.made.now.lives.ok.0 in
    let in_script : index < length script = omega (arith, there, count, scripts, script_size) in
    let in_lives : index < length lives = omega (arith, there, count, many, size) in
    let parts = c.index.result.now in
    let life = c.index-life.result.now in
    let left = lives_more script lives index parts life in_script in_lives in
    let on = subst (λ left. IsWritten (g.K.Sink.held c.args.sink.now) (g.K.Sink.held c.loop-index.sink) left whole) left c.loop-index.invariant.written in
    let piece = life_text (index + 1) (parts_of (get_or script index parts).items) (get_or lives index life).boot (get_or lives index life).replies.items in
    let same : life_text (index + 1) (parts_of c.deref.result.now) life.boot c.deref-in-loop-index.result.now ≡ piece =
    λ i. life_text (index + 1) (parts_of ((c.deref.ensures.value ∙ ap (λ (v : Vec Part _). v.items) c.index.ensures) i)) (c.index-life.ensures i).boot
    ((c.deref-in-loop-index.ensures.value ∙ ap (λ (l : Life). l.replies.items) c.index-life.ensures) i) in
    let was = c.loop-index.invariant.later in
    let later = c.in_ok-write_life.ensures.later in
    record {
      later = omega (arith, was, later);
      written = goes_on _ _ piece (lives_left script lives (index + 1)) whole on _ (subst (Appends (g.K.Sink.held c.loop-index.sink) (g.K.Sink.held c.write_life.new.sink)) same c.in_ok-write_life.ensures.ok);
      from = omega (arith, c.loop-index.invariant.from);
    }

pub returns-in_err-write_life : goal.returns-in_err-write_life
returns-in_err-write_life g c =
    let script = c.args.made.now.script.items in
    let lives = c.args.made.now.lives.items in
    let index = c.loop-index.index in
    let whole = lives_left script lives c.args.from in
    let there = c.loop-index-test.true in
    let count = c.min-count.ensures in
    let scripts = c.len.ensures in
    let script_size = c.args.made.now.script.ok.0 in
    let many = c.len-2.ensures in
    let size = c.args.made.now.lives.ok.0 in
    let in_script : index < length script = omega (arith, there, count, scripts, script_size) in
    let in_lives : index < length lives = omega (arith, there, count, many, size) in
    let parts = c.index.result.now in
    let life = c.index-life.result.now in
    let left = lives_more script lives index parts life in_script in_lives in
    let on = subst (λ left. IsWritten (g.K.Sink.held c.args.sink.now) (g.K.Sink.held c.loop-index.sink) left whole) left c.loop-index.invariant.written in
    let piece = life_text (index + 1) (parts_of (get_or script index parts).items) (get_or lives index life).boot (get_or lives index life).replies.items in
    let same : life_text (index + 1) (parts_of c.deref.result.now) life.boot c.deref-in-loop-index.result.now ≡ piece =
    λ i. life_text (index + 1) (parts_of ((c.deref.ensures.value ∙ ap (λ (v : Vec Part _). v.items) c.index.ensures) i)) (c.index-life.ensures i).boot
    ((c.deref-in-loop-index.ensures.value ∙ ap (λ (l : Life). l.replies.items) c.index-life.ensures) i) in
    let front = stops _ _ piece (lives_left script lives (index + 1)) whole on _ (subst (AppendsFront (g.K.Sink.held c.loop-index.sink) (g.K.Sink.held c.write_life.new.sink)) same c.in_err-write_life.ensures.err) in
    search (rules, front)

pub returns : goal.returns
returns g c =
    let script = c.args.made.now.script.items in
    let lives = c.args.made.now.lives.items in
    let past = c.loop-index-test.false in
    let count = c.min-count.ensures in
    let scripts = c.len.ensures in
    let script_size = c.args.made.now.script.ok.0 in
    let many = c.len-2.ensures in
    let size = c.args.made.now.lives.ok.0 in
    let all = ends _ _ (lives_left script lives c.loop-index.index) _ (lives_end script lives c.loop-index.index (omega (arith, past, count, scripts, script_size, many, size))) c.loop-index.invariant.written in
    search (rules, all)
