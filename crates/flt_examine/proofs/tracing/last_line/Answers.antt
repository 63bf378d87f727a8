use Rattle.std.proofs.Common.{Global, Vec, ℕ, sym}
use Rattle.flt_examine.proofs.Last.{line_of_last, starts}
use Rattle.flt_examine.proofs.tracing.last_line.Goals as goal

pub life_line-requires : goal.life_line-requires
life_line-requires c =
    let start = c.in-Started.start in
    c.requires c.in-Some.life.now start
    (starts c.args.lives.now c.in-Some.life.now c.in-Started.generation start (sym c.in-Some.ensures.value) c.in-Started.is)

pub returns-in-Started : goal.returns-in-Started
returns-in-Started c =
    let start = c.in-Started.start in
    line_of_last (λ (v : Vec ℕ Global). v.items) c.args.config.now c.args.bytes.items c.args.lives.now c.in-Some.life.now start c.life_line.result
    (starts c.args.lives.now c.in-Some.life.now c.in-Started.generation start (sym c.in-Some.ensures.value) c.in-Started.is) c.life_line.ensures
