use Rattle.std.proofs.Common.{map, subst, rules}
use Rattle.std.specs.Io.KnownBytes.{Appends}
use Rattle.flt_life_model.specs.Room.{told_in}
use Rattle.flt_report.specs.Life.{lane_steps, block_text}
use Rattle.flt_report.proofs.Written.{front_next}
use Rattle.flt_report.proofs.writing.write_next_block.Goals as goal

pub returns-in_err-write_block-clause-written : goal.returns-in_err-write_block-clause-written
returns-in_err-write_block-clause-written g c =
    let block = block_text c.args.number (lane_steps c.args.lanes.now) (map told_in c.args.told.now) in
    let first = subst (Appends (g.K.Sink.held c.args.sink.now) (g.K.Sink.held c.push.new.self)) c.deref.ensures.value c.in_ok-push.ensures.ok in
    let front = front_next _ _ _ c.args.piece.now.items block first c.in_err-write_block.ensures.err in
    search (rules, front)
