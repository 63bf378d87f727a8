use Rattle.std.proofs.Common.{◌+◌, sym, subst, arith}
use Rattle.flt_flash.specs.Image.{sector_at}
use Rattle.flt_pages.specs.Live.{held_in}
use Rattle.flt_pages.proofs.CopyingBlocks.{Copying, copying, end_begun, end_blank, number_room, block_failed, block_done, all_done, Moves, nothing_moved, place_waits, moves_on, moved_all}
use Rattle.flt_pages.proofs.sectors.copy_blocks.Goals as goal

pub copies-init : goal.copies-init
copies-init g c = record {
  copying = copying c.args.at c.args.numbers.now (g.F.Flash.state c.args.flash.now) (g.met.F.Flash.shape c.args.flash.now) c.requires.source.log.sound c.requires.other;
  most = omega arith;
  operations = omega arith;
  size = c.requires.source.table.size;
  moves = nothing_moved c.args.at c.args.numbers.now c.args.places.now (g.F.Flash.state c.args.flash.now) (g.F.Flash.state c.args.flash.now) 2 (held_in c.args.at.used c.args.numbers.now (sector_at (g.F.Flash.state c.args.flash.now).image c.args.at.sector)) c.requires.source.tells;
}

pub copy_block-requires-clause-block : goal.copy_block-requires-clause-block
copy_block-requires-clause-block g c =
    let room = number_room c.args.at c.args.numbers.now (g.F.Flash.state c.args.flash.now) (g.met.F.Flash.shape c.args.flash.now) c.requires.source.log.sound
    (g.F.Flash.state c.copies.flash) (g.met.F.Flash.shape c.copies.flash) c.copies.end c.copies.from c.copies.invariant.copying c.in-Some.number c.in-Some.ensures in
    record {
      among = c.in-Some.ensures.found.0;
      place = place_waits c.args.at c.args.numbers.now (g.F.Flash.state c.args.flash.now) (g.met.F.Flash.shape c.args.flash.now) c.requires.source.log.sound
          (g.F.Flash.state c.copies.flash) (g.met.F.Flash.shape c.copies.flash) c.copies.end c.copies.from c.copies.invariant.copying c.copies.places c.copies.invariant.moves c.in-Some.number c.in-Some.ensures.found.1;
      begun = end_begun c.args.at c.args.numbers.now (g.F.Flash.state c.args.flash.now) (g.met.F.Flash.shape c.args.flash.now) c.requires.source.log.sound
          (g.F.Flash.state c.copies.flash) (g.met.F.Flash.shape c.copies.flash) c.copies.end c.copies.from c.copies.invariant.copying;
      room = omega (arith, room, c.requires.source.room);
    }

pub copy_block-requires-clause-other : goal.copy_block-requires-clause-other
copy_block-requires-clause-other g c =
    end_blank c.args.at c.args.numbers.now (g.F.Flash.state c.args.flash.now) (g.met.F.Flash.shape c.args.flash.now) c.requires.source.log.sound
    (g.F.Flash.state c.copies.flash) (g.met.F.Flash.shape c.copies.flash) c.copies.end c.copies.from c.copies.invariant.copying

pub returns-in_err-end-clause-copies : goal.returns-in_err-end-clause-copies
returns-in_err-end-clause-copies g c =
    block_failed c.args.at c.args.numbers.now (g.F.Flash.state c.args.flash.now) (g.met.F.Flash.shape c.args.flash.now) c.requires.source.log.sound
    (g.F.Flash.state c.copies.flash) (g.met.F.Flash.shape c.copies.flash) c.copies.end c.copies.from c.copies.invariant.copying c.in-Some.number c.in-Some.ensures
    (g.F.Flash.state c.copy_block.new.flash) c.in_err-end.field-0.0 c.from_residual.result c.from_residual.ensures.0 c.in_err-end.ensures.copies

pub copies-preserved : goal.copies-preserved
copies-preserved g c = record {
  copying = subst (λ n. Copying c.args.at c.args.numbers.now (g.F.Flash.state c.args.flash.now) (g.F.Flash.state c.copy_block.new.flash) c.in_ok-end.end (n + 1)) (sym c.from-from.ensures)
      (block_done c.args.at c.args.numbers.now (g.F.Flash.state c.args.flash.now) (g.met.F.Flash.shape c.args.flash.now) c.requires.source.log.sound
      (g.F.Flash.state c.copies.flash) (g.met.F.Flash.shape c.copies.flash) c.copies.end c.copies.from c.copies.invariant.copying c.in-Some.number c.in-Some.ensures
      (g.F.Flash.state c.copy_block.new.flash) c.in_ok-end.end c.in_ok-end.ensures.copies);
  most = omega (arith, c.from-from.ensures);
  operations = omega (arith, c.in_ok-end.ensures.operations, c.copies.invariant.operations);
  size = c.in_ok-end.ensures.size;
  moves = subst (λ n. Moves c.args.at c.args.numbers.now c.copy_block.new.places (g.F.Flash.state c.args.flash.now) (g.F.Flash.state c.copy_block.new.flash) c.in_ok-end.end (n + 1) (held_in c.args.at.used c.args.numbers.now (sector_at (g.F.Flash.state c.args.flash.now).image c.args.at.sector))) (sym c.from-from.ensures)
      (moves_on c.args.at c.args.numbers.now (g.F.Flash.state c.args.flash.now) (g.met.F.Flash.shape c.args.flash.now) c.requires.source.log.sound
      (g.F.Flash.state c.copies.flash) (g.met.F.Flash.shape c.copies.flash) c.copies.end c.copies.from c.copies.invariant.copying c.copies.places c.copies.invariant.moves c.in-Some.number c.in-Some.ensures
      (g.F.Flash.state c.copy_block.new.flash) c.in_ok-end.end c.in_ok-end.ensures.copies c.copy_block.new.places c.in_ok-end.ensures.table);
}

pub returns-clause-table : goal.returns-clause-table
returns-clause-table g c =
    moved_all c.args.at c.args.numbers.now (g.F.Flash.state c.args.flash.now) (g.met.F.Flash.shape c.args.flash.now) c.requires.source.log.sound
    (g.F.Flash.state c.copies.flash) (g.met.F.Flash.shape c.copies.flash) c.copies.end c.copies.from c.copies.invariant.copying c.copies.places c.copies.invariant.moves c.in_default.ensures

pub returns-clause-copies : goal.returns-clause-copies
returns-clause-copies g c =
    all_done c.args.at c.args.numbers.now (g.F.Flash.state c.args.flash.now) (g.met.F.Flash.shape c.args.flash.now) c.requires.source.log.sound
    (g.F.Flash.state c.copies.flash) (g.met.F.Flash.shape c.copies.flash) c.copies.end c.copies.from c.copies.invariant.copying c.in_default.ensures
