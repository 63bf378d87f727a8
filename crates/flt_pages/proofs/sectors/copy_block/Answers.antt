use Rattle.std.proofs.Common.{◌+◌, Option, Some, None, ap, subst, arith}
use Rattle.flt_pages.specs.declared.place.RecordPlace.{RecordPlace}
use Rattle.flt_pages.specs.RecordPlace.{IsPlaceOf}
use Rattle.flt_pages.proofs.CopyingBlock.{block_missing, place_empty, within, place_room, block_torn, block_copied, place_moved}
use Rattle.flt_pages.proofs.sectors.copy_block.Goals as goal

pub returns-in-None-clause-copies : goal.returns-in-None-clause-copies
returns-in-None-clause-copies g c =
    block_missing c.args.at c.args.numbers.now (g.F.Flash.state c.args.flash.now) (g.met.F.Flash.shape c.args.flash.now) c.args.number c.args.end
    c.requires.block.begun c.requires.log.most (omega arith) (omega arith) c.requires.block.among c.requires.block.room (c.requires.block.place None (subst (λ (found : Option RecordPlace). IsPlaceOf c.args.numbers.now c.args.places.now c.args.number found) c.in-None.is c.place_of.ensures))

pub returns-in-None-clause-table : goal.returns-in-None-clause-table
returns-in-None-clause-table g c =
    place_empty c.args.at c.args.numbers.now (g.F.Flash.state c.args.flash.now) (g.met.F.Flash.shape c.args.flash.now) c.args.number c.args.end
    c.requires.block.begun c.requires.log.most (omega arith) (omega arith) c.requires.block.among c.requires.block.room (c.requires.block.place None (subst (λ (found : Option RecordPlace). IsPlaceOf c.args.numbers.now c.args.places.now c.args.number found) c.in-None.is c.place_of.ensures)) c.args.places.now c.requires.block.place

pub copy_record-requires-clause-room : goal.copy_record-requires-clause-room
copy_record-requires-clause-room g c =
    let room = place_room c.args.at c.args.numbers.now (g.F.Flash.state c.args.flash.now) (g.met.F.Flash.shape c.args.flash.now) c.args.number c.args.end
    c.requires.block.begun c.requires.log.most (omega arith) (omega arith) c.requires.block.among c.requires.block.room c.in-Some.place (c.requires.block.place (Some c.in-Some.place) (subst (λ (found : Option RecordPlace). IsPlaceOf c.args.numbers.now c.args.places.now c.args.number found) c.in-Some.is c.place_of.ensures)) in
    omega (arith, room, c.requires.log.most)

pub copy_record-requires-clause-within : goal.copy_record-requires-clause-within
copy_record-requires-clause-within g c =
    let is = within c.args.at c.args.numbers.now (g.F.Flash.state c.args.flash.now) (g.met.F.Flash.shape c.args.flash.now) c.args.number c.args.end
    c.requires.block.begun c.requires.log.most (omega arith) (omega arith) c.requires.block.among c.requires.block.room c.in-Some.place (c.requires.block.place (Some c.in-Some.place) (subst (λ (found : Option RecordPlace). IsPlaceOf c.args.numbers.now c.args.places.now c.args.number found) c.in-Some.is c.place_of.ensures)) in
    record { below = omega (arith, is.below, c.requires.log.most); kind = is.kind }

pub copy_record-requires-clause-blank : goal.copy_record-requires-clause-blank
copy_record-requires-clause-blank g c =
    let room = place_room c.args.at c.args.numbers.now (g.F.Flash.state c.args.flash.now) (g.met.F.Flash.shape c.args.flash.now) c.args.number c.args.end
    c.requires.block.begun c.requires.log.most (omega arith) (omega arith) c.requires.block.among c.requires.block.room c.in-Some.place (c.requires.block.place (Some c.in-Some.place) (subst (λ (found : Option RecordPlace). IsPlaceOf c.args.numbers.now c.args.places.now c.args.number found) c.in-Some.is c.place_of.ensures)) in
    λ k low high. c.requires.other k low (omega (arith, high, room))

pub overflow_add-result-in-Some : goal.overflow_add-result-in-Some
overflow_add-result-in-Some g c =
    let room = place_room c.args.at c.args.numbers.now (g.F.Flash.state c.args.flash.now) (g.met.F.Flash.shape c.args.flash.now) c.args.number c.args.end
    c.requires.block.begun c.requires.log.most (omega arith) (omega arith) c.requires.block.among c.requires.block.room c.in-Some.place (c.requires.block.place (Some c.in-Some.place) (subst (λ (found : Option RecordPlace). IsPlaceOf c.args.numbers.now c.args.places.now c.args.number found) c.in-Some.is c.place_of.ensures)) in
    omega (arith, room, c.byte_pages.ensures)

pub returns-in_err-copy_record-in-Some-clause-copies : goal.returns-in_err-copy_record-in-Some-clause-copies
returns-in_err-copy_record-in-Some-clause-copies g c =
    block_torn c.args.at c.args.numbers.now (g.F.Flash.state c.args.flash.now) (g.met.F.Flash.shape c.args.flash.now) c.args.number c.args.end
    c.requires.block.begun c.requires.log.most (omega arith) (omega arith) c.requires.block.among c.requires.block.room c.in-Some.place (c.requires.block.place (Some c.in-Some.place) (subst (λ (found : Option RecordPlace). IsPlaceOf c.args.numbers.now c.args.places.now c.args.number found) c.in-Some.is c.place_of.ensures))
    (g.F.Flash.state c.copy_record.new.flash) c.copy_record.result c.copy_record.ensures.records
    c.from_residual.result c.from_residual.ensures.0 c.in_err-copy_record-in-Some.ensures.records.cause

pub returns-in_ok-copy_record-in-Some-clause-copies : goal.returns-in_ok-copy_record-in-Some-clause-copies
returns-in_ok-copy_record-in-Some-clause-copies g c =
    block_copied c.args.at c.args.numbers.now (g.F.Flash.state c.args.flash.now) (g.met.F.Flash.shape c.args.flash.now) c.args.number c.args.end
    c.requires.block.begun c.requires.log.most (omega arith) (omega arith) c.requires.block.among c.requires.block.room c.in-Some.place (c.requires.block.place (Some c.in-Some.place) (subst (λ (found : Option RecordPlace). IsPlaceOf c.args.numbers.now c.args.places.now c.args.number found) c.in-Some.is c.place_of.ensures))
    (g.F.Flash.state c.copy_record.new.flash) c.copy_record.result c.copy_record.ensures.records
    (c.args.end + (2 + c.byte_pages.result)) c.in_ok-copy_record-in-Some.was (ap (λ n. c.args.end + (2 + n)) c.byte_pages.ensures)

pub returns-in_ok-copy_record-in-Some-clause-table : goal.returns-in_ok-copy_record-in-Some-clause-table
returns-in_ok-copy_record-in-Some-clause-table g c =
    place_moved c.args.at c.args.numbers.now (g.F.Flash.state c.args.flash.now) (g.met.F.Flash.shape c.args.flash.now) c.args.number c.args.end
    c.requires.block.begun c.requires.log.most (omega arith) (omega arith) c.requires.block.among c.requires.block.room c.in-Some.place (c.requires.block.place (Some c.in-Some.place) (subst (λ (found : Option RecordPlace). IsPlaceOf c.args.numbers.now c.args.places.now c.args.number found) c.in-Some.is c.place_of.ensures))
    (g.F.Flash.state c.copy_record.new.flash) c.copy_record.result c.copy_record.ensures.records
    (c.args.end + (2 + c.byte_pages.result)) c.in_ok-copy_record-in-Some.was (ap (λ n. c.args.end + (2 + n)) c.byte_pages.ensures)
    c.args.places.now c.note.new.places c.note.ensures.noted
