use Rattle.std.proofs.Common.{◌≡◌, ◌⊎◌, ◌+◌, ◌*◌, ◌<◌, inl, inr, length, Ok, ◌∙◌, arith}
use Rattle.flt_flash.specs.Blocks.{byte_pages}
use Rattle.flt_pages.proofs.FillStep.{piece_failed, piece_laid}
use Rattle.flt_ea.proofs.Device.{unit_laid, gives_unit}
use Rattle.flt_ea.proofs.record.fill.Goals as goal
use Rattle.flt_ea.proofs.record.fill.Goals.{then-start-bytes, else-start-bytes}

pub returns-in_err-write_unit-clause-fills : goal.returns-in_err-write_unit-clause-fills
returns-in_err-write_unit-clause-fills g c =
    let shape = g.met.E.Eeprom.shape c.args.device.now in
    let more : c.loop-index.index < byte_pages (length c.args.bytes.now) = omega (arith, c.byte_pages-index-end.ensures) in
    let now = g.E.Eeprom.state c.loop-index.device in
    let fits : c.args.first + c.loop-index.index < now.pages = omega (arith, c.loop-index.invariant.on.runs.pages, c.requires.room) in
    let gives = gives_unit now (g.E.Eeprom.state c.write_unit.new.self) (c.args.first + c.loop-index.index) c.fill_up.result _ (g.met.E.Eeprom.shape c.loop-index.device) (g.met.E.Eeprom.shape c.write_unit.new.self) fits
    c.in_err-write_unit.ensures.written c.in_err-write_unit.ensures.torn c.in_err-write_unit.ensures.operation in
    piece_failed c.args.bytes.now c.loop-index.index (omega (arith, shape.one)) more c.loop-index.invariant.on c.loop-index.invariant.apart (unit_laid gives) c.in_err-write_unit.ensures.operation.cause c.from_residual.result c.from_residual.ensures.0

pub loop-index-preserved : goal.loop-index-preserved
loop-index-preserved g c =
    let shape = g.met.E.Eeprom.shape c.args.device.now in
    let more : c.loop-index.index < byte_pages (length c.args.bytes.now) = omega (arith, c.byte_pages-index-end.ensures) in
    let now = g.E.Eeprom.state c.loop-index.device in
    let fits : c.args.first + c.loop-index.index < now.pages = omega (arith, c.loop-index.invariant.on.runs.pages, c.requires.room) in
    let ends : (c.if-start-bytes.end ≡ 32 * c.loop-index.index + 32) ⊎ ((c.if-start-bytes.end ≡ length c.args.bytes.now) × (length c.args.bytes.now < 32 * c.loop-index.index + 32)) =
    elim c.if-start-bytes.branch [ then-start-bytes w ↦ inl (omega arith) | else-start-bytes w ↦ inr (omega arith, omega arith) ] in
    let gives = gives_unit now (g.E.Eeprom.state c.write_unit.new.self) (c.args.first + c.loop-index.index) c.fill_up.result (Ok tt) (g.met.E.Eeprom.shape c.loop-index.device) (g.met.E.Eeprom.shape c.write_unit.new.self) fits
    c.in_ok-write_unit.ensures.written c.in_ok-write_unit.ensures.torn c.in_ok-write_unit.ensures.operation in
    let step = piece_laid c.args.bytes.now c.loop-index.index (omega (arith, shape.one)) more c.loop-index.invariant.on c.loop-index.invariant.apart (unit_laid gives)
    c.if-start-bytes.end ends (omega (arith, shape.units, c.requires.room)) c.loop-index.invariant.filled ((unit_laid gives).holds_asked ∙ c.fill_up.ensures) in
    record { on = step.on; apart = step.apart; filled = step.filled; operations = omega (arith, c.in_ok-write_unit.ensures.operation.operations, c.loop-index.invariant.operations) }
