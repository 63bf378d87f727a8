use Rattle.std.proofs.Common.{◌<◌, ℕ, List, Ok, subst, arith}
use Rattle.flt_flash.specs.Image.{blank_page}
use Rattle.flt_code.specs.Seal.{IsCodeWordOf}
use Rattle.flt_ea.proofs.Device.{gives_unit}
use Rattle.flt_ea.proofs.Writing.{clear_failed, fill_failed, gate_written}
use Rattle.flt_ea.proofs.record.write_record.Goals as goal

pub returns-in_err-write_unit-clause-writes : goal.returns-in_err-write_unit-clause-writes
unfolding blank_page
returns-in_err-write_unit-clause-writes g c =
    let before = g.E.Eeprom.state c.args.device.now in
    let shape = g.met.E.Eeprom.shape c.args.device.now in
    let after = g.E.Eeprom.state c.write_unit.new.self in
    clear_failed before shape c.args.unit c.args.gate.now c.args.bytes.now c.requires.room c.requires.most c.requires.unspoiled after c.in_err-write_unit.field-0.0 c.from_residual.result c.from_residual.ensures.0
    (gives_unit before after c.args.unit blank_page _ shape (g.met.E.Eeprom.shape c.write_unit.new.self) (omega arith) c.in_err-write_unit.ensures.written c.in_err-write_unit.ensures.torn c.in_err-write_unit.ensures.operation)

pub returns-in_err-fill-clause-writes : goal.returns-in_err-fill-clause-writes
unfolding blank_page
returns-in_err-fill-clause-writes g c =
    let before = g.E.Eeprom.state c.args.device.now in
    let shape = g.met.E.Eeprom.shape c.args.device.now in
    let middle = g.E.Eeprom.state c.write_unit.new.self in
    fill_failed before shape c.args.unit c.args.gate.now c.args.bytes.now c.requires.room c.requires.most c.requires.unspoiled middle
    (gives_unit before middle c.args.unit blank_page (Ok tt) shape (g.met.E.Eeprom.shape c.write_unit.new.self) (omega arith) c.in_ok-write_unit.ensures.written c.in_ok-write_unit.ensures.torn c.in_ok-write_unit.ensures.operation)
    (g.E.Eeprom.state c.fill.new.device) c.in_err-fill.field-0.0 c.from_residual-in_err-fill.result c.from_residual-in_err-fill.ensures.0 c.in_err-fill.ensures.fills

pub returns-clause-writes : goal.returns-clause-writes
unfolding blank_page
returns-clause-writes g c =
    let before = g.E.Eeprom.state c.args.device.now in
    let shape = g.met.E.Eeprom.shape c.args.device.now in
    let middle = g.E.Eeprom.state c.write_unit.new.self in
    let full = g.E.Eeprom.state c.fill.new.device in
    let fits : c.args.unit < full.pages = omega (arith, c.requires.room, c.in_ok-write_unit.ensures.operation.pages, c.in_ok-fill.ensures.fills.on.runs.pages) in
    gate_written before shape c.args.unit c.args.gate.now c.args.bytes.now c.requires.room c.requires.most c.requires.unspoiled middle
    (gives_unit before middle c.args.unit blank_page (Ok tt) shape (g.met.E.Eeprom.shape c.write_unit.new.self) (omega arith) c.in_ok-write_unit.ensures.written c.in_ok-write_unit.ensures.torn c.in_ok-write_unit.ensures.operation)
    full c.in_ok-fill.ensures.fills (g.E.Eeprom.state c.write_unit-2.new.self) c.seal.result (subst (λ (l : List ℕ). IsCodeWordOf l c.seal.result) c.put_gate.ensures.bytes c.seal.ensures.code_word)
    c.write_unit-2.result
    (gives_unit full (g.E.Eeprom.state c.write_unit-2.new.self) c.args.unit c.seal.result c.write_unit-2.result (g.met.E.Eeprom.shape c.fill.new.device) (g.met.E.Eeprom.shape c.write_unit-2.new.self) fits
    c.write_unit-2.ensures.written c.write_unit-2.ensures.torn c.write_unit-2.ensures.operation)
