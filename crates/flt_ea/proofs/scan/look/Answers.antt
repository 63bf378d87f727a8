use Rattle.std.proofs.Common.{◌≡◌, ◌*◌, ◌+◌, ◌∙◌, ap, arith}
use Rattle.flt_flash.specs.Image.{page_at}
use Rattle.flt_flash.proofs.Following.{reads_on}
use Rattle.flt_ea.specs.Image.{judged_places}
use Rattle.flt_ea.proofs.Device.{one_reading}
use Rattle.flt_ea.proofs.scan.look.Goals as goal

pub returns-clause-judged : goal.returns-clause-judged
returns-clause-judged g c =
    let image = (g.E.Eeprom.state c.args.device.now).image in
    let none : 10 * c.args.position ≡ 10 * c.args.position + 5 * 0 = omega arith in
    let first = c.in_ok-read_unit.ensures.read ∙ ap (λ unit. page_at image 0 unit) none in
    let second = c.in_ok-read_unit-2.ensures.read ∙ ap (λ found. page_at found 0 (10 * c.args.position + 5)) c.in_ok-read_unit.ensures.image in
    c.judge.ensures ∙ (λ i. judged_places c.args.number (first i) (second i))

pub returns-clause-reads : goal.returns-clause-reads
returns-clause-reads g c = reads_on
    (one_reading (g.E.Eeprom.state c.args.device.now) (g.E.Eeprom.state c.read_unit.new.self) c.read_unit.result (g.met.E.Eeprom.shape c.args.device.now) (g.met.E.Eeprom.shape c.read_unit.new.self) c.read_unit.ensures.operation c.read_unit.ensures.image)
    (one_reading (g.E.Eeprom.state c.read_unit.new.self) (g.E.Eeprom.state c.read_unit-2.new.self) c.read_unit-2.result (g.met.E.Eeprom.shape c.read_unit.new.self) (g.met.E.Eeprom.shape c.read_unit-2.new.self) c.read_unit-2.ensures.operation c.read_unit-2.ensures.image)
