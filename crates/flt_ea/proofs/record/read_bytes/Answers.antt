use Rattle.std.proofs.Common.{◌≡◌, ◌+◌, ◌*◌, ◌<◌, ◌≤◌, ◌++◌, ℕ, List, length, sym, ◌∙◌, ap, arith}
use Rattle.std.proofs.lemmas.Slice.{take-put_mid}
use Rattle.flt_flash.specs.Image.{sector_at, page_at}
use Rattle.flt_flash.proofs.Following.{reads_on}
use Rattle.flt_pages.proofs.Reading.{flat_more}
use Rattle.flt_ea.proofs.Device.{one_reading}
use Rattle.flt_ea.proofs.record.read_bytes.Goals as goal

pub loop-index-preserved : goal.loop-index-preserved
loop-index-preserved g c =
    let before = g.E.Eeprom.state c.args.device.now in
    let units = sector_at before.image 0 in
    let shape = g.met.E.Eeprom.shape c.args.device.now in
    let bytes = c.copy_from_slice.new.self in
    let is : bytes ≡ page_at before.image 0 (c.args.gate + 1 + c.loop-index.index) =
    c.copy_from_slice.ensures.after ∙ c.in_ok-read_unit.ensures.read
    ∙ ap (λ (image : List (List (List ℕ))). page_at image 0 (c.args.gate + 1 + c.loop-index.index)) c.loop-index.invariant.reads.image in
    let within : c.args.gate + 1 + c.loop-index.index < length units = omega (arith, shape.units, c.requires.room) in
    let size : length bytes ≡ 32 = ap length is ∙ shape.bytes (c.args.gate + 1 + c.loop-index.index) within in
    let long : 32 * (c.loop-index.index + 1) ≡ 32 * c.loop-index.index + length bytes = omega (arith, size) in
    let room : 32 * c.loop-index.index ≤ length c.loop-index.held = omega arith in
    record {
      reads = reads_on c.loop-index.invariant.reads (one_reading (g.E.Eeprom.state c.loop-index.device) (g.E.Eeprom.state c.read_unit.new.self) _ (g.met.E.Eeprom.shape c.loop-index.device) (g.met.E.Eeprom.shape c.read_unit.new.self) c.in_ok-read_unit.ensures.operation c.in_ok-read_unit.ensures.image);
      front =
          take-put_mid (32 * c.loop-index.index) _ c.loop-index.held bytes (32 * (c.loop-index.index + 1)) long room
          ∙ (λ i. c.loop-index.invariant.front i ++ is i)
          ∙ sym (flat_more units (c.args.gate + 1) c.loop-index.index within);
      operations = omega (arith, c.in_ok-read_unit.ensures.operation.operations, c.loop-index.invariant.operations);
    }
