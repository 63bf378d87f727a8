use Rattle.std.proofs.Common.{◌≡◌, ◌∙◌, sym, ap}
use Rattle.flt_flash.specs.Calls.{found_of}
use Rattle.flt_flash.specs.Image.{sector_at}
use Rattle.flt_ea.specs.Image.{place_content}
use Rattle.flt_ea.specs.declared.place.Held.{Held}
use Rattle.flt_ea.proofs.Standing.{StandsAt, stands_at, value_is, valid_found, invalid_value}
use Rattle.flt_ea.proofs.ea.EaBlocks.look_up.Goals.{After-index}
use Rattle.flt_ea.proofs.ea.EaBlocks.look_up.Goals as goal

stands : (g : _) (c : After-index g) → StandsAt (g.E.Eeprom.state c.args.self.now.device) c.args.self.now.numbers c.position.result c.args.block c.index.result.now
stands g c = stands_at c.args.self.now (g.met.E.Eeprom.shape c.args.self.now.device) c.requires.not_stale c.position.result c.args.block c.index.result.now c.position.ensures.within c.position.ensures.is c.index.ensures

pub returns-in-None : goal.returns-in-None
returns-in-None g c =
    let units = sector_at (g.E.Eeprom.state c.args.self.now.device).image 0 in
    sym (ap found_of (value_is (stands g (goal.at.returns-in-None g c).After-index) ∙ ap (place_content units c.position.result) c.in-None.is))

pub returns-in-Some : goal.returns-in-Some
returns-in-Some g c = valid_found (stands g (goal.at.returns-in-Some g c).After-index) c.in-Some.held c.in-Some.is c.if-held.true

pub returns-in-Some-2 : goal.returns-in-Some-2
returns-in-Some-2 g c =
    let same : c.in-Some-2.field-0 ≡ c.in-Some.held = cc in
    sym (ap found_of (invalid_value (stands g (goal.at.returns-in-Some-2 g c).After-index) c.in-Some-2.field-0 c.in-Some-2.is (ap (λ (h : Held). h.gate.valid) same ∙ c.if-held.false)))
