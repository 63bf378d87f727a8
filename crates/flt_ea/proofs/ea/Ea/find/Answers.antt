use Rattle.std.proofs.Common.{◌≡◌, ◌++◌, drop, true, refl, sym, ◌∙◌, ap, subst, arith}
use Rattle.flt_flash.specs.Blocks.{byte_pages}
use Rattle.flt_flash.specs.Calls.{ReadsContent}
use Rattle.flt_flash.specs.Content.{Content, size_of}
use Rattle.flt_flash.specs.Image.{sector_at}
use Rattle.flt_flash.specs.declared.blocks.Found.TheVariants.{Bytes, Missing, Invalid}
use Rattle.flt_pages.proofs.Finding.{length_most}
use Rattle.flt_ea.specs.Image.{bytes_after_gate, place_content, value_in}
use Rattle.flt_ea.specs.declared.place.Held.{Held}
use Rattle.flt_pages.proofs.BlankPages.{unless, lest}
use Rattle.flt_ea.proofs.Standing.{StandsAt, stands_at, current_is, size_is, value_is, valid_value, invalid_value}
use Rattle.flt_ea.proofs.ea.Ea.find.Goals.{After-index}
use Rattle.flt_ea.proofs.ea.Ea.find.Goals as goal

stands : (g : _) (c : After-index g) → StandsAt (g.E.Eeprom.state c.args.self.now.device) c.args.self.now.numbers c.position-position.result c.args.block c.index.result.now
stands g c = stands_at c.args.self.now (g.met.E.Eeprom.shape c.args.self.now.device) c.requires.not_stale c.position-position.result c.args.block c.index.result.now c.position-position.ensures.within c.position-position.ensures.is c.index.ensures

pub read_bytes-requires-clause-most : goal.read_bytes-requires-clause-most
read_bytes-requires-clause-most g c =
    let held = c.in-Some-2.held in
    length_most held.gate.valid held.gate.length (current_is (stands g (goal.at.read_bytes-requires-clause-most g c).After-index) held c.in-Some-2.is).gate.kind

pub read_bytes-requires-clause-room : goal.read_bytes-requires-clause-room
read_bytes-requires-clause-room g c =
    let held = c.in-Some-2.held in
    let proper = current_is (stands g (goal.at.read_bytes-requires-clause-room g c).After-index) held c.in-Some-2.is in
    omega (arith, proper.place, length_most held.gate.valid held.gate.length proper.gate.kind, c.gate_unit-gate.ensures, c.position-position.ensures.within, c.args.self.now.within)

pub returns-in-None-clause-found : goal.returns-in-None-clause-found
returns-in-None-clause-found g c =
    let units = sector_at (g.E.Eeprom.state c.args.self.now.device).image 0 in
    let value = value_is (stands g (goal.at.returns-in-None-clause-found g c).After-index) in
    subst (λ (content : Content). ReadsContent content Missing c.args.out.now c.args.out.now) (sym (value ∙ ap (place_content units c.position-position.result) c.in-None.is)) refl

pub returns-in-Some-clause-found : goal.returns-in-Some-clause-found
returns-in-Some-clause-found g c =
    let held = c.in-Some.held in
    let value = invalid_value (stands g (goal.at.returns-in-Some-clause-found g c).After-index) held c.in-Some.is (unless held.gate.valid (sym c.if-not-held.true)) in
    subst (λ (content : Content). ReadsContent content Invalid c.args.out.now c.args.out.now) (sym value) refl

pub returns-in_ok-read_bytes-in-Some-2-clause-found : goal.returns-in_ok-read_bytes-in-Some-2-clause-found
returns-in_ok-read_bytes-in-Some-2-clause-found g c =
    let units = sector_at (g.E.Eeprom.state c.args.self.now.device).image 0 in
    let held = c.in-Some-2.held in
    let here = stands g (goal.at.returns-in_ok-read_bytes-in-Some-2-clause-found g c).After-index in
    let same : held ≡ c.in-Some.held = cc in
    let valid : held.gate.valid ≡ true = ap (λ (h : Held). h.gate.valid) same ∙ lest c.in-Some.held.gate.valid (sym c.if-not-held.false) in
    let read = subst (λ n. c.read_bytes.new.out ≡ bytes_after_gate units n held.gate.length ++ drop held.gate.length c.args.out.now) c.gate_unit-gate.ensures c.in_ok-read_bytes-in-Some-2.ensures.read in
    subst (λ (content : Content). ReadsContent content (Bytes held.gate.length) c.args.out.now c.read_bytes.new.out) (sym (valid_value here held c.in-Some-2.is valid)) (sym (size_is here held c.in-Some-2.is), read)

pub returns-in_ok-read_bytes-in-Some-2-clause-spends : goal.returns-in_ok-read_bytes-in-Some-2-clause-spends
returns-in_ok-read_bytes-in-Some-2-clause-spends g c =
    let device = g.E.Eeprom.state c.args.self.now.device in
    let held = c.in-Some-2.held in
    let here = stands g (goal.at.returns-in_ok-read_bytes-in-Some-2-clause-spends g c).After-index in
    let same : held ≡ c.in-Some.held = cc in
    let valid : held.gate.valid ≡ true = ap (λ (h : Held). h.gate.valid) same ∙ lest c.in-Some.held.gate.valid (sym c.if-not-held.false) in
    let pages : byte_pages (size_of (value_in c.args.self.now.numbers device.image c.args.block)) ≡ byte_pages held.gate.length = ap (λ (content : Content). byte_pages (size_of content)) (valid_value here held c.in-Some-2.is valid) ∙ ap byte_pages (size_is here held c.in-Some-2.is) in
    omega (arith, c.in_ok-read_bytes-in-Some-2.ensures.operations, pages)
