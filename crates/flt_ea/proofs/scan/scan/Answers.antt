use Rattle.std.proofs.Common.{rules, ◌≡◌, ◌<◌, ℕ, List, length, get_or, Ok, Err, ◌∙◌, ap, subst, arith}
use Rattle.std.proofs.lemmas.List.{at_drop_all}
use Rattle.flt_flash.specs.Image.{sector_at}
use Rattle.flt_flash.proofs.Following.{runs_on}
use Rattle.flt_ea.specs.Image.{damage_from, judged_places, gate_at}
use Rattle.flt_ea.proofs.Scanned.{no_more, damaged_here, sound_on, table_on}
use Rattle.flt_ea.proofs.scan.scan.Goals as goal

pub returns-in-Err-clause-damaged : goal.returns-in-Err-clause-damaged
returns-in-Err-clause-damaged g c = λ sector page is.
    let units = sector_at (g.E.Eeprom.state c.args.device.now).image 0 in
    let at = c.loop-position.position in
    let found = subst (λ (image : List (List (List ℕ))). c.in_ok-place.field-0 ≡ judged_places (get_or c.args.numbers.now at 0) (gate_at (sector_at image 0) at 0) (gate_at (sector_at image 0) at 1)) c.loop-position.invariant.reads.image
    (c.in_ok-place.ensures.judged ∙ ap (λ n. judged_places n (gate_at (sector_at (g.E.Eeprom.state c.loop-position.device).image 0) at 0) (gate_at (sector_at (g.E.Eeprom.state c.loop-position.device).image 0) at 1)) c.at.ensures) in
    let told : Err c.in-Err.place ≡ judged_places (get_or c.args.numbers.now at 0) (gate_at units at 0) (gate_at units at 1) = cc in
    let here = damaged_here c.args.numbers.now units at (omega arith) c.in-Err.place told c.loop-position.invariant.sound in
    cc

pub loop-position-preserved : goal.loop-position-preserved
loop-position-preserved g c =
    let units = sector_at (g.E.Eeprom.state c.args.device.now).image 0 in
    let at = c.loop-position.position in
    let before = c.loop-position.invariant in
    let within : at < length c.args.numbers.now = omega arith in
    let inside : at < length c.loop-position.table = omega (arith, before.size, c.requires.table) in
    let found = subst (λ (image : List (List (List ℕ))). c.in_ok-place.field-0 ≡ judged_places (get_or c.args.numbers.now at 0) (gate_at (sector_at image 0) at 0) (gate_at (sector_at image 0) at 1)) before.reads.image
    (c.in_ok-place.ensures.judged ∙ ap (λ n. judged_places n (gate_at (sector_at (g.E.Eeprom.state c.loop-position.device).image 0) at 0) (gate_at (sector_at (g.E.Eeprom.state c.loop-position.device).image 0) at 1)) c.at.ensures) in
    let told : Ok c.in-Ok.held ≡ judged_places (get_or c.args.numbers.now at 0) (gate_at units at 0) (gate_at units at 1) = cc in
    record {
      reads = record {
        runs = runs_on before.reads.runs c.look.ensures.reads.runs;
        image = c.look.ensures.reads.image ∙ before.reads.image;
        wear = c.look.ensures.reads.wear ∙ before.reads.wear;
      };
      operations = omega (arith, c.look.ensures.operations, before.operations);
      size = search rules;
      sound = sound_on c.args.numbers.now units at within c.in-Ok.held told before.sound;
      table = table_on c.args.numbers.now units at within c.loop-position.table c.in-Ok.held inside told before.table;
    }

pub returns-clause-sound : goal.returns-clause-sound
returns-clause-sound g c =
    let units = sector_at (g.E.Eeprom.state c.args.device.now).image 0 in
    c.loop-position.invariant.sound ∙ at_drop_all (λ (l : List ℕ). damage_from c.loop-position.position l units) c.args.numbers.now c.loop-position.position (omega arith) ∙ no_more c.loop-position.position units
