use Rattle.std.proofs.Common.{length, length-set, set, Result, Ok, Err, refl, sym, ◌∙◌, ap, subst, arith}
use Rattle.flt_flash.specs.Image.{sector_at}
use Rattle.flt_flash.specs.declared.flash.FlashFailed.{FlashFailed}
use Rattle.flt_code.specs.Spoiled.{is_spoiled}
use Rattle.flt_pages.specs.LogHolds.{record_content}
use Rattle.flt_ea.specs.State.{unit_at}
use Rattle.flt_ea.specs.Image.{gate_unit}
use Rattle.flt_ea.specs.Scan.{IsTable}
use Rattle.flt_ea.specs.Written.{WritesRecord}
use Rattle.flt_ea.specs.declared.gate.Gate.{Gate}
use Rattle.flt_ea.proofs.GateBytes.{gate_of-gate_bytes}
use Rattle.flt_ea.proofs.Judging.{held_at}
use Rattle.flt_ea.proofs.Standing.{StandsAt, WritesNext, stands_at, is_gate, stuck_is, unspoiled, spent_changes, stored_sound, failed_calls, failed_changes, whole_now, done_calls, done_changes, table_now}
use Rattle.flt_ea.proofs.ea.Ea.store.Goals.{After-index-held, After-write_record}
use Rattle.flt_ea.proofs.ea.Ea.store.Goals as goal

stands : (g : _) (c : After-index-held g) → StandsAt (g.E.Eeprom.state c.args.self.now.device) c.args.self.now.numbers c.position-position.result c.args.block c.index-held.result.now
stands g c = stands_at c.args.self.now (g.met.E.Eeprom.shape c.args.self.now.device) c.requires.not_stale c.position-position.result c.args.block c.index-held.result.now c.position-position.ensures.within c.position-position.ensures.is c.index-held.ensures

abbrev new_gate : (g : _) (c : After-write_record g) → Gate
new_gate g c = record { block = c.args.block; length = length c.args.bytes.now; valid = c.args.valid; sequence = c.next_sequence.result }

puts : (g : _) (c : After-write_record g) (result : Result (Unit {0}) FlashFailed)
    → WritesRecord (g.E.Eeprom.state c.args.self.now.device) (g.E.Eeprom.state c.write_record.new.device) c.gate_unit.result (new_gate g c) c.args.bytes.now result
    → WritesNext (g.E.Eeprom.state c.args.self.now.device) (g.E.Eeprom.state c.write_record.new.device) c.position-position.result c.args.block c.index-held.result.now (new_gate g c) c.args.bytes.now result
puts g c result writes =
    let found = c.index-held.result.now in
    let unit = c.gate_unit.ensures ∙ ap (gate_unit c.position-position.result) c.next_place-place.ensures in
    record {
      left_over = sym c.is_last.ensures ∙ c.if-is_last.false;
      size = refl;
      number = refl;
      next = c.next_sequence.ensures;
      read = gate_of-gate_bytes (new_gate g c) (is_gate (new_gate g c) found (omega arith) c.requires.most (omega arith) c.next_sequence.ensures c.requires.length);
      writes = subst (λ n. WritesRecord (g.E.Eeprom.state c.args.self.now.device) (g.E.Eeprom.state c.write_record.new.device) n (new_gate g c) c.args.bytes.now result) unit writes;
    }

pub returns-then-is_last-clause-changes : goal.returns-then-is_last-clause-changes
returns-then-is_last-clause-changes g c =
    let self = c.args.self.now in
    spent_changes (stands g (goal.at.returns-then-is_last-clause-changes g c).After-index-held) (sym c.is_last.ensures ∙ c.if-is_last.true) (record_content c.args.valid c.args.bytes.now) (length c.args.bytes.now) self.is_stale self.has_mounted

pub returns-then-is_last-clause-answers : goal.returns-then-is_last-clause-answers
returns-then-is_last-clause-answers g c = stuck_is (stands g (goal.at.returns-then-is_last-clause-answers g c).After-index-held) ∙ sym c.is_last.ensures ∙ c.if-is_last.true

pub write_record-requires-clause-unspoiled : goal.write_record-requires-clause-unspoiled
write_record-requires-clause-unspoiled g c =
    let device = g.E.Eeprom.state c.args.self.now.device in
    ap (λ n. is_spoiled (unit_at device.image n)) (c.gate_unit.ensures ∙ ap (gate_unit c.position-position.result) c.next_place-place.ensures) ∙ unspoiled (stands g (goal.at.write_record-requires-clause-unspoiled g c).After-index-held)

pub invariant_of-self : goal.invariant_of-self
invariant_of-self g c =
    let self = c.args.self.now in
    let here = stands g (goal.at.invariant_of-self g c).After-index-held in
    let put = puts g (goal.at.invariant_of-self g c).After-write_record c.write_record.result c.write_record.ensures.writes in
    record {
      within = omega (arith, self.within, c.write_record.ensures.writes.on.runs.pages);
      size = self.size;
      distinct = self.distinct;
      mounted = record { mounted = λ fresh. absurd (cc fresh); undamaged = λ yes. stored_sound here put; places = λ fresh. absurd (cc fresh) };
    }

pub returns-in_err-write_record-clause-changes : goal.returns-in_err-write_record-clause-changes
returns-in_err-write_record-clause-changes g c =
    let self = c.args.self.now in
    let here = stands g (goal.at.returns-in_err-write_record-clause-changes g c).After-index-held in
    let put = puts g (goal.at.returns-in_err-write_record-clause-changes g c).After-write_record (Err c.in_err-write_record.field-0.0) c.in_err-write_record.ensures.writes in
    failed_changes here put self.is_stale self.has_mounted c.from_residual.result (grind arith)

pub returns-in_err-write_record-clause-calls : goal.returns-in_err-write_record-clause-calls
returns-in_err-write_record-clause-calls g c =
    let self = c.args.self.now in
    let here = stands g (goal.at.returns-in_err-write_record-clause-calls g c).After-index-held in
    let put = puts g (goal.at.returns-in_err-write_record-clause-calls g c).After-write_record (Err c.in_err-write_record.field-0.0) c.in_err-write_record.ensures.writes in
    failed_calls here put self.is_stale self.has_mounted put.writes.cause c.from_residual.result (grind arith)

pub invariant_of-self-2-clause-mounted : goal.invariant_of-self-2-clause-mounted
invariant_of-self-2-clause-mounted g c =
    let self = c.args.self.now in
    let here = stands g (goal.at.invariant_of-self-2-clause-mounted g c).After-index-held in
    let put = puts g (goal.at.invariant_of-self-2-clause-mounted g c).After-write_record (Ok tt) c.in_ok-write_record.ensures.writes in
    record {
      mounted = λ fresh. self.mounted.mounted c.requires.not_stale;
      undamaged = λ yes. stored_sound here put;
      places = λ fresh. subst (λ n. IsTable (length self.numbers) (sector_at (g.E.Eeprom.state c.write_record.new.device).image 0) (set self.table.items c.position-position.result (held_at n (new_gate g (goal.at.invariant_of-self-2-clause-mounted g c).After-write_record)))) (sym c.next_place-place.ensures)
          (table_now here put self.is_stale self.has_mounted (whole_now here put) self.table.items self.size (self.mounted.places c.requires.not_stale));
    }

pub returns-clause-changes : goal.returns-clause-changes
returns-clause-changes g c =
    let self = c.args.self.now in
    let here = stands g (goal.at.returns-clause-changes g c).After-index-held in
    let put = puts g (goal.at.returns-clause-changes g c).After-write_record (Ok tt) c.in_ok-write_record.ensures.writes in
    done_changes here put self.is_stale self.has_mounted (whole_now here put)

pub returns-clause-calls : goal.returns-clause-calls
returns-clause-calls g c =
    let self = c.args.self.now in
    let here = stands g (goal.at.returns-clause-calls g c).After-index-held in
    let put = puts g (goal.at.returns-clause-calls g c).After-write_record (Ok tt) c.in_ok-write_record.ensures.writes in
    done_calls here put self.is_stale self.has_mounted (whole_now here put)

pub returns-clause-answers : goal.returns-clause-answers
returns-clause-answers g c = stuck_is (stands g (goal.at.returns-clause-answers g c).After-index-held) ∙ sym c.is_last.ensures ∙ c.if-is_last.false

pub invariant_of-self-2-clause-size : goal.invariant_of-self-2-clause-size
invariant_of-self-2-clause-size g c =
    let self = c.args.self.now in
    length-set self.table.items c.position-position.result (held_at c.next_place-place.result (record { block = c.args.block; length = length c.args.bytes.now; valid = c.args.valid; sequence = c.next_sequence.result })) ∙ self.size
