use Rattle.std.proofs.Common.{◌+◌, ◌≤◌, length, subst}
use Rattle.std.specs.Prelude.{IsErrOf}
use Rattle.flt_flash.specs.Blocks.{record_pages}
use Rattle.flt_flash.specs.declared.blocks.BlockFault.TheVariants.{Flash}
use Rattle.flt_flash.proofs.CallsInARow.{calls_after}
use Rattle.flt_ea.specs.Driver.{state_by}
use Rattle.flt_ea.specs.declared.ea.Ea.{Ea}
use Rattle.flt_ea.proofs.Costing.{put_costs}
use Rattle.flt_ea.proofs.ea.Ea.put.Goals as goal

pub returns-clause-costs : goal.returns-clause-costs
returns-clause-costs g c =
    let old = c.args.self.now in
    let middle = c.settle.new.self in
    let new = c.store.new.self in
    let before = g.E.Eeprom.state old.device in
    let between = g.E.Eeprom.state middle.device in
    let after = g.E.Eeprom.state new.device in
    put_costs old.numbers new.numbers before after old.is_stale old.has_mounted new.is_stale new.has_mounted c.store.result
    (calls_after (state_by old.numbers old.is_stale old.has_mounted before) (state_by middle.numbers middle.is_stale middle.has_mounted between) (state_by new.numbers new.is_stale new.has_mounted after) c.store.result
    c.in_ok-settle.ensures.calls.keeps_driver c.store.ensures.calls)
    (length c.args.bytes.now)
    (λ fresh. subst (λ (ea : Ea g.row.E.Denot g.E.Eeprom). (IsErrOf c.store.result Flash → ⊥) → after.operations ≤ (g.E.Eeprom.state ea.device).operations + record_pages (length c.args.bytes.now))
    (c.in_ok-settle.ensures.nothing fresh).1 c.store.ensures.spends)
