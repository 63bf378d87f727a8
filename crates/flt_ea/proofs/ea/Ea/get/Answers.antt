use Rattle.std.proofs.Common.{rules}
use Rattle.flt_flash.proofs.CallsInARow.{calls_after}
use Rattle.flt_ea.specs.Ea.{uncounted_of}
use Rattle.flt_ea.proofs.ea.Ea.get.Goals as goal

pub returns-clause-reads : goal.returns-clause-reads
returns-clause-reads g c = record {
  values = search rules;
  calls = calls_after (uncounted_of g.E.Eeprom.state c.args.self.now) (uncounted_of g.E.Eeprom.state c.settle.new.self) (uncounted_of g.E.Eeprom.state c.find.new.self) c.find.result
      c.in_ok-settle.ensures.calls.keeps_driver c.find.ensures.calls;
  never_full = c.find.ensures.never_full;
  spent = search rules;
  settled = search rules;
  stale = search rules;
  image = search rules;
}
