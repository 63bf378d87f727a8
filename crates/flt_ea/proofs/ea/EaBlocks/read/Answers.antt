use Rattle.flt_flash.proofs.Recounted.{reads_recounted}
use Rattle.flt_ea.specs.Ea.{uncounted_of}
use Rattle.flt_ea.proofs.ea.EaBlocks.read.Goals as goal

pub returns-clause-reads : goal.returns-clause-reads
returns-clause-reads g c = reads_recounted _ _ _ _ (uncounted_of g.E.Eeprom.state c.args.self.now) (uncounted_of g.E.Eeprom.state c.get-answer.new.self) c.get-answer.ensures.reads
