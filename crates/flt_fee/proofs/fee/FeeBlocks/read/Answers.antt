use Rattle.flt_fee.specs.Fee.{uncounted_of}
use Rattle.flt_fee.proofs.Counted.{even_counted}
use Rattle.flt_flash.proofs.Recounted.{reads_recounted}
use Rattle.flt_fee.proofs.fee.FeeBlocks.read.Goals as goal

pub returns-clause-even : goal.returns-clause-even
returns-clause-even g c = even_counted g.F.Flash.state c.args.self.now c.get-answer.new.self c.get-answer.result c.get-answer.ensures.reads.calls c.get-answer.ensures.even

pub returns-clause-reads : goal.returns-clause-reads
returns-clause-reads g c = reads_recounted _ _ _ _ (uncounted_of g.F.Flash.state c.args.self.now) (uncounted_of g.F.Flash.state c.get-answer.new.self) c.get-answer.ensures.reads
