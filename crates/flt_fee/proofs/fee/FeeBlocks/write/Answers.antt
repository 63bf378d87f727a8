use Rattle.flt_fee.specs.Fee.{uncounted_of}
use Rattle.flt_fee.proofs.Counted.{even_counted, stored_counted}
use Rattle.flt_flash.proofs.Recounted.{calls_recounted, changes_recounted, costs_recounted}
use Rattle.flt_fee.proofs.fee.FeeBlocks.write.Goals as goal

pub returns-clause-calls : goal.returns-clause-calls
returns-clause-calls g c = calls_recounted _ _ _ _ (uncounted_of g.F.Flash.state c.args.self.now) (uncounted_of g.F.Flash.state c.put-answer.new.self) c.put-answer.ensures.part.calls

pub returns-clause-changes : goal.returns-clause-changes
returns-clause-changes g c = changes_recounted _ _ _ _ (uncounted_of g.F.Flash.state c.args.self.now) (uncounted_of g.F.Flash.state c.put-answer.new.self) c.put-answer.ensures.changes

pub returns-clause-sectors : goal.returns-clause-sectors
returns-clause-sectors g c = record {
  stored = stored_counted _ _ _ _ c.put-answer.ensures.stored;
  costs = costs_recounted _ _ _ _ (uncounted_of g.F.Flash.state c.args.self.now) (uncounted_of g.F.Flash.state c.put-answer.new.self) c.put-answer.ensures.costs;
  even = even_counted g.F.Flash.state c.args.self.now c.put-answer.new.self c.put-answer.result c.put-answer.ensures.part.calls c.put-answer.ensures.even;
}
