use Rattle.std.proofs.Common.{arith}
use Rattle.flt_fee.specs.Fee.{uncounted_of}
use Rattle.flt_fee.proofs.Counted.{even_counted}
use Rattle.flt_flash.proofs.Recounted.{calls_recounted}
use Rattle.flt_fee.proofs.fee.FeeBlocks.mount.Goals as goal

pub returns-clause-even : goal.returns-clause-even
returns-clause-even g c = even_counted g.F.Flash.state c.args.self.now c.look.new.self c.look.result c.look.ensures.mounts.part.calls c.look.ensures.even

pub returns-clause-calls : goal.returns-clause-calls
returns-clause-calls g c = calls_recounted _ _ _ _ (uncounted_of g.F.Flash.state c.args.self.now) (uncounted_of g.F.Flash.state c.look.new.self) c.look.ensures.mounts.part.calls

pub returns-clause-costs : goal.returns-clause-costs
returns-clause-costs g c = omega (arith, c.look.ensures.operations, c.args.self.now.least)
