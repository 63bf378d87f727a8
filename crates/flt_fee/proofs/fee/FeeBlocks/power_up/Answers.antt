use Rattle.std.proofs.Common.{ap, true}
use Rattle.flt_flash.specs.Blocks.{recounted}
use Rattle.flt_flash.specs.State.{FlashState}
use Rattle.flt_fee.specs.Fee.{state_by}
use Rattle.flt_fee.proofs.fee.FeeBlocks.power_up.Goals as goal

pub returns : goal.returns
returns g c = record {
  bench = c.power_up.ensures.bench;
  rest = ap (λ (flash : FlashState). recounted c.args.self.now.tally.calls c.args.self.now.tally.last_failed (state_by c.args.self.now.at.used c.args.self.now.numbers true c.args.self.now.has_mounted flash)) c.power_up.ensures.rest;
}
