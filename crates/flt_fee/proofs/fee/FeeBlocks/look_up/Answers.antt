use Rattle.flt_fee.proofs.Placed.{valid_found}
use Rattle.flt_fee.proofs.fee.FeeBlocks.look_up.Goals as goal

pub returns-in-Some : goal.returns-in-Some
returns-in-Some g c =
    let self = c.args.self.now in
    valid_found self.at self.numbers (g.F.Flash.state self.flash) (g.met.F.Flash.shape self.flash) self.within c.args.block c.in-Some.place c.if-place.true c.in-Some.ensures
