use Rattle.std.proofs.Common.{List, Option, subst}
use Rattle.flt_pages.specs.declared.place.RecordPlace.{RecordPlace}
use Rattle.flt_pages.specs.RecordPlace.{IsPlaceOf}
use Rattle.flt_fee.proofs.Placed.{placed}
use Rattle.flt_fee.proofs.fee.Fee.place.Goals as goal

pub returns : goal.returns
returns g c =
    let self = c.args.self.now in
    placed self.is_stale self.has_mounted c.requires.not_stale self.at self.numbers (g.F.Flash.state self.flash) (g.met.F.Flash.shape self.flash) self.end self.least self.within self.distinct self.mounted self.places.items self.sized (self.table c.requires.not_stale)
    c.args.block c.place_of.result
    (subst (λ (places : List (Option RecordPlace)). IsPlaceOf self.numbers places c.args.block c.place_of.result) c.deref.ensures.value c.place_of.ensures)
