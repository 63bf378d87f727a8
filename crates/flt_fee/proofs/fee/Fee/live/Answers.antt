use Rattle.std.proofs.Common.{◌∙◌, ◌<◌, List, Option, ap, sym, subst}
use Rattle.std.specs.Prelude.{sum_by}
use Rattle.flt_pages.specs.declared.place.RecordPlace.{RecordPlace}
use Rattle.flt_pages.specs.RecordPlace.{pages_found}
use Rattle.flt_fee.proofs.Placed.{live_of_table, live_fits}
use Rattle.flt_fee.proofs.fee.Fee.live.Goals as goal

pub live_pages-requires-clause-most : goal.live_pages-requires-clause-most
live_pages-requires-clause-most g c =
    let self = c.args.self.now in
    subst (λ (places : List (Option RecordPlace)). sum_by pages_found places < 65536) (sym c.deref.ensures.value)
    (live_fits self.is_stale self.has_mounted c.requires self.at self.numbers (g.F.Flash.state self.flash) (g.met.F.Flash.shape self.flash) self.end self.least self.within self.distinct self.mounted self.places.items self.sized (self.table c.requires))

pub returns : goal.returns
returns g c =
    let self = c.args.self.now in
    c.live_pages.ensures ∙ ap (sum_by pages_found) c.deref.ensures.value
    ∙ live_of_table self.is_stale self.has_mounted c.requires self.at self.numbers (g.F.Flash.state self.flash) (g.met.F.Flash.shape self.flash) self.end self.least self.within self.distinct self.mounted self.places.items self.sized (self.table c.requires)
