use Rattle.std.proofs.Common.{◌∙◌, Some, ◌∷◌, sym, ap}
use Rattle.flt_model.specs.Response.{is_masked, is_prefailed, with_status, with_counter, positive}
use Rattle.flt_dem.specs.View.{manager_view}
use Rattle.flt_dcm.proofs.ListLemmas.{flat_map_of_filtered}
use Rattle.flt_dcm.proofs.response.put_positive.Goals as goal

pub returns-in-ByMask-clause-ok : goal.returns-in-ByMask-clause-ok
returns-in-ByMask-clause-ok c =
    let events = (manager_view c.args.dem.now).events in
    ap (positive (manager_view c.args.dem.now)) c.in-ByMask.is
    ∙ ap (λ xs. Some (0x59 ∷ 0x02 ∷ 0xFF ∷ xs)) (flat_map_of_filtered (is_masked c.in-ByMask.mask) with_status events)
    ∙ ap Some (sym c.put.ensures)

pub returns-in-Counters-clause-ok : goal.returns-in-Counters-clause-ok
returns-in-Counters-clause-ok c =
    let events = (manager_view c.args.dem.now).events in
    ap (positive (manager_view c.args.dem.now)) c.in-Counters.is
    ∙ ap (λ xs. Some (0x59 ∷ 0x14 ∷ xs)) (flat_map_of_filtered is_prefailed with_counter events)
    ∙ ap Some (sym c.put-in-Counters.ensures)
