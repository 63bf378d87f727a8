use Rattle.std.proofs.Common.{◌∙◌, sym, ap, rules, tests, length}
use Rattle.std.specs.Prelude.{nat_lt}
use Rattle.std.proofs.lemmas.Iterator.{YieldsList-from_slice}
use Rattle.std.proofs.lemmas.Iterator.Search.{any_from_yields_List}
use Rattle.flt_dump.specs.Dump.{has_step}
use Rattle.flt_step.specs.Part.{part_of}
use Rattle.flt_dump.proofs.Steps.{any_mapped}
use Rattle.flt_dump.proofs.reading.has_step.Goals as goal

pub returns-in-Lanes : goal.returns-in-Lanes
returns-in-Lanes c =
    any_from_yields_List (λ lane. nat_lt 0 (length lane.items)) _ _ _ c.any.ensures.ran (YieldsList-from_slice c.in-Lanes.lanes.items cc) (λ x b q k. search (rules, tests))
    ∙ sym (any_mapped (λ lane. lane.items) (λ lane. nat_lt 0 (length lane)) c.in-Lanes.lanes.items)
    ∙ sym (ap (λ part. has_step (part_of part)) c.in-Lanes.is)
