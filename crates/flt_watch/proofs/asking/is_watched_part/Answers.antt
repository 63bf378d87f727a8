use Rattle.std.proofs.Common.{List, ap, sym, ◌∙◌}
use Rattle.std.specs.Prelude.{Vec}
use Rattle.std.specs.List.{list_all}
use Rattle.flt_step.specs.declared.step.Step.{Step}
use Rattle.flt_step.specs.Part.{part_of}
use Rattle.flt_watch.specs.Asked.{is_watched, is_watched_part}
use Rattle.flt_watch.proofs.Watchable.{lanes_watched}
use Rattle.flt_watch.proofs.asking.is_watched_part.Goals as goal

pub returns-in-Lanes : goal.returns-in-Lanes
returns-in-Lanes c =
    c.are_watched_lanes.ensures ∙ ap (λ (lanes : List (Vec Step _)). list_all (λ (lane : Vec Step _). list_all is_watched lane.items) lanes) c.deref.ensures.value
    ∙ lanes_watched c.in-Lanes.lanes.items ∙ sym (ap (λ part. is_watched_part (part_of part)) c.in-Lanes.is)
