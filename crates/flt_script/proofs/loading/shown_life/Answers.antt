use Rattle.std.proofs.Common.{◌∷◌, [], refl, arith, map}
use Rattle.std.specs.List.{range_with_len}
use Rattle.std.proofs.lemmas.List.{map-append}
use Rattle.std.proofs.lemmas.List.FromFn.{map-range_with_len_more}
use Rattle.flt_step.specs.declared.step.Part.TheVariants.{One}
use Rattle.flt_step.specs.declared.step.Step.TheVariants.{Show}
use Rattle.flt_step.specs.Part.{part_of}
use Rattle.flt_script.proofs.Loads.{plain_more}
use Rattle.flt_script.proofs.loading.shown_life.Goals as goal

pub loop-event-preserved : goal.loop-event-preserved
loop-event-preserved c =
    let event = c.loop-event.event in
    rw (
      c.in_ok-push.ensures.items,
      map-append part_of c.loop-event.life.items (One (Show event) ∷ []),
      c.loop-event.invariant,
      map-range_with_len_more Show 0 event event (omega arith),
      plain_more (map Show (range_with_len 0 event)) (Show event),
    ) refl
