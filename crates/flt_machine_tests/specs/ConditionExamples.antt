-- Worked examples of enable conditions.
use Rattle.std.specs.Prelude.{◌≡◌, ◌++◌, ◌+◌, ◌%◌, ◌^◌, map, flat_map, true, false, [], ◌∷◌, pos}
use Rattle.flt_model.specs.Start.{Start, History, fresh}
use Rattle.flt_model.specs.Durable.{below}
use Rattle.flt_model.specs.Debounce.{Ended}
use Rattle.flt_model.specs.EnableLaws.{IsDisabledThrough}
use Rattle.flt_model.specs.Happening.{happenings}
use Rattle.flt_model.specs.declared.call.Op.TheVariants.{Cycle, Enable, Report, Show, Tick}
use Rattle.flt_model.specs.declared.call.Report.TheVariants.{Failed}
use Rattle.flt_model.specs.declared.call.ReplyOf.TheVariants.{Taken, Ignored}
use Rattle.flt_model.specs.declared.call.Cause.TheVariants.{NotEnabled}
use Rattle.flt_model.specs.Example.{event, configured, ◌⇒◌, Replays, fail, pass, asks, responds, shows}

-- Each of the eight conditions counts, and for the events alone that need it.
abbrev pub EachConditionCounts : Type 0
EachConditionCounts =
    Replays (fresh (configured 16 (map (λ c. record (event (c + 1)) { needs = 2 ^ c }) (below 8))))
    (Cycle 0 ⇒ Taken
    ∷ flat_map (λ c. Enable c false ⇒ Taken ∷ pass c ⇒ Ignored NotEnabled ∷ pass ((c + 1) % 8) ⇒ Taken ∷ Enable c true ⇒ Taken ∷ pass c ⇒ Taken ∷ []) (below 8))

-- Operation cycles and clears reach a disabled event.
abbrev pub DisabledEventIsEndedAndCleared : Type 0
DisabledEventIsEndedAndCleared =
    Replays (fresh (configured 16 (record (event 0x000001) { needs = 4 } ∷ [])))
    (Cycle 0 ⇒ Taken
    ∷ fail 0 ⇒ Taken
    ∷ Enable 2 false ⇒ Taken
    ∷ Cycle 0 ⇒ Taken
    ∷ Show 0 ⇒ shows 0x6D (pos 0) 1 0 1 false
    ∷ asks 0 (0x14 ∷ 0x00 ∷ 0x00 ∷ 0x01 ∷ []) ⇒ responds (0x54 ∷ [])
    ∷ Show 0 ⇒ shows 0x50 (pos 0) 0 0 0 false
    ∷ [])

-- An event that needs condition 2, and its cycle.
abbrev pub needing : Start
needing = fresh (configured 16 (record (event 0x000001) { needs = 4 } ∷ []))

abbrev pub begun : History
begun = Cycle 0 ∷ []

-- Calls while it is disabled, newest first: a `show` is between a report and ticks.
abbrev pub while_disabled : History
while_disabled = Tick 3 ∷ Show 0 ∷ Report 0 Failed ∷ Enable 2 false ∷ []

-- Such calls do not add to what happened to the event. A cycle of its own does, and so the law does not speak of it.
pub record CallsOnADisabledEvent : Type 0 where
  pub through : IsDisabledThrough needing 0 begun while_disabled
  pub same : happenings needing 0 (while_disabled ++ begun) ≡ Ended ∷ []
  pub own_cycle : ¬ IsDisabledThrough needing 0 begun (Cycle 0 ∷ while_disabled)
  pub other_cycle : IsDisabledThrough needing 0 begun (Cycle 1 ∷ while_disabled)
