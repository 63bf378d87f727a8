-- A call of which each event takes its part, in order of number.
use Rattle.std.specs.Prelude.{◌≡◌, ℕ, nat_lt, Bool, true, false, Some, if◌then◌else◌, List, ◌∷◌}
use Rattle.flt_model.specs.Start.{Start, History}
use Rattle.flt_model.specs.Mark.{Trace}
use Rattle.flt_model.specs.Debounce.{Happenings}
use Rattle.flt_model.specs.Happening.{happening_of, happenings, signals, conditions, counts_report, cleared_dtc, all_dtcs, reaches}
use Rattle.flt_model.specs.Session.{is_setting_off}
use Rattle.flt_model.specs.Request.{RequestBytes}
use Rattle.flt_model.specs.Trace.{trace, in_order, event_part}
use Rattle.flt_model.specs.declared.call.Op.{Op}
use Rattle.flt_model.specs.declared.call.Op.TheVariants as ops
use Rattle.flt_model.specs.declared.call.Report.{Report}
use Rattle.flt_memory.specs.Memory.{Memory}
use Rattle.flt_dem.specs.DurablePart.{without_entry}
use Rattle.flt_dem.specs.Standing.{DurablePartStands}
use Rattle.flt_dem.specs.Debounces.{DebouncesStand, and_happening}
use Rattle.flt_dem.specs.Events.{EventsView, holding}

-- Events with these happenings, and these marks of all.
pub record StandsWith (life : Start) (items : ℕ → Happenings) (marks : Trace) (events : EventsView) : Type 0 where
  pub debounces_stand : DebouncesStand life items events.debounces
  pub durable_stands : DurablePartStands life marks events.durable

-- What the calls so far make of them.
abbrev pub StandsAfter : Start → History → EventsView → Type 0
StandsAfter life past events = StandsWith life (λ event. happenings life event past) (trace life past) events

-- The events below a number have taken their parts of a call, and the others have not.
module _ (life : Start) (past : History) (op : Op) (done : ℕ) where
  abbrev pub items_partly : ℕ → Happenings
  items_partly event = if nat_lt event done then happenings life event (op ∷ past) else happenings life event past

  abbrev pub marks_partly : Trace
  marks_partly = in_order (event_part life past op) done (trace life past)

  abbrev pub StandsPartly : EventsView → Type 0
  StandsPartly events = StandsWith life items_partly marks_partly events

-- One event takes its part of a call, whatever the events before it made of theirs.
abbrev pub TakesPart : Start → History → Op → ℕ → EventsView → EventsView → Type 0
TakesPart life past op event old new =
    (items : ℕ → Happenings) (marks : Trace) → items event ≡ happenings life event past → StandsWith life items marks old →
    StandsWith life (and_happening event (happening_of life event past op) items) (event_part life past op event marks) new

-- ---- What each kind of call makes of the events, in words for contracts.

-- A report that counts is taken at these signals.
abbrev pub TakeReport : ℕ → Report → List ℕ → EventsView → EventsView → Type 0
TakeReport event report values old new =
    (life : Start) (past : History) → counts_report life event past ≡ true → values ≡ signals past →
    StandsAfter life past old → StandsAfter life (ops.Report event report ∷ past) new

-- Ticks go by at these signals and enable conditions, with the setting on: for one event, and for all.
module _ (ticks : ℕ) (values : List ℕ) (fulfilled : List Bool) where
  abbrev pub TakesPartOfTicks : ℕ → EventsView → EventsView → Type 0
  TakesPartOfTicks event old new =
      (life : Start) (past : History) → is_setting_off past ≡ false → values ≡ signals past → fulfilled ≡ conditions past →
      TakesPart life past (ops.Tick ticks) event old new

  abbrev pub TakeTicks : EventsView → EventsView → Type 0
  TakeTicks old new =
      (life : Start) (past : History) → is_setting_off past ≡ false → values ≡ signals past → fulfilled ≡ conditions past →
      StandsAfter life past old → StandsAfter life (ops.Tick ticks ∷ past) new

-- An operation cycle ends: for one event, and for all.
abbrev pub TakesPartOfCycle : ℕ → ℕ → EventsView → EventsView → Type 0
TakesPartOfCycle cycle event old new = (life : Start) (past : History) → TakesPart life past (ops.Cycle cycle) event old new

abbrev pub TakeCycle : ℕ → EventsView → EventsView → Type 0
TakeCycle cycle old new = (life : Start) (past : History) → StandsAfter life past old → StandsAfter life (ops.Cycle cycle ∷ past) new

-- A tester's request clears a DTC that reaches the event: its part.
abbrev pub TakesPartOfClear : ℕ → EventsView → EventsView → Type 0
TakesPartOfClear event old new =
    (life : Start) (past : History) (tester dtc : ℕ) (bytes : RequestBytes) → cleared_dtc (ops.Request tester bytes) ≡ Some dtc →
    reaches life event dtc ≡ true → TakesPart life past (ops.Request tester bytes) event old new

-- It takes that part whatever entries are held, and gives up its own.
abbrev pub TakesPartOfAnyClear : ℕ → EventsView → EventsView → Type 0
TakesPartOfAnyClear event old new = (held : Memory) → TakesPartOfClear event (holding held old) (holding (without_entry event held) new)

-- A tester's request clears all.
abbrev pub TakeClearOfAll : EventsView → EventsView → Type 0
TakeClearOfAll old new =
    (life : Start) (past : History) (tester : ℕ) (bytes : RequestBytes) → cleared_dtc (ops.Request tester bytes) ≡ Some all_dtcs →
    StandsAfter life past old → StandsAfter life (ops.Request tester bytes ∷ past) new
