-- What a part that fits is short enough for.
use Rattle.std.proofs.Common.{◌≡◌, ℕ, ◌+◌, ◌<◌, ◌≤◌, true, List, length, sym, ◌∙◌, arith, inl, inr}
use Rattle.std.specs.Prelude.{slice_index_or, Option, Some, None, IfSome}
use Rattle.std.proofs.lemmas.Option.{slice_get_cases}
use Rattle.flt_config.specs.declared.TheConstants.{EVENTS}
use Rattle.flt_config.specs.declared.config.Config.{Config}
use Rattle.flt_config.specs.declared.config.EventCfg.{EventCfg}
use Rattle.flt_config.specs.declared.persist.Persist.{Persist}
use Rattle.flt_config.specs.declared.persist.EventState.{EventState}
use Rattle.flt_config.specs.declared.persist.EntryState.{EntryState}
use Rattle.flt_config.specs.Durable.{IsEntryOf, IsNoted, start_state}
use Rattle.flt_config.specs.Ranges.{frame_width}
use Rattle.flt_store_model.specs.Fit.{summary_fits, states_fit}
use Rattle.flt_store_model.proofs.Fitting.{noted_by_test}
use Rattle.flt_store_model.proofs.Parts.{state_passes}
use Rattle.flt_store_model.proofs.Decoding.{HasShortSummary}
use Rattle.flt_store_model.proofs.Sofar.{notes_of, room_of}

-- What the calls on a configuration keep of its sizes.
pub record HasSizes (c : Config) : Type 0 where
  pub memory : c.memory ≤ 16
  pub events : length c.events.items ≤ EVENTS
  pub frames : (k : ℕ) (event : EventCfg) → k < length c.events.items → frame_width (slice_index_or c.events.items k event).dids.items ≤ 32

-- A noted event is within two bytes.
pub noted_short_of : (c : Config) → HasSizes c → (note : Option ℕ) → IsNoted c.events.items note → IfSome note (λ event. event < 65535)
noted_short_of c sizes None is = tt
noted_short_of c sizes (Some event) is = omega (arith, is, sizes.events)

-- The frames of an entry of a configured event are of one length, and within 32 bytes.
pub entry_sizes : (c : Config) → HasSizes c → (entry : EntryState) → IsEntryOf c.events.items entry → (length entry.first.items ≤ 32) × (length entry.recent.items ≡ length entry.first.items)
entry_sizes c sizes entry is = elim (slice_get_cases c.events.items entry.event).1 [
  | inl found ↦ (omega (arith, is.first found.0, sizes.frames entry.event found.0 found.1), is.recent found.0 ∙ sym (is.first found.0))
  | inr past ↦ absurd (omega (arith, is.event, past.0))
]

-- A summary that fits has short numbers.
pub short_summary : (c : Config) → HasSizes c → (p : Persist) → summary_fits c p ≡ true → HasShortSummary p
short_summary c sizes p fits =
    let notes = notes_of c p fits in
    record {
      entries = omega (arith, room_of c p fits, sizes.memory);
      first_failed = noted_short_of c sizes p.first_failed (noted_by_test c.events.items p.first_failed notes.0);
      first_confirmed = noted_short_of c sizes p.first_confirmed (noted_by_test c.events.items p.first_confirmed notes.1);
      recent_failed = noted_short_of c sizes p.recent_failed (noted_by_test c.events.items p.recent_failed notes.2);
      recent_confirmed = noted_short_of c sizes p.recent_confirmed (noted_by_test c.events.items p.recent_confirmed notes.3);
    }

-- The clean counts of a block of states that fits are within fifteen bits.
pub clean_short : (c : Config) (states : List EventState) (first : ℕ) → states_fit c.events.items states first 16 ≡ true → (place : ℕ) → place < 16 → first + place < length c.events.items
    → (slice_index_or states (first + place) start_state).clean < 0x8000
clean_short c states first fits place below within = elim (slice_get_cases c.events.items (first + place)).1 [
  | inl found ↦ omega (arith, (state_passes c.events.items states first 16 fits place below found.0 within).clean)
  | inr past ↦ absurd (omega (arith, within, past.0))
]
