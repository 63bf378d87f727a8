-- The answer to a call (this profile; responses as ISO 14229-1).
use Rattle.std.specs.Prelude.{ℕ, Bool, true, false, if◌then◌else◌, ◌==◌, List, [], ◌∷◌, map, Option, Some, None, option_map, unwrap_or}
use Rattle.flt_config.specs.declared.persist.Persist.{Persist}
use Rattle.flt_config.specs.declared.persist.EntryState.{EntryState}
use Rattle.flt_model.specs.Start.{Start, History, count, event_of}
use Rattle.flt_model.specs.Mark.{Trace}
use Rattle.flt_model.specs.Debounce.{debounced, detection_counter}
use Rattle.flt_model.specs.Happening.{Readiness, readiness, cause_of, happenings}
use Rattle.flt_model.specs.Session.{is_extended}
use Rattle.flt_model.specs.Entry.{has_entry, entry_of, overflow}
use Rattle.flt_model.specs.Trace.{trace}
use Rattle.flt_model.specs.Durable.{below, state_at, saved}
use Rattle.flt_model.specs.Response.{EventView, View, response}
use Rattle.flt_model.specs.declared.call.Op.{Op}
use Rattle.flt_model.specs.declared.call.Op.TheVariants as ops
use Rattle.flt_model.specs.declared.call.Shown.{Shown}
use Rattle.flt_model.specs.Reply.{Reply}
use Rattle.flt_model.specs.declared.call.ReplyOf.TheVariants as replies
use Rattle.flt_model.specs.declared.call.Cause.{Cause}

-- ---- what is seen of the events

-- The entry of an event, if it has one.
abbrev pub entry_where : Start → ℕ → Trace → Bool → Option EntryState
entry_where life event marks true = Some (entry_of life event marks)
entry_where life event marks false = None

-- What a tester may read of an event.
abbrev pub event_view : Start → History → Trace → ℕ → EventView
event_view life past marks event = record {
  dtc = (event_of life event).dtc;
  dids = (event_of life event).dids.items;
  state = state_at life marks event;
  entry = entry_where life event marks (has_entry life event marks);
  counter = detection_counter (event_of life event).debounce (debounced (event_of life event).debounce (happenings life event past));
}

-- The noted event that a sub-function reads.
abbrev pub noted_for : Persist → ℕ → Option ℕ
noted_for state sub =
    if sub == 0x0B then state.first_failed
    else if sub == 0x0C then state.first_confirmed
    else if sub == 0x0D then state.recent_failed
    else state.recent_confirmed

-- What a tester may read of all events.
abbrev pub view : Start → History → Trace → View
view life past marks = record {
  events = map (event_view life past marks) (below (count life));
  noted = noted_for (saved life marks);
}

-- What is shown of an event.
abbrev pub shown : EventView → Bool → Shown
shown event overflow = record {
  status = event.state.status;
  fdc = event.counter;
  failed = event.state.failed;
  clean = event.state.clean;
  stored = unwrap_or (option_map (λ entry. entry.occurrence) event.entry) 0;
  overflow = overflow;
}

-- ---- the answer

-- A report is ignored for a cause, or else taken.
abbrev pub report_reply : Option Cause → Reply
report_reply None = replies.Taken
report_reply (Some cause) = replies.Ignored cause

-- The answer to a report, by what is seen of its event before it.
abbrev pub answer_report : Readiness → Reply
answer_report seen = report_reply (cause_of seen)

-- The answer to a call, given what the life began with and the calls before it.
abbrev pub answer : Start → History → Op → Reply
answer life past (ops.Report event report) = answer_report (readiness life event past)
answer life past (ops.Show event) = replies.Shown (shown (event_view life past (trace life past) event) (overflow life (trace life past)))
answer life past (ops.Request tester bytes) = response (view life past (trace life past)) (is_extended tester past) bytes.items
answer life past _ = replies.Taken

-- The answers to calls in their order, each given those before it.
abbrev pub answers : Start → History → List Op → List Reply
answers life past [] = []
answers life past (op ∷ calls) = answer life past op ∷ answers life (op ∷ past) calls
