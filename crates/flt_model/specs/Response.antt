-- The response to a tester's request (ISO 14229-1, services 0x10, 0x14, 0x19, 0x3E and 0x85, in this profile).
use Rattle.std.specs.Prelude.{ℕ, ◌/◌, ◌%◌, min, bit_and, ℤ, pos, int_lt, nat_abs, ◌==◌, Bool, true, false, not, ◌&&◌, ◌||◌, if◌then◌else◌, List, [], ◌∷◌, ◌++◌, filter, find, flat_map, length, take, drop, Option, Some, None, is_some, option_map, Result, Ok, Err}
use Rattle.flt_config.specs.declared.config.DidUse.{DidUse}
use Rattle.flt_config.specs.declared.persist.EventState.{EventState}
use Rattle.flt_config.specs.declared.persist.EntryState.{EntryState}
use Rattle.flt_model.specs.Happening.{all_dtcs}
use Rattle.flt_model.specs.Request.{asked}
use Rattle.flt_model.specs.NegativeCode.{request_out_of_range}
use Rattle.flt_model.specs.declared.request.Request.{Request}
use Rattle.flt_model.specs.declared.request.Request.TheVariants.{Session, Present, Clear, Setting, Count, ByMask, Snapshots, Snapshot, Extended, Supported, Noted, Counters}
use Rattle.flt_model.specs.declared.request.Asked.{Asked}
use Rattle.flt_model.specs.declared.request.Negative.{Negative}
use Rattle.flt_model.specs.Reply.{Reply}
use Rattle.flt_model.specs.declared.call.ReplyOf.TheVariants.{Response, Silent}

-- What a tester may read of an event.
pub record EventView : Type 0 where
  pub dtc : ℕ
  pub dids : List DidUse
  pub state : EventState
  pub entry : Option EntryState
  -- The fault detection counter.
  pub counter : ℤ

-- The events in order of number, and which of them are noted.
pub record View : Type 0 where
  pub events : List EventView
  -- By the sub-function that reads it.
  pub noted : ℕ → Option ℕ

-- ---- bytes

-- A DTC in three bytes, big-endian.
abbrev pub dtc_bytes : ℕ → List ℕ
dtc_bytes dtc = (dtc / 65536) ∷ (dtc / 256 % 256) ∷ (dtc % 256) ∷ []

-- A DTC and its status byte.
abbrev pub with_status : EventView → List ℕ
with_status event = dtc_bytes event.dtc ++ event.state.status ∷ []

-- The sub-function of a session.
abbrev pub sub_of_session : Bool → ℕ
sub_of_session true = 0x03
sub_of_session false = 0x01

-- The sub-function of a setting.
abbrev pub sub_of_setting : Bool → ℕ
sub_of_setting true = 0x01
sub_of_setting false = 0x02

-- ---- lists of DTCs

-- The status meets the mask: they have a bit in common.
abbrev pub is_masked : ℕ → EventView → Bool
is_masked mask event = not (bit_and event.state.status mask == 0)

-- The number of events that the mask selects, in two bytes.
abbrev pub count_bytes : ℕ → List ℕ
count_bytes n = (n / 256) ∷ (n % 256) ∷ []

-- The DTC with each of its two snapshot records, if it has an entry.
abbrev pub records_of : EventView → List ℕ
records_of event =
    if is_some event.entry then (dtc_bytes event.dtc ++ 0x01 ∷ []) ++ (dtc_bytes event.dtc ++ 0x02 ∷ []) else []

-- The counter is on its way to failed.
abbrev pub is_prefailed : EventView → Bool
is_prefailed event = int_lt (pos 0) event.counter && int_lt event.counter (pos 127)

-- A DTC and its fault detection counter, which is above 0.
abbrev pub with_counter : EventView → List ℕ
with_counter event = dtc_bytes event.dtc ++ nat_abs event.counter ∷ []

-- A noted DTC and its current status byte, if one is noted.
abbrev pub noted_bytes : List EventView → Option ℕ → List ℕ
noted_bytes events None = []
noted_bytes events (Some event) = flat_map with_status (take 1 (drop event events))

-- ---- one DTC

-- The event has this DTC.
abbrev pub is_of_dtc : ℕ → EventView → Bool
is_of_dtc dtc event = event.dtc == dtc

-- The identifiers and values that a frame holds.
abbrev pub identified_values : List DidUse → List ℕ → List ℕ
identified_values [] frame = []
identified_values (did ∷ dids) frame =
    ((did.id / 256) ∷ (did.id % 256) ∷ take did.width frame) ++ identified_values dids (drop did.width frame)

-- A record number asks for this record.
abbrev pub selects : ℕ → ℕ → Bool
selects number record_number = (number == record_number) || (number == 0xFF)

-- The bytes of a requested record.
abbrev pub where_selected : ℕ → ℕ → List ℕ → List ℕ
where_selected number record_number bytes = if selects number record_number then bytes else []

-- A snapshot record: its number, the number of its identifiers, and each of these with its value.
abbrev pub snapshot : List DidUse → ℕ → List ℕ → List ℕ
snapshot dids number frame = (number ∷ length dids ∷ []) ++ identified_values dids frame

-- The requested snapshot records, the first and the most recent.
abbrev pub snapshots : List DidUse → ℕ → Option EntryState → List ℕ
snapshots dids number None = []
snapshots dids number (Some entry) =
    where_selected number 0x01 (snapshot dids 0x01 entry.first.items)
    ++ where_selected number 0x02 (snapshot dids 0x02 entry.recent.items)

-- The requested extended data records, the occurrences and the clean cycles.
abbrev pub extended_data : EventState → ℕ → Option EntryState → List ℕ
extended_data state number None = []
extended_data state number (Some entry) =
    where_selected number 0x01 (0x01 ∷ entry.occurrence ∷ [])
    ++ where_selected number 0x02 (0x02 ∷ min state.clean 255 ∷ [])

-- ---- the positive response, if there is no negative one

-- What is reported about the event of a DTC, if there is one.
abbrev pub of_known : ℕ → List EventView → (EventView → List ℕ) → Option (List ℕ)
of_known dtc events bytes = option_map bytes (find (is_of_dtc dtc) events)

-- The positive response to each request, or none if its DTC is unknown.
abbrev pub positive : View → Request → Option (List ℕ)
positive view (Session extended) = Some (0x50 ∷ sub_of_session extended ∷ 0x00 ∷ 0x32 ∷ 0x01 ∷ 0xF4 ∷ [])
positive view Present = Some (0x7E ∷ 0x00 ∷ [])
positive view (Clear dtc) =
    if (dtc == all_dtcs) || is_some (find (is_of_dtc dtc) view.events) then Some (0x54 ∷ []) else None
positive view (Setting on) = Some (0xC5 ∷ sub_of_setting on ∷ [])
positive view (Count mask) = Some ((0x59 ∷ 0x01 ∷ 0xFF ∷ 0x01 ∷ []) ++ count_bytes (length (filter (is_masked mask) view.events)))
positive view (ByMask mask) = Some ((0x59 ∷ 0x02 ∷ 0xFF ∷ []) ++ flat_map with_status (filter (is_masked mask) view.events))
positive view Snapshots = Some ((0x59 ∷ 0x03 ∷ []) ++ flat_map records_of view.events)
positive view (Snapshot dtc number) =
    of_known dtc view.events (λ event. (0x59 ∷ 0x04 ∷ []) ++ with_status event ++ snapshots event.dids number event.entry)
positive view (Extended dtc number) =
    of_known dtc view.events (λ event. (0x59 ∷ 0x06 ∷ []) ++ with_status event ++ extended_data event.state number event.entry)
positive view Supported = Some ((0x59 ∷ 0x0A ∷ 0xFF ∷ []) ++ flat_map with_status view.events)
positive view (Noted sub) = Some ((0x59 ∷ sub ∷ 0xFF ∷ []) ++ noted_bytes view.events (view.noted sub))
positive view Counters = Some ((0x59 ∷ 0x14 ∷ []) ++ flat_map with_counter (filter is_prefailed view.events))

-- ---- the response

-- The reply of these bytes.
abbrev pub reply_of : List ℕ → Reply
reply_of bytes = Response (record { items = bytes })

-- The negative response of a service with a code.
abbrev pub negative : ℕ → ℕ → Reply
negative service code = reply_of (0x7F ∷ service ∷ code ∷ [])

-- The service that bytes ask for.
abbrev pub service_of : List ℕ → ℕ
service_of [] = 0
service_of (service ∷ rest) = service

-- A positive response, if it is not suppressed.
abbrev pub unless_silent : Bool → List ℕ → Reply
unless_silent true bytes = Silent
unless_silent false bytes = reply_of bytes

-- The positive response, or requestOutOfRange.
abbrev pub responded : ℕ → Bool → Option (List ℕ) → Reply
responded service silent None = negative service request_out_of_range
responded service silent (Some bytes) = unless_silent silent bytes

-- The response to a request that was read.
abbrev pub response_to : View → ℕ → Result Asked Negative → Reply
response_to view service (Err refused) = negative refused.service refused.code
response_to view service (Ok request) = responded service request.silent (positive view request.request)

-- The response to these bytes, in a session and a view of the events.
abbrev pub response : View → Bool → List ℕ → Reply
response view extended bytes = response_to view (service_of bytes) (asked extended bytes)
