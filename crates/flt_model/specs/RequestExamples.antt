-- Worked examples of requests and sessions.
use Rattle.std.specs.Prelude.{true, false, [], ◌∷◌, pos}
use Rattle.flt_model.specs.Start.{fresh}
use Rattle.flt_model.specs.declared.call.Op.TheVariants.{Tick, Cycle, Show}
use Rattle.flt_model.specs.Reply.{Reply}
use Rattle.flt_model.specs.declared.call.ReplyOf.TheVariants.{Taken, Ignored, Silent}
use Rattle.flt_model.specs.declared.call.Cause.TheVariants.{SettingOff}
use Rattle.flt_model.specs.Example.{event, configured, ◌⇒◌, Replays, fail, pass, asks, responds, shows, extended, default_session}

-- A clear of an unknown DTC, one of wrong length, and one of all.
abbrev pub ClearRequests : Type 0
ClearRequests =
    Replays (fresh (configured 16 (event 0x123456 ∷ [])))
    (Cycle 0 ⇒ Taken
    ∷ fail 0 ⇒ Taken
    ∷ asks 0 (0x14 ∷ 0x12 ∷ 0x34 ∷ 0x57 ∷ []) ⇒ responds (0x7F ∷ 0x14 ∷ 0x31 ∷ [])
    ∷ asks 0 (0x14 ∷ 0xFF ∷ 0xFF ∷ []) ⇒ responds (0x7F ∷ 0x14 ∷ 0x13 ∷ [])
    ∷ asks 0 (0x14 ∷ 0xFF ∷ 0xFF ∷ 0xFF ∷ []) ⇒ responds (0x54 ∷ [])
    ∷ Show 0 ⇒ shows 0x50 (pos 0) 0 0 0 false
    ∷ [])

-- The extended session switches the setting off, and ends by silence.
abbrev pub SettingOffUntilSilence : Type 0
SettingOffUntilSilence =
    Replays (fresh (configured 16 (event 0x000001 ∷ [])))
    (Cycle 0 ⇒ Taken
    ∷ asks 0 (0x85 ∷ 0x02 ∷ []) ⇒ responds (0x7F ∷ 0x85 ∷ 0x7F ∷ [])
    ∷ asks 0 (0x10 ∷ 0x03 ∷ []) ⇒ extended
    ∷ asks 0 (0x85 ∷ 0x02 ∷ []) ⇒ responds (0xC5 ∷ 0x02 ∷ [])
    ∷ asks 0 (0x85 ∷ 0x82 ∷ []) ⇒ Silent
    ∷ fail 0 ⇒ Ignored SettingOff
    ∷ Tick 499 ⇒ Taken
    ∷ fail 0 ⇒ Ignored SettingOff
    ∷ Tick 1 ⇒ Taken
    ∷ fail 0 ⇒ Taken
    ∷ [])

-- The setting is off while one of two testers holds it.
abbrev pub TwoTestersHold : Type 0
TwoTestersHold =
    Replays (fresh (configured 16 (event 0x000001 ∷ [])))
    (Cycle 0 ⇒ Taken
    ∷ asks 0 (0x10 ∷ 0x03 ∷ []) ⇒ extended
    ∷ asks 0 (0x85 ∷ 0x02 ∷ []) ⇒ responds (0xC5 ∷ 0x02 ∷ [])
    ∷ asks 1 (0x10 ∷ 0x03 ∷ []) ⇒ extended
    ∷ asks 1 (0x85 ∷ 0x02 ∷ []) ⇒ responds (0xC5 ∷ 0x02 ∷ [])
    ∷ asks 0 (0x10 ∷ 0x01 ∷ []) ⇒ default_session
    ∷ fail 0 ⇒ Ignored SettingOff
    ∷ asks 1 (0x3E ∷ 0x80 ∷ []) ⇒ Silent
    ∷ asks 1 (0x10 ∷ 0x01 ∷ []) ⇒ default_session
    ∷ fail 0 ⇒ Taken
    ∷ [])

-- A request for the extended session inside it keeps the hold, and one for the default session releases it.
abbrev pub RepeatedSessionKeepsTheHold : Type 0
RepeatedSessionKeepsTheHold =
    Replays (fresh (configured 16 (event 0x000001 ∷ [])))
    (Cycle 0 ⇒ Taken
    ∷ asks 0 (0x10 ∷ 0x03 ∷ []) ⇒ extended
    ∷ asks 0 (0x85 ∷ 0x02 ∷ []) ⇒ responds (0xC5 ∷ 0x02 ∷ [])
    ∷ asks 0 (0x10 ∷ 0x03 ∷ []) ⇒ extended
    ∷ fail 0 ⇒ Ignored SettingOff
    ∷ asks 0 (0x10 ∷ 0x81 ∷ []) ⇒ Silent
    ∷ fail 0 ⇒ Taken
    ∷ [])

-- The requests of another tester do not end a tester's silence.
abbrev pub OthersDoNotBreakSilence : Type 0
OthersDoNotBreakSilence =
    Replays (fresh (configured 16 (event 0x000001 ∷ [])))
    (Cycle 0 ⇒ Taken
    ∷ asks 0 (0x10 ∷ 0x03 ∷ []) ⇒ extended
    ∷ asks 0 (0x85 ∷ 0x02 ∷ []) ⇒ responds (0xC5 ∷ 0x02 ∷ [])
    ∷ Tick 300 ⇒ Taken
    ∷ asks 1 (0x3E ∷ 0x00 ∷ []) ⇒ responds (0x7E ∷ 0x00 ∷ [])
    ∷ Tick 199 ⇒ Taken
    ∷ fail 0 ⇒ Ignored SettingOff
    ∷ Tick 1 ⇒ Taken
    ∷ fail 0 ⇒ Taken
    ∷ [])

-- A request that is refused restarts the silent time.
abbrev pub RefusedRequestIsHeard : Type 0
RefusedRequestIsHeard =
    Replays (fresh (configured 16 (event 0x000001 ∷ [])))
    (Cycle 0 ⇒ Taken
    ∷ asks 0 (0x10 ∷ 0x03 ∷ []) ⇒ extended
    ∷ asks 0 (0x85 ∷ 0x02 ∷ []) ⇒ responds (0xC5 ∷ 0x02 ∷ [])
    ∷ Tick 300 ⇒ Taken
    ∷ asks 0 (0x22 ∷ 0xF1 ∷ 0x90 ∷ []) ⇒ responds (0x7F ∷ 0x22 ∷ 0x11 ∷ [])
    ∷ Tick 300 ⇒ Taken
    ∷ fail 0 ⇒ Ignored SettingOff
    ∷ Tick 200 ⇒ Taken
    ∷ fail 0 ⇒ Taken
    ∷ [])

-- Each of the four testers may hold the setting off, and may ask again for its current session without releasing the hold.
abbrev pub LastTestersHold : Type 0
LastTestersHold =
    Replays (fresh (configured 16 (event 0x000001 ∷ [])))
    (Cycle 0 ⇒ Taken
    ∷ asks 2 (0x10 ∷ 0x03 ∷ []) ⇒ extended
    ∷ asks 2 (0x85 ∷ 0x02 ∷ []) ⇒ responds (0xC5 ∷ 0x02 ∷ [])
    ∷ fail 0 ⇒ Ignored SettingOff
    ∷ asks 3 (0x10 ∷ 0x03 ∷ []) ⇒ extended
    ∷ asks 3 (0x85 ∷ 0x02 ∷ []) ⇒ responds (0xC5 ∷ 0x02 ∷ [])
    ∷ asks 2 (0x10 ∷ 0x01 ∷ []) ⇒ default_session
    ∷ fail 0 ⇒ Ignored SettingOff
    ∷ Tick 499 ⇒ Taken
    ∷ asks 3 (0x10 ∷ 0x03 ∷ []) ⇒ extended
    ∷ Tick 499 ⇒ Taken
    ∷ fail 0 ⇒ Ignored SettingOff
    ∷ asks 3 (0x85 ∷ 0x01 ∷ []) ⇒ responds (0xC5 ∷ 0x01 ∷ [])
    ∷ fail 0 ⇒ Taken
    ∷ [])

-- Requests that are refused, each with the first code whose condition holds.
abbrev pub NegativeCodes : Type 0
NegativeCodes =
    Replays (fresh (configured 16 (event 0x123456 ∷ [])))
    (asks 0 (0x99 ∷ []) ⇒ responds (0x7F ∷ 0x99 ∷ 0x11 ∷ [])
    ∷ asks 0 (0x22 ∷ 0xF1 ∷ 0x90 ∷ []) ⇒ responds (0x7F ∷ 0x22 ∷ 0x11 ∷ [])
    ∷ asks 0 (0x85 ∷ []) ⇒ responds (0x7F ∷ 0x85 ∷ 0x7F ∷ [])
    ∷ asks 0 (0x19 ∷ []) ⇒ responds (0x7F ∷ 0x19 ∷ 0x13 ∷ [])
    ∷ asks 0 (0x19 ∷ 0x05 ∷ []) ⇒ responds (0x7F ∷ 0x19 ∷ 0x12 ∷ [])
    ∷ asks 0 (0x19 ∷ 0x85 ∷ 0x00 ∷ []) ⇒ responds (0x7F ∷ 0x19 ∷ 0x12 ∷ [])
    ∷ asks 0 (0x19 ∷ 0x02 ∷ []) ⇒ responds (0x7F ∷ 0x19 ∷ 0x13 ∷ [])
    ∷ asks 0 (0x19 ∷ 0x02 ∷ 0x08 ∷ 0x00 ∷ []) ⇒ responds (0x7F ∷ 0x19 ∷ 0x13 ∷ [])
    ∷ asks 0 (0x19 ∷ 0x04 ∷ 0x12 ∷ 0x34 ∷ 0x56 ∷ 0x03 ∷ []) ⇒ responds (0x7F ∷ 0x19 ∷ 0x31 ∷ [])
    ∷ asks 0 (0x19 ∷ 0x04 ∷ 0x12 ∷ 0x34 ∷ 0x57 ∷ 0x01 ∷ []) ⇒ responds (0x7F ∷ 0x19 ∷ 0x31 ∷ [])
    ∷ asks 0 (0x3E ∷ 0x01 ∷ []) ⇒ responds (0x7F ∷ 0x3E ∷ 0x12 ∷ [])
    ∷ asks 0 (0x10 ∷ 0x02 ∷ []) ⇒ responds (0x7F ∷ 0x10 ∷ 0x12 ∷ [])
    ∷ asks 0 (0x10 ∷ 0x03 ∷ []) ⇒ extended
    ∷ asks 0 (0x85 ∷ 0x02 ∷ 0xFF ∷ []) ⇒ responds (0x7F ∷ 0x85 ∷ 0x13 ∷ [])
    ∷ asks 0 (0x85 ∷ 0x02 ∷ 0xFF ∷ 0xFF ∷ 0xFE ∷ []) ⇒ responds (0x7F ∷ 0x85 ∷ 0x31 ∷ [])
    ∷ asks 0 (0x85 ∷ 0x02 ∷ 0xFF ∷ 0xFF ∷ 0xFF ∷ []) ⇒ responds (0xC5 ∷ 0x02 ∷ [])
    ∷ asks 0 (0x85 ∷ 0x03 ∷ []) ⇒ responds (0x7F ∷ 0x85 ∷ 0x12 ∷ [])
    ∷ [])

-- The DTCs whose status has a bit in common with a mask.
abbrev pub MaskedLists : Type 0
MaskedLists =
    Replays (fresh (configured 16 (event 0x123456 ∷ [])))
    (asks 0 (0x19 ∷ 0x02 ∷ 0x10 ∷ []) ⇒ responds (0x59 ∷ 0x02 ∷ 0xFF ∷ 0x12 ∷ 0x34 ∷ 0x56 ∷ 0x50 ∷ [])
    ∷ asks 0 (0x19 ∷ 0x02 ∷ 0x00 ∷ []) ⇒ responds (0x59 ∷ 0x02 ∷ 0xFF ∷ [])
    ∷ [])

-- Lists are in the order of the events, and a clear of one DTC does not change the other.
abbrev pub ListsInOrder : Type 0
ListsInOrder =
    Replays (fresh (configured 16 (event 0x123456 ∷ event 0x123457 ∷ [])))
    (Cycle 0 ⇒ Taken
    ∷ fail 1 ⇒ Taken
    ∷ asks 0 (0x19 ∷ 0x0A ∷ []) ⇒ responds (0x59 ∷ 0x0A ∷ 0xFF ∷ 0x12 ∷ 0x34 ∷ 0x56 ∷ 0x50 ∷ 0x12 ∷ 0x34 ∷ 0x57 ∷ 0x2F ∷ [])
    ∷ asks 0 (0x19 ∷ 0x01 ∷ 0x01 ∷ []) ⇒ responds (0x59 ∷ 0x01 ∷ 0xFF ∷ 0x01 ∷ 0x00 ∷ 0x01 ∷ [])
    ∷ asks 0 (0x19 ∷ 0x02 ∷ 0x01 ∷ []) ⇒ responds (0x59 ∷ 0x02 ∷ 0xFF ∷ 0x12 ∷ 0x34 ∷ 0x57 ∷ 0x2F ∷ [])
    ∷ asks 0 (0x19 ∷ 0x82 ∷ 0x01 ∷ []) ⇒ Silent
    ∷ asks 0 (0x19 ∷ 0x03 ∷ []) ⇒ responds (0x59 ∷ 0x03 ∷ 0x12 ∷ 0x34 ∷ 0x57 ∷ 0x01 ∷ 0x12 ∷ 0x34 ∷ 0x57 ∷ 0x02 ∷ [])
    ∷ asks 0 (0x19 ∷ 0x06 ∷ 0x12 ∷ 0x34 ∷ 0x57 ∷ 0x01 ∷ []) ⇒ responds (0x59 ∷ 0x06 ∷ 0x12 ∷ 0x34 ∷ 0x57 ∷ 0x2F ∷ 0x01 ∷ 0x01 ∷ [])
    ∷ asks 0 (0x19 ∷ 0x06 ∷ 0x12 ∷ 0x34 ∷ 0x57 ∷ 0x02 ∷ []) ⇒ responds (0x59 ∷ 0x06 ∷ 0x12 ∷ 0x34 ∷ 0x57 ∷ 0x2F ∷ 0x02 ∷ 0x00 ∷ [])
    ∷ asks 0 (0x19 ∷ 0x06 ∷ 0x12 ∷ 0x34 ∷ 0x56 ∷ 0xFF ∷ []) ⇒ responds (0x59 ∷ 0x06 ∷ 0x12 ∷ 0x34 ∷ 0x56 ∷ 0x50 ∷ [])
    ∷ fail 0 ⇒ Taken
    ∷ asks 0 (0x14 ∷ 0x12 ∷ 0x34 ∷ 0x57 ∷ []) ⇒ responds (0x54 ∷ [])
    ∷ asks 0 (0x19 ∷ 0x03 ∷ []) ⇒ responds (0x59 ∷ 0x03 ∷ 0x12 ∷ 0x34 ∷ 0x56 ∷ 0x01 ∷ 0x12 ∷ 0x34 ∷ 0x56 ∷ 0x02 ∷ [])
    ∷ Show 1 ⇒ shows 0x50 (pos 0) 0 0 0 false
    ∷ Show 0 ⇒ shows 0x2F (pos 127) 1 0 1 false
    ∷ [])

-- Silence of 5000 ms ends the extended session, and for good what the tester held in it; a request whose response is suppressed ends
-- the silence.
abbrev pub SilenceEndsSessionAndHold : Type 0
SilenceEndsSessionAndHold =
    Replays (fresh (configured 16 (event 0x000001 ∷ [])))
    (Cycle 0 ⇒ Taken
    ∷ asks 0 (0x10 ∷ 0x03 ∷ []) ⇒ extended
    ∷ asks 0 (0x85 ∷ 0x02 ∷ []) ⇒ responds (0xC5 ∷ 0x02 ∷ [])
    ∷ Tick 300 ⇒ Taken
    ∷ asks 0 (0x3E ∷ 0x80 ∷ []) ⇒ Silent
    ∷ Tick 499 ⇒ Taken
    ∷ fail 0 ⇒ Ignored SettingOff
    ∷ Tick 1 ⇒ Taken
    ∷ asks 0 (0x85 ∷ 0x02 ∷ []) ⇒ responds (0x7F ∷ 0x85 ∷ 0x7F ∷ [])
    ∷ asks 0 (0x10 ∷ 0x03 ∷ []) ⇒ extended
    ∷ fail 0 ⇒ Taken
    ∷ [])

-- A mask of several bits selects the DTCs whose status has one of them; a snapshot record without data identifiers has its number and
-- the count 0.
abbrev pub MaskOfSeveralBits : Type 0
MaskOfSeveralBits =
    Replays (fresh (configured 16 (event 0x000001 ∷ event 0x000002 ∷ [])))
    (Cycle 0 ⇒ Taken
    ∷ fail 0 ⇒ Taken
    ∷ asks 0 (0x19 ∷ 0x02 ∷ 0x91 ∷ []) ⇒ responds (0x59 ∷ 0x02 ∷ 0xFF ∷ 0x00 ∷ 0x00 ∷ 0x01 ∷ 0x2F ∷ 0x00 ∷ 0x00 ∷ 0x02 ∷ 0x50 ∷ [])
    ∷ asks 0 (0x19 ∷ 0x04 ∷ 0x00 ∷ 0x00 ∷ 0x01 ∷ 0xFF ∷ []) ⇒ responds (0x59 ∷ 0x04 ∷ 0x00 ∷ 0x00 ∷ 0x01 ∷ 0x2F ∷ 0x01 ∷ 0x00 ∷ 0x02 ∷ 0x00 ∷ [])
    ∷ [])

-- All DTCs are supported, even one whose status is 0; no mask selects that one.
abbrev pub SupportedDtcs : Type 0
SupportedDtcs =
    Replays (fresh (configured 16 (event 0x000001 ∷ event 0x000002 ∷ [])))
    (Cycle 0 ⇒ Taken
    ∷ pass 0 ⇒ Taken
    ∷ asks 0 (0x19 ∷ 0x0A ∷ []) ⇒ responds (0x59 ∷ 0x0A ∷ 0xFF ∷ 0x00 ∷ 0x00 ∷ 0x01 ∷ 0x00 ∷ 0x00 ∷ 0x00 ∷ 0x02 ∷ 0x50 ∷ [])
    ∷ asks 0 (0x19 ∷ 0x02 ∷ 0xFF ∷ []) ⇒ responds (0x59 ∷ 0x02 ∷ 0xFF ∷ 0x00 ∷ 0x00 ∷ 0x02 ∷ 0x50 ∷ [])
    ∷ [])

-- Only the first DTC.
abbrev pub first_selected : Reply
first_selected = responds (0x59 ∷ 0x02 ∷ 0xFF ∷ 0x00 ∷ 0x00 ∷ 0x01 ∷ 0xAF ∷ [])

-- Each bit of a mask selects on its own: of two DTCs one has bits 4 and 6, and the other has the rest.
abbrev pub EachBitOfAMask : Type 0
EachBitOfAMask =
    Replays (fresh (configured 16 (record (event 0x000001) { indicator = true } ∷ event 0x000002 ∷ [])))
    (Cycle 0 ⇒ Taken
    ∷ fail 0 ⇒ Taken
    ∷ asks 0 (0x19 ∷ 0x02 ∷ 0x01 ∷ []) ⇒ first_selected
    ∷ asks 0 (0x19 ∷ 0x02 ∷ 0x02 ∷ []) ⇒ first_selected
    ∷ asks 0 (0x19 ∷ 0x02 ∷ 0x04 ∷ []) ⇒ first_selected
    ∷ asks 0 (0x19 ∷ 0x02 ∷ 0x08 ∷ []) ⇒ first_selected
    ∷ asks 0 (0x19 ∷ 0x02 ∷ 0x10 ∷ []) ⇒ responds (0x59 ∷ 0x02 ∷ 0xFF ∷ 0x00 ∷ 0x00 ∷ 0x02 ∷ 0x50 ∷ [])
    ∷ asks 0 (0x19 ∷ 0x02 ∷ 0x20 ∷ []) ⇒ first_selected
    ∷ asks 0 (0x19 ∷ 0x02 ∷ 0x40 ∷ []) ⇒ responds (0x59 ∷ 0x02 ∷ 0xFF ∷ 0x00 ∷ 0x00 ∷ 0x02 ∷ 0x50 ∷ [])
    ∷ asks 0 (0x19 ∷ 0x02 ∷ 0x80 ∷ []) ⇒ first_selected
    ∷ asks 0 (0x19 ∷ 0x01 ∷ 0x80 ∷ []) ⇒ responds (0x59 ∷ 0x01 ∷ 0xFF ∷ 0x01 ∷ 0x00 ∷ 0x01 ∷ [])
    ∷ [])
