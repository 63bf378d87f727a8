-- The testers' sessions, and whether the DTC setting is off (ISO 14229-1, services 0x10 and 0x85).
use Rattle.std.specs.Prelude.{ℕ, ◌+◌, nat_le, ◌==◌, Bool, false, not, ◌||◌, if◌then◌else◌, [], ◌∷◌, Option, Some, None, Result, Ok, Err}
use Rattle.flt_model.specs.Start.{History}
use Rattle.flt_model.specs.Mark.{decided}
use Rattle.flt_model.specs.Request.{asked}
use Rattle.flt_model.specs.declared.call.Op.{Op}
use Rattle.flt_model.specs.declared.call.Op.TheVariants as ops
use Rattle.flt_model.specs.declared.request.Request.{Request}
use Rattle.flt_model.specs.declared.request.Request.TheVariants.{Session, Setting}
use Rattle.flt_model.specs.declared.request.Asked.{Asked}
use Rattle.flt_model.specs.declared.request.Negative.{Negative}

-- The ticks since the tester's last request.
abbrev pub silence : ℕ → History → ℕ
silence tester [] = 0
silence tester (ops.Tick ticks ∷ past) = silence tester past + ticks
silence tester (ops.Request other bytes ∷ past) = if other == tester then 0 else silence tester past
silence tester (_ ∷ past) = silence tester past

-- After how many silent ticks of 10 ms the extended session ends (ISO 14229-2, S3: 5000 ms).
abbrev pub session_timeout : ℕ
session_timeout = 500

-- The session that a request is for.
abbrev pub session_of : Request → Option Bool
session_of (Session extended) = Some extended
session_of _ = None

-- The session that bytes ask for.
abbrev pub session_asked : Result Asked Negative → Option Bool
session_asked (Ok request) = session_of request.request
session_asked (Err refused) = None

-- The tester asks for a session, or was silent too long.
abbrev pub session_row : ℕ → History → Op → Option Bool
session_row tester past (ops.Request other bytes) = if other == tester then session_asked (asked false bytes.items) else None
session_row tester past (ops.Tick ticks) = if nat_le session_timeout (silence tester past + ticks) then Some false else None
session_row tester past _ = None

-- The tester is in the extended session.
abbrev pub is_extended : ℕ → History → Bool
is_extended tester past = decided (session_row tester) false past

-- Whether a request switches the setting off, if it is about the setting.
abbrev pub off_of : Request → Option Bool
off_of (Setting on) = Some (not on)
off_of _ = None

-- The same of what bytes ask for.
abbrev pub off_asked : Result Asked Negative → Option Bool
off_asked (Ok request) = off_of request.request
off_asked (Err refused) = None

-- The tester may switch it off only in the extended session, whose end releases the hold.
abbrev pub hold_row : ℕ → History → Op → Option Bool
hold_row tester past (ops.Request other bytes) =
    if other == tester
    then (if is_extended tester (ops.Request other bytes ∷ past) then off_asked (asked (is_extended tester past) bytes.items) else Some false)
    else None
hold_row tester past (ops.Tick ticks) = if is_extended tester (ops.Tick ticks ∷ past) then None else Some false
hold_row tester past _ = None

-- The tester holds the setting off.
abbrev pub holds_off : ℕ → History → Bool
holds_off tester past = decided (hold_row tester) false past

-- Some tester of the four holds the setting off.
abbrev pub is_setting_off : History → Bool
is_setting_off past = holds_off 0 past || holds_off 1 past || holds_off 2 past || holds_off 3 past
