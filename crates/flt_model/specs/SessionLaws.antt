-- What holds of the testers' sessions (ISO 14229-1, services 0x10 and 0x85; ISO 14229-2, S3).
use Rattle.std.specs.Prelude.{◌≡◌, ◌≢◌, ◌↔◌, ℕ, ◌<◌, ◌%◌, ◌==◌, Bool, true, false, not, ◌&&◌, ◌||◌, List, [], ◌∷◌, ◌++◌, sum_by, take_while}
use Rattle.flt_model.specs.Start.{History}
use Rattle.flt_model.specs.Request.{RequestBytes}
use Rattle.flt_model.specs.Session.{is_extended, silence, holds_off}
use Rattle.flt_model.specs.declared.call.Op.{Op}
use Rattle.flt_model.specs.declared.call.Op.TheVariants as ops

-- ---- one tester and another

-- A tester's session, its silent time and what it holds are as before.
pub record IsTesterLeft (tester : ℕ) (before after : History) : Type 0 where
  pub session : is_extended tester after ≡ is_extended tester before
  pub silence : silence tester after ≡ silence tester before
  pub hold : holds_off tester after ≡ holds_off tester before

-- A request does not change any tester but the one that sends it.
abbrev pub RequestLeavesOtherTesters : Type 0
RequestLeavesOtherTesters = (past : History) (tester other : ℕ) (bytes : RequestBytes) → tester ≢ other →
    IsTesterLeft other past (ops.Request tester bytes ∷ past)

-- ---- which session a tester is in

-- A request of this service with this sub-function, whose bit 7 does not belong to it, and what may follow it.
abbrev pub spells_request : ℕ → ℕ → (List ℕ → Bool) → List ℕ → Bool
spells_request service sub_function follows (first ∷ second ∷ rest) = (first == service) && (second % 128 == sub_function) && follows rest
spells_request service sub_function follows _ = false

-- Nothing follows.
abbrev pub is_nothing : List ℕ → Bool
is_nothing [] = true
is_nothing _ = false

-- An accepted request for a session: service 0x10 with this sub-function, and nothing after it.
abbrev pub asks_session : ℕ → List ℕ → Bool
asks_session sub_function bytes = spells_request 0x10 sub_function is_nothing bytes

-- A call is a request of the tester.
abbrev pub is_from : ℕ → Op → Bool
is_from tester (ops.Request other bytes) = other == tester
is_from tester _ = false

-- It is one for the default or the extended session.
abbrev pub is_session_request : ℕ → Op → Bool
is_session_request tester (ops.Request other bytes) = (other == tester) && (asks_session 0x01 bytes.items || asks_session 0x03 bytes.items)
is_session_request tester _ = false

-- The ticks that a call lets pass.
abbrev pub ticks_of : Op → ℕ
ticks_of (ops.Tick ticks) = ticks
ticks_of _ = 0

-- The ticks after the last of these calls that is a request of the tester, answered or not.
abbrev pub unheard : ℕ → History → ℕ
unheard tester calls = sum_by ticks_of (take_while (λ op. not (is_from tester op)) calls)

-- In these calls the tester asks for no session, and is never silent for 500 ticks.
abbrev pub StaysInSession : ℕ → History → Type 0
StaysInSession tester [] = Unit {0}
StaysInSession tester (op ∷ later) = (is_session_request tester op ≡ false) × (unheard tester (op ∷ later) < 500) × StaysInSession tester later

-- The last accepted session request of the tester was 10 03, and it was not silent for 500 ticks since.
pub record AskedForExtended (tester : ℕ) (past : History) : Type 0 where
  pub later : History
  pub bytes : RequestBytes
  pub earlier : History
  pub is : past ≡ later ++ ops.Request tester bytes ∷ earlier
  pub extended : asks_session 0x03 bytes.items ≡ true
  pub stays : StaysInSession tester later

-- Exactly then it is in the extended session.
abbrev pub ExtendedWhereAsked : Type 0
ExtendedWhereAsked = (tester : ℕ) (past : History) → (is_extended tester past ≡ true) ↔ AskedForExtended tester past

-- ---- whether a tester holds the DTC setting off

-- The option bytes FF FF FF follow, or nothing.
abbrev pub is_option : List ℕ → Bool
is_option [] = true
is_option (a ∷ b ∷ c ∷ []) = (a == 0xFF) && (b == 0xFF) && (c == 0xFF)
is_option _ = false

-- A request about the setting that is accepted in the extended session: service 0x85 with this sub-function, 0x01 for on or
-- 0x02 for off, and the option bytes or nothing after it.
abbrev pub asks_setting : ℕ → List ℕ → Bool
asks_setting sub_function bytes = spells_request 0x85 sub_function is_option bytes

-- A call is such a request of the tester.
abbrev pub is_setting_request : ℕ → ℕ → Op → Bool
is_setting_request sub_function tester (ops.Request other bytes) = (other == tester) && asks_setting sub_function bytes.items
is_setting_request sub_function tester _ = false

-- In these later calls the tester stays in the extended session, and does not ask for the setting on.
abbrev pub KeepsOff : ℕ → History → History → Type 0
KeepsOff tester before [] = Unit {0}
KeepsOff tester before (op ∷ later) =
    (is_extended tester (op ∷ later ++ before) ≡ true) × (is_setting_request 0x01 tester op ≡ false) × KeepsOff tester before later

-- In the extended session the tester sent an accepted 85 02, and since then it never left that session and sent no accepted
-- 85 01.
pub record AskedForOff (tester : ℕ) (past : History) : Type 0 where
  pub later : History
  pub bytes : RequestBytes
  pub earlier : History
  pub is : past ≡ later ++ ops.Request tester bytes ∷ earlier
  pub extended : is_extended tester earlier ≡ true
  pub off : asks_setting 0x02 bytes.items ≡ true
  pub keeps : KeepsOff tester (ops.Request tester bytes ∷ earlier) later

-- Exactly then it holds the setting off.
abbrev pub HeldWhereAsked : Type 0
HeldWhereAsked = (tester : ℕ) (past : History) → (holds_off tester past ≡ true) ↔ AskedForOff tester past

-- In the default session it holds nothing.
abbrev pub DefaultHoldsNothing : Type 0
DefaultHoldsNothing = (tester : ℕ) (past : History) → is_extended tester past ≡ false → holds_off tester past ≡ false
