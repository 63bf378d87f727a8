-- Laws on what the testers hold.
use Rattle.std.proofs.Common.{◌≡◌, ◌∙◌, ℕ, ◌%◌, nat_eq, Bool, true, false, not, ◌&&◌, ◌||◌, cond, List, [], ◌∷◌, ◌++◌, Option, Some, None, Ok, Err, refl, sym, ap, eq-eqb, eqb-true, inl, inr}
use Rattle.std.specs.Prelude.{unwrap_or}
use Rattle.std.proofs.lemmas.Bool.{cases_Bool, and_parts, or_cases, or_right, not-true}
use Rattle.flt_model.specs.Start.{History}
use Rattle.flt_model.specs.NegativeCode.{request_out_of_range}
use Rattle.flt_model.specs.Request.{Optioned, RequestBytes, contents, accepted, asked}
use Rattle.flt_model.specs.Session.{session_asked, off_of, off_asked, is_extended, holds_off}
use Rattle.flt_model.specs.SessionLaws.{is_option, asks_setting, is_setting_request, KeepsOff, AskedForOff, HeldWhereAsked, DefaultHoldsNothing}
use Rattle.flt_model.specs.declared.call.Op.{Op}
use Rattle.flt_model.specs.declared.call.Op.TheVariants as ops
use Rattle.flt_model.specs.declared.request.Request.{Request}
use Rattle.flt_model.specs.declared.request.Request.TheVariants.{Setting}
use Rattle.flt_model.proofs.BytesLemmas.{service_in, either, by_bytes, none_elsewhere}
use Rattle.flt_model.proofs.SessionLaws.{service_none}

-- ---- which bytes ask for the setting

-- A request of another service is not about the setting.
no_setting : (request : Request) → nat_eq (service_in request) 0x85 ≡ false → off_of request ≡ None
no_setting (Setting on) e = absurd (cc)
no_setting request e = refl

tested_form : (value silent test : Bool) → off_asked (accepted 0x85 silent (cond test (Ok (Setting (not value))) (Err request_out_of_range))) ≡ cond test (Some value) None
tested_form true silent true = refl
tested_form false silent true = refl
tested_form value silent false = refl

-- A row of the table for the setting.
setting_form : (value silent : Bool) (rest : List ℕ) → off_asked (accepted 0x85 silent (contents (Optioned (Setting (not value))) rest)) ≡ cond (is_option rest) (Some value) None
setting_form true silent [] = refl
setting_form false silent [] = refl
setting_form value silent (a ∷ b ∷ c ∷ []) = tested_form value silent (nat_eq a 0xFF && nat_eq b 0xFF && nat_eq c 0xFF)
setting_form value silent rest = refl

-- What bytes ask of the setting in the extended session.
setting_bytes : (bytes : List ℕ) → off_asked (asked true bytes) ≡ either (asks_setting 0x02 bytes) (asks_setting 0x01 bytes)
setting_bytes bytes =
    by_bytes off_asked (λ negative. refl) 0x85 (λ request. no_setting request.request) 0x01 0x02 refl (λ value. Optioned (Setting (not value))) is_option setting_form
    true refl (λ sub rest. refl) bytes

-- In the default session they ask nothing of it.
default_none : (bytes : List ℕ) → off_asked (asked false bytes) ≡ None
default_none [] = refl
default_none (service ∷ rest) =
    elim (cases_Bool (nat_eq service 0x85)) [
      | inl e ↦ rw (eqb-true service 0x85 e) refl
      | inr e ↦ none_elsewhere off_asked (λ negative. refl) 0x85 (λ request. no_setting request.request) false service rest e
    ]

setting_asked : (extended : Bool) (bytes : List ℕ) → off_asked (asked extended bytes) ≡ cond extended (either (asks_setting 0x02 bytes) (asks_setting 0x01 bytes)) None
setting_asked true bytes = setting_bytes bytes
setting_asked false bytes = default_none bytes

-- Bytes that are about the setting ask for no session.
setting_no_session : (sub : ℕ) (bytes : List ℕ) → asks_setting sub bytes ≡ true → session_asked (asked false bytes) ≡ None
setting_no_session sub [] e = absurd (cc)
setting_no_session sub (service ∷ []) e = absurd (cc)
setting_no_session sub (service ∷ second ∷ rest) e =
    let here = and_parts (nat_eq service 0x85) (nat_eq (second % 128) sub) (and_parts (nat_eq service 0x85 && nat_eq (second % 128) sub) (is_option rest) e).0 in
    service_none service (second ∷ rest) (rw (eqb-true service 0x85 here.0) refl)

-- ---- one call

-- Whether the tester holds the setting off after a call, from whether it was in the extended session, is in it now, asks for off,
-- asks for on, and held the setting off.
abbrev left_by : (was now off on held : Bool) → Bool
left_by was now off on held = now && (was && off || not on && held)

-- A call that is neither a tick nor a request of the tester.
idle_step : (was held : Bool) → (was ≡ false → held ≡ false) → held ≡ left_by was was false false held
idle_step true held nothing = refl
idle_step false held nothing = nothing refl

-- A tick.
tick_step : (was now held : Bool) → unwrap_or (cond now None (Some false)) held ≡ left_by was now false false held
tick_step was false held = refl
tick_step true true held = refl
tick_step false true held = refl

-- A request of the tester.
own_step : (was now off on held : Bool) → (was ≡ false → held ≡ false) → unwrap_or (cond now (cond was (either off on) None) (Some false)) held ≡ left_by was now off on held
own_step was false off on held nothing = refl
own_step true true true on held nothing = refl
own_step true true false true held nothing = refl
own_step true true false false held nothing = refl
own_step false true off true held nothing = nothing refl
own_step false true off false held nothing = refl

-- A request of any tester.
request_step : (mine was off on held : Bool) (session : Option Bool) → (was ≡ false → held ≡ false) →
    unwrap_or (cond mine (cond (unwrap_or (cond mine session None) was) (cond was (either off on) None) (Some false)) None) held
    ≡ left_by was (unwrap_or (cond mine session None) was) (mine && off) (mine && on) held
request_step false was off on held session nothing = idle_step was held nothing
request_step true was off on held session nothing = own_step was (unwrap_or session was) off on held nothing

module _ (tester : ℕ) where
  -- What each call does to the hold.
  step : (op : Op) (past : History) → (is_extended tester past ≡ false → holds_off tester past ≡ false) →
      holds_off tester (op ∷ past)
      ≡ left_by (is_extended tester past) (is_extended tester (op ∷ past)) (is_setting_request 0x02 tester op) (is_setting_request 0x01 tester op) (holds_off tester past)
  step (ops.Tick ticks) past nothing = tick_step (is_extended tester past) (is_extended tester (ops.Tick ticks ∷ past)) (holds_off tester past)
  step (ops.Request other bytes) past nothing =
      rw (setting_asked (is_extended tester past) bytes.items)
      (request_step (nat_eq other tester) (is_extended tester past) (asks_setting 0x02 bytes.items) (asks_setting 0x01 bytes.items) (holds_off tester past)
      (session_asked (asked false bytes.items)) nothing)
  step op past nothing = idle_step (is_extended tester past) (holds_off tester past) nothing

  -- In the default session nothing is held.
  nothing_held : (past : History) → is_extended tester past ≡ false → holds_off tester past ≡ false
  nothing_held [] e = refl
  nothing_held (op ∷ past) e = step op past (nothing_held past) ∙ rw e refl

  -- From the bytes to the hold.
  held_since : (bytes : RequestBytes) (earlier later : History) → is_extended tester earlier ≡ true → asks_setting 0x02 bytes.items ≡ true →
      KeepsOff tester (ops.Request tester bytes ∷ earlier) later → holds_off tester (later ++ ops.Request tester bytes ∷ earlier) ≡ true
  held_since bytes earlier [] extended off keeps =
      step (ops.Request tester bytes) earlier (nothing_held earlier) ∙ rw (eq-eqb tester tester refl, setting_no_session 0x02 bytes.items off, extended, off) refl
  held_since bytes earlier (op ∷ later) extended off keeps =
      let past = later ++ ops.Request tester bytes ∷ earlier in
      step op past (nothing_held past)
      ∙ rw (keeps.0, keeps.1, held_since bytes earlier later extended off keeps.2) (or_right (is_extended tester past && is_setting_request 0x02 tester op) true refl)

  -- From the hold to the bytes: the call is the request, or a call before it was.
  asked_now : (op : Op) (past : History) → is_extended tester past ≡ true → is_setting_request 0x02 tester op ≡ true → AskedForOff tester (op ∷ past)
  asked_now (ops.Request other bytes) past extended asks =
      let parts = and_parts (nat_eq other tester) (asks_setting 0x02 bytes.items) asks in
      record {
        later = [];
        bytes = bytes;
        earlier = past;
        is = ap (λ sender. ops.Request sender bytes ∷ past) (eqb-true other tester parts.0);
        extended = extended;
        off = parts.1;
        keeps = tt;
      }
  asked_now op past extended asks = absurd (cc)

  asked_before : (op : Op) (past : History) → is_extended tester (op ∷ past) ≡ true → is_setting_request 0x01 tester op ≡ false → AskedForOff tester past → AskedForOff tester (op ∷ past)
  asked_before op past now on asked = record {
    later = op ∷ asked.later;
    bytes = asked.bytes;
    earlier = asked.earlier;
    is = ap (λ calls. op ∷ calls) asked.is;
    extended = asked.extended;
    off = asked.off;
    keeps = (ap (λ calls. is_extended tester (op ∷ calls)) (sym asked.is) ∙ now, on, asked.keeps);
  }

  held_from : (past : History) → holds_off tester past ≡ true → AskedForOff tester past
  held_from [] e = absurd (cc)
  held_from (op ∷ past) e =
      let was = is_extended tester past in
      let off = is_setting_request 0x02 tester op in
      let on = is_setting_request 0x01 tester op in
      let held = holds_off tester past in
      let at = and_parts (is_extended tester (op ∷ past)) (was && off || not on && held) (sym (step op past (nothing_held past)) ∙ e) in
      elim (or_cases (was && off) (not on && held) at.1) [
        | inl asks ↦ let parts = and_parts was off asks in asked_now op past parts.0 parts.1
        | inr stays ↦ let parts = and_parts (not on) held stays in asked_before op past at.0 (not-true on parts.0) (held_from past parts.1)
      ]

pub held_where_asked : HeldWhereAsked
held_where_asked tester past = (held_from tester past, λ asked. ap (holds_off tester) asked.is ∙ held_since tester asked.bytes asked.earlier asked.later asked.extended asked.off asked.keeps)

pub default_holds_nothing : DefaultHoldsNothing
default_holds_nothing = nothing_held
