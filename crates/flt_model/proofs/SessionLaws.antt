-- Laws on the testers' sessions.
use Rattle.std.proofs.Common.{◌≡◌, ◌∙◌, ℕ, ◌+◌, ◌<◌, nat_eq, nat_le, Bool, true, false, not, ◌&&◌, ◌||◌, cond, List, [], ◌∷◌, ◌++◌, take_while, Option, Some, None, refl, sym, ap, arith, inl, inr, eq-eqb, eqb-true}
use Rattle.std.specs.Prelude.{unwrap_or}
use Rattle.std.proofs.lemmas.Bool.{cases_Bool, or_parts, ne_eqb, leb-false, lt-leb}
use Rattle.std.proofs.lemmas.List.Sums.{sum_by-cons, take_while-cons}
use Rattle.flt_model.specs.Start.{History}
use Rattle.flt_model.specs.Request.{Plain, RequestBytes, contents, accepted, asked}
use Rattle.flt_model.specs.Session.{session_of, session_asked, silence, is_extended}
use Rattle.flt_model.specs.SessionLaws.{RequestLeavesOtherTesters, is_nothing, asks_session, is_from, is_session_request, ticks_of, unheard, StaysInSession, AskedForExtended, ExtendedWhereAsked}
use Rattle.flt_model.specs.declared.call.Op.{Op}
use Rattle.flt_model.specs.declared.call.Op.TheVariants as ops
use Rattle.flt_model.specs.declared.request.Request.{Request}
use Rattle.flt_model.specs.declared.request.Request.TheVariants.{Session}
use Rattle.flt_model.proofs.BytesLemmas.{service_in, either, high_from, none_from, by_bytes, none_elsewhere}

pub request_leaves_other_testers : RequestLeavesOtherTesters
request_leaves_other_testers past tester other bytes apart =
    let other_sends = ne_eqb tester other apart in
    record { session = rw other_sends refl; silence = rw other_sends refl; hold = rw other_sends refl }

-- ---- which bytes ask for a session

-- A request of another service is for no session.
no_session : (request : Request) → nat_eq (service_in request) 0x10 ≡ false → session_of request ≡ None
no_session (Session extended) e = absurd (cc)
no_session request e = refl

-- A row of the table for a session.
session_form : (value silent : Bool) (rest : List ℕ) → session_asked (accepted 0x10 silent (contents (Plain (Session value)) rest)) ≡ cond (is_nothing rest) (Some value) None
session_form value silent [] = refl
session_form value silent (a ∷ rest) = refl

-- Which session bytes ask for.
session_bytes : (bytes : List ℕ) → session_asked (asked false bytes) ≡ either (asks_session 0x03 bytes) (asks_session 0x01 bytes)
session_bytes bytes =
    by_bytes session_asked (λ negative. refl) 0x10 (λ request. no_session request.request) 0x01 0x03 refl (λ value. Plain (Session value)) is_nothing session_form
    false refl (λ sub rest. refl) bytes

-- Bytes of another service ask for none.
pub service_none : (service : ℕ) (rest : List ℕ) → nat_eq service 0x10 ≡ false → session_asked (asked false (service ∷ rest)) ≡ None
service_none service rest apart = none_elsewhere session_asked (λ negative. refl) 0x10 (λ request. no_session request.request) false service rest apart

-- ---- the silent time

-- Without a request of the tester the silence grows by the ticks, and with one it begins anew.
unheard-cons : (tester : ℕ) (op : Op) (later : History) → unheard tester (op ∷ later) ≡ cond (is_from tester op) 0 (ticks_of op + unheard tester later)
unheard-cons tester op later =
    let p : Op → Bool = λ o. not (is_from tester o) in
    elim (cases_Bool (is_from tester op)) [
      | inl own ↦ rw (take_while-cons p op later, own) refl
      | inr other ↦ rw (take_while-cons p op later, other) (sum_by-cons ticks_of op (take_while p later))
    ]

unheard_request : (tester other : ℕ) (bytes : RequestBytes) (later : History) → unheard tester (ops.Request other bytes ∷ later) ≡ cond (nat_eq other tester) 0 (unheard tester later)
unheard_request tester other bytes later = unheard-cons tester (ops.Request other bytes) later ∙ ap (λ n. cond (nat_eq other tester) 0 n) (omega arith)

unheard_idle : (tester : ℕ) (op : Op) (later : History) → is_from tester op ≡ false → ticks_of op ≡ 0 → unheard tester (op ∷ later) ≡ unheard tester later
unheard_idle tester op later other still = unheard-cons tester op later ∙ rw (other, still) (omega arith)

silence_unheard : (tester : ℕ) (bytes : RequestBytes) (earlier later : History) → silence tester (later ++ ops.Request tester bytes ∷ earlier) ≡ unheard tester later
silence_unheard tester bytes earlier [] = rw (eq-eqb tester tester refl) refl
silence_unheard tester bytes earlier (ops.Tick ticks ∷ later) =
    let before = silence_unheard tester bytes earlier later in
    let more : unheard tester (ops.Tick ticks ∷ later) ≡ ticks + unheard tester later = unheard-cons tester (ops.Tick ticks) later in
    omega (arith, before, more)
silence_unheard tester bytes earlier (ops.Request other sent ∷ later) =
    let before = silence_unheard tester bytes earlier later in
    ap (λ n. cond (nat_eq other tester) 0 n) before ∙ sym (unheard_request tester other sent later)
silence_unheard tester bytes earlier (op ∷ later) = silence_unheard tester bytes earlier later ∙ sym (unheard_idle tester op later refl refl)

-- A tester that stays in its session was heard less than 500 ticks ago.
heard_lately : (tester : ℕ) (later : History) → StaysInSession tester later → unheard tester later < 500
heard_lately tester [] stays = omega arith
heard_lately tester (op ∷ later) stays = stays.1

-- ---- the extended session

module _ (tester : ℕ) where
  -- A request of the tester for no session.
  no_request : (mine : Bool) (bytes : RequestBytes) → (mine && (asks_session 0x01 bytes.items || asks_session 0x03 bytes.items)) ≡ false →
      cond mine (session_asked (asked false bytes.items)) None ≡ None
  no_request false bytes e = refl
  no_request true bytes e = let parts = or_parts (asks_session 0x01 bytes.items) (asks_session 0x03 bytes.items) e in session_bytes bytes.items ∙ rw (parts.0, parts.1) refl

  stays_extended : (bytes : RequestBytes) (earlier later : History) → asks_session 0x03 bytes.items ≡ true → StaysInSession tester later →
      is_extended tester (later ++ ops.Request tester bytes ∷ earlier) ≡ true
  stays_extended bytes earlier [] extended stays = rw (eq-eqb tester tester refl, session_bytes bytes.items, extended) refl
  stays_extended bytes earlier (ops.Tick ticks ∷ later) extended stays =
      let silent = silence_unheard tester bytes earlier (ops.Tick ticks ∷ later) in
      let short : nat_le 500 (silence tester (later ++ ops.Request tester bytes ∷ earlier) + ticks) ≡ false = lt-leb _ _ (omega (arith, silent, stays.1)) in
      rw short (stays_extended bytes earlier later extended stays.2)
  stays_extended bytes earlier (ops.Request other sent ∷ later) extended stays =
      rw (no_request (nat_eq other tester) sent stays.0) (stays_extended bytes earlier later extended stays.2)
  stays_extended bytes earlier (op ∷ later) extended stays = stays_extended bytes earlier later extended stays.2

  -- One call more, in which the tester stays.
  one_more_call : (op : Op) (past : History) → is_session_request tester op ≡ false → ((later : History) → unheard tester later < 500 → silence tester past ≡ unheard tester later → unheard tester (op ∷ later) < 500) →
      AskedForExtended tester past → AskedForExtended tester (op ∷ past)
  one_more_call op past none short asked = record {
    later = op ∷ asked.later;
    bytes = asked.bytes;
    earlier = asked.earlier;
    is = ap (λ calls. op ∷ calls) asked.is;
    extended = asked.extended;
    stays = (none, short asked.later (heard_lately tester asked.later asked.stays) (ap (silence tester) asked.is ∙ silence_unheard tester asked.bytes asked.earlier asked.later), asked.stays);
  }

  -- One that is no request and lets no time go by.
  idle_call : (op : Op) (past : History) → is_session_request tester op ≡ false → is_from tester op ≡ false → ticks_of op ≡ 0 → AskedForExtended tester past → AskedForExtended tester (op ∷ past)
  idle_call op past none other still = one_more_call op past none (λ later heard silent.
      let more = unheard_idle tester op later other still in omega (arith, heard, more))

  asked_by : (other : ℕ) (bytes : RequestBytes) (past : History) (mine : Bool) → nat_eq other tester ≡ mine → (is_extended tester past ≡ true → AskedForExtended tester past) →
      unwrap_or (cond mine (session_asked (asked false bytes.items)) None) (is_extended tester past) ≡ true → AskedForExtended tester (ops.Request other bytes ∷ past)
  asked_by other bytes past false is before e =
      one_more_call (ops.Request other bytes) past (rw is refl)
      (λ later heard silent. let more = unheard_request tester other bytes later ∙ ap (λ b. cond b 0 (unheard tester later)) is in omega (arith, heard, more)) (before e)
  asked_by other bytes past true is before e =
      own_request (session_asked (asked false bytes.items)) refl e
    where
      own_request : (session : Option Bool) → session_asked (asked false bytes.items) ≡ session → unwrap_or session (is_extended tester past) ≡ true → AskedForExtended tester (ops.Request other bytes ∷ past)
      own_request (Some true) at e = record {
        later = [];
        bytes = bytes;
        earlier = past;
        is = ap (λ sender. ops.Request sender bytes ∷ past) (eqb-true other tester is);
        extended = high_from (asks_session 0x03 bytes.items) (asks_session 0x01 bytes.items) (sym (session_bytes bytes.items) ∙ at);
        stays = tt;
      }
      own_request (Some false) at e = absurd (cc)
      own_request None at e =
          one_more_call (ops.Request other bytes) past
          (rw is (none_from (asks_session 0x03 bytes.items) (asks_session 0x01 bytes.items) (sym (session_bytes bytes.items) ∙ at)))
          (λ later heard silent. let more = unheard_request tester other bytes later ∙ ap (λ b. cond b 0 (unheard tester later)) is in omega (arith, more)) (before e)

  ticked_by : (ticks : ℕ) (past : History) (ends : Bool) → nat_le 500 (silence tester past + ticks) ≡ ends → (is_extended tester past ≡ true → AskedForExtended tester past) →
      unwrap_or (cond ends (Some false) None) (is_extended tester past) ≡ true → AskedForExtended tester (ops.Tick ticks ∷ past)
  ticked_by ticks past true is before e = absurd (cc)
  ticked_by ticks past false is before e =
      one_more_call (ops.Tick ticks) past refl
      (λ later heard silent. let more : unheard tester (ops.Tick ticks ∷ later) ≡ ticks + unheard tester later = unheard-cons tester (ops.Tick ticks) later in
      let short = leb-false _ _ is in omega (arith, more, silent, short)) (before e)

  extended_from : (past : History) → is_extended tester past ≡ true → AskedForExtended tester past
  extended_from [] e = absurd (cc)
  extended_from (ops.Tick ticks ∷ past) e = ticked_by ticks past (nat_le 500 (silence tester past + ticks)) refl (extended_from past) e
  extended_from (ops.Request other bytes ∷ past) e = asked_by other bytes past (nat_eq other tester) refl (extended_from past) e
  extended_from (op ∷ past) e = idle_call op past refl refl refl (extended_from past e)

pub extended_where_asked : ExtendedWhereAsked
extended_where_asked tester past = (extended_from tester past, λ asked. ap (is_extended tester) asked.is ∙ stays_extended tester asked.bytes asked.earlier asked.later asked.extended asked.stays)
