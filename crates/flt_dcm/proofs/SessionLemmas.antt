-- What calls make of the testers' sessions.
use Rattle.std.proofs.Common.{◌≡◌, ◌≢◌, ◌∙◌, ℕ, zero, suc, ◌+◌, ◌<◌, Bool, true, false, not, ◌||◌, nat_le, nat_lt, cond, List, [], ◌∷◌, length, map, Option, Some, None, Result, Ok, Err, arith, refl, sym, ap, subst, ⊎_elim, eq-eqb}
use Rattle.std.proofs.lemmas.Bool.{cases_eq, ne_eqb}
use Rattle.std.proofs.lemmas.Bool.Decides.{leb_tells}
use Rattle.std.specs.Prelude.{slice_set, unwrap_or}
use Rattle.std.specs.List.{list_any}
use Rattle.flt_model.specs.Start.{History}
use Rattle.flt_model.specs.Session.{silence, session_timeout, session_of, session_asked, off_of, off_asked, is_extended, holds_off, is_setting_off}
use Rattle.flt_model.specs.Request.{asked}
use Rattle.flt_model.specs.declared.call.Op.{Op}
use Rattle.flt_model.specs.declared.call.Op.TheVariants as ops
use Rattle.flt_model.specs.declared.request.Asked.{Asked}
use Rattle.flt_model.specs.declared.request.Negative.{Negative}
use Rattle.flt_model.specs.declared.request.Request.{Request}
use Rattle.flt_model.specs.declared.request.Request.TheVariants as requests
use Rattle.flt_model.proofs.Common.{slice_get-set_same, slice_get-set_other}
use Rattle.flt_model.specs.Request.{RequestBytes}
use Rattle.flt_dcm.specs.Session.{is_extended_one, has_hold, IsSilentFor, heard, after, after_asked, ticked, SessionStands}
use Rattle.flt_dcm.specs.Unit.{session_at, SessionsStand}
use Rattle.flt_dcm.specs.declared.session.Session.{Session}
use Rattle.flt_dcm.specs.declared.session.Session.TheVariants.{Default, Extended}
use Rattle.flt_dcm.proofs.AskedLemmas.{session_same}

-- ---- a tester's own request

pub heard_extended : (session : Session) → is_extended_one (heard session) ≡ is_extended_one session
heard_extended Default = refl
heard_extended (Extended holds silent) = refl

-- What a session comes to where its tester asks for this one and holds the setting off in this way, each of them maybe not.
record Follows (before : Session) (asked_for off : Option Bool) (now : Session) : Type 0 where
  extended : unwrap_or asked_for (is_extended_one before) ≡ is_extended_one now
  hold : unwrap_or (cond (is_extended_one now) off (Some false)) (has_hold before) ≡ has_hold now
  silent : IsSilentFor now 0

follows_heard : (session : Session) → Follows session None None (heard session)
follows_heard Default = record { extended = refl; hold = refl; silent = tt }
follows_heard (Extended holds silent) = record { extended = refl; hold = refl; silent = refl }

follows_after : (session : Session) (request : Request) → Follows session (session_of request) (off_of request) (after (heard session) request)
follows_after Default (requests.Session true) = record { extended = refl; hold = refl; silent = refl }
follows_after Default (requests.Session false) = record { extended = refl; hold = refl; silent = tt }
follows_after (Extended holds silent) (requests.Session true) = record { extended = refl; hold = refl; silent = refl }
follows_after (Extended holds silent) (requests.Session false) = record { extended = refl; hold = refl; silent = tt }
follows_after Default (requests.Setting on) = record { extended = refl; hold = refl; silent = tt }
follows_after (Extended holds silent) (requests.Setting on) = record { extended = refl; hold = refl; silent = refl }
follows_after session requests.Present = follows_heard session
follows_after session (requests.Clear dtc) = follows_heard session
follows_after session (requests.Count mask) = follows_heard session
follows_after session (requests.ByMask mask) = follows_heard session
follows_after session requests.Snapshots = follows_heard session
follows_after session (requests.Snapshot dtc number) = follows_heard session
follows_after session (requests.Extended dtc number) = follows_heard session
follows_after session requests.Supported = follows_heard session
follows_after session (requests.Noted sub) = follows_heard session
follows_after session requests.Counters = follows_heard session

follows_asked : (session : Session) (request : Result Asked Negative) → Follows session (session_asked request) (off_asked request) (after_asked (heard session) request)
follows_asked session (Ok request) = follows_after session request.request
follows_asked session (Err refused) = follows_heard session

module _ (past : History) (tester : ℕ) (bytes : RequestBytes) where
  own_request : (session : Session) → SessionStands tester past session →
      SessionStands tester (ops.Request tester bytes ∷ past) (after_asked (heard session) (asked (is_extended_one session) bytes.items))
  own_request session s =
      let request = asked (is_extended_one session) bytes.items in
      let own = eq-eqb tester tester refl in
      let follows = follows_asked session request in
      let extended : is_extended tester (ops.Request tester bytes ∷ past) ≡ is_extended_one (after_asked (heard session) request) =
      ap (λ b. unwrap_or (cond b (session_asked (asked false bytes.items)) None) (is_extended tester past)) own
      ∙ (λ i. unwrap_or (session_same (is_extended_one session) bytes.items i) (s.extended i))
      ∙ follows.extended in
      record {
        extended = extended;
        hold =
            ap (λ b. unwrap_or (cond b (cond (is_extended tester (ops.Request tester bytes ∷ past)) (off_asked (asked (is_extended tester past) bytes.items)) (Some false)) None) (holds_off tester past)) own
            ∙ (λ i. unwrap_or (cond (extended i) (off_asked (asked (s.extended i) bytes.items)) (Some false)) (s.hold i))
            ∙ follows.hold;
        silent = subst (λ ticks. IsSilentFor (after_asked (heard session) request) ticks) (sym (ap (λ b. cond b 0 (silence tester past)) own)) follows.silent;
      }

  other_request : (other : ℕ) (session : Session) → tester ≢ other → SessionStands other past session → SessionStands other (ops.Request tester bytes ∷ past) session
  other_request other session ne s =
      let not_own = ne_eqb tester other ne in
      record {
        extended = ap (λ b. unwrap_or (cond b (session_asked (asked false bytes.items)) None) (is_extended other past)) not_own ∙ s.extended;
        hold =
            ap (λ b. unwrap_or (cond b (cond (is_extended other (ops.Request tester bytes ∷ past)) (off_asked (asked (is_extended other past) bytes.items)) (Some false)) None) (holds_off other past)) not_own
            ∙ s.hold;
        silent = subst (λ ticks. IsSilentFor session ticks) (sym (ap (λ b. cond b 0 (silence other past)) not_own)) s.silent;
      }

  pub sessions_asked : (sessions : List Session) → tester < length sessions → SessionsStand past sessions →
      SessionsStand (ops.Request tester bytes ∷ past) (slice_set sessions tester (after_asked (heard (session_at sessions tester)) (asked (is_extended_one (session_at sessions tester)) bytes.items)))
  sessions_asked sessions within s other h =
      let new = after_asked (heard (session_at sessions tester)) (asked (is_extended_one (session_at sessions tester)) bytes.items) in
      ⊎_elim
      (λ same.
      subst (λ x. SessionStands x (ops.Request tester bytes ∷ past) (session_at (slice_set sessions tester new) x)) same
      (subst (λ session. SessionStands tester (ops.Request tester bytes ∷ past) session) (sym (ap (λ o. unwrap_or o Default) (slice_get-set_same sessions tester new within)))
      (own_request (session_at sessions tester) (s tester (subst (λ x. x < 4) (sym same) h)))))
      (λ ne.
      subst (λ session. SessionStands other (ops.Request tester bytes ∷ past) session) (sym (ap (λ o. unwrap_or o Default) (slice_get-set_other sessions tester other new ne)))
      (other_request other (session_at sessions other) ne (s other h)))
      (cases_eq tester other)

-- ---- ticks

module _ (past : History) (tester ticks : ℕ) where
  -- A session whose silent time is known.
  ticked_extended : (holds : Bool) (silent : ℕ) (late early : Bool) → nat_le session_timeout (silence tester past + ticks) ≡ late → nat_lt (silent + ticks) session_timeout ≡ early →
      early ≡ not late → SessionStands tester past (Extended holds silent) →
      SessionStands tester (ops.Tick ticks ∷ past) (cond early (Extended holds (silent + ticks)) Default)
  ticked_extended holds silent true true is_late is_early is s = absurd cc
  ticked_extended holds silent false false is_late is_early is s = absurd cc
  ticked_extended holds silent true false is_late is_early is s =
      let extended : is_extended tester (ops.Tick ticks ∷ past) ≡ false = ap (λ b. unwrap_or (cond b (Some false) None) (is_extended tester past)) is_late in
      record {
        extended = extended;
        hold = ap (λ b. unwrap_or (cond b None (Some false)) (holds_off tester past)) extended;
        silent = tt;
      }
  ticked_extended holds silent false true is_late is_early is s =
      let extended : is_extended tester (ops.Tick ticks ∷ past) ≡ true = ap (λ b. unwrap_or (cond b (Some false) None) (is_extended tester past)) is_late ∙ s.extended in
      record {
        extended = extended;
        hold = ap (λ b. unwrap_or (cond b None (Some false)) (holds_off tester past)) extended ∙ s.hold;
        silent = ap (λ n. n + ticks) s.silent;
      }

  ticked_default : (late : Bool) → nat_le session_timeout (silence tester past + ticks) ≡ late → SessionStands tester past Default → SessionStands tester (ops.Tick ticks ∷ past) Default
  ticked_default late is_late s =
      let extended : is_extended tester (ops.Tick ticks ∷ past) ≡ false =
      ap (λ b. unwrap_or (cond b (Some false) None) (is_extended tester past)) is_late ∙ ap (λ b. unwrap_or (cond late (Some false) None) b) s.extended ∙ ended late in
      record {
        extended = extended;
        hold = ap (λ b. unwrap_or (cond b None (Some false)) (holds_off tester past)) extended;
        silent = tt;
      }
    where
      ended : (test : Bool) → unwrap_or (cond test (Some false) None) false ≡ false
      ended true = refl
      ended false = refl

  late_or_early : (x : ℕ) → nat_lt x session_timeout ≡ not (nat_le session_timeout x)
  late_or_early x = ⊎_elim
      (λ late. ⊎_elim
      (λ early. absurd (omega (arith, late.1, early.1)))
      (λ not_early. not_early.0 ∙ sym (ap not late.0))
      (leb_tells (suc x) 500))
      (λ not_late. ⊎_elim
      (λ early. early.0 ∙ sym (ap not not_late.0))
      (λ not_early. absurd (omega (arith, not_late.1, not_early.1)))
      (leb_tells (suc x) 500))
      (leb_tells 500 x)

  session_ticked : (session : Session) → SessionStands tester past session → SessionStands tester (ops.Tick ticks ∷ past) (ticked ticks session)
  session_ticked Default s = ticked_default (nat_le session_timeout (silence tester past + ticks)) refl s
  session_ticked (Extended holds silent) s =
      ticked_extended holds silent (nat_le session_timeout (silence tester past + ticks)) (nat_lt (silent + ticks) session_timeout) refl refl
      (late_or_early (silent + ticks) ∙ sym (ap (λ n. not (nat_le session_timeout (n + ticks))) s.silent)) s

ticked_at : (ticks : ℕ) (sessions : List Session) (tester : ℕ) → session_at (map (ticked ticks) sessions) tester ≡ ticked ticks (session_at sessions tester)
ticked_at ticks [] tester = refl
ticked_at ticks (session ∷ sessions) zero = refl
ticked_at ticks (session ∷ sessions) (suc tester) = ticked_at ticks sessions tester

pub sessions_ticked : (past : History) (ticks : ℕ) (sessions : List Session) → SessionsStand past sessions → SessionsStand (ops.Tick ticks ∷ past) (map (ticked ticks) sessions)
sessions_ticked past ticks sessions s tester h =
    subst (λ session. SessionStands tester (ops.Tick ticks ∷ past) session) (sym (ticked_at ticks sessions tester))
    (session_ticked past tester ticks (session_at sessions tester) (s tester h))

-- ---- the other calls

-- A call of no tester, in which no time goes by.
abbrev pub IsOther : Op → Type 0
IsOther (ops.Tick ticks) = ⊥
IsOther (ops.Request tester bytes) = ⊥
IsOther _ = Unit {0}

pub sessions_kept : (past : History) (op : Op) (sessions : List Session) → IsOther op → SessionsStand past sessions → SessionsStand (op ∷ past) sessions
sessions_kept past (ops.Signal index value) sessions other s tester h = let own = s tester h in record { extended = own.extended; hold = own.hold; silent = own.silent }
sessions_kept past (ops.Enable condition fulfilled) sessions other s tester h = let own = s tester h in record { extended = own.extended; hold = own.hold; silent = own.silent }
sessions_kept past (ops.Report event report) sessions other s tester h = let own = s tester h in record { extended = own.extended; hold = own.hold; silent = own.silent }
sessions_kept past (ops.Cycle cycle) sessions other s tester h = let own = s tester h in record { extended = own.extended; hold = own.hold; silent = own.silent }
sessions_kept past (ops.Show event) sessions other s tester h = let own = s tester h in record { extended = own.extended; hold = own.hold; silent = own.silent }
sessions_kept past ops.Snapshot sessions other s tester h = let own = s tester h in record { extended = own.extended; hold = own.hold; silent = own.silent }
sessions_kept past (ops.Saved generation) sessions other s tester h = let own = s tester h in record { extended = own.extended; hold = own.hold; silent = own.silent }
sessions_kept past (ops.Tick ticks) sessions other s tester h = absurd other
sessions_kept past (ops.Request asking bytes) sessions other s tester h = absurd other

-- ---- whether the setting is off

four : (a b c d : Bool) → (a || (b || (c || (d || false)))) ≡ (a || b || c || d)
four true b c d = refl
four false true c d = refl
four false false true d = refl
four false false false true = refl
four false false false false = refl

pub off_told : (past : History) (sessions : List Session) → length sessions ≡ 4 → SessionsStand past sessions → list_any has_hold sessions ≡ is_setting_off past
off_told past [] size s = absurd (omega (arith, size))
off_told past (a ∷ []) size s = absurd (omega (arith, size))
off_told past (a ∷ b ∷ []) size s = absurd (omega (arith, size))
off_told past (a ∷ b ∷ c ∷ []) size s = absurd (omega (arith, size))
off_told past (a ∷ b ∷ c ∷ d ∷ []) size s =
    four (has_hold a) (has_hold b) (has_hold c) (has_hold d)
    ∙ (λ i. sym ((s 0 (omega arith)).hold) i || sym ((s 1 (omega arith)).hold) i || sym ((s 2 (omega arith)).hold) i || sym ((s 3 (omega arith)).hold) i)
off_told past (a ∷ b ∷ c ∷ d ∷ e ∷ more) size s = absurd (omega (arith, size))
