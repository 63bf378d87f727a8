-- The check of a configuration reports its first fault, and none exactly if it is valid.
use Rattle.std.proofs.Common.{◌≡◌, ◌∙◌, ℕ, ◌+◌, ◌<◌, ◌≤◌, nat_lt, List, [], ◌∷◌, ◌++◌, length, take, drop, get_or, position, Option, Some, None, Result, Ok, Err, true, false, Bool, refl, sym, ap, subst, arith, AllPairs, eqb-true, eq-eqb, drop-cons, length-take, append_assoc, append-nil, add-one, length-append, ◌==◌, inl, inr}
use Rattle.std.specs.Prelude.{◌⊎◌}
use Rattle.std.specs.List.{find}
use Rattle.std.proofs.Math.Seq.{take-append_seam, get_or-append_seam}
use Rattle.std.proofs.lemmas.Bool.{ltb-true, ltb-false}
use Rattle.std.proofs.lemmas.List.{take_more, get_or_append_left, drop_all}
use Rattle.std.proofs.lemmas.List.Quantifiers.{position-Some, all_pairs_push}
use Rattle.flt_config.specs.declared.setting.Setting.{Setting}
use Rattle.flt_config.specs.declared.config.Config.{Config}
use Rattle.flt_config.specs.declared.config.EventCfg.{EventCfg}
use Rattle.flt_config.specs.declared.config.CfgFault.{CfgFault}
use Rattle.flt_config.specs.declared.config.CfgFault.TheVariants.{Range, DtcTwice, NoRoom}
use Rattle.flt_config.specs.Ranges.{settings, ranges_result, fault_of_range, is_outside}
use Rattle.flt_config.specs.Validity.{HasOtherDtc, has_dtc, IsValid, needed_pages}
use Rattle.flt_config.specs.Check.{and_then, fault_of_twice, fault_of_room, distinct_behind, distinct_result, room_result, unless_faulty, check_of}
use Rattle.flt_config.specs.Laws.{IsFirstTwice, IsFirstFault, ToldFaultIsFirst, AcceptedWhereValid}
use Rattle.flt_config.proofs.DistinctLemmas.{position-None}
use Rattle.flt_config.proofs.InRange.{valid}
use Rattle.flt_config.proofs.WithinRange.{settings_ok}

-- ---- one more event

pub distinct_behind-step : (events : List EventCfg) (n : ℕ) (d : EventCfg) → n < length events
    → distinct_behind (take n events) (drop n events)
    ≡ and_then (fault_of_twice (position (has_dtc (get_or events n d).dtc) (take n events)) n) (distinct_behind (take (n + 1) events) (drop (n + 1) events))
unfolding distinct_behind
distinct_behind-step events n d h =
    let long : length (take n events) ≡ n = omega (arith, length-take n events) in
    rw (drop-cons events n d h) (rw (take_more events n d h) (rw long (rw add-one refl)))

-- An event whose DTC an event before it has.
pub distinct_behind-twice : (events : List EventCfg) (n first : ℕ) (event : EventCfg) → n < length events → event ≡ get_or events n event
    → position (has_dtc event.dtc) (take n events) ≡ Some first → distinct_behind (take n events) (drop n events) ≡ Err (DtcTwice first n)
distinct_behind-twice events n first event h is found =
    let same : position (has_dtc (get_or events n event).dtc) (take n events) ≡ Some first = subst (λ e. position (has_dtc e.dtc) (take n events) ≡ Some first) is found in
    distinct_behind-step events n event h
    ∙ ap (λ p. and_then (fault_of_twice p n) (distinct_behind (take (n + 1) events) (drop (n + 1) events))) same

-- An event of another DTC than those before it.
pub distinct_behind-once : (events : List EventCfg) (n : ℕ) (event : EventCfg) → n < length events → event ≡ get_or events n event
    → position (has_dtc event.dtc) (take n events) ≡ None
    → distinct_behind (take n events) (drop n events) ≡ distinct_behind (take (n + 1) events) (drop (n + 1) events)
distinct_behind-once events n event h is none =
    let same : position (has_dtc (get_or events n event).dtc) (take n events) ≡ None = subst (λ e. position (has_dtc e.dtc) (take n events) ≡ None) is none in
    distinct_behind-step events n event h
    ∙ ap (λ p. and_then (fault_of_twice p n) (distinct_behind (take (n + 1) events) (drop (n + 1) events))) same

pub distinct_behind-end : (events : List EventCfg) (n : ℕ) → length events ≤ n → distinct_behind (take n events) (drop n events) ≡ Ok tt
unfolding distinct_behind
distinct_behind-end events n h = rw (drop_all n events h) refl

-- ---- what the result for DTCs says

-- The events before and this one are still distinct.
distinct_pushed : (before : List EventCfg) (event : EventCfg) → AllPairs HasOtherDtc before → position (has_dtc event.dtc) before ≡ None
    → AllPairs HasOtherDtc (before ++ event ∷ [])
distinct_pushed before event distinct none =
    all_pairs_push HasOtherDtc before event distinct
    (λ k d within same.
    let known = position-None (has_dtc event.dtc) before k d none within in
    let equal = eq-eqb _ _ same in
    cc)

pub distinct_ok : (before events : List EventCfg) → AllPairs HasOtherDtc before → distinct_behind before events ≡ Ok tt → AllPairs HasOtherDtc (before ++ events)
unfolding distinct_behind
distinct_ok before [] distinct ok = rw append-nil distinct
distinct_ok before (event ∷ events) distinct ok =
    elim (position (has_dtc event.dtc) before) as (λ p. position (has_dtc event.dtc) before ≡ p → and_then (fault_of_twice p (length before)) (distinct_behind (before ++ event ∷ []) events) ≡ Ok tt → AllPairs HasOtherDtc (before ++ event ∷ events)) [
      | Some first ↦ λ is e. absurd (cc)
      | None ↦ λ is e. subst (λ xs. AllPairs HasOtherDtc xs) (append_assoc before (event ∷ []) events)
          (distinct_ok (before ++ event ∷ []) events (distinct_pushed before event distinct is) e)
    ] refl ok

-- The event at the seam has the DTC of the first.
first_twice : (before events : List EventCfg) (event : EventCfg) (first : ℕ) → AllPairs HasOtherDtc before → position (has_dtc event.dtc) before ≡ Some first
    → IsFirstTwice (before ++ event ∷ events) first (length before)
first_twice before events event first distinct found =
    let all = before ++ event ∷ events in
    let at : (d : EventCfg) → (first < length before) × ((get_or before first d).dtc == event.dtc ≡ true) × ((k : ℕ) → k < first → (get_or before k d).dtc == event.dtc ≡ false) =
    λ d. position-Some (has_dtc event.dtc) before first d found in
    let order : first < length before = (at event).0 in
    let seam : (d : EventCfg) → get_or all (length before) d ≡ event = λ d. get_or-append_seam before event events d in
    record {
      order = order;
      within = omega (arith, length-append before (event ∷ events));
      same = λ d. ap (λ (e : EventCfg). e.dtc) (get_or_append_left before (event ∷ events) d first order) ∙ eqb-true _ _ (at d).1 ∙ sym (ap (λ (e : EventCfg). e.dtc) (seam d));
      distinct_before = rw (take-append_seam before (event ∷ events)) distinct;
      none_before = λ k d below same.
          let under : k < length before = omega arith in
          let known = (at d).2 k below in
          let equal = eq-eqb _ _ (sym (ap (λ (e : EventCfg). e.dtc) (get_or_append_left before (event ∷ events) d k under)) ∙ same ∙ ap (λ (e : EventCfg). e.dtc) (seam d)) in
          cc;
    }

abbrev pub IsTwiceFault : List EventCfg → CfgFault → Type 0
IsTwiceFault events (DtcTwice first second) = IsFirstTwice events first second
IsTwiceFault events (Range event field value) = ⊥
IsTwiceFault events (NoRoom needed pages) = ⊥

pub distinct_err : (before events : List EventCfg) (fault : CfgFault) → AllPairs HasOtherDtc before → distinct_behind before events ≡ Err fault → IsTwiceFault (before ++ events) fault
unfolding distinct_behind
distinct_err before [] fault distinct e = absurd (cc)
distinct_err before (event ∷ events) fault distinct e =
    elim (position (has_dtc event.dtc) before) as (λ p. position (has_dtc event.dtc) before ≡ p → and_then (fault_of_twice p (length before)) (distinct_behind (before ++ event ∷ []) events) ≡ Err fault → IsTwiceFault (before ++ event ∷ events) fault) [
      | Some first ↦ λ is told.
          let which : DtcTwice first (length before) ≡ fault = cc in
          subst (λ f. IsTwiceFault (before ++ event ∷ events) f) which (first_twice before events event first distinct is)
      | None ↦ λ is told. subst (λ xs. IsTwiceFault xs fault) (append_assoc before (event ∷ []) events)
          (distinct_err (before ++ event ∷ []) events fault (distinct_pushed before event distinct is) told)
    ] refl e

-- ---- what the whole result says

-- Where nothing is refused, no part refuses.
pub record NoneRefuses (config : Config) : Type 0 where
  pub ranges : ranges_result (settings config) ≡ Ok tt
  pub distinct : distinct_result config.events.items ≡ Ok tt
  pub room : room_result config ≡ Ok tt

parts_ok : (config : Config) (ranges distinct room : Result (Unit {0}) CfgFault) → unless_faulty config (and_then ranges (and_then distinct room)) ≡ Ok config
    → (ranges ≡ Ok tt) × (distinct ≡ Ok tt) × (room ≡ Ok tt)
parts_ok config (Ok a) (Ok b) (Ok c) e = (refl, refl, refl)
parts_ok config (Ok a) (Ok b) (Err fault) e = absurd (cc)
parts_ok config (Ok a) (Err fault) room e = absurd (cc)
parts_ok config (Err fault) distinct room e = absurd (cc)

pub none_refuses : (config : Config) → check_of config ≡ Ok config → NoneRefuses config
unfolding check_of
none_refuses config e =
    let parts = parts_ok config (ranges_result (settings config)) (distinct_result config.events.items) (room_result config) e in
    record { ranges = parts.0; distinct = parts.1; room = parts.2 }

pub check_of-ok : (config : Config) → NoneRefuses config → check_of config ≡ Ok config
unfolding check_of
check_of-ok config r = rw r.ranges (rw r.distinct (rw r.room refl))

-- The first part that refuses reports the fault.
record RefusedBy (ranges distinct room : Result (Unit {0}) CfgFault) (fault : CfgFault) : Type 0 where
  pub by : (ranges ≡ Err fault) ⊎ (((ranges ≡ Ok tt) × (distinct ≡ Err fault)) ⊎ ((ranges ≡ Ok tt) × (distinct ≡ Ok tt) × (room ≡ Err fault)))

refused_by : (config : Config) (ranges distinct room : Result (Unit {0}) CfgFault) (fault : CfgFault)
    → unless_faulty config (and_then ranges (and_then distinct room)) ≡ Err fault → RefusedBy ranges distinct room fault
refused_by config (Ok a) (Ok b) (Ok c) fault e = absurd (cc)
refused_by config (Ok a) (Ok b) (Err other) fault e = record { by = inr (inr (refl, refl, cc)) }
refused_by config (Ok a) (Err other) room fault e = record { by = inr (inl (refl, cc)) }
refused_by config (Err other) distinct room fault e = record { by = inl cc }

-- A fault of the ranges is one of the ranges.
range_first : (found : Option Setting) (fault : CfgFault) (config : Config) → fault_of_range found ≡ Err fault → ranges_result (settings config) ≡ Err fault → IsFirstFault config fault
range_first None fault config e is = absurd (cc)
range_first (Some s) (Range event field value) config e is = is
range_first (Some s) (DtcTwice first second) config e is = absurd (cc)
range_first (Some s) (NoRoom needed pages) config e is = absurd (cc)

ranges_first : (config : Config) (fault : CfgFault) → ranges_result (settings config) ≡ Err fault → IsFirstFault config fault
unfolding ranges_result
ranges_first config fault e = range_first (find is_outside (settings config)) fault config e e

twice_first : (config : Config) (fault : CfgFault) → ranges_result (settings config) ≡ Ok tt → IsTwiceFault config.events.items fault → IsFirstFault config fault
twice_first config (DtcTwice first second) ok twice = (ok, twice)
twice_first config (Range event field value) ok twice = elim twice [ ]
twice_first config (NoRoom needed pages) ok twice = elim twice [ ]

no_pairs : AllPairs HasOtherDtc []
no_pairs i j d less within = absurd (omega arith)

room_first : (config : Config) (short : Bool) (fault : CfgFault) → nat_lt config.pages (needed_pages config) ≡ short
    → fault_of_room short (needed_pages config) config.pages ≡ Err fault
    → ranges_result (settings config) ≡ Ok tt → AllPairs HasOtherDtc config.events.items → IsFirstFault config fault
room_first config false fault is e ok distinct = absurd (cc)
room_first config true fault is e ok distinct =
    let which : NoRoom (needed_pages config) config.pages ≡ fault = cc in
    subst (λ f. IsFirstFault config f) which (ok, distinct, refl, refl, ltb-true config.pages (needed_pages config) is)

pub distinct_from_ok : (events : List EventCfg) → distinct_result events ≡ Ok tt → AllPairs HasOtherDtc events
distinct_from_ok events ok = distinct_ok [] events no_pairs ok

pub told_fault_is_first : ToldFaultIsFirst
unfolding check_of
told_fault_is_first config fault e =
    let parts = refused_by config (ranges_result (settings config)) (distinct_result config.events.items) (room_result config) fault e in
    elim parts.by [
      | inl ranges ↦ ranges_first config fault ranges
      | inr rest ↦ elim rest [
        | inl twice ↦ twice_first config fault twice.0 (distinct_err [] config.events.items fault no_pairs twice.1)
        | inr room ↦ room_first config (nat_lt config.pages (needed_pages config)) fault refl room.2 room.0 (distinct_from_ok config.events.items room.1)
      ]
    ]

-- ---- a configuration that is valid

room_from_ok : (config : Config) (short : Bool) → nat_lt config.pages (needed_pages config) ≡ short → fault_of_room short (needed_pages config) config.pages ≡ Ok tt
    → needed_pages config ≤ config.pages
room_from_ok config true is e = absurd (cc)
room_from_ok config false is e = ltb-false config.pages (needed_pages config) is

pub valid_from_ok : (config : Config) → ranges_result (settings config) ≡ Ok tt → distinct_result config.events.items ≡ Ok tt → room_result config ≡ Ok tt → IsValid config
valid_from_ok config ranges distinct room =
    valid config ranges (distinct_from_ok config.events.items distinct) (room_from_ok config (nat_lt config.pages (needed_pages config)) refl room)

room_ok : (config : Config) (short : Bool) → nat_lt config.pages (needed_pages config) ≡ short → needed_pages config ≤ config.pages
    → fault_of_room short (needed_pages config) config.pages ≡ Ok tt
room_ok config true is h = let less = ltb-true config.pages (needed_pages config) is in absurd (omega arith)
room_ok config false is h = refl

-- No pair of distinct events is reported.
not_twice : (events : List EventCfg) (fault : CfgFault) → AllPairs HasOtherDtc events → IsTwiceFault events fault → ⊥
not_twice [] (DtcTwice first second) distinct twice = let within = twice.within in absurd (omega arith)
not_twice (event ∷ events) (DtcTwice first second) distinct twice = distinct first second event twice.order twice.within (twice.same event)
not_twice events (Range event field value) distinct twice = twice
not_twice events (NoRoom needed pages) distinct twice = twice

distinct_result-ok : (events : List EventCfg) → AllPairs HasOtherDtc events → distinct_result events ≡ Ok tt
distinct_result-ok events distinct =
    elim (distinct_result events) as (λ r. distinct_result events ≡ r → r ≡ Ok tt)
    [ Ok done ↦ λ is. refl | Err fault ↦ λ is. absurd (not_twice events fault distinct (distinct_err [] events fault no_pairs is)) ] refl

pub accepted_where_valid : AcceptedWhereValid
accepted_where_valid config = (
  λ e. let none = none_refuses config e in valid_from_ok config none.ranges none.distinct none.room,
  λ v. check_of-ok config (record {
    ranges = settings_ok config v;
    distinct = distinct_result-ok config.events.items v.distinct;
    room = room_ok config (nat_lt config.pages (needed_pages config)) refl v.room;
  }),
)
