-- Which status bytes a call may change: none, that of a report's event alone, or any.
use Rattle.std.proofs.Common.{◌≡◌, ◌≢◌, ◌∙◌, ◌++◌, ℕ, zero, suc, ◌+◌, ◌<◌, nat_eq, nat_lt, Bool, true, false, List, [], ◌∷◌, length, map, get_or, set, take, drop, Option, Some, None, refl, sym, ap, subst, arith, inl, inr, eq-eqb}
use Rattle.std.specs.Prelude.{◌⊎◌}
use Rattle.std.specs.List.{FoldsTo, refill}
use Rattle.std.proofs.lemmas.Bool.{cases_Bool, ne_eqb}
use Rattle.std.proofs.lemmas.List.{ext_get_or, get_or-map, length-map, length-take, drop_more, take_more, get_or_at, set_at, append_assoc}
use Rattle.flt_config.specs.declared.persist.EventState.{EventState}
use Rattle.flt_model.specs.declared.call.Op.{Op}
use Rattle.flt_model.specs.declared.call.Op.TheVariants as ops
use Rattle.flt_model.specs.declared.call.Report.{Report}
use Rattle.flt_model.specs.declared.call.Qualified.{Qualified}
use Rattle.flt_model.specs.declared.call.Qualified.TheVariants as results
use Rattle.flt_model.specs.declared.status.Status.{Status}
use Rattle.flt_model.specs.Start.{Start, History, count, event_of, base_of}
use Rattle.flt_model.specs.Byte.{is_bit_set}
use Rattle.flt_model.specs.Durable.{below, state_at}
use Rattle.flt_model.specs.Entry.{holders, has_entry, worst, rank_of, gives_way}
use Rattle.flt_model.specs.Happening.{counts_report, signals}
use Rattle.flt_model.specs.Debounce.{Reported}
use Rattle.flt_model.specs.Mark.{Mark, Past, Trace, Of, marks_of}
use Rattle.flt_model.specs.Mark.Mark.{Failed, Passed, Displaced, Added, Refused}
use Rattle.flt_model.specs.Status.{durable, status, test_failed, test_failed_row}
use Rattle.flt_model.specs.Trace.{trace, event_part, with_marks, with_result, result_of, with_failed, stored, added, added_in_full, added_for}
use Rattle.flt_model.proofs.Common.{length_below, at_below, refill-whole}
use Rattle.flt_model.proofs.StatusLaws.{byte_tells_bits}
use Rattle.flt_dem.proofs.OrderLemmas.{in_order-none, in_order-one}
use Rattle.flt_dem.proofs.PartLemmas.{other_report}
use Rattle.flt_notify.specs.Changes.{MarksNone, changes_from, statuses, statuses_after}

-- ---- the marks of a report

module _ (life : Start) (event : ℕ) where
  -- The last test of the event failed, by the marks of all.
  abbrev pub failed_by : Trace → Bool
  failed_by marks = test_failed (base_of life event) (marks_of event marks)

  -- The last test of the event failed, and did not before.
  abbrev pub HasEntered : Trace → Trace → Type 0
  HasEntered old new = (failed_by old ≡ false) × (failed_by new ≡ true)

  -- A mark that is no test leaves that as it is.
  after_mark : (other : ℕ) (mark : Mark) (sent : List ℕ) (marks : Trace) → ((past : Past) → test_failed_row past mark ≡ None) → failed_by marks ≡ true → failed_by (Of other mark sent ∷ marks) ≡ true
  after_mark other mark sent marks no_test failed =
      elim (cases_Bool (nat_eq other event)) [
        | inl same ↦ rw same (rw (no_test (marks_of event marks)) failed)
        | inr apart ↦ rw apart failed
      ]

  failed_for : (sent : List ℕ) (worst : ℕ) (gives : Bool) (marks : Trace) → failed_by marks ≡ true → failed_by (added_for life sent event worst gives marks) ≡ true
  failed_for sent worst true marks failed =
      after_mark event Added sent (Of worst Displaced sent ∷ marks) (λ past. refl) (after_mark worst Displaced sent marks (λ past. refl) failed)
  failed_for sent worst false marks failed = after_mark event Refused sent marks (λ past. refl) failed

  failed_in_full : (sent : List ℕ) (found : Option ℕ) (marks : Trace) → failed_by marks ≡ true → failed_by (added_in_full life sent event found marks) ≡ true
  failed_in_full sent None marks failed = after_mark event Refused sent marks (λ past. refl) failed
  failed_in_full sent (Some worst) marks failed = failed_for sent worst (gives_way (rank_of life marks worst) (event_of life event).priority) marks failed

  failed_added : (sent : List ℕ) (room : Bool) (marks : Trace) → failed_by marks ≡ true → failed_by (added life sent event room marks) ≡ true
  failed_added sent true marks failed = after_mark event Added sent marks (λ past. refl) failed
  failed_added sent false marks failed = failed_in_full sent (worst (rank_of life marks) (holders life marks)) marks failed

  failed_stored : (sent : List ℕ) (held : Bool) (marks : Trace) → failed_by marks ≡ true → failed_by (stored life sent event held marks) ≡ true
  failed_stored sent true marks failed = failed
  failed_stored sent false marks failed = failed_added sent (nat_lt (length (holders life marks)) life.config.memory) marks failed

  -- A failure is a failed test.
  fails : (sent : List ℕ) (marks : Trace) → failed_by (Of event Failed sent ∷ marks) ≡ true
  fails sent marks = rw (eq-eqb event event refl) refl

  module _ (other : ℕ) (ne : other ≢ event) where
    -- The other event has the marks that it had, or the event entered.
    abbrev IsLeft : Trace → Trace → Type 0
    IsLeft old new = (marks_of other new ≡ marks_of other old) ⊎ HasEntered old new

    unmarked : (mark : Mark) (sent : List ℕ) (marks : Trace) → marks_of other (Of event mark sent ∷ marks) ≡ marks_of other marks
    unmarked mark sent marks = rw (ne_eqb event other (λ same. ne (sym same))) refl

    left_by_failure : (sent : List ℕ) (marks : Trace) → IsLeft marks (with_failed life sent event marks)
    left_by_failure sent marks =
        let longer = Of event Failed sent ∷ marks in
        elim (cases_Bool (failed_by marks)) [
          | inl failed ↦ inl (rw failed (unmarked Failed sent marks))
          | inr passed ↦ inr (passed, rw passed (failed_stored sent (has_entry life event longer) longer (fails sent marks)))
        ]

    left_by_result : (sent : List ℕ) (result : Option Qualified) (marks : Trace) → IsLeft marks (with_result life sent event result marks)
    left_by_result sent None marks = inl refl
    left_by_result sent (Some results.Passed) marks = inl (unmarked Passed sent marks)
    left_by_result sent (Some results.Failed) marks = left_by_failure sent marks

    left_by_part : (past : History) (report : Report) (marks : Trace) → IsLeft marks (event_part life past (ops.Report event report) event marks)
    left_by_part past report marks =
        rw (eq-eqb event event refl)
        (elim (cases_Bool (counts_report life event past)) [
          | inl counts ↦ rw counts (left_by_result (signals past) (result_of life event past (Reported report)) marks)
          | inr ignored ↦ rw ignored (inl refl)
        ])

    left_by_report : (past : History) (report : Report) → event < count life → IsLeft (trace life past) (trace life (ops.Report event report ∷ past))
    left_by_report past report within =
        let op = ops.Report event report in
        let marks = trace life past in
        let one : trace life (op ∷ past) ≡ event_part life past op event marks =
        in_order-one (event_part life past op) event (count life) marks within (λ n before apart. ap (λ h. with_marks life n past h before) (other_report life past event n report apart)) in
        subst (IsLeft marks) (sym one) (left_by_part past report marks)

-- ---- the bytes

-- There is a byte for each event.
pub length_bytes : (life : Start) (past : History) → length (statuses_after life past) ≡ count life
length_bytes life past =
    let marks = trace life past in
    length-map (map (state_at life marks) (below (count life))) (λ (state : EventState). state.status) ∙ length-map (below (count life)) (state_at life marks) ∙ length_below (count life)

-- That of an event is as its marks say.
byte_is : (life : Start) (past : History) (event : ℕ) → event < count life → get_or (statuses_after life past) event 0 ≡ (state_at life (trace life past) event).status
byte_is life past event within =
    let marks = trace life past in
    let numbers = below (count life) in
    let states = map (state_at life marks) numbers in
    let state = state_at life marks event in
    let as_many : length numbers ≡ count life = length_below (count life) in
    let of_each : length states ≡ length numbers = length-map numbers (state_at life marks) in
    get_or-map (λ (x : EventState). x.status) states event state 0 (omega (arith, within, as_many, of_each))
    ∙ ap (λ (x : EventState). x.status)
    (get_or-map (state_at life marks) numbers event 0 state (omega (arith, within, as_many)) ∙ ap (state_at life marks) (at_below (count life) event 0 within))

-- Its first bit says how the last test ended.
bit_is : (life : Start) (past : History) (event : ℕ) → event < count life → is_bit_set (get_or (statuses_after life past) event 0) 0 ≡ failed_by life event (trace life past)
bit_is life past event within =
    ap (λ byte. is_bit_set byte 0) (byte_is life past event within)
    ∙ ap (λ (s : Status). s.test_failed) (byte_tells_bits (status (base_of life event) (event_of life event) (marks_of event (trace life past))))

-- An event with the marks that it had has the byte that it had.
same_byte : (life : Start) (past later : History) (other : ℕ) → other < count life → marks_of other (trace life later) ≡ marks_of other (trace life past)
    → get_or (statuses_after life later) other 0 ≡ get_or (statuses_after life past) other 0
same_byte life past later other within same =
    byte_is life later other within
    ∙ ap (λ marks. (durable (base_of life other) (event_of life other) marks).status) same
    ∙ sym (byte_is life past other within)

-- ---- the changes

none_changed : (place event : ℕ) (bytes : List ℕ) → changes_from place event bytes bytes ≡ []
none_changed place event [] = refl
none_changed place event (byte ∷ bytes) = rw (eq-eqb byte byte refl) (none_changed place (suc event) bytes)

-- If all bytes but one are the same, the changes are that of the one.
one_changed : (place from event : ℕ) (befores afters : List ℕ) → length afters ≡ length befores → event < length befores
    → ((i : ℕ) → i < length befores → i ≢ event → get_or afters i 0 ≡ get_or befores i 0)
    → changes_from place from befores afters ≡ changes_from place (from + event) (get_or befores event 0 ∷ []) (get_or afters event 0 ∷ [])
one_changed place from event [] afters as_many within others = absurd (omega (arith, within))
one_changed place from event (before ∷ befores) [] as_many within others = absurd (omega (arith, as_many))
one_changed place from zero (before ∷ befores) (after ∷ afters) as_many within others =
    let rest : afters ≡ befores =
    ext_get_or 0 afters befores (omega (arith, as_many)) (λ i less. others (suc i) (omega (arith, less, as_many)) (λ same. absurd (omega (arith, same)))) in
    let here : from + 0 ≡ from = omega arith in
    rw (here, rest)
    (elim (cases_Bool (nat_eq before after)) [
      | inl same ↦ rw same (none_changed place (suc from) befores)
      | inr apart ↦ rw apart (ap (λ made. record { place = place; event = from; before = before; after = after } ∷ made) (none_changed place (suc from) befores))
    ])
one_changed place from (suc event) (before ∷ befores) (after ∷ afters) as_many within others =
    let first : after ≡ before = others 0 (omega arith) (λ same. absurd (omega (arith, same))) in
    let here : suc from + event ≡ from + suc event = omega arith in
    rw (eq-eqb before after (sym first))
    (one_changed place (suc from) event befores afters (omega (arith, as_many)) (omega (arith, within))
    (λ i less apart. others (suc i) (omega (arith, less)) (λ same. apart (omega (arith, same))))
    ∙ ap (λ n. changes_from place n (get_or befores event 0 ∷ []) (get_or afters event 0 ∷ [])) here)

one_set : (event : ℕ) (befores afters : List ℕ) → length afters ≡ length befores → event < length befores
    → ((i : ℕ) → i < length befores → i ≢ event → get_or afters i 0 ≡ get_or befores i 0) → set befores event (get_or afters event 0) ≡ afters
one_set event [] afters as_many within others = absurd (omega (arith, within))
one_set event (before ∷ befores) [] as_many within others = absurd (omega (arith, as_many))
one_set zero (before ∷ befores) (after ∷ afters) as_many within others =
    ap (λ rest. after ∷ rest) (ext_get_or 0 befores afters (omega (arith, as_many)) (λ i less. sym (others (suc i) (omega (arith, less)) (λ same. absurd (omega (arith, same))))))
one_set (suc event) (before ∷ befores) (after ∷ afters) as_many within others =
    let first : before ≡ after = sym (others 0 (omega arith) (λ same. absurd (omega (arith, same)))) in
    rw first (ap (λ rest. after ∷ rest) (one_set event befores afters (omega (arith, as_many)) (omega (arith, within))
    (λ i less apart. others (suc i) (omega (arith, less)) (λ same. apart (omega (arith, same))))))

-- ---- by call

-- What a report whose event did not enter changes: the byte of its event, if any.
pub record ChangesOne (place event : ℕ) (befores afters : List ℕ) : Type 0 where
  pub changes : changes_from place 0 befores afters ≡ changes_from place event (get_or befores event 0 ∷ []) (get_or afters event 0 ∷ [])
  pub noted : set befores event (get_or afters event 0) ≡ afters

by_report : (life : Start) (past : History) (event : ℕ) (report : Report) (place : ℕ) → event < count life
    → let befores = statuses_after life past in let afters = statuses_after life (ops.Report event report ∷ past) in
    ((is_bit_set (get_or befores event 0) 0 ≡ false) × (is_bit_set (get_or afters event 0) 0 ≡ true) → ⊥)
    → ChangesOne place event befores afters
by_report life past event report place within outside =
    let later = ops.Report event report ∷ past in
    let befores = statuses_after life past in
    let afters = statuses_after life later in
    let as_many : length afters ≡ length befores = length_bytes life later ∙ sym (length_bytes life past) in
    let inside : event < length befores = omega (arith, within, length_bytes life past) in
    let first : 0 + event ≡ event = omega arith in
    let others : (i : ℕ) → i < length befores → i ≢ event → get_or afters i 0 ≡ get_or befores i 0 = λ i less apart.
    let there : i < count life = omega (arith, less, length_bytes life past) in
    elim (left_by_report life event i apart past report within) [
      | inl same ↦ same_byte life past later i there same
      | inr entered ↦ absurd (outside (bit_is life past event within ∙ entered.0, bit_is life later event within ∙ entered.1))
    ] in
    record {
      changes = one_changed place 0 event befores afters as_many inside others
          ∙ ap (λ n. changes_from place n (get_or befores event 0 ∷ []) (get_or afters event 0 ∷ [])) first;
      noted = one_set event befores afters as_many inside others;
    }

pub report_changes_one : (life : Start) (past : History) (op : Op) (event : ℕ) (report : Report) (place : ℕ) → op ≡ ops.Report event report → event < count life
    → let befores = statuses_after life past in let afters = statuses_after life (op ∷ past) in
    ((is_bit_set (get_or befores event 0) 0 ≡ false) × (is_bit_set (get_or afters event 0) 0 ≡ true) → ⊥)
    → ChangesOne place event befores afters
report_changes_one life past op event report place is within =
    subst (λ op. let afters = statuses_after life (op ∷ past) in
    ((is_bit_set (get_or (statuses_after life past) event 0) 0 ≡ false) × (is_bit_set (get_or afters event 0) 0 ≡ true) → ⊥)
    → ChangesOne place event (statuses_after life past) afters) (sym is) (by_report life past event report place within)

-- A call that makes no mark leaves the marks.
unmarked_trace : (life : Start) (past : History) (op : Op) → MarksNone op → trace life (op ∷ past) ≡ trace life past
unmarked_trace life past (ops.Signal index value) none = in_order-none (event_part life past (ops.Signal index value)) (count life) (trace life past) (λ event before within. refl)
unmarked_trace life past (ops.Enable condition fulfilled) none = in_order-none (event_part life past (ops.Enable condition fulfilled)) (count life) (trace life past) (λ event before within. refl)
unmarked_trace life past (ops.Show event) none = in_order-none (event_part life past (ops.Show event)) (count life) (trace life past) (λ event before within. refl)
unmarked_trace life past ops.Snapshot none = in_order-none (event_part life past ops.Snapshot) (count life) (trace life past) (λ event before within. refl)
unmarked_trace life past (ops.Saved generation) none = in_order-none (event_part life past (ops.Saved generation)) (count life) (trace life past) (λ event before within. refl)
unmarked_trace life past (ops.Report event report) none = absurd none
unmarked_trace life past (ops.Tick ticks) none = absurd none
unmarked_trace life past (ops.Cycle cycle) none = absurd none
unmarked_trace life past (ops.Request tester bytes) none = absurd none

-- It changes no byte.
pub unmarked_changes_none : (life : Start) (past : History) (op : Op) → MarksNone op → statuses_after life (op ∷ past) ≡ statuses_after life past
unmarked_changes_none life past op none =
    ap (λ marks. map (λ (state : EventState). state.status) (map (state_at life marks) (below (count life)))) (unmarked_trace life past op none)

pub no_changes : (place : ℕ) (bytes : List ℕ) → changes_from place 0 bytes bytes ≡ []
no_changes place bytes = none_changed place 0 bytes

-- The bytes after a call, written over those before it.
pub refilled : (life : Start) (past later : History) (old now : List ℕ) → old ≡ statuses_after life past → now ≡ statuses_after life later
    → refill (length old) old now ≡ statuses_after life later
refilled life past later old now before after =
    refill-whole old now (ap length after ∙ length_bytes life later ∙ sym (length_bytes life past) ∙ sym (ap length before)) ∙ after

-- ---- in a loop over the events

-- The changes of the first event, and those of the others.
pub changes_first : (place event before after : ℕ) (befores afters : List ℕ)
    → changes_from place event (before ∷ befores) (after ∷ afters) ≡ changes_from place event (before ∷ []) (after ∷ []) ++ changes_from place (suc event) befores afters
changes_first place event before after befores afters =
    elim (cases_Bool (nat_eq before after)) [ inl same ↦ rw same refl | inr apart ↦ rw apart refl ]

-- What folds over two lists, one after the other.
pub folds_append : {P A : Type 0} (R : P → A → P → Type 0) (first : P) (xs ys : List A) (middle last : P) → FoldsTo R first xs middle → FoldsTo R middle ys last → FoldsTo R first (xs ++ ys) last
folds_append R first [] ys middle last before after = subst (λ p. FoldsTo R p ys last) (sym before) after
folds_append R first (x ∷ xs) ys middle last before after = (before.0, before.1, folds_append R before.0 xs ys middle last before.2 after)

pub changes_more : (place event : ℕ) (befores : List ℕ) (states : List EventState) (d : EventState) → event < length befores → length befores ≡ length states
    → changes_from place event (drop event befores) (statuses (drop event states))
    ≡ changes_from place event (get_or befores event 0 ∷ []) ((get_or states event d).status ∷ [])
    ++ changes_from place (event + 1) (drop (event + 1) befores) (statuses (drop (event + 1) states))
changes_more place event befores states d within as_many =
    let before = drop_more befores event 0 within in
    let after = drop_more states event d (omega (arith, within, as_many)) in
    let first = changes_from place event (get_or befores event 0 ∷ []) ((get_or states event d).status ∷ []) in
    let next : suc event ≡ event + 1 = omega arith in
    (λ i. changes_from place event (before i) (statuses (after i)))
    ∙ changes_first place event (get_or befores event 0) (get_or states event d).status (drop (event + 1) befores) (statuses (drop (event + 1) states))
    ∙ ap (λ n. first ++ changes_from place n (drop (event + 1) befores) (statuses (drop (event + 1) states))) next

-- The byte of one event more was written: what was there, and what is there then.
pub record WritesOne (befores afters bytes : List ℕ) (event : ℕ) : Type 0 where
  pub read : get_or bytes event 0 ≡ get_or befores event 0
  pub written : set bytes event (get_or afters event 0) ≡ take (event + 1) afters ++ drop (event + 1) befores

pub writes_one : (befores afters bytes : List ℕ) (event : ℕ) → event < length befores → length befores ≡ length afters → bytes ≡ take event afters ++ drop event befores
    → WritesOne befores afters bytes event
writes_one befores afters bytes event within as_many is =
    let front = take event afters in
    let byte = get_or afters event 0 in
    let rest = drop (event + 1) befores in
    let long : length front ≡ event = omega (arith, length-take event afters, within, as_many) in
    let parts : bytes ≡ front ++ get_or befores event 0 ∷ rest = is ∙ ap (λ l. front ++ l) (drop_more befores event 0 within) in
    record {
      read = ap (λ l. get_or l event 0) parts ∙ get_or_at front _ _ 0 event long;
      written = ap (λ l. set l event byte) parts ∙ set_at front _ _ byte event long ∙ sym (append_assoc front (byte ∷ []) _)
          ∙ ap (λ l. l ++ rest) (sym (take_more afters event 0 (omega (arith, within, as_many))));
    }
