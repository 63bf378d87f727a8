-- One block more that is read, and what it leaves of the blocks before it.
use Rattle.std.proofs.Common.{◌≡◌, ◌≢◌, ℕ, ◌+◌, ◌-◌, ◌*◌, ◌<◌, ◌≤◌, ◌==◌, List, length, refl, sym, ◌∙◌, ap, subst, arith, inl, inr, set, length-set}
use Rattle.std.specs.Prelude.{slice_get, nat_lt, Option, Some, None, Result, Ok, Err, IsTrue, IsFalse, if◌then◌else◌}
use Rattle.std.proofs.lemmas.Bool.{cases_lt, cases_eq, eq-eqb, ne_eqb, lt-ltb, le-ltb}
use Rattle.std.proofs.lemmas.List.{get_or-set_other}
use Rattle.std.proofs.lemmas.Option.{slice_get-get_or, slice_get_past}
use Rattle.flt_flash.specs.Content.{Content, missing, invalid, bytes}
use Rattle.flt_config.specs.declared.config.Config.{Config}
use Rattle.flt_config.specs.declared.persist.Persist.{Persist}
use Rattle.flt_config.specs.declared.persist.EntryState.{EntryState}
use Rattle.flt_config.specs.Durable.{start_state}
use Rattle.flt_store_model.specs.declared.commit.Commit.{Commit}
use Rattle.flt_store_model.specs.declared.part.Part.{Part}
use Rattle.flt_store_model.specs.declared.part.Part.TheVariants.{Summary, States, Entry}
use Rattle.flt_store_model.specs.Layout.{number_of, part_of_block, is_used, index_in, later_states_id, first_later_event, states_per_block}
use Rattle.flt_store_model.specs.Form.{summary_bytes, place_bytes, part_bytes}
use Rattle.flt_store_model.specs.Reading.{with_states, entry_from, with_part, taken}
use Rattle.flt_store_model.specs.Holding.{Fault, ◌>>=◌, or_damaged, with_content, with_named}
use Rattle.flt_store_model.proofs.Choices.{chosen, not_chosen}
use Rattle.flt_store_model.proofs.States.{state_kept, same_states}

-- A value after two steps was one after the first.
pub both_ok : {A B : Type 0} (first : Result A Fault) (next : A → Result B Fault) (last : B) → (first >>= next) ≡ Ok last → (value : A) × (first ≡ Ok value) × (next value ≡ Ok last)
both_ok (Ok value) next last is = (value, refl, is)
both_ok (Err fault) next last is = absurd (cc)

-- What the block that a commit names gave.
pub record Gave (c : Config) (value : ℕ → Content) (commit : Commit) (id : ℕ) (p q : Persist) : Type 0 where
  pub used : IsTrue (is_used c id) → (held : List ℕ) × (value (number_of id (index_in commit id)) ≡ bytes held) × (taken c (part_of_block id) held p ≡ Some q)
  pub unused : IsFalse (is_used c id) → q ≡ p

state_given : (id : ℕ) (o : Option Persist) (q : Persist) → or_damaged id o ≡ Ok q → o ≡ Some q
state_given id None q is = absurd (cc)
state_given id (Some p) q is = cc

content_given : (c : Config) (id : ℕ) (content : Content) (p q : Persist) → with_content c id content p ≡ Ok q → (held : List ℕ) × (content ≡ bytes held) × (taken c (part_of_block id) held p ≡ Some q)
content_given c id missing p q is = absurd (cc)
content_given c id invalid p q is = absurd (cc)
content_given c id (bytes held) p q is = (held, refl, state_given id (taken c (part_of_block id) held p) q is)

pub gave : (c : Config) (value : ℕ → Content) (commit : Commit) (id : ℕ) (p q : Persist) → with_named c value commit id p ≡ Ok q → Gave c value commit id p q
gave c value commit id p q is = record {
  used = λ used. content_given c id (value (number_of id (index_in commit id))) p q (sym (chosen (is_used c id) (with_content c id (value (number_of id (index_in commit id))) p) (Ok p) used) ∙ is);
  unused = λ unused. let same : Ok p ≡ Ok q = sym (not_chosen (is_used c id) (with_content c id (value (number_of id (index_in commit id))) p) (Ok p) unused) ∙ is in cc;
}

-- Which part a block holds.
pub data Kind (id : ℕ) : Type 0 where
  is_summary : id ≡ 3 → part_of_block id ≡ Summary → Kind id
  are_states : 4 ≤ id → id < 8 → part_of_block id ≡ States (16 * (id - 4)) → Kind id
  is_entry : 8 ≤ id → id < later_states_id → part_of_block id ≡ Entry (id - 8) → Kind id
  are_later : later_states_id ≤ id → part_of_block id ≡ States (first_later_event + states_per_block * (id - later_states_id)) → Kind id

-- The part of a block after the first states, and after the summary.
abbrev behind_states : ℕ → Part
behind_states id = if nat_lt id later_states_id then Entry (id - 8) else States (first_later_event + states_per_block * (id - later_states_id))

abbrev behind_summary : ℕ → Part
behind_summary id = if nat_lt id 8 then States (16 * (id - 4)) else behind_states id

pub kind_of : (id : ℕ) → 3 ≤ id → Kind id
kind_of id low = elim (cases_eq id 3) [
  | inl same ↦ is_summary same (chosen (id == 3) Summary (behind_summary id) (eq-eqb id 3 same))
  | inr other ↦
      let past : part_of_block id ≡ behind_summary id = not_chosen (id == 3) Summary (behind_summary id) (ne_eqb id 3 other) in
      elim (cases_lt id 8) [
        | inl below ↦ are_states (omega (arith, low, other)) below (past ∙ chosen (nat_lt id 8) (States (16 * (id - 4))) (behind_states id) (lt-ltb id 8 below))
        | inr above ↦
            let behind : part_of_block id ≡ behind_states id = past ∙ not_chosen (nat_lt id 8) (States (16 * (id - 4))) (behind_states id) (le-ltb id 8 above) in
            elim (cases_lt id later_states_id) [
              | inl entry ↦ is_entry above entry (behind ∙ chosen (nat_lt id later_states_id) (Entry (id - 8)) (States (first_later_event + states_per_block * (id - later_states_id))) (lt-ltb id later_states_id entry))
              | inr later ↦ are_later later (behind ∙ not_chosen (nat_lt id later_states_id) (Entry (id - 8)) (States (first_later_event + states_per_block * (id - later_states_id))) (le-ltb id later_states_id later))
            ]
      ]
]

-- An entry that is set leaves every other place.
pub get_other : (entries : List EntryState) (place other : ℕ) (entry : EntryState) → other ≢ place → slice_get (set entries place entry) other ≡ slice_get entries other
get_other entries place other entry differ = elim (cases_lt other (length entries)) [
  | inl within ↦
      slice_get-get_or (set entries place entry) other entry (omega (arith, length-set entries place entry, within))
      ∙ ap Some (get_or-set_other entries place other entry entry differ) ∙ sym (slice_get-get_or entries other entry within)
  | inr past ↦ slice_get_past (set entries place entry) other (omega (arith, length-set entries place entry, past)) ∙ sym (slice_get_past entries other past)
]

module _ (held : List ℕ) (p : Persist) where
  -- The bytes of a summary stay where states or an entry are taken.
  summary_by_states : (first : ℕ) → summary_bytes (with_part (States first) held p) ≡ summary_bytes p
  unfolding summary_bytes with_part
  summary_by_states first = refl

  summary_by_entry : (place : ℕ) → summary_bytes (with_part (Entry place) held p) ≡ summary_bytes p
  unfolding summary_bytes with_part
  summary_by_entry place = ap (set (summary_bytes p) 2) (length-set p.entries.items place (entry_from held))

  states_by_states : (first before : ℕ) → before + 16 ≤ first → part_bytes (with_part (States first) held p) (States before) ≡ part_bytes p (States before)
  unfolding with_part
  states_by_states first before apart =
      same_states (with_states held first 16 p.events.items) p.events.items before 16
      (λ place below. state_kept held first p.events.items 16 (before + place) start_state (inl (omega (arith, apart, below))))

  states_by_entry : (place first : ℕ) → part_bytes (with_part (Entry place) held p) (States first) ≡ part_bytes p (States first)
  unfolding with_part
  states_by_entry place first = refl

  entry_by_states : (first place : ℕ) → part_bytes (with_part (States first) held p) (Entry place) ≡ part_bytes p (Entry place)
  unfolding with_part
  entry_by_states first place = refl

  entry_by_entry : (place before : ℕ) → before < place → part_bytes (with_part (Entry place) held p) (Entry before) ≡ part_bytes p (Entry before)
  unfolding with_part
  entry_by_entry place before apart = ap place_bytes (get_other p.entries.items place before (entry_from held) (λ e. omega (arith, apart, e)))

-- A block that is taken leaves the bytes of each block before it.
pub bytes_kept : (held : List ℕ) (p : Persist) (now id : ℕ) → 3 ≤ id → id < now → part_bytes (with_part (part_of_block now) held p) (part_of_block id) ≡ part_bytes p (part_of_block id)
bytes_kept held p now id low before =
    elim (kind_of now (omega (arith, low, before))) [
      | is_summary at is ↦ absurd (omega (arith, low, before, at))
      | are_states from below is ↦
          let states = States (16 * (now - 4)) in
          of_now states is (elim (kind_of id low) [
            | is_summary at of ↦ by states Summary of (summary_by_states held p (16 * (now - 4)))
            | are_states low' below' of ↦ by states (States (16 * (id - 4))) of (states_by_states held p (16 * (now - 4)) (16 * (id - 4)) (omega (arith, before, low')))
            | is_entry high _ of ↦ absurd (omega (arith, high, before, below))
            | are_later high of ↦ absurd (omega (arith, high, before, below))
          ])
      | is_entry from below is ↦
          let entry = Entry (now - 8) in
          of_now entry is (elim (kind_of id low) [
            | is_summary at of ↦ by entry Summary of (summary_by_entry held p (now - 8))
            | are_states low' below' of ↦ by entry (States (16 * (id - 4))) of (states_by_entry held p (now - 8) (16 * (id - 4)))
            | is_entry high _ of ↦ by entry (Entry (id - 8)) of (entry_by_entry held p (now - 8) (id - 8) (omega (arith, before, high)))
            | are_later high of ↦ absurd (omega (arith, high, before, below))
          ])
      | are_later from is ↦
          let states = States (first_later_event + states_per_block * (now - later_states_id)) in
          of_now states is (elim (kind_of id low) [
            | is_summary at of ↦ by states Summary of (summary_by_states held p (first_later_event + states_per_block * (now - later_states_id)))
            | are_states low' below' of ↦ by states (States (16 * (id - 4))) of (states_by_states held p (first_later_event + states_per_block * (now - later_states_id)) (16 * (id - 4)) (omega (arith, from, below')))
            | is_entry high _ of ↦ by states (Entry (id - 8)) of (entry_by_states held p (first_later_event + states_per_block * (now - later_states_id)) (id - 8))
            | are_later high of ↦ by states (States (first_later_event + states_per_block * (id - later_states_id))) of (states_by_states held p (first_later_event + states_per_block * (now - later_states_id)) (first_later_event + states_per_block * (id - later_states_id)) (omega (arith, before, high)))
          ])
    ]
  where
    of_now : (part : Part) → part_of_block now ≡ part → part_bytes (with_part part held p) (part_of_block id) ≡ part_bytes p (part_of_block id) → part_bytes (with_part (part_of_block now) held p) (part_of_block id) ≡ part_bytes p (part_of_block id)
    of_now part is kept = subst (λ (x : Part). part_bytes (with_part x held p) (part_of_block id) ≡ part_bytes p (part_of_block id)) (sym is) kept

    by : (taken_part part : Part) → part_of_block id ≡ part → part_bytes (with_part taken_part held p) part ≡ part_bytes p part → part_bytes (with_part taken_part held p) (part_of_block id) ≡ part_bytes p (part_of_block id)
    by taken_part part of same = subst (λ (x : Part). part_bytes (with_part taken_part held p) x ≡ part_bytes p x) (sym of) same
