-- How many bytes each part has.
use Rattle.std.proofs.Common.{◌≡◌, ℕ, zero, suc, ◌+◌, ◌*◌, ◌-◌, ◌<◌, ◌≤◌, ◌++◌, List, length, refl, ◌∙◌, ap, subst, arith, inl, inr, length-append, replicate, min, drop, set}
use Rattle.std.specs.Prelude.{slice_index_or, slice_index, slice_get, Option, Some, None, bytes_eq, true, false}
use Rattle.std.proofs.lemmas.Bool.{cases_lt, false_from_ne_true, and_left, and_right, and_from, and_parts}
use Rattle.std.proofs.lemmas.List.{length-replicate, length-take, get_or-set_same, length-set}
use Rattle.std.proofs.lemmas.Option.{slice_get-get_or, slice_get_past}
use Rattle.std.proofs.lemmas.Slice.Eq.{bytes_eq-Decides}
use Rattle.flt_config.specs.declared.config.Config.{Config}
use Rattle.flt_config.specs.declared.persist.Persist.{Persist}
use Rattle.flt_config.specs.declared.persist.EventState.{EventState}
use Rattle.flt_config.specs.declared.persist.EntryState.{EntryState}
use Rattle.flt_config.specs.Durable.{start_state}
use Rattle.flt_store_model.specs.declared.part.Part.{Part}
use Rattle.flt_store_model.specs.declared.part.Part.TheVariants.{Summary, States, Entry}
use Rattle.flt_store_model.specs.Form.{state_bytes, first_states, summary_bytes, padded, entry_bytes, no_entry_bytes, place_bytes, part_bytes, part_length}
use Rattle.flt_store_model.specs.Fit.{part_fits}
use Rattle.flt_store_model.specs.Reading.{frame_at, entry_from, with_part, if_holds, taken}
use Rattle.flt_store_model.proofs.Choices.{chosen, not_chosen, some_chosen}
use Rattle.flt_store_model.proofs.States.{first_states_more, no_states}

pub summary_size : (p : Persist) → length (summary_bytes p) ≡ 32
unfolding summary_bytes
summary_size p = refl

pub state_size : (state : EventState) → length (state_bytes state) ≡ 4
unfolding state_bytes
state_size state = refl

pub states_size : (states : List EventState) (first count : ℕ) → length (first_states states first count) ≡ 4 * count
states_size states first zero = ap length (no_states states first)
states_size states first (suc count) =
    let more : count + 1 ≡ suc count = omega arith in
    let here = slice_index_or states (first + count) start_state in
    let size : length (first_states states first (count + 1)) ≡ length (first_states states first count) + length (state_bytes here) =
    ap length (first_states_more states first count) ∙ length-append (first_states states first count) (state_bytes here) in
    subst (λ (n : ℕ). length (first_states states first n) ≡ 4 * n) more (omega (arith, size, state_size here, states_size states first count))

pub padded_size : (frame : List ℕ) → length frame ≤ 32 → length (padded frame) ≡ 32
padded_size frame short = length-append frame (replicate (32 - length frame) 0) ∙ omega (arith, short, length-replicate {A = ℕ} (32 - length frame) 0)

pub frame_short : (held : List ℕ) (at : ℕ) → length (frame_at held at) ≤ 32
frame_short held at = omega (arith, length-take (min (slice_index held 3) 32) (drop at held))

pub entry_size : (entry : EntryState) → length entry.first.items ≤ 32 → length entry.recent.items ≤ 32 → length (entry_bytes entry) ≡ 68
unfolding entry_bytes
entry_size entry first recent =
    let parts : length (padded entry.first.items ++ padded entry.recent.items) ≡ 64 =
    length-append (padded entry.first.items) (padded entry.recent.items) ∙ omega (arith, padded_size entry.first.items first, padded_size entry.recent.items recent) in
    omega (arith, parts)

pub no_entry_size : length no_entry_bytes ≡ 68
unfolding no_entry_bytes
no_entry_size = refl

-- The entry that is set is found at its place, and no other.
pub set_here : (entries : List EntryState) (place : ℕ) (entry : EntryState) → place < length entries → slice_get (set entries place entry) place ≡ Some entry
set_here entries place entry within =
    slice_get-get_or (set entries place entry) place entry (omega (arith, length-set entries place entry, within))
    ∙ ap Some (get_or-set_same entries place entry entry within)

pub none_here : (entries : List EntryState) (place : ℕ) (entry : EntryState) → length entries ≤ place → slice_get (set entries place entry) place ≡ None
none_here entries place entry past = slice_get_past (set entries place entry) place (omega (arith, length-set entries place entry, past))

entry_from_size : (held : List ℕ) → length (entry_bytes (entry_from held)) ≡ 68
unfolding entry_from
entry_from_size held = entry_size (entry_from held) (frame_short held 4) (frame_short held 36)

-- What would be taken has the bytes of its part.
pub candidate_size : (part : Part) (held : List ℕ) (p : Persist) → length (part_bytes (with_part part held p) part) ≡ part_length part
unfolding with_part
candidate_size Summary held p = summary_size (with_part Summary held p)
candidate_size (States first) held p = states_size (with_part (States first) held p).events.items first 16
candidate_size (Entry place) held p = elim (cases_lt place (length p.entries.items)) [
  | inl within ↦ ap (λ (o : Option EntryState). length (place_bytes o)) (set_here p.entries.items place (entry_from held) within) ∙ entry_from_size held
  | inr past ↦ ap (λ (o : Option EntryState). length (place_bytes o)) (none_here p.entries.items place (entry_from held) past) ∙ no_entry_size
]

-- Bytes that are not the part's are refused, and so is a part that does not fit.
pub refused_by_bytes : (c : Config) (part : Part) (held : List ℕ) (p : Persist) → bytes_eq held (part_bytes p part) ≡ false → if_holds c part held p ≡ None
unfolding if_holds
refused_by_bytes c part held p differ = not_chosen _ (Some p) None (and_left (bytes_eq held (part_bytes p part)) (part_fits c p part) differ)

pub refused_by_fit : (c : Config) (part : Part) (held : List ℕ) (p : Persist) → part_fits c p part ≡ false → if_holds c part held p ≡ None
unfolding if_holds
refused_by_fit c part held p unfit = not_chosen _ (Some p) None (and_right (bytes_eq held (part_bytes p part)) (part_fits c p part) unfit)

pub accepted : (c : Config) (part : Part) (held : List ℕ) (p : Persist) → bytes_eq held (part_bytes p part) ≡ true → part_fits c p part ≡ true → if_holds c part held p ≡ Some p
unfolding if_holds
accepted c part held p same fits = chosen _ (Some p) None (and_from (bytes_eq held (part_bytes p part)) (part_fits c p part) same fits)

-- What is taken has these bytes and fits.
pub taken_holds : (c : Config) (part : Part) (held : List ℕ) (p q : Persist) → if_holds c part held p ≡ Some q → (p ≡ q) × (held ≡ part_bytes q part) × (part_fits c q part ≡ true)
unfolding if_holds
taken_holds c part held p q is =
    let by = some_chosen _ p q is in
    let parts = and_parts (bytes_eq held (part_bytes p part)) (part_fits c p part) by.0 in
    let P : Persist → Type 0 = λ r. (held ≡ part_bytes r part) × (part_fits c r part ≡ true) in
    let both = subst P by.1 ((bytes_eq-Decides held (part_bytes p part)).0 parts.0, parts.1) in
    (by.1, both.0, both.1)

-- Bytes of another length are refused.
pub refused_by_size : (c : Config) (part : Part) (held : List ℕ) (p : Persist) → (length held ≡ part_length part → ⊥) → taken c part held p ≡ None
refused_by_size c part held p other =
    refused_by_bytes c part held (with_part part held p) (false_from_ne_true (bytes_eq held (part_bytes (with_part part held p) part))
    (λ yes. other (ap length ((bytes_eq-Decides held (part_bytes (with_part part held p) part)).0 yes) ∙ candidate_size part held p)))
