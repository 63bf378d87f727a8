-- A part is taken exactly where its bytes are those of a state that differs in it alone.
use Rattle.std.proofs.Common.{◌≡◌, ℕ, ◌+◌, ◌-◌, ◌<◌, ◌&&◌, true, List, length, refl, sym, ◌∙◌, ap, subst, arith, inl, inr, set, replicate, length-set, min}
use Rattle.std.specs.Prelude.{slice_index, slice_index_or, slice_get, Option, Some}
use Rattle.std.proofs.lemmas.Bool.{cases_lt, cases_eq, and_parts}
use Rattle.std.proofs.lemmas.List.{get_or-set_same, get_or-set_other, get_or_default, set_past, length-replicate, same_lists}
use Rattle.std.proofs.lemmas.Option.{slice_get_cases, get_or_from_slice_get}
use Rattle.std.proofs.lemmas.Slice.Eq.{bytes_eq-Decides}
use Rattle.flt_config.specs.declared.config.Config.{Config}
use Rattle.flt_config.specs.declared.persist.Persist.{Persist}
use Rattle.flt_config.specs.declared.persist.EntryState.{EntryState}
use Rattle.flt_config.specs.Durable.{IsEntryOf, start_state}
use Rattle.flt_store_model.specs.declared.part.Part.{Part}
use Rattle.flt_store_model.specs.declared.part.Part.TheVariants.{Summary, States, Entry}
use Rattle.flt_store_model.specs.Form.{summary_bytes, states_bytes, place_bytes, part_bytes}
use Rattle.flt_store_model.specs.Fit.{states_fit, entry_fits_at, is_alone, place_fits, summary_fits, part_fits}
use Rattle.flt_store_model.specs.Reading.{with_part, with_summary, with_states, entry_from, untaken_entry, taken, if_holds}
use Rattle.flt_store_model.specs.Laws.{KeepsRest, IsTakenAs}
use Rattle.flt_store_model.proofs.Fitting.{entry_by_test}
use Rattle.flt_store_model.proofs.States.{state_set, state_kept, length-with_states}
use Rattle.flt_store_model.proofs.Sizes.{accepted, taken_holds}
use Rattle.flt_store_model.proofs.Decoding.{summary_of, summary_read, state_read, entry_read}
use Rattle.flt_store_model.proofs.Short.{HasSizes, entry_sizes, short_summary, clean_short}

-- What is taken differs in its part alone.
rest_kept : (part : Part) (held : List ℕ) (p : Persist) → KeepsRest part p (with_part part held p)
unfolding with_part with_summary
rest_kept Summary held p = (refl, ap (λ (n : ℕ). replicate n untaken_entry) (sym (length-replicate (min (slice_index held 2) 16) untaken_entry)))
rest_kept (States first) held p = (refl, length-with_states held first p.events.items 16, λ k d out. state_kept held first p.events.items 16 k d out)
rest_kept (Entry place) held p = (refl, length-set p.entries.items place (entry_from held), λ k d other. get_or-set_other p.entries.items place k (entry_from held) d other)

pub taken_as : (c : Config) (part : Part) (held : List ℕ) (p q : Persist) → taken c part held p ≡ Some q → IsTakenAs c part held p q
taken_as c part held p q is =
    let t = taken_holds c part held (with_part part held p) q is in
    record { bytes = t.1; fits = t.2; rest = subst (KeepsRest part p) t.0 (rest_kept part held p) }

module _ (c : Config) (sizes : HasSizes c) (p q : Persist) (one_each : length p.events.items ≡ length c.events.items) where
  again_summary : summary_fits c q ≡ true → KeepsRest Summary p q → with_part Summary (summary_bytes q) p ≡ q
  unfolding with_part
  again_summary fits rest =
      let entries = sym rest.1 in
      let whole : summary_of q p ≡ record p { overflow = q.overflow; entries = q.entries; first_failed = q.first_failed; first_confirmed = q.first_confirmed; recent_failed = q.recent_failed; recent_confirmed = q.recent_confirmed } =
      λ i. record p { overflow = q.overflow; entries = record { items = entries i }; first_failed = q.first_failed; first_confirmed = q.first_confirmed; recent_failed = q.recent_failed; recent_confirmed = q.recent_confirmed } in
      summary_read q p (short_summary c sizes q fits) ∙ whole ∙ sym rest.0

  again_states : (first : ℕ) → states_fit c.events.items q.events.items first 16 ≡ true → KeepsRest (States first) p q → with_part (States first) (states_bytes q.events.items first) p ≡ q
  unfolding with_part
  again_states first fits rest =
      let held = states_bytes q.events.items first in
      let size = length-with_states held first p.events.items 16 in
      let same : with_states held first 16 p.events.items ≡ q.events.items =
      same_lists (with_states held first 16 p.events.items) q.events.items (size ∙ sym rest.1) (λ k d below.
      let within : k < length p.events.items = omega (arith, below, size) in
      elim (cases_lt k first) [
        | inl before ↦ state_kept held first p.events.items 16 k d (inl before) ∙ sym (rest.2 k d (inl before))
        | inr from ↦ elim (cases_lt k (first + 16)) [
          | inr past ↦ state_kept held first p.events.items 16 k d (inr past) ∙ sym (rest.2 k d (inr past))
          | inl inside ↦
              let here : first + (k - first) ≡ k = omega (arith, from) in
              let place : k - first < 16 = omega (arith, from, inside) in
              let there : first + (k - first) < length p.events.items = omega (arith, here, within) in
              get_or_default (with_states held first 16 p.events.items) k d start_state below
              ∙ subst (λ (n : ℕ). slice_index_or (with_states held first 16 p.events.items) n start_state ≡ slice_index_or q.events.items n start_state) here
              (state_set held first p.events.items 16 (k - first) start_state place there
              ∙ state_read q.events.items first 16 (k - first) place (clean_short c q.events.items first fits (k - first) place (omega (arith, there, one_each))))
              ∙ get_or_default q.events.items k start_state d (omega (arith, within, rest.1))
        ]
      ]) in
      (λ i. record p { events = record { items = same i } }) ∙ sym rest.0

  again_entry : (place : ℕ) → place_fits c.events.items q.entries.items place (slice_get q.entries.items place) ≡ true → KeepsRest (Entry place) p q
      → with_part (Entry place) (place_bytes (slice_get q.entries.items place)) p ≡ q
  unfolding with_part
  again_entry place fits rest = elim (slice_get_cases q.entries.items place).1 [
    | inl found ↦
        let entry = found.0 in
        let passes : (entry_fits_at (slice_get c.events.items entry.event) entry && is_alone q.entries.items place entry.event) ≡ true =
        subst (λ (o : Option EntryState). place_fits c.events.items q.entries.items place o ≡ true) found.2 fits in
        let is : IsEntryOf c.events.items entry = entry_by_test c.events.items entry (and_parts (entry_fits_at (slice_get c.events.items entry.event) entry) (is_alone q.entries.items place entry.event) passes).0 in
        let sized = entry_sizes c sizes entry is in
        let read : entry_from (place_bytes (slice_get q.entries.items place)) ≡ entry =
        ap (λ (o : Option EntryState). entry_from (place_bytes o)) found.2 ∙ entry_read entry (omega (arith, is.event, sizes.events)) sized.0 sized.1 in
        let same : set p.entries.items place (entry_from (place_bytes (slice_get q.entries.items place))) ≡ q.entries.items =
        ap (set p.entries.items place) read
        ∙ same_lists (set p.entries.items place entry) q.entries.items (length-set p.entries.items place entry ∙ sym rest.1) (λ k d below. elim (cases_eq k place) [
          | inl here ↦
              ap (λ (n : ℕ). slice_index_or (set p.entries.items place entry) n d) here
              ∙ get_or-set_same p.entries.items place entry d (omega (arith, found.1, rest.1))
              ∙ sym (get_or_from_slice_get q.entries.items place entry d found.2) ∙ ap (λ (n : ℕ). slice_index_or q.entries.items n d) (sym here)
          | inr other ↦ get_or-set_other p.entries.items place k entry d other ∙ sym (rest.2 k d other)
        ]) in
        (λ i. record p { entries = record { items = same i } }) ∙ sym rest.0
    | inr past ↦
        let same : set p.entries.items place (entry_from (place_bytes (slice_get q.entries.items place))) ≡ q.entries.items =
        set_past p.entries.items place (entry_from (place_bytes (slice_get q.entries.items place))) (omega (arith, past.0, rest.1))
        ∙ same_lists p.entries.items q.entries.items (sym rest.1) (λ k d below. sym (rest.2 k d (λ e. omega (arith, e, below, past.0, rest.1)))) in
        (λ i. record p { entries = record { items = same i } }) ∙ sym rest.0
  ]

  pub as_taken : (part : Part) (held : List ℕ) → IsTakenAs c part held p q → taken c part held p ≡ Some q
  as_taken part held is =
      let again : with_part part held p ≡ q = subst (λ (h : List ℕ). with_part part h p ≡ q) (sym is.bytes) (by part is.fits is.rest) in
      subst (λ (r : Persist). if_holds c part held r ≡ Some q) (sym again) (accepted c part held q ((bytes_eq-Decides held (part_bytes q part)).1 is.bytes) is.fits)
    where
      by : (x : Part) → part_fits c q x ≡ true → KeepsRest x p q → with_part x (part_bytes q x) p ≡ q
      by Summary fits rest = again_summary fits rest
      by (States first) fits rest = again_states first fits rest
      by (Entry place) fits rest = again_entry place fits rest
