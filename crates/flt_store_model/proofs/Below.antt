-- The first blocks that a commit names are read exactly where they hold the parts of a state.
use Rattle.std.proofs.Common.{◌≡◌, ◌≢◌, ℕ, ◌+◌, ◌-◌, ◌*◌, ◌<◌, ◌≤◌, ◌&&◌, true, length, refl, sym, ◌∙◌, ap, subst, arith, inl, inr}
use Rattle.std.specs.Prelude.{slice_get, slice_index_or, Option, Ok, IsTrue}
use Rattle.std.proofs.lemmas.Bool.{cases_lt, and_parts, and_from, leb-true}
use Rattle.std.proofs.lemmas.List.{get_or_default}
use Rattle.std.proofs.lemmas.Option.{slice_get_cases}
use Rattle.flt_flash.specs.Content.{Content}
use Rattle.flt_config.specs.declared.config.Config.{Config}
use Rattle.flt_config.specs.declared.persist.Persist.{Persist}
use Rattle.flt_config.specs.declared.persist.EntryState.{EntryState}
use Rattle.flt_config.specs.Durable.{IsEntryOf}
use Rattle.flt_store_model.specs.declared.commit.Commit.{Commit}
use Rattle.flt_store_model.specs.declared.part.Part.{Part}
use Rattle.flt_store_model.specs.declared.part.Part.TheVariants.{Summary, States, Entry}
use Rattle.flt_store_model.specs.Layout.{part_of_block, is_used, parts, later_states_id, first_later_event, states_per_block}
use Rattle.flt_store_model.specs.Fit.{entry_fits_at, is_alone, place_fits, part_fits}
use Rattle.flt_store_model.specs.Holding.{parts_read}
use Rattle.flt_store_model.specs.Faults.{HoldBelow}
use Rattle.flt_store_model.proofs.Fitting.{test_of_entry, alone_by}
use Rattle.flt_store_model.proofs.Parts.{states_pass}
use Rattle.flt_store_model.proofs.Steps.{is_summary, are_states, is_entry, are_later, kind_of}
use Rattle.flt_store_model.proofs.Sofar.{Sofar, sofar}
use Rattle.flt_store_model.proofs.Short.{HasSizes}
use Rattle.flt_store_model.proofs.Whole.{blocks_read}

module _ (c : Config) (sizes : HasSizes c) (value : ℕ → Content) (commit : Commit) (count : ℕ) (most : count ≤ parts) where
  module _ (p : Persist) (known : Sofar c value commit count p) where
    -- An entry that was read fits together with the others.
    entry_fits : (place : ℕ) → place + 5 < count → (entry : EntryState) → place < length p.entries.items → slice_index_or p.entries.items place entry ≡ entry
        → (entry_fits_at (slice_get c.events.items entry.event) entry && is_alone p.entries.items place entry.event) ≡ true
    entry_fits place before entry within here =
        let is : IsEntryOf c.events.items entry = subst (IsEntryOf c.events.items) here (known.entries_are place entry before within) in
        and_from _ _ (test_of_entry c.events.items entry is) (alone_by p.entries.items place entry.event (λ k d below apart e. others entry within here is.event k d below apart e))
      where
        others : (entry : EntryState) → place < length p.entries.items → slice_index_or p.entries.items place entry ≡ entry → entry.event < length c.events.items
            → (k : ℕ) (d : EntryState) → k < length p.entries.items → k ≢ place → (slice_index_or p.entries.items k d).event ≡ entry.event → ⊥
        others entry within here configured k d below apart e =
            let same : (slice_index_or p.entries.items place d).event ≡ entry.event = ap (λ (x : EntryState). x.event) (get_or_default p.entries.items place d entry within ∙ here) in
            elim (cases_lt k place) [
              | inl earlier ↦ known.distinct k place d earlier before within (e ∙ sym same)
              | inr later ↦ elim (cases_lt (k + 5) count) [
                | inl taken ↦ known.distinct place k d (omega (arith, later, apart)) taken below (same ∙ sym e)
                | inr past ↦
                    let none : (slice_index_or p.entries.items k d).event ≡ 0xFFFF = ap (λ (x : EntryState). x.event) (known.untaken k d (omega (arith, before)) (omega (arith, past)) below) in
                    omega (arith, none, e, configured, sizes.events)
              ]
            ]

    -- Each part that was read fits.
    part_fits_at : (id : ℕ) → 3 ≤ id → id < 3 + count → part_fits c p (part_of_block id) ≡ true
    part_fits_at id low below = elim (kind_of id low) [
      | is_summary at of ↦ fits_as Summary of (known.summary_is (omega (arith, below, low)))
      | are_states from high of ↦ fits_as (States (16 * (id - 4))) of (states_pass c.events.items p.events.items (16 * (id - 4)) 16 known.states_are)
      | are_later from of ↦ fits_as (States (first_later_event + states_per_block * (id - later_states_id))) of (states_pass c.events.items p.events.items (first_later_event + states_per_block * (id - later_states_id)) 16 known.states_are)
      | is_entry from high of ↦ fits_as (Entry (id - 8)) of (entry_at (id - 8) (omega (arith, below, from)))
    ]
      where
        fits_as : (part : Part) → part_of_block id ≡ part → part_fits c p part ≡ true → part_fits c p (part_of_block id) ≡ true
        fits_as part of is = subst (λ (x : Part). part_fits c p x ≡ true) (sym of) is

        entry_at : (place : ℕ) → place + 5 < count → part_fits c p (Entry place) ≡ true
        entry_at place before = elim (slice_get_cases p.entries.items place).1 [
          | inl found ↦ subst (λ (o : Option EntryState). place_fits c.events.items p.entries.items place o ≡ true) (sym found.2) (entry_fits place before found.0 found.1 found.3)
          | inr past ↦ subst (λ (o : Option EntryState). place_fits c.events.items p.entries.items place o ≡ true) (sym past.1) refl
        ]

  -- What was read holds.
  pub read_below : (p : Persist) → parts_read c value commit count ≡ Ok p → HoldBelow c value commit (3 + count) p
  read_below p is =
      let known = sofar c value commit count p most is in
      record {
        one_each = known.states_are.one_each;
        blocks = λ id used below. known.contents id (least id used) below used;
        fits = λ id used below. part_fits_at p known id (least id used) below;
      }
    where
      least : (id : ℕ) → IsTrue (is_used c id) → 3 ≤ id
      least id used = leb-true 3 id (and_parts _ _ (and_parts _ _ used).0).0

  -- What holds is read.
  pub below_read : (p : Persist) → HoldBelow c value commit (3 + count) p → (q : Persist) × (parts_read c value commit count ≡ Ok q)
  below_read p is = let found = blocks_read c sizes p is.one_each value commit (3 + count) (omega (arith, most)) is count (omega arith) in (found.0, found.1)
