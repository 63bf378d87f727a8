-- The steps of a write to a place, one after another.
use Rattle.std.proofs.Common.{◌≡◌, inl, inr, ⊎_elim, ◌+◌, ◌≤◌, ℕ, false, List, [], get_or, set, take, length, length-set, get_or-set_same, get_or-set_other, Result, Ok, Err, ◌∙◌, ap, subst, arith}
use Rattle.std.specs.Prelude.{IsErr, slice_range}
use Rattle.std.specs.List.{flat_map}
use Rattle.flt_flash.specs.Image.{sector_at, blank_page}
use Rattle.flt_flash.specs.State.{FlashState}
use Rattle.flt_flash.specs.Tearing.{IsTornPage}
use Rattle.flt_flash.specs.Blocks.{byte_pages}
use Rattle.flt_flash.specs.declared.flash.FlashFailed.{FlashFailed}
use Rattle.flt_code.specs.Seal.{unsealed, IsCodeWordOf}
use Rattle.flt_code.specs.Spoiled.{is_spoiled}
use Rattle.flt_code.proofs.Unsealed.{unsealed_code}
use Rattle.flt_code.proofs.Unspoiled.{erased_or_none, erased_unspoiled, programmed_or_none, programmed_unspoiled, unspoiled_word}
use Rattle.flt_code.proofs.WordCode.{unsealed_blank}
use Rattle.flt_pages.specs.Record.{KeptApart, on_pages}
use Rattle.flt_pages.proofs.Begun.{unspoiled_blank}
use Rattle.flt_pages.proofs.Filling.{bytes_on_pages}
use Rattle.flt_pages.specs.Recorded.{OnSector, Fills}
use Rattle.flt_pages.proofs.Steps.{set_apart, apart_on, wider}
use Rattle.flt_pages.proofs.Recording.{on_sector}
use Rattle.flt_pages.proofs.Values.{same_range}
use Rattle.flt_ea.specs.State.{HasUnits}
use Rattle.flt_ea.specs.Gate.{gate_bytes}
use Rattle.flt_ea.specs.Written.{IsEmptyAt, HoldsRecord, UnitRecordLeft, WritesRecord}
use Rattle.flt_ea.specs.declared.gate.Gate.{Gate}
use Rattle.flt_ea.proofs.Device.{GivesUnit, units_on}

module _ (before : FlashState) (shape : HasUnits before) (unit : ℕ) (gate : Gate) (held : List ℕ) (room : unit + 5 ≤ before.pages) (most : length held ≤ 128)
    (unspoiled : is_spoiled (get_or (sector_at before.image 0) unit []) ≡ false) where
  abbrev units : List (List ℕ)
  units = sector_at before.image 0

  within : unit + 5 ≤ length units
  within = omega (arith, shape.units)

  -- The gate unit, with any page in it.
  module _ (laid : List ℕ) where
    set_at : get_or (set units unit laid) unit [] ≡ laid
    set_at = get_or-set_same units unit laid [] (omega (arith, within))

    set_kept : KeptApart units (set units unit laid) unit (unit + 5)
    set_kept = wider units (set units unit laid) unit (unit + 1) unit (unit + 5) (omega arith) (omega arith) (set_apart units unit laid)

    torn_left : IsTornPage (get_or units unit []) blank_page laid → UnitRecordLeft units (set units unit laid) unit gate held
    torn_left tears = ⊎_elim
        (λ same. inl (set_at ∙ same))
        (λ none. inr (inl (record { none = ap unsealed set_at ∙ none; unspoiled = ap is_spoiled set_at ∙ erased_unspoiled (get_or units unit []) laid unspoiled tears })))
        (erased_or_none (get_or units unit []) laid unspoiled tears)

  pub clear_failed : (after : FlashState) (failed : FlashFailed) (result : Result (Unit {0}) FlashFailed) → IsErr result → GivesUnit {T = Unit {0}} before after unit blank_page (Err failed)
      → WritesRecord before after unit gate held result
  clear_failed after failed (Ok x) fails is = absurd (cc fails)
  clear_failed after failed (Err e) fails is = record { units = set units unit is.laid; on = is.on; apart = set_kept is.laid; holds_record = tt; one_of_forms = torn_left is.laid is.torn; cause = is.cause }

  -- The gate is blank.
  module _ (middle : FlashState) (cleared : GivesUnit {T = Unit {0}} before middle unit blank_page (Ok tt)) where
    on_clear : OnSector before middle 0 (set units unit blank_page)
    on_clear = subst (λ (l : List ℕ). OnSector before middle 0 (set units unit l)) cleared.holds_asked cleared.on

    middle_units : sector_at middle.image 0 ≡ set units unit blank_page
    middle_units = units_on before middle (set units unit blank_page) shape on_clear

    -- The bytes after it, so far.
    module _ (after : List (List ℕ)) (apart : KeptApart (sector_at middle.image 0) after (unit + 1) (unit + 1 + byte_pages (length held))) where
      apart_set : KeptApart (set units unit blank_page) after (unit + 1) (unit + 1 + byte_pages (length held))
      apart_set = subst (λ (p : List (List ℕ)). KeptApart p after (unit + 1) (unit + 1 + byte_pages (length held))) middle_units apart

      filled_apart : KeptApart units after unit (unit + 5)
      filled_apart = apart_on units (set units unit blank_page) after unit (unit + 5) (unit + 1) (unit + 1 + byte_pages (length held)) (omega arith) (omega arith) (set_kept blank_page) apart_set

      pub gate_blank : get_or after unit [] ≡ blank_page
      gate_blank = apart_set.before unit (omega arith) ∙ set_at blank_page

      filled_empty : IsEmptyAt after unit
      filled_empty = record { none = ap unsealed gate_blank ∙ unsealed_blank; unspoiled = ap is_spoiled gate_blank ∙ unspoiled_blank }

      -- The gate is written, whole or torn.
      module _ (laid : List ℕ) where
        gated_at : get_or (set after unit laid) unit [] ≡ laid
        gated_at = get_or-set_same after unit laid [] (omega (arith, within, filled_apart.size))

        gated_apart : KeptApart units (set after unit laid) unit (unit + 5)
        gated_apart = apart_on units after (set after unit laid) unit (unit + 5) unit (unit + 1) (omega arith) (omega arith) filled_apart (set_apart after unit laid)

        module _ (asked : List ℕ) (word : IsCodeWordOf (gate_bytes gate) asked) where
          stands : flat_map (λ u. u) (slice_range after (unit + 1) (unit + 1 + byte_pages (length held))) ≡ on_pages held → laid ≡ asked → HoldsRecord (set after unit laid) unit gate held
          stands filled is = record {
            gate_is = ap unsealed (gated_at ∙ is) ∙ unsealed_code (gate_bytes gate) asked word;
            unspoiled = ap is_spoiled (gated_at ∙ is) ∙ unspoiled_word (gate_bytes gate) asked word;
            holds = ap (take (length held)) filled_behind ∙ bytes_on_pages held;
            filled = filled_behind;
          }
            where
              filled_behind : flat_map (λ u. u) (slice_range (set after unit laid) (unit + 1) (unit + 1 + byte_pages (length held))) ≡ on_pages held
              filled_behind =
                  ap (λ (l : List (List ℕ)). flat_map (λ u. u) l)
                  (same_range after (set after unit laid) (unit + 1) (unit + 5) (length-set after unit laid)
                  (λ k low lt. get_or-set_other after unit k laid [] (omega arith)) (unit + 1) (unit + 1 + byte_pages (length held)) (omega arith) (omega arith))
                  ∙ filled

          torn_gate : flat_map (λ u. u) (slice_range after (unit + 1) (unit + 1 + byte_pages (length held))) ≡ on_pages held → IsTornPage (get_or after unit []) asked laid
              → UnitRecordLeft units (set after unit laid) unit gate held
          torn_gate filled tears =
              let of_blank = subst (λ (l : List ℕ). IsTornPage l asked laid) gate_blank tears in
              ⊎_elim (λ same. inr (inr (stands filled same)))
              (λ none. inr (inl (record { none = ap unsealed gated_at ∙ none; unspoiled = ap is_spoiled gated_at ∙ programmed_unspoiled (gate_bytes gate) asked laid word of_blank })))
              (programmed_or_none (gate_bytes gate) asked laid word of_blank)

    pub fill_failed : (after : FlashState) (failed : FlashFailed) (result : Result (Unit {0}) FlashFailed) → IsErr result → Fills {T = Unit {0}} middle after 0 (unit + 1) held (Err failed)
        → WritesRecord before after unit gate held result
    fill_failed after failed (Ok x) fails is = absurd (cc fails)
    fill_failed after failed (Err e) fails is = record {
      units = is.pages;
      on = on_sector before middle after 0 (set units unit blank_page) is.pages on_clear is.on;
      apart = filled_apart is.pages is.apart;
      holds_record = tt;
      one_of_forms = inr (inl (filled_empty is.pages is.apart));
      cause = omega (arith, is.cause, on_clear.runs.counts);
    }

    -- The bytes are there.
    module _ (full : FlashState) (fills : Fills {T = Unit {0}} middle full 0 (unit + 1) held (Ok tt)) (after : FlashState) (asked : List ℕ) (word : IsCodeWordOf (gate_bytes gate) asked) where
      on_full : OnSector before full 0 fills.pages
      on_full = on_sector before middle full 0 (set units unit blank_page) fills.pages on_clear fills.on

      full_units : sector_at full.image 0 ≡ fills.pages
      full_units = units_on before full fills.pages shape on_full

      on_gate : (laid : List ℕ) → OnSector full after 0 (set (sector_at full.image 0) unit laid) → OnSector before after 0 (set fills.pages unit laid)
      on_gate laid on = on_sector before full after 0 fills.pages (set fills.pages unit laid) on_full (subst (λ (p : List (List ℕ)). OnSector full after 0 (set p unit laid)) full_units on)

      pub gate_written : (result : Result (Unit {0}) FlashFailed) → GivesUnit full after unit asked result → WritesRecord before after unit gate held result
      gate_written (Ok x) is = record {
        units = set fills.pages unit is.laid;
        on = on_gate is.laid is.on;
        apart = gated_apart fills.pages fills.apart is.laid;
        holds_record = stands fills.pages fills.apart is.laid asked word fills.holds_asked is.holds_asked;
        one_of_forms = inr (inr (stands fills.pages fills.apart is.laid asked word fills.holds_asked is.holds_asked));
        cause = tt;
      }
      gate_written (Err e) is = record {
        units = set fills.pages unit is.laid;
        on = on_gate is.laid is.on;
        apart = gated_apart fills.pages fills.apart is.laid;
        holds_record = tt;
        one_of_forms = torn_gate fills.pages fills.apart is.laid asked word fills.holds_asked (subst (λ (p : List (List ℕ)). IsTornPage (get_or p unit []) asked is.laid) full_units is.torn);
        cause = omega (arith, is.cause, on_full.runs.counts);
      }
