-- A state that fits stands for itself.
use Rattle.std.proofs.Common.{◌≡◌, ◌∙◌, ℕ, ◌<◌, min, nat_eq, nat_lt, ◌&&◌, inl, inr, refl, sym, ap, arith, ⊎_elim}
use Rattle.std.proofs.lemmas.Bool.{and_parts, cases_eq, cases_Bool, ne_eqb, lt-ltb, ltb-true, false_from_ne_true}
use Rattle.std.specs.Int.{bit_at}
use Rattle.flt_config.specs.declared.config.EventCfg.{EventCfg}
use Rattle.flt_config.specs.declared.persist.EventState.{EventState}
use Rattle.flt_config.specs.Durable.{IsStateOf}
use Rattle.flt_model.specs.Byte.{value_of, byte_of, status_of, is_bit_set}
use Rattle.flt_model.proofs.Common.{bit_is_set, set_bit_is}
use Rattle.flt_status.specs.Standing.{FittingStateLaw}

bit_value : (x : ℕ) → x < 2 → value_of (nat_eq x 1) ≡ x
bit_value x h = ⊎_elim (λ e. rw e refl) (λ ne. rw (ne_eqb x 1 ne) (omega arith)) (cases_eq x 1)

bit_of : (byte k : ℕ) → value_of (is_bit_set byte k) ≡ bit_at byte k
bit_of byte k = bit_value (bit_at byte k) (omega arith)

byte_again : (byte : ℕ) → byte < 256 → byte_of (status_of byte) ≡ byte
byte_again byte h =
    omega (arith, bit_of byte 0, bit_of byte 1, bit_of byte 2, bit_of byte 3, bit_of byte 4, bit_of byte 5, bit_of byte 6, bit_of byte 7)

requested : (rules : EventCfg) (state : EventState) → IsStateOf rules state → is_bit_set state.status 7 ≡ (state.lit && nat_lt state.clean rules.heal)
requested rules state fits =
    elim (cases_Bool (is_bit_set state.status 7)) [
      | inl set ↦ let parts = fits.warning.0 (bit_is_set state.status 7 set) in
          set ∙ sym (ap (λ b. b && nat_lt state.clean rules.heal) parts.0 ∙ lt-ltb state.clean rules.heal parts.1)
      | inr clear ↦ clear ∙ sym (false_from_ne_true (state.lit && nat_lt state.clean rules.heal) (λ e.
          let parts = and_parts state.lit (nat_lt state.clean rules.heal) e in
          let set = set_bit_is state.status 7 (fits.warning.1 (parts.0, ltb-true state.clean rules.heal parts.1)) in
          absurd (cc)))
    ]

pub fitting_state_stands : FittingStateLaw
fitting_state_stands rules state fits =
    let failed_is : min 255 state.failed ≡ state.failed = omega (arith, fits.failed) in
    let clean_is : min 510 state.clean ≡ state.clean = omega (arith, fits.clean) in
    sym (rw (failed_is, clean_is, ← requested rules state fits, byte_again state.status (omega (arith, fits.status))) refl)
