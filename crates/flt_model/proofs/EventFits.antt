-- A state of an event that the marks make of one that fits is one that fits.
use Rattle.std.proofs.Common.{◌≡◌, ◌∙◌, ◌≤◌, true, nat_lt, [], ◌∷◌, sym, arith}
use Rattle.std.proofs.lemmas.Bool.{and_parts, and_from, lt-ltb, ltb-true}
use Rattle.flt_config.specs.declared.config.EventCfg.{EventCfg}
use Rattle.flt_config.specs.declared.persist.EventState.{EventState}
use Rattle.flt_config.specs.Durable.{IsStateOf}
use Rattle.flt_model.specs.declared.status.Status.{Status}
use Rattle.flt_model.specs.Byte.{byte_of}
use Rattle.flt_model.specs.Mark.{Past}
use Rattle.flt_model.specs.Mark.Mark.{Failed, Passed, Cycle, Clear, Aged, Displaced, Added, Refused}
use Rattle.flt_model.specs.Status.{confirmed, lit, clean_count, status, durable}
use Rattle.flt_model.proofs.StatusLaws.{indicator_is_lit, lit_is_confirmed}
use Rattle.flt_model.proofs.Common.{value_of-le, bit_is_set, set_bit_is}

-- The byte is one byte.
byte_small : (s : Status) → byte_of s ≤ 255
byte_small s =
    let b0 = value_of-le s.test_failed in
    let b1 = value_of-le s.failed_this_cycle in
    let b2 = value_of-le s.pending in
    let b3 = value_of-le s.confirmed in
    let b4 = value_of-le s.not_completed_since_clear in
    let b5 = value_of-le s.failed_since_clear in
    let b6 = value_of-le s.not_completed_this_cycle in
    let b7 = value_of-le s.indicator_requested in
    omega arith

module _ (rules : EventCfg) (base : EventState) (fits : IsStateOf rules base) where
  -- An event that is lit has an indicator.
  lit_indicated : (past : Past) → lit base rules past ≡ true → rules.indicator ≡ true
  lit_indicated [] on = (fits.lit on).1
  lit_indicated (Failed ∷ past) on = (and_parts rules.indicator (confirmed base rules (Failed ∷ past)) on).0
  lit_indicated (Passed ∷ past) on = lit_indicated past on
  lit_indicated (Cycle ∷ past) on = lit_indicated past on
  lit_indicated (Clear ∷ past) on = absurd (cc)
  lit_indicated (Aged ∷ past) on = absurd (cc)
  lit_indicated (Displaced ∷ past) on = absurd (cc)
  lit_indicated (Added ∷ past) on = lit_indicated past on
  lit_indicated (Refused ∷ past) on = lit_indicated past on

  -- What the marks decide fits again.
  pub event_fits : (past : Past) → IsStateOf rules (durable base rules past)
  event_fits past =
      let seven = indicator_is_lit base rules past in
      let byte = byte_of (status base rules past) in
      record {
        status = byte_small (status base rules past);
        failed = omega arith;
        clean = omega arith;
        warning = (
          (λ set. (let both = and_parts (lit base rules past) (nat_lt (clean_count base past) rules.heal) (sym seven ∙ set_bit_is byte 7 set) in
              (both.0, ltb-true (clean_count base past) rules.heal both.1))),
          (λ both. bit_is_set byte 7 (seven ∙ and_from (lit base rules past) (nat_lt (clean_count base past) rules.heal) both.0 (lt-ltb (clean_count base past) rules.heal both.1))),
        );
        lit = λ on. (bit_is_set byte 3 (lit_is_confirmed base rules past (λ was. set_bit_is base.status 3 (fits.lit was).0) on), lit_indicated past on);
      }
