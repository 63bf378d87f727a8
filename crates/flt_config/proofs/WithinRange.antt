-- Where each number is in its own range, no setting is out of its range.
use Rattle.std.proofs.Common.{◌≡◌, ◌∙◌, ℕ, ◌+◌, List, [], ◌∷◌, ◌++◌, Ok, None, Some, Option, false, arith, ℤ, pos, ◌≤ℤ◌, ◌+ℤ◌, ◌-ℤ◌}
use Rattle.std.specs.List.{All}
use Rattle.std.proofs.lemmas.Int.{ints}
use Rattle.std.proofs.lemmas.List.Elements.{All-head, All-tail}
use Rattle.flt_config.specs.declared.setting.Setting.{Setting}
use Rattle.flt_config.specs.declared.config.EventCfg.{EventCfg}
use Rattle.flt_config.specs.declared.config.DidUse.{DidUse}
use Rattle.flt_config.specs.declared.config.Config.{Config}
use Rattle.flt_config.specs.declared.config.Debounce.{Debounce}
use Rattle.flt_config.specs.declared.config.Debounce.TheVariants.{Counter, Time}
use Rattle.flt_config.specs.declared.config.Field.{Field}
use Rattle.flt_config.specs.declared.config.Field.TheVariants.{JumpUp, JumpDown}
use Rattle.flt_config.specs.Ranges.{ranges_result, signed_setting, settings, global_settings, events_settings, event_settings, plain_settings, debounce_settings, counter_settings, threshold_settings, jump_settings, did_settings, did_width_settings, is_outside}
use Rattle.flt_config.specs.Validity.{IsEventInRange, IsDebounceInRange, IsJumpBetween, IsFromTo, IsSignedFromTo, IsValid}
use Rattle.flt_config.proofs.RangesLemmas.{ranges_result-append_ok, ranges_result-nil}

joined_ok : (xs ys : List Setting) → ranges_result xs ≡ Ok tt → ranges_result ys ≡ Ok tt → ranges_result (xs ++ ys) ≡ Ok tt
joined_ok xs ys left right = ranges_result-append_ok xs ys left ∙ right

-- A number in its range, before others in theirs.
signed_ok : (event : Option ℕ) (field : Field) (value least greatest : ℤ) (rest : List Setting) → IsSignedFromTo least greatest value
    → ranges_result rest ≡ Ok tt → ranges_result (signed_setting event field value least greatest ∷ rest) ≡ Ok tt
unfolding ranges_result
signed_ok event field value least greatest rest within ok =
    let inside : is_outside (signed_setting event field value least greatest) ≡ false = grind (arith, ints, within.0, within.1) in
    rw inside ok

natural_ok : (event : Option ℕ) (field : Field) (value least greatest : ℕ) (rest : List Setting) → IsFromTo least greatest value
    → ranges_result rest ≡ Ok tt → ranges_result (signed_setting event field (pos value) (pos least) (pos greatest) ∷ rest) ≡ Ok tt
natural_ok event field value least greatest rest within ok =
    let low : pos least ≤ℤ pos value = omega (arith, ints, within.0) in
    let high : pos value ≤ℤ pos greatest = omega (arith, ints, within.1) in
    signed_ok event field (pos value) (pos least) (pos greatest) rest (low, high) ok

jump_ok : (number : ℕ) (field : Field) (pass_at fail_at : ℤ) (jump : Option ℤ) → IsJumpBetween pass_at fail_at jump
    → ranges_result (jump_settings number field pass_at fail_at jump) ≡ Ok tt
unfolding jump_settings
jump_ok number field pass_at fail_at None between = ranges_result-nil
jump_ok number field pass_at fail_at (Some jump) between =
    let low : (pass_at +ℤ pos 1) ≤ℤ jump = omega (arith, ints, between.0) in
    let high : jump ≤ℤ (fail_at -ℤ pos 1) = omega (arith, ints, between.1) in
    signed_ok (Some number) field jump (pass_at +ℤ pos 1) (fail_at -ℤ pos 1) [] (low, high) ranges_result-nil

debounce_ok : (number : ℕ) (debounce : Debounce) → IsDebounceInRange debounce → ranges_result (debounce_settings number debounce) ≡ Ok tt
unfolding debounce_settings counter_settings threshold_settings
debounce_ok number (Counter fail_at pass_at up down jump_up jump_down) r =
    joined_ok (threshold_settings number fail_at pass_at up down ++ jump_settings number JumpUp pass_at fail_at jump_up) (jump_settings number JumpDown pass_at fail_at jump_down)
    (joined_ok (threshold_settings number fail_at pass_at up down) (jump_settings number JumpUp pass_at fail_at jump_up)
    (signed_ok _ _ _ _ _ _ r.fail_at_above (signed_ok _ _ _ _ _ _ r.pass_at_below (signed_ok _ _ _ _ _ _ r.up_above (signed_ok _ _ _ _ _ _ r.down_above ranges_result-nil))))
    (jump_ok number JumpUp pass_at fail_at jump_up r.jump_up_between))
    (jump_ok number JumpDown pass_at fail_at jump_down r.jump_down_between)
debounce_ok number (Time fail pass) r = natural_ok _ _ _ _ _ _ r.0 (natural_ok _ _ _ _ _ _ r.1 ranges_result-nil)

widths_ok : (number : ℕ) (dids : List DidUse) → All (λ did. IsFromTo 1 8 did.width) dids → ranges_result (did_width_settings number dids) ≡ Ok tt
unfolding did_width_settings
widths_ok number [] all = ranges_result-nil
widths_ok number (did ∷ dids) all =
    natural_ok _ _ _ _ _ _ (All-head (λ (d : DidUse). IsFromTo 1 8 d.width) did dids all) (widths_ok number dids (All-tail (λ (d : DidUse). IsFromTo 1 8 d.width) did dids all))

event_ok : (number : ℕ) (event : EventCfg) → IsEventInRange event → ranges_result (event_settings number event) ≡ Ok tt
unfolding event_settings plain_settings did_settings
event_ok number event r =
    joined_ok (plain_settings number event ++ debounce_settings number event.debounce) (did_settings number event.dids.items)
    (joined_ok (plain_settings number event) (debounce_settings number event.debounce)
    (natural_ok _ _ _ _ _ _ r.dtc (natural_ok _ _ _ _ _ _ r.priority (natural_ok _ _ _ _ _ _ (omega arith, r.cycle)
    (natural_ok _ _ _ _ _ _ r.confirm (natural_ok _ _ _ _ _ _ r.heal (natural_ok _ _ _ _ _ _ r.age ranges_result-nil))))))
    (debounce_ok number event.debounce r.debounce))
    (joined_ok (did_width_settings number event.dids.items) _ (widths_ok number event.dids.items r.did_widths)
    (natural_ok _ _ _ _ _ _ (omega arith, r.frame) ranges_result-nil))

events_ok : (number : ℕ) (events : List EventCfg) → All IsEventInRange events → ranges_result (events_settings number events) ≡ Ok tt
unfolding events_settings
events_ok number [] all = ranges_result-nil
events_ok number (event ∷ events) all =
    joined_ok (event_settings number event) (events_settings (number + 1) events) (event_ok number event (All-head IsEventInRange event events all))
    (events_ok (number + 1) events (All-tail IsEventInRange event events all))

pub settings_ok : (config : Config) → IsValid config → ranges_result (settings config) ≡ Ok tt
unfolding global_settings
settings_ok config v =
    joined_ok (global_settings config) (events_settings 0 config.events.items)
    (natural_ok _ _ _ _ _ _ v.memory (natural_ok _ _ _ _ _ _ v.pages (natural_ok _ _ _ _ _ _ (omega arith, v.blocks) ranges_result-nil)))
    (events_ok 0 config.events.items v.events)
