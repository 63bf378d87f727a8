-- Where no setting is out of its range, each number is in its own.
use Rattle.std.proofs.Common.{◌≡◌, ℕ, ◌+◌, ◌≤◌, List, [], ◌∷◌, ◌++◌, Ok, Err, None, Some, Option, arith, ◌∙◌, sym, ℤ, pos, ◌≤ℤ◌, ◌+ℤ◌, ◌-ℤ◌, Bool, true, false, cond, refl}
use Rattle.std.specs.List.{find, All, AllPairs}
use Rattle.std.proofs.lemmas.Int.{ints}
use Rattle.std.proofs.lemmas.List.Elements.{All-nil, All-cons}
use Rattle.flt_config.specs.declared.setting.Setting.{Setting}
use Rattle.flt_config.specs.declared.config.EventCfg.{EventCfg}
use Rattle.flt_config.specs.declared.config.DidUse.{DidUse}
use Rattle.flt_config.specs.declared.config.Config.{Config}
use Rattle.flt_config.specs.declared.config.Debounce.{Debounce}
use Rattle.flt_config.specs.declared.config.Debounce.TheVariants.{Counter, Time}
use Rattle.flt_config.specs.declared.config.Field.{Field}
use Rattle.flt_config.specs.declared.config.Field.TheVariants.{Memory, Pages, Blocks, Dtc, Priority, Cycle, Confirm, Heal, Age, JumpUp, JumpDown, FailTicks, PassTicks, DidWidth, DidSum}
use Rattle.flt_config.specs.Ranges.{ranges_result, fault_of_range, signed_setting, setting, settings, global_settings, events_settings, event_settings, plain_settings, debounce_settings, counter_settings, threshold_settings, jump_settings, did_settings, did_width_settings, is_outside, frame_width}
use Rattle.flt_config.specs.Validity.{IsEventInRange, IsDebounceInRange, IsCounterInRange, IsJumpBetween, IsFromTo, IsValid, HasOtherDtc, needed_pages}
use Rattle.flt_config.proofs.RangesLemmas.{ranges_result-append_ok, ranges_result-append_err}

pub ranges_ok-append_left : (xs ys : List Setting) → ranges_result (xs ++ ys) ≡ Ok tt → ranges_result xs ≡ Ok tt
ranges_ok-append_left xs ys e =
    elim (ranges_result xs) as (λ r. ranges_result xs ≡ r → r ≡ Ok tt)
    [ Ok u ↦ λ is. refl | Err f ↦ λ is. let err = ranges_result-append_err xs ys f is in cc ] refl

pub ranges_ok-append_right : (xs ys : List Setting) → ranges_result (xs ++ ys) ≡ Ok tt → ranges_result ys ≡ Ok tt
ranges_ok-append_right xs ys e = sym (ranges_result-append_ok xs ys (ranges_ok-append_left xs ys e)) ∙ e

not_outside : (b : Bool) (s : Setting) (rest : Option Setting) → fault_of_range (cond b (Some s) rest) ≡ Ok tt
    → (b ≡ false) × (fault_of_range rest ≡ Ok tt)
not_outside true s rest e = absurd (cc)
not_outside false s rest e = (refl, e)

pub ranges_ok-tail : (s : Setting) (rest : List Setting) → ranges_result (s ∷ rest) ≡ Ok tt → ranges_result rest ≡ Ok tt
unfolding ranges_result
ranges_ok-tail s rest e = (not_outside (is_outside s) s (find is_outside rest) e).1

pub ranges_ok-head : (s : Setting) (rest : List Setting) → ranges_result (s ∷ rest) ≡ Ok tt
    → (s.least ≤ℤ s.value) × (s.value ≤ℤ s.greatest)
unfolding ranges_result
ranges_ok-head s rest e =
    let inside : is_outside s ≡ false = (not_outside (is_outside s) s (find is_outside rest) e).0 in
    grind (arith, ints)

signed_head : (e : Option ℕ) (f : Field) (v least greatest : ℤ) (rest : List Setting)
    → ranges_result (signed_setting e f v least greatest ∷ rest) ≡ Ok tt → (least ≤ℤ v) × (v ≤ℤ greatest)
signed_head e f v least greatest rest ok = ranges_ok-head (signed_setting e f v least greatest) rest ok

natural_head : (e : Option ℕ) (f : Field) (v least greatest : ℕ) (rest : List Setting)
    → ranges_result (setting e f v least greatest ∷ rest) ≡ Ok tt → (least ≤ v) × (v ≤ greatest)
natural_head e f v least greatest rest ok =
    let at = signed_head e f (pos v) (pos least) (pos greatest) rest ok in
    let low : pos least ≤ℤ pos v = at.0 in
    let high : pos v ≤ℤ pos greatest = at.1 in
    (omega (arith, ints), omega (arith, ints))

jump_in_range : (number : ℕ) (field : Field) (pass_at fail_at : ℤ) (jump : Option ℤ) → ranges_result (jump_settings number field pass_at fail_at jump) ≡ Ok tt
    → IsJumpBetween pass_at fail_at jump
unfolding jump_settings
jump_in_range number field pass_at fail_at None ok = tt
jump_in_range number field pass_at fail_at (Some jump) ok =
    let at = signed_head (Some number) field jump (pass_at +ℤ pos 1) (fail_at -ℤ pos 1) [] ok in
    let low : (pass_at +ℤ pos 1) ≤ℤ jump = at.0 in
    let high : jump ≤ℤ (fail_at -ℤ pos 1) = at.1 in
    (omega (arith, ints), omega (arith, ints))

-- The thresholds and the steps, and the jumps.
counter_in_range : (number : ℕ) (fail_at pass_at up down : ℤ) (jump_up jump_down : Option ℤ)
    → ranges_result (threshold_settings number fail_at pass_at up down) ≡ Ok tt
    → ranges_result (jump_settings number JumpUp pass_at fail_at jump_up) ≡ Ok tt
    → ranges_result (jump_settings number JumpDown pass_at fail_at jump_down) ≡ Ok tt
    → IsCounterInRange fail_at pass_at up down jump_up jump_down
unfolding threshold_settings
counter_in_range number fail_at pass_at up down jump_up jump_down ok ok_up ok_down =
    let at_pass = ranges_ok-tail _ _ ok in
    let at_up = ranges_ok-tail _ _ at_pass in
    let at_down = ranges_ok-tail _ _ at_up in
    record {
      fail_at_above = ranges_ok-head _ _ ok;
      pass_at_below = ranges_ok-head _ _ at_pass;
      up_above = ranges_ok-head _ _ at_up;
      down_above = ranges_ok-head _ _ at_down;
      jump_up_between = jump_in_range number JumpUp pass_at fail_at jump_up ok_up;
      jump_down_between = jump_in_range number JumpDown pass_at fail_at jump_down ok_down;
    }

debounce_in_range : (number : ℕ) (debounce : Debounce) → ranges_result (debounce_settings number debounce) ≡ Ok tt → IsDebounceInRange debounce
unfolding debounce_settings counter_settings
debounce_in_range number (Counter fail_at pass_at up down jump_up jump_down) ok =
    let both = ranges_ok-append_left (threshold_settings number fail_at pass_at up down ++ jump_settings number JumpUp pass_at fail_at jump_up) (jump_settings number JumpDown pass_at fail_at jump_down) ok in
    counter_in_range number fail_at pass_at up down jump_up jump_down
    (ranges_ok-append_left _ (jump_settings number JumpUp pass_at fail_at jump_up) both)
    (ranges_ok-append_right (threshold_settings number fail_at pass_at up down) _ both)
    (ranges_ok-append_right (threshold_settings number fail_at pass_at up down ++ jump_settings number JumpUp pass_at fail_at jump_up) _ ok)
debounce_in_range number (Time fail pass) ok =
    (natural_head (Some number) FailTicks fail 1 65535 _ ok, natural_head (Some number) PassTicks pass 1 65535 _ (ranges_ok-tail _ _ ok))

widths_in_range : (e : ℕ) (dids : List DidUse) → ranges_result (did_width_settings e dids) ≡ Ok tt → All (λ did. IsFromTo 1 8 did.width) dids
unfolding did_width_settings
widths_in_range e [] ok = All-nil _
widths_in_range e (d ∷ dids) ok =
    All-cons (λ did. IsFromTo 1 8 did.width) d dids (natural_head (Some e) DidWidth d.width 1 8 _ ok)
    (widths_in_range e dids (ranges_ok-tail _ _ ok))

pub event_in_range : (e : ℕ) (event : EventCfg) → ranges_result (event_settings e event) ≡ Ok tt → IsEventInRange event
unfolding event_settings plain_settings did_settings
event_in_range e event ok =
    let plain_and_debounce = ranges_ok-append_left (plain_settings e event ++ debounce_settings e event.debounce) (did_settings e event.dids.items) ok in
    let plain = ranges_ok-append_left (plain_settings e event) (debounce_settings e event.debounce) plain_and_debounce in
    let dids = ranges_ok-append_right (plain_settings e event ++ debounce_settings e event.debounce) (did_settings e event.dids.items) ok in
    let at_priority = ranges_ok-tail _ _ plain in
    let at_cycle = ranges_ok-tail _ _ at_priority in
    let at_confirm = ranges_ok-tail _ _ at_cycle in
    let at_heal = ranges_ok-tail _ _ at_confirm in
    let at_age = ranges_ok-tail _ _ at_heal in
    record {
      dtc = natural_head (Some e) Dtc event.dtc 1 16777214 _ plain;
      priority = natural_head (Some e) Priority event.priority 1 255 _ at_priority;
      cycle = (natural_head (Some e) Cycle event.cycle 0 3 _ at_cycle).1;
      confirm = natural_head (Some e) Confirm event.confirm 1 255 _ at_confirm;
      heal = natural_head (Some e) Heal event.heal 1 255 _ at_heal;
      age = natural_head (Some e) Age event.age 1 255 _ at_age;
      debounce = debounce_in_range e event.debounce
          (ranges_ok-append_right (plain_settings e event) (debounce_settings e event.debounce) plain_and_debounce);
      did_widths = widths_in_range e event.dids.items (ranges_ok-append_left (did_width_settings e event.dids.items) _ dids);
      frame = (natural_head (Some e) DidSum (frame_width event.dids.items) 0 32 _ (ranges_ok-append_right (did_width_settings e event.dids.items) _ dids)).1;
    }

pub events_in_range : (e : ℕ) (events : List EventCfg) → ranges_result (events_settings e events) ≡ Ok tt → All IsEventInRange events
unfolding events_settings
events_in_range e [] ok = All-nil _
events_in_range e (event ∷ events) ok =
    All-cons IsEventInRange event events (event_in_range e event (ranges_ok-append_left _ _ ok))
    (events_in_range (e + 1) events (ranges_ok-append_right _ _ ok))

-- What `check` keeps of a configuration.
pub valid : (c : Config) → ranges_result (settings c) ≡ Ok tt → AllPairs HasOtherDtc c.events.items → needed_pages c ≤ c.pages → IsValid c
unfolding global_settings
valid c ok distinct room =
    let globals = ranges_ok-append_left (global_settings c) (events_settings 0 c.events.items) ok in
    let at_pages = ranges_ok-tail _ _ globals in
    let at_blocks = ranges_ok-tail _ _ at_pages in
    record {
      memory = natural_head None Memory c.memory 1 16 _ globals;
      pages = natural_head None Pages c.pages 64 1024 _ at_pages;
      blocks = (natural_head None Blocks c.blocks 0 40 _ at_blocks).1;
      events = events_in_range 0 c.events.items (ranges_ok-append_right (global_settings c) _ ok);
      distinct = distinct;
      room = room;
    }
