-- The first number that is out of range is reported, in the order of the fields, and with its value.
use Rattle.std.proofs.Common.{◌≡◌, ◌∙◌, ℕ, suc, ◌+◌, ◌*◌, ◌<◌, ◌≤◌, ℤ, pos, List, [], ◌∷◌, ◌++◌, length, get_or, Option, Some, None, Err, true, refl, sym, ap, subst, arith, All, Any, inl, inr}
use Rattle.std.specs.List.{find}
use Rattle.std.proofs.lemmas.Bool.{cases_Bool}
use Rattle.std.proofs.lemmas.List.Elements.{All-nil, All-cons, All-weaker}
use Rattle.flt_config.specs.declared.setting.Setting.{Setting}
use Rattle.flt_config.specs.declared.config.Config.{Config}
use Rattle.flt_config.specs.declared.config.EventCfg.{EventCfg}
use Rattle.flt_config.specs.declared.config.DidUse.{DidUse}
use Rattle.flt_config.specs.declared.config.Debounce.{Debounce}
use Rattle.flt_config.specs.declared.config.Debounce.TheVariants.{Counter, Time}
use Rattle.flt_config.specs.declared.config.Field.{Field}
use Rattle.flt_config.specs.declared.config.Field.TheVariants.{Dtc, Priority, Cycle, Confirm, Heal, Age, FailAt, PassAt, Up, Down, JumpUp, JumpDown, FailTicks, PassTicks, DidWidth, DidSum}
use Rattle.flt_config.specs.declared.config.CfgFault.TheVariants.{Range}
use Rattle.flt_config.specs.Ranges.{frame_width, settings, global_settings, plain_settings, jump_settings, threshold_settings, counter_settings, debounce_settings, did_width_settings, did_settings, event_settings, events_settings, ranges_result, fault_of_range, is_outside}
use Rattle.flt_config.specs.FieldLaws.{number_place, IsNumberOf, HasNumber, IsFirstOutside, FirstNumberIsTold}
use Rattle.flt_config.proofs.CheckLaws.{told_fault_is_first}

-- ---- tables in order

-- A setting has the configuration's number.
abbrev HasOwn : Config → Setting → Type 0
HasOwn config checked = HasNumber config checked.event checked.field checked.value

abbrev place : Setting → ℕ
place checked = number_place checked.event checked.field

module _ (config : Config) where
  -- Settings with the configuration's numbers, whose places ascend from the first to the second.
  abbrev Ascend : ℕ → ℕ → List Setting → Type 0
  Ascend least greatest [] = least ≤ greatest
  Ascend least greatest (checked ∷ rest) = HasOwn config checked × (least ≤ place checked) × Ascend (place checked) greatest rest

  joined : (least middle greatest : ℕ) (xs ys : List Setting) → Ascend least middle xs → Ascend middle greatest ys → Ascend least greatest (xs ++ ys)
  joined least middle greatest [] [] low high = omega (arith, low, high)
  joined least middle greatest [] (y ∷ ys) low high = (high.0, omega (arith, low, high.1), high.2)
  joined least middle greatest (x ∷ xs) ys low high = (low.0, low.1, joined (place x) middle greatest xs ys low.2 high)

  later : (least middle greatest : ℕ) (xs : List Setting) → Ascend least middle xs → middle ≤ greatest → Ascend least greatest xs
  later least middle greatest [] low h = omega (arith, low, h)
  later least middle greatest (x ∷ xs) low h = (low.0, low.1, later (place x) middle greatest xs low.2 h)

  sooner : (least middle greatest : ℕ) (xs : List Setting) → least ≤ middle → Ascend middle greatest xs → Ascend least greatest xs
  sooner least middle greatest [] h up = omega (arith, h, up)
  sooner least middle greatest (x ∷ xs) h up = (up.0, omega (arith, h, up.1), up.2)

  module _ (number : ℕ) (event : EventCfg) (own : (field : Field) (value : ℤ) → IsNumberOf event field value → HasNumber config (Some number) field value) where
    abbrev start : ℕ
    start = (number + 1) * 19

    plain_ascend : Ascend (start + 3) (start + 8) (plain_settings number event)
    unfolding plain_settings
    plain_ascend = (own Dtc (pos event.dtc) refl, omega arith, (own Priority (pos event.priority) refl, omega arith, (own Cycle (pos event.cycle) refl, omega arith, (own Confirm (pos event.confirm) refl, omega arith, (own Heal (pos event.heal) refl, omega arith, (own Age (pos event.age) refl, omega arith, omega arith))))))

    jump_up_ascend : (fail_at pass_at : ℤ) (jump : Option ℤ) → ((value : ℤ) → jump ≡ Some value → HasNumber config (Some number) JumpUp value) →
        Ascend (start + 12) (start + 13) (jump_settings number JumpUp pass_at fail_at jump)
    unfolding jump_settings
    jump_up_ascend fail_at pass_at None has = omega arith
    jump_up_ascend fail_at pass_at (Some jump) has = (has jump refl, omega arith, omega arith)

    jump_down_ascend : (fail_at pass_at : ℤ) (jump : Option ℤ) → ((value : ℤ) → jump ≡ Some value → HasNumber config (Some number) JumpDown value) →
        Ascend (start + 13) (start + 14) (jump_settings number JumpDown pass_at fail_at jump)
    unfolding jump_settings
    jump_down_ascend fail_at pass_at None has = omega arith
    jump_down_ascend fail_at pass_at (Some jump) has = (has jump refl, omega arith, omega arith)

    debounce_ascend : (rules : Debounce) → event.debounce ≡ rules → Ascend (start + 8) (start + 16) (debounce_settings number rules)
    unfolding debounce_settings counter_settings threshold_settings
    debounce_ascend (Counter fail_at pass_at up down jump_up jump_down) is =
        joined (start + 8) (start + 13) (start + 16) (threshold_settings number fail_at pass_at up down ++ jump_settings number JumpUp pass_at fail_at jump_up)
        (jump_settings number JumpDown pass_at fail_at jump_down)
        (joined (start + 8) (start + 12) (start + 13) (threshold_settings number fail_at pass_at up down) (jump_settings number JumpUp pass_at fail_at jump_up)
        (own FailAt fail_at (rw is refl), omega arith, (own PassAt pass_at (rw is refl), omega arith, (own Up up (rw is refl), omega arith, (own Down down (rw is refl), omega arith, omega arith))))
        (jump_up_ascend fail_at pass_at jump_up (λ value jumps. own JumpUp value (rw is jumps))))
        (later (start + 13) (start + 14) (start + 16) _ (jump_down_ascend fail_at pass_at jump_down (λ value jumps. own JumpDown value (rw is jumps))) (omega arith))
    debounce_ascend (Time fail pass) is = (own FailTicks (pos fail) (rw is refl), omega arith, (own PassTicks (pos pass) (rw is refl), omega arith, omega arith))

    widths_ascend : (dids : List DidUse) → ((did : DidUse) → Any (λ d. d ≡ did) dids → Any (λ d. pos did.width ≡ pos d.width) event.dids.items) →
        Ascend (start + 17) (start + 17) (did_width_settings number dids)
    unfolding did_width_settings
    widths_ascend [] among = omega arith
    widths_ascend (did ∷ dids) among = (
      own DidWidth (pos did.width) (among did (0, did, omega arith, refl, refl)),
      omega arith,
      widths_ascend dids (λ other at. among other (suc at.0, at.1, omega (arith, at.2), at.3, at.4)),
    )

    dids_ascend : Ascend (start + 17) (start + 18) (did_settings number event.dids.items)
    unfolding did_settings
    dids_ascend =
        joined (start + 17) (start + 17) (start + 18) (did_width_settings number event.dids.items) _ (widths_ascend event.dids.items (λ did at. (at.0, at.1, at.2, at.3, ap (λ (d : DidUse). pos d.width) (sym at.4))))
        (own DidSum (pos (frame_width event.dids.items)) refl, omega arith, omega arith)

    event_ascend : Ascend start (start + 18) (event_settings number event)
    unfolding event_settings
    event_ascend =
        joined start (start + 16) (start + 18) _ _
        (joined start (start + 8) (start + 16) _ _ (sooner start (start + 3) (start + 8) _ (omega arith) plain_ascend) (debounce_ascend event.debounce refl))
        (sooner (start + 16) (start + 17) (start + 18) _ (omega arith) dids_ascend)

  own_of : (number : ℕ) (event : EventCfg) → number < length config.events.items → ((d : EventCfg) → get_or config.events.items number d ≡ event) →
      (field : Field) (value : ℤ) → IsNumberOf event field value → HasNumber config (Some number) field value
  own_of number event within at field value is = (within, λ d. subst (λ e. IsNumberOf e field value) (sym (at d)) is)

  -- The events from one on, each after the one before it.
  events_ascend : (number : ℕ) (events : List EventCfg) →
      ((k : ℕ) (d : EventCfg) → k < length events → (number + k < length config.events.items) × (get_or config.events.items (number + k) d ≡ get_or events k d)) →
      Ascend ((number + 1) * 19) ((number + length events + 1) * 19) (events_settings number events)
  unfolding events_settings
  events_ascend number [] at = omega arith
  events_ascend number (event ∷ events) at =
      let here : number + 0 ≡ number = omega arith in
      let own = own_of number event (omega (arith, (at 0 event (omega arith)).0)) (λ d. ap (λ n. get_or config.events.items n d) (sym here) ∙ (at 0 d (omega arith)).1) in
      joined ((number + 1) * 19) ((number + 1) * 19 + 18) ((number + length (event ∷ events) + 1) * 19) _ _ (event_ascend number event own)
      (sooner ((number + 1) * 19 + 18) ((number + 1 + 1) * 19) ((number + length (event ∷ events) + 1) * 19) _ (omega arith)
      (later ((number + 1 + 1) * 19) ((number + 1 + length events + 1) * 19) ((number + length (event ∷ events) + 1) * 19) _
      (events_ascend (number + 1) events (λ k d within.
      let next : number + 1 + k ≡ number + suc k = omega arith in
      let behind = at (suc k) d (omega (arith, within)) in
      (omega (arith, behind.0), ap (λ n. get_or config.events.items n d) next ∙ behind.1)))
      (omega arith)))

  settings_ascend : Ascend 0 ((length config.events.items + 1) * 19) (settings config)
  unfolding global_settings
  settings_ascend =
      joined 0 19 ((length config.events.items + 1) * 19) (global_settings config) (events_settings 0 config.events.items)
      (refl, omega arith, (refl, omega arith, (refl, omega arith, omega arith)))
      (sooner 19 ((0 + 1) * 19) ((length config.events.items + 1) * 19) _ (omega arith)
      (later ((0 + 1) * 19) ((0 + length config.events.items + 1) * 19) ((length config.events.items + 1) * 19) _
      (events_ascend 0 config.events.items (λ k d within. let same : 0 + k ≡ k = omega arith in (omega (arith, within), ap (λ n. get_or config.events.items n d) same))) (omega arith)))

  -- ---- the first of them

  none_sooner : (least greatest : ℕ) (xs : List Setting) → Ascend least greatest xs → All (λ other. least ≤ place other) xs
  none_sooner least greatest [] up = All-nil _
  none_sooner least greatest (x ∷ xs) up =
      All-cons (λ other. least ≤ place other) x xs up.1 (All-weaker (λ other. place x ≤ place other) (λ other. least ≤ place other) (λ other behind. omega (arith, up.1, behind)) xs (none_sooner (place x) greatest xs up.2))

  -- The first setting that is out of its range.
  record IsFirst (xs : List Setting) (found : Setting) : Type 0 where
    number : HasOwn config found
    first : All (λ other. is_outside other ≡ true → place found ≤ place other) xs

  first_found : (least greatest : ℕ) (xs : List Setting) (found : Setting) → Ascend least greatest xs → find is_outside xs ≡ Some found → IsFirst xs found
  first_found least greatest [] found up e = absurd (cc)
  first_found least greatest (x ∷ xs) found up e =
      elim (cases_Bool (is_outside x)) [
        | inl outside ↦
            let here : Some x ≡ Some found = rw outside at e in
            let same : x ≡ found = cc in
            subst (λ s. IsFirst (x ∷ xs) s) same (record {
              number = up.0;
              first = All-cons (λ other. is_outside other ≡ true → place x ≤ place other) x xs (λ _. omega arith) (All-weaker (λ other. place x ≤ place other) (λ other. is_outside other ≡ true → place x ≤ place other) (λ other behind _. behind) xs (none_sooner (place x) greatest xs up.2));
            })
        | inr inside ↦
            let rest = first_found (place x) greatest xs found up.2 (rw inside at e) in
            record { number = rest.number; first = All-cons (λ other. is_outside other ≡ true → place found ≤ place other) x xs (λ outside. absurd (cc)) rest.first }
      ]

  told : (found : Option Setting) (event : Option ℕ) (field : Field) (value : ℤ) → find is_outside (settings config) ≡ found →
      fault_of_range found ≡ Err (Range event field value) → IsFirstOutside config event field value
  told None event field value is e = absurd (cc)
  told (Some found) event field value is e =
      let one = first_found 0 ((length config.events.items + 1) * 19) (settings config) found settings_ascend is in
      let event_is : found.event ≡ event = cc in
      let field_is : found.field ≡ field = cc in
      let value_is : found.value ≡ value = cc in
      told_so event field value event_is field_is value_is (record { number = one.number; first = one.first })
    where
      told_so : (event : Option ℕ) (field : Field) (value : ℤ) → found.event ≡ event → found.field ≡ field → found.value ≡ value →
          IsFirstOutside config found.event found.field found.value → IsFirstOutside config event field value
      told_so event field value event_is field_is value_is r =
          subst (λ e. IsFirstOutside config e field value) event_is
          (subst (λ f. IsFirstOutside config found.event f value) field_is (subst (λ v. IsFirstOutside config found.event found.field v) value_is r))

pub first_number_is_told : FirstNumberIsTold
unfolding ranges_result
first_number_is_told config event field value e =
    told config (find is_outside (settings config)) event field value refl (told_fault_is_first config (Range event field value) e)
