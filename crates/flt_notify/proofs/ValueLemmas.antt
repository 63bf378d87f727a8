-- The values of all kinds, taken change by change, are those of each kind by itself.
use Rattle.std.proofs.Common.{◌≡◌, ◌∙◌, ℕ, zero, suc, arith, List, [], ◌∷◌, inl, inr, nat_eq, length, refl, sym, ap}
use Rattle.std.proofs.lemmas.Bool.{cases_Bool}
use Rattle.std.specs.Prelude.{slice_set, replicate, slice_index_or, ◌≤◌, ◌<◌, ◌^◌, fold}
use Rattle.std.proofs.lemmas.List.Sums.{fold-append}
use Rattle.flt_model.specs.Start.{Start, History}
use Rattle.flt_model.specs.declared.call.Op.{Op}
use Rattle.flt_notify.specs.declared.change.Change.{Change}
use Rattle.flt_notify.specs.Changes.{changes, changes_from, changes_of_call, statuses_after}
use Rattle.flt_notify.specs.Value.{IsInRange, word, next_value, next_values, value_after, values_after}

word_is_small : (change : Change) → IsInRange change → word change < 2 ^ 32
word_is_small change range = omega (arith, range.event, range.before, range.after)

-- A value stays within 32 bits.
pub next_is_small : (kind value : ℕ) (change : Change) → IsInRange change → next_value kind value change < 2 ^ 32
next_is_small zero value change range = omega arith
next_is_small (suc zero) value change range = word_is_small change range
next_is_small (suc (suc kind)) value change range = grind arith

-- The place of a change is part of no value.
value_without_place : (kind : ℕ) (values : List ℕ) (p q event before after : ℕ)
    → next_values kind values (record { place = p; event = event; before = before; after = after })
    ≡ next_values kind values (record { place = q; event = event; before = before; after = after })
value_without_place kind [] p q event before after = refl
value_without_place kind (value ∷ values) p q event before after =
    ap (λ rest. next_value kind value (record { place = p; event = event; before = before; after = after }) ∷ rest)
    (value_without_place (suc kind) values p q event before after)

pub place_is_free : (values : List ℕ) (p q event : ℕ) (befores afters : List ℕ)
    → fold (next_values 0) values (changes_from p event befores afters) ≡ fold (next_values 0) values (changes_from q event befores afters)
place_is_free values p q event [] afters = refl
place_is_free values p q event (before ∷ befores) [] = refl
place_is_free values p q event (before ∷ befores) (after ∷ afters) =
    elim (cases_Bool (nat_eq before after)) [
      | inl same ↦ rw same (place_is_free values p q (suc event) befores afters)
      | inr other ↦
          let change : ℕ → Change = λ place. record { place = place; event = event; before = before; after = after } in
          rw other (ap (λ now. fold (next_values 0) now (changes_from p (suc event) befores afters)) (value_without_place 0 values p q event before after)
          ∙ place_is_free (next_values 0 values (change q)) p q (suc event) befores afters)
    ]

-- Each kind takes the changes by itself.
pub kinds_apart : (v w x : ℕ) (made : List Change)
    → fold (next_values 0) (v ∷ w ∷ x ∷ []) made ≡ fold (next_value 0) v made ∷ fold (next_value 1) w made ∷ fold (next_value 2) x made ∷ []
kinds_apart v w x [] = refl
kinds_apart v w x (change ∷ made) = kinds_apart (next_value 0 v change) (next_value 1 w change) (next_value 2 x change) made

-- The values after a call more are those before it, taken through its changes.
pub values_follow : (life : Start) (past : History) (op : Op) (place : ℕ)
    → fold (next_values 0) (values_after life past) (changes_from place 0 (statuses_after life past) (statuses_after life (op ∷ past)))
    ≡ values_after life (op ∷ past)
values_follow life past op place =
    let made = changes_of_call life past (op ∷ past) in
    let each : (kind : ℕ) → fold (next_value kind) (value_after life past kind) made ≡ value_after life (op ∷ past) kind =
    λ kind. sym (fold-append (next_value kind) 0 (changes life past) made) in
    place_is_free (values_after life past) place (length past) 0 (statuses_after life past) (statuses_after life (op ∷ past))
    ∙ kinds_apart (value_after life past 0) (value_after life past 1) (value_after life past 2) made
    ∙ (λ i. each 0 i ∷ each 1 i ∷ each 2 i ∷ [])

-- The values by their kinds.
pub values_by_kind : (life : Start) (past : History) (kind : ℕ) → kind ≤ 2 → slice_index_or (values_after life past) kind 0 ≡ value_after life past kind
values_by_kind life past zero within = refl
values_by_kind life past (suc zero) within = refl
values_by_kind life past (suc (suc zero)) within = refl
values_by_kind life past (suc (suc (suc kind))) within = absurd (omega (arith, within))

-- A value that is put at its beginning among values that are there stays.
pub zero_stays : (kind : ℕ) → kind ≤ 2 → slice_set {A = ℕ} (replicate 3 0) kind 0 ≡ replicate 3 0
zero_stays zero within = refl
zero_stays (suc zero) within = refl
zero_stays (suc (suc zero)) within = refl
zero_stays (suc (suc (suc kind))) within = absurd (omega (arith, within))
