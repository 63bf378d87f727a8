-- One block more of a look at every gate.
use Rattle.std.proofs.Common.{◌≡◌, ◌<◌, ◌+◌, ℕ, Bool, true, false, List, [], length, drop, get_or, set, get_or-set_same, get_or-set_other, below_more, Option, Some, None, Result, Ok, Err, refl, sym, ◌∙◌, ap, arith}
use Rattle.std.specs.Prelude.{if◌then◌else◌, ◌||◌}
use Rattle.std.proofs.lemmas.List.{drop_more}
use Rattle.flt_ea.specs.Image.{damage_from, first_of, judged_places, gate_at, gate_in, current_place, is_damaged, same_sequence}
use Rattle.flt_ea.specs.Scan.{IsTable}
use Rattle.flt_ea.specs.declared.place.Held.{Held}

-- What a judgement without a damage is.
not_damaged : (first second : Bool) (found held : Option Held) → ◌≡◌ {A = Result (Option Held) ℕ} (Ok held) (if first then Err 0 else if second then Err 1 else Ok found) → held ≡ found
not_damaged true second found held is = absurd cc
not_damaged false true found held is = absurd cc
not_damaged false false found held is = cc

pub no_more : (position : ℕ) (units : List (List ℕ)) → damage_from position [] units ≡ None
unfolding damage_from
no_more position units = refl

module _ (numbers : List ℕ) (units : List (List ℕ)) (position : ℕ) (within : position < length numbers) where
  pub next : damage_from position (drop position numbers) units ≡ first_of position (judged_places (get_or numbers position 0) (gate_at units position 0) (gate_at units position 1)) (damage_from (position + 1) (drop (position + 1) numbers) units)
  unfolding damage_from
  next = ap (λ (l : List ℕ). damage_from position l units) (drop_more numbers position 0 within)

  pub damaged_here : (place : ℕ) → Err place ≡ judged_places (get_or numbers position 0) (gate_at units position 0) (gate_at units position 1)
      → damage_from 0 numbers units ≡ damage_from position (drop position numbers) units → damage_from 0 numbers units ≡ Some (place, position)
  damaged_here place is so = so ∙ next ∙ ap (λ (j : Result (Option Held) ℕ). first_of position j (damage_from (position + 1) (drop (position + 1) numbers) units)) (sym is)

  pub sound_on : (held : Option Held) → Ok held ≡ judged_places (get_or numbers position 0) (gate_at units position 0) (gate_at units position 1)
      → damage_from 0 numbers units ≡ damage_from position (drop position numbers) units → damage_from 0 numbers units ≡ damage_from (position + 1) (drop (position + 1) numbers) units
  sound_on held is so = so ∙ next ∙ ap (λ (j : Result (Option Held) ℕ). first_of position j (damage_from (position + 1) (drop (position + 1) numbers) units)) (sym is)

  pub table_on : (table : List (Option Held)) (held : Option Held) → position < length table
      → Ok held ≡ judged_places (get_or numbers position 0) (gate_at units position 0) (gate_at units position 1)
      → IsTable position units table → IsTable (position + 1) units (set table position held)
  table_on table held inside is before =
      below_more _ position
      (λ k lt. get_or-set_other table position k held None (omega arith) ∙ before k lt)
      (get_or-set_same table position held None inside
      ∙ not_damaged (is_damaged (get_or numbers position 0) (gate_at units position 0)) (is_damaged (get_or numbers position 0) (gate_at units position 1) || same_sequence (gate_in (gate_at units position 0)) (gate_in (gate_at units position 1))) (current_place units position) held is)
