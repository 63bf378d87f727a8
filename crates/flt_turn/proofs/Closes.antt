-- A lock whose seats were all joined has its vault at home.
use Rattle.std.proofs.Common.{◌≡◌, ℕ, zero, suc, ◌≤◌, List, [], ◌∷◌, All, Contains, length, map, Option, Some, Bool, true, false, cond, not, ◌&&◌, eqb, ne_eqb, refl, sym, ap, ◌∙◌, subst, arith, lt_of_not-le}
use mathlib.Core.List.{IsPrefix}
use mathlib.Core.Option.{some, some-injective, some-ne-none}
use lib.ListN.{get_elem?}
use Rattle.atomic_table.specs.Seated.{TableId}
use Rattle.atomic_table.specs.Table.{State, Final, Seen}
use Rattle.flt_turn.specs.declared.machine.Machine.{Ghosts}
use Rattle.flt_turn.specs.declared.vault.Entry.{Entry}
use Rattle.flt_turn.specs.declared.view.Stage.{Stage}
use Rattle.flt_turn.specs.declared.view.Stage.TheVariants.{Idle, Waiting, Serving, Spent}
use Rattle.flt_turn.specs.declared.view.View.{View}
use Rattle.flt_turn.specs.Journal.{calls_of, Interleaves}
use Rattle.flt_turn.specs.Order.{KnowsHistory, IsHome, Orderly}
use Rattle.flt_turn.specs.Seats.{Seated, seated}
use Rattle.flt_turn.specs.Sums.{total, one_if}
use Rattle.flt_turn.specs.Vaults.{VaultOf, journal_of, start_of}
use Rattle.flt_turn.specs.Views.{serves_at, is_spent, serves, sits, present, calls_made}
use Rattle.flt_turn.proofs.Slots.{value_or}

module _ {X : Type 0} (p f : X → ℕ) (only : (x : X) → p x ≡ 0 → f x ≡ 0) where
  total_none : (xs : List X) → total p xs ≡ 0 → total f xs ≡ 0
  total_none [] none = refl
  total_none (x ∷ xs) none = omega (arith, only x (omega arith), total_none xs (omega arith))

  -- Where p counts one place alone, f has nothing elsewhere.
  total_only : (xs : List X) (i : ℕ) (v : X) → get_elem? xs i ≡ some v → p v ≡ 1 → total p xs ≡ 1 → total f xs ≡ f v
  total_only [] i v at one all = absurd (some-ne-none v (sym at))
  total_only (x ∷ xs) zero v at one all =
      let same = some-injective x v at in
      let here : p x ≡ 1 = ap p same ∙ one in
      omega (arith, total_none xs (omega arith), ap f same)
  total_only (x ∷ xs) (suc i) v at one all =
      let here = at_least xs i v at in
      omega (arith, only x (omega arith), total_only xs i v at one (omega arith))
    where
      at_least : (ys : List X) (j : ℕ) (w : X) → get_elem? ys j ≡ some w → p w ≤ total p ys
      at_least [] j w e = absurd (some-ne-none w (sym e))
      at_least (y ∷ ys) zero w e = omega (arith, ap p (some-injective y w e))
      at_least (y ∷ ys) (suc j) w e = omega (arith, at_least ys j w e)

module _ {O : Type 0} where
  abbrev numbers_of : List (ℕ × List O) → List ℕ
  numbers_of lanes = map (λ lane. lane.0) lanes

  uncounted : (lanes : List (ℕ × List O)) (n : ℕ) → ¬ Contains (numbers_of lanes) n → total (λ lane. one_if (eqb lane.0 n)) lanes ≡ 0
  uncounted [] n none = refl
  uncounted (lane ∷ lanes) n none =
      let here : one_if (eqb lane.0 n) ≡ 0 = ap one_if (ne_eqb lane.0 n (λ same. none (0, omega arith, same))) in
      let there = uncounted lanes n (λ has. none (suc has.0, (let l = has.1 in omega arith), has.2)) in
      omega (arith, here, there)

serves_only : (t : ℕ) (stage : Stage) → one_if (not (is_spent stage)) ≡ 0 → serves_at t stage ≡ 0
serves_only t Idle none = refl
serves_only t (Waiting mine) none = refl
serves_only t (Serving mine) none = absurd (omega arith)
serves_only t Spent none = refl

module _ {S O : Type 0} where
  sits_only : (n : ℕ) (v : View S O) → present v ≡ 0 → sits n v ≡ 0
  sits_only n v none = by_case (is_spent v.stage) none
    where
      by_case : (b : Bool) → one_if (not b) ≡ 0 → one_if (not b && eqb v.number n) ≡ 0
      by_case true e = refl
      by_case false e = absurd (omega arith)

  calls_only : (v : View S O) → present v ≡ 0 → calls_made v ≡ 0
  calls_only v none = by_case (is_spent v.stage) none
    where
      by_case : (b : Bool) → one_if (not b) ≡ 0 → cond b 0 (length v.mine) ≡ 0
      by_case true e = refl
      by_case false e = absurd (omega arith)

module _ {M S O : Type 0} {m : Ghosts M S O} (start : S) (room : ℕ) where
  -- What the main seat knows of the vault that comes back.
  pub record Comes (main : Seated S O) (vault : VaultOf m) : Type 0 where
    pub start_is : start_of vault ≡ main.start
    pub seen : IsPrefix main.seen (journal_of vault)
    pub olds : All (λ old. IsPrefix old (journal_of vault)) main.olds
    pub calls : Interleaves (journal_of vault) ((main.number, main.mine) ∷ main.ended)
    pub admitted : All (λ e. m.admits main.start e.op) (journal_of vault)

  module _ (s : State (Option (VaultOf m)) (View S O)) (h : Orderly start room s) (id : ℕ) (v : View S O) (at : get_elem? s.views id ≡ some v) (idle : v.stage ≡ Idle) (main : v.number ≡ 0) (whole : length v.ended ≡ v.children) where
    known : KnowsHistory start room h.tally.history h.tally.children h.tally.joined v
    known = h.known.each id v at (ap is_spent idle)

    here : present v ≡ 1
    here = ap (λ x. one_if (not (is_spent x))) idle

    alone : total present s.views ≡ 1
    alone = let of_main = known.main main in let long = ap length of_main.1 in let count_is = of_main.0 in let p = h.sums.seats in omega arith

    free : total (serves h.tally.served) s.views ≡ 0
    free = total_only present (serves h.tally.served) (λ u none. serves_only h.tally.served u.stage none) s.views id v at here alone ∙ ap (serves_at h.tally.served) idle

    at_home : IsHome start room h.tally.history s.homes
    at_home = h.turn.home free

    abbrev lanes : List (ℕ × List O)
    lanes = (v.number, v.mine) ∷ v.ended

    no_others : (n : ℕ) → ¬ Contains (numbers_of lanes) n → calls_of n h.tally.history ≡ []
    no_others n none = (h.named.no_other n (lt_of_not-le (λ within.
        let of_main = known.main main in
        let counted = uncounted lanes n none in
        let mine : total (sits n) s.views ≡ sits n v = total_only present (sits n) (sits_only n) s.views id v at here alone in
        let his : sits n v ≡ one_if (eqb v.number n) = ap (λ b. one_if (not (is_spent b) && eqb v.number n)) idle in
        let rest : total (λ (seat : ℕ × List O). one_if (eqb seat.0 n)) v.ended ≡ total (λ (seat : ℕ × List O). one_if (eqb seat.0 n)) h.tally.joined = ap (total (λ (seat : ℕ × List O). one_if (eqb seat.0 n))) of_main.1 in
        let one = h.named.one_each n within in
        omega arith))).1

    comes : (lock : TableId) (home : IsHome start room h.tally.history s.homes) → Comes (seated lock v) home.vault
    comes lock home =
        let k = known in
        let of_main = k.main main in
        let is = home.journal_is in
        record {
          start_is = home.start_is ∙ sym k.start_is;
          seen = subst (IsPrefix v.seen) (sym is) k.seen;
          olds = subst (λ l. All (λ old. IsPrefix old l) v.olds) (sym is) k.olds;
          admitted = subst (λ (x : S × List (Entry O)). All (λ e. m.admits x.0 e.op) x.1) (λ i. (sym k.start_is i, sym is i)) h.known.admitted;
          calls = subst (λ l. Interleaves l lanes) (sym is) record {
            each = each_lane;
            others = no_others;
            as_many =
                let made = total_only present calls_made calls_only s.views id v at here alone in
                let mine : calls_made v ≡ length v.mine = ap (λ x. cond (is_spent x) 0 (length v.mine)) idle in
                let rest : total (λ (seat : ℕ × List O). length seat.1) v.ended ≡ total (λ (seat : ℕ × List O). length seat.1) h.tally.joined = ap (total (λ (seat : ℕ × List O). length seat.1)) of_main.1 in
                let long = h.known.length_is in
                let all = h.sums.lengths in
                omega arith;
          };
        }
      where
        each_lane : All (λ lane. calls_of lane.0 h.tally.history ≡ lane.1) lanes
        each_lane zero d below = known.mine
        each_lane (suc k) d below = subst (All (λ lane. calls_of lane.0 h.tally.history ≡ lane.1)) (sym (known.main main).1) h.named.ended k d (omega arith)

  closes : (lock : TableId) (id : ℕ) (v : View S O) (words : List ℕ) (slots : List (Option (VaultOf m))) → v.stage ≡ Idle → v.number ≡ 0 → length v.ended ≡ v.children
      → Final (Seen (Orderly start room) id v) words slots → (vault : VaultOf m) × (get_elem? slots 0 ≡ some (Some vault)) × Comes (seated lock v) vault
  closes lock id v words slots idle main whole f =
      let h = f.1.0 in
      let at = f.1.1 in
      let home = at_home f.0 h id v at idle main whole in
      (home.vault, f.4 0 (Some home.vault) home.there, comes f.0 h id v at idle main whole lock home)

  -- The same, of what the seat shows and of what is then taken out.
  pub closes_shown : (lock : TableId) (id : ℕ) (v : View S O) (words : List ℕ) (slots : List (Option (VaultOf m))) (shown : Seated S O) (taken : Option (VaultOf m)) → seated lock v ≡ shown → v.stage ≡ Idle → shown.number ≡ 0
      → length shown.ended ≡ shown.children → Final (Seen (Orderly start room) id v) words slots → get_elem? slots 0 ≡ some taken → (vault : VaultOf m) × (taken ≡ Some vault) × Comes shown vault
  closes_shown lock id v words slots shown taken is idle main whole f found =
      let c = closes lock id v words slots idle (ap (λ x. x.number) is ∙ main) (subst (λ x. length x.ended ≡ x.children) (sym is) whole) f in
      (c.0, some-injective _ _ (sym found ∙ c.1), subst (λ x. Comes x c.0) is c.2)

  pub comes_as : (shown : Seated S O) (a b : VaultOf m) → Some a ≡ Some b → Comes shown a → Comes shown b
  comes_as shown a b same = subst (Comes shown) (ap (value_or a) same)
