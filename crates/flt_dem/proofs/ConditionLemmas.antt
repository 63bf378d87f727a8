-- What a byte of the conditions that are not fulfilled says, and what a call on one does to it.
use Rattle.std.proofs.Common.{◌≡◌, ◌≢◌, ◌∙◌, ℕ, zero, suc, ◌<◌, min, nat_eq, Bool, true, not, ◌||◌, ◌==◌, List, [], ◌∷◌, map, get_or, get_or-set_same, get_or-set_other, arith, refl, sym, ap, subst, inl, inr}
use Rattle.std.specs.Prelude.{slice_set, bit_and}
use Rattle.std.specs.List.{list_all}
use Rattle.std.specs.Int.{bit_at}
use Rattle.std.specs.Int.Bits.{and_le_l}
use Rattle.std.proofs.Math.ListN.{length-set}
use Rattle.std.proofs.lemmas.Bool.{cases_Bool, cases_eq, and_from, eq-eqb, eqb-true, false_from_ne_true}
use Rattle.std.proofs.lemmas.Bool.Decides.{nat_tests}
use Rattle.std.proofs.lemmas.List.{same_lists}
use Rattle.std.proofs.lemmas.List.Sums.{AllPass-from_list_all}
use Rattle.std.proofs.lemmas.Nat.Bits.{bit_at-lt, bit_at_and, bit_at-zero, same_from_bits_below}
use Rattle.flt_model.specs.Start.{History}
use Rattle.flt_model.specs.Byte.{is_bit_set}
use Rattle.flt_model.specs.Happening.{conditions, are_met}
use Rattle.flt_model.specs.declared.call.Op.TheVariants as ops
use Rattle.flt_dem.specs.Conditions.{all_but}

-- The numbers of the conditions.
abbrev pub eight : List ℕ
eight = 0 ∷ 1 ∷ 2 ∷ 3 ∷ 4 ∷ 5 ∷ 6 ∷ 7 ∷ []

at_number : {A : Type 0} (f : ℕ → A) (k : ℕ) (d : A) → k < 8 → get_or (map f eight) k d ≡ f k
at_number f zero d h = refl
at_number f (suc zero) d h = refl
at_number f (suc (suc zero)) d h = refl
at_number f (suc (suc (suc zero))) d h = refl
at_number f (suc (suc (suc (suc zero)))) d h = refl
at_number f (suc (suc (suc (suc (suc zero))))) d h = refl
at_number f (suc (suc (suc (suc (suc (suc zero)))))) d h = refl
at_number f (suc (suc (suc (suc (suc (suc (suc zero))))))) d h = refl
at_number f (suc (suc (suc (suc (suc (suc (suc (suc k)))))))) d h = absurd (omega arith)

-- ---- a call on one condition

-- The bit of the condition says it, and the others are as they were.
pub set_where : (old new condition : ℕ) (fulfilled : Bool) → condition < 8 → not (is_bit_set new condition) ≡ fulfilled →
    ((k : ℕ) → k < 8 → k ≢ condition → bit_at new k ≡ bit_at old k) → all_but new ≡ slice_set (all_but old) condition fulfilled
set_where old new condition fulfilled within is others =
    same_lists (all_but new) (slice_set (all_but old) condition fulfilled) (sym (length-set (all_but old) condition fulfilled)) each
  where
    each : (k : ℕ) (d : Bool) → k < 8 → get_or (all_but new) k d ≡ get_or (slice_set (all_but old) condition fulfilled) k d
    each k d h =
        elim (cases_eq k condition) [
          | inl same ↦ rw same (at_number (λ c. not (is_bit_set new c)) condition d within ∙ is ∙ sym (get_or-set_same (all_but old) condition fulfilled d within))
          | inr apart ↦
              at_number (λ c. not (is_bit_set new c)) k d h ∙ ap (λ b. not (b == 1)) (others k h apart)
              ∙ sym (at_number (λ c. not (is_bit_set old c)) k d h) ∙ sym (get_or-set_other (all_but old) condition k fulfilled d apart)
        ]

-- The conditions that the calls so far say, after one more.
pub set_conditions : (condition : ℕ) (fulfilled : Bool) (past : History) →
    slice_set (conditions past) condition fulfilled ≡ conditions (ops.Enable condition fulfilled ∷ past)
set_conditions zero fulfilled past = refl
set_conditions (suc zero) fulfilled past = refl
set_conditions (suc (suc zero)) fulfilled past = refl
set_conditions (suc (suc (suc zero))) fulfilled past = refl
set_conditions (suc (suc (suc (suc zero)))) fulfilled past = refl
set_conditions (suc (suc (suc (suc (suc zero))))) fulfilled past = refl
set_conditions (suc (suc (suc (suc (suc (suc zero)))))) fulfilled past = refl
set_conditions (suc (suc (suc (suc (suc (suc (suc zero))))))) fulfilled past = refl
set_conditions (suc (suc (suc (suc (suc (suc (suc (suc condition)))))))) fulfilled past = grind (arith, nat_tests)

-- ---- a test of all

-- A condition is not in the way: it is not needed, or it is fulfilled.
abbrev is_met : ℕ → ℕ → ℕ → Bool
is_met needs missing k = not (is_bit_set needs k) || not (is_bit_set missing k)

none_of_both : (a b : ℕ) → a < 2 → b < 2 → min a b ≡ 0 → (not (a == 1) || not (b == 1)) ≡ true
none_of_both zero b h k e = refl
none_of_both (suc zero) zero h k e = refl
none_of_both (suc zero) (suc zero) h k e = absurd (omega (arith, e))
none_of_both (suc zero) (suc (suc b)) h k e = absurd (omega arith)
none_of_both (suc (suc a)) b h k e = absurd (omega arith)

both_of_none : (a b : ℕ) → a < 2 → b < 2 → (not (a == 1) || not (b == 1)) ≡ true → min a b ≡ 0
both_of_none zero b h k e = omega arith
both_of_none (suc zero) zero h k e = refl
both_of_none (suc zero) (suc zero) h k e = absurd (cc)
both_of_none (suc zero) (suc (suc b)) h k e = absurd (omega arith)
both_of_none (suc (suc a)) b h k e = absurd (omega arith)

all_from : (test : ℕ → Bool) (numbers : List ℕ) → ((n : ℕ) → test n ≡ true) → list_all test numbers ≡ true
all_from test [] each = refl
all_from test (n ∷ numbers) each = and_from (test n) (list_all test numbers) (each n) (all_from test numbers each)

all_at : (test : ℕ → Bool) → list_all test eight ≡ true → (k : ℕ) → k < 8 → test k ≡ true
all_at test all k h = subst (λ n. test n ≡ true) (at_number (λ n. n) k 0 h) (AllPass-from_list_all test eight all k 0 h)

-- No bit is set both among the needs and among the missing exactly where all needs are met.
pub met_where : (needs missing : ℕ) → needs < 256 → nat_eq (bit_and needs missing) 0 ≡ are_met needs (all_but missing)
met_where needs missing small =
    elim (cases_Bool (list_all (is_met needs missing) eight)) [
      | inl met ↦
          let none : bit_and needs missing ≡ 0 =
          same_from_bits_below 8 (bit_and needs missing) 0 (omega (arith, and_le_l needs missing, small)) (omega arith)
          (λ k h. bit_at_and needs missing k
          ∙ both_of_none (bit_at needs k) (bit_at missing k) (bit_at-lt needs k) (bit_at-lt missing k) (all_at (is_met needs missing) met k h)
          ∙ sym (bit_at-zero k)) in
          eq-eqb (bit_and needs missing) 0 none ∙ sym met
      | inr unmet ↦
          false_from_ne_true (nat_eq (bit_and needs missing) 0)
          (λ e.
          let none = eqb-true (bit_and needs missing) 0 e in
          absurd (cc (
            unmet,
            all_from (is_met needs missing) eight
                (λ k. none_of_both (bit_at needs k) (bit_at missing k) (bit_at-lt needs k) (bit_at-lt missing k)
                (sym (bit_at_and needs missing k) ∙ ap (λ n. bit_at n k) none ∙ bit_at-zero k)),
          )))
          ∙ sym unmet
    ]
