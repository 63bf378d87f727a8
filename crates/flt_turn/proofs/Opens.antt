-- A new lock keeps the rule.
use Rattle.std.proofs.Common.{◌≡◌, ℕ, zero, suc, ◌+◌, ◌^◌, ◌<◌, ◌≤◌, [], ◌∷◌, Some, false, eqb, ne_eqb, refl, sym, ap, subst, arith}
use mathlib.Core.Option.{some, some-injective, some-ne-none}
use lib.ListN.{get_elem?}
use Rattle.atomic_table.specs.Table.{opening}
use Rattle.flt_turn.specs.declared.machine.Machine.{Ghosts}
use Rattle.flt_turn.specs.declared.view.View.{View}
use Rattle.flt_turn.specs.Order.{KnowsHistory, Orderly}
use Rattle.flt_turn.specs.Sums.{one_if}
use Rattle.flt_turn.specs.Vaults.{VaultOf, journal_of, start_of, room_of}
use Rattle.flt_turn.specs.Views.{is_spent, main_view}
use Rattle.flt_turn.proofs.Journals.{prefix_refl}

module _ {M S O : Type 0} {m : Ghosts M S O} where
  pub opens : (vault : VaultOf m) (start : S) (room : ℕ) → journal_of vault ≡ [] → start_of vault ≡ start → room ≤ room_of vault → room < 2 ^ 32
      → Orderly start room (opening (0 ∷ 0 ∷ []) (Some vault ∷ []) (main_view start room))
  opens vault start room empty start_is roomy small = record {
    tally = record {
      next = 0;
      served = 0;
      history = [];
      children = 0;
      joined = [];
    };
    words = refl;
    slots = refl;
    small = small;
    tickets = record {
      in_order = omega arith;
      out = λ t from under. absurd (omega arith);
      past = λ t under. absurd (omega arith);
      to_come = λ t from. refl;
    };
    turn = record {
      no_other = λ t apart. refl;
      home = λ free. record { vault = vault; there = refl; journal_is = empty; start_is = start_is; roomy = roomy };
      away = λ busy. absurd (omega arith);
    };
    known = record {
      length_is = refl;
      admitted = λ k d below. absurd (omega arith);
      each = only;
    };
    named = record {
      one_each = λ n within. let main : n ≡ 0 = omega arith in ap (λ k. one_if (eqb 0 k) + 0 + 0) main;
      no_other = λ n beyond. (ap (λ b. one_if b + 0 + 0) (ne_eqb 0 n (λ same. omega arith)), refl);
      ended = λ k d below. absurd (omega arith);
    };
    sums = record {
      seats = refl;
      lengths = refl;
      places = omega arith;
    };
  }
    where
      only : (j : ℕ) (v : View S O) → get_elem? (main_view start room ∷ []) j ≡ some v → is_spent v.stage ≡ false → KnowsHistory start room [] 0 [] v
      only zero v at seated = subst (KnowsHistory start room [] 0 []) (some-injective _ _ at) record {
        start_is = refl;
        room_is = refl;
        seen = prefix_refl [];
        olds = λ k d below. absurd (omega arith);
        mine = refl;
        own = refl;
        main = λ _. (refl, refl);
        turn = λ t other. absurd (cc);
      }
      only (suc j) v at seated = absurd (some-ne-none v (sym at))
