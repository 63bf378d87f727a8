-- What is in a journal is in a longer one, and the calls of blocks after those of others.
use Rattle.std.proofs.Common.{◌≡◌, ℕ, zero, suc, List, [], ◌∷◌, ◌++◌, All, length, get_or, Some, arith, refl, sym, ap, subst, ◌∙◌}
use Rattle.std.specs.Prelude.{slice_get}
use Rattle.std.proofs.lemmas.List.{append-nil, append_assoc}
use Rattle.std.proofs.lemmas.Option.{slice_get_within}
use mathlib.Core.List.{IsPrefix}
use lib.Seq.{take-append-le}
use Rattle.flt_turn.specs.declared.vault.Entry.{Entry}
use Rattle.flt_turn.specs.Journal.{ops_of}
use Rattle.flt_fork.specs.Mixing.{Call, Mixes, Block, HasInOrder, asked_of, IsToldInPlace, BlockTold}

module _ {X : Type 0} where
  pub get_longer : (xs ys : List X) (k : ℕ) (x : X) → slice_get xs k ≡ Some x → slice_get (xs ++ ys) k ≡ Some x
  get_longer [] ys k x is = absurd (cc)
  get_longer (y ∷ xs) ys zero x is = is
  get_longer (y ∷ xs) ys (suc k) x is = get_longer xs ys k x is

  pub at_end : (front : List X) (e : X) (place : ℕ) → length front ≡ place → slice_get (front ++ e ∷ []) place ≡ Some e
  at_end [] e zero is = refl
  at_end [] e (suc place) is = absurd (omega arith)
  at_end (x ∷ front) e zero is = absurd (omega arith)
  at_end (x ∷ front) e (suc place) is = at_end front e place (omega arith)

-- What is answered in a journal is answered in a longer one.
module _ {S O R : Type 0} (answer : S → List O → O → R) (start : S) where
  pub told_longer : (journal longer : List (Entry O)) (lane : ℕ) (call : Call O R) → IsPrefix journal longer → IsToldInPlace answer start journal lane call → IsToldInPlace answer start longer lane call
  told_longer journal longer lane call pre is = subst (λ j. IsToldInPlace answer start j lane call) pre.1 record {
    stands = get_longer journal pre.0 call.told.place _ is.stands;
    reply =
        let within = slice_get_within journal call.told.place _ is.stands in
        is.reply ∙ ap (λ l. answer start (ops_of l) call.op) (sym (take-append-le call.told.place journal pre.0 (omega (arith, within))));
  }

  pub calls_longer : (journal longer : List (Entry O)) (lane : ℕ) (calls : List (Call O R)) → IsPrefix journal longer → All (IsToldInPlace answer start journal lane) calls → All (IsToldInPlace answer start longer lane) calls
  calls_longer journal longer lane calls pre all k d within = told_longer journal longer lane (get_or calls k d) pre (all k d within)

  pub block_longer : (journal longer : List (Entry O)) (lanes : Block O R) → IsPrefix journal longer → BlockTold answer start journal lanes → BlockTold answer start longer lanes
  block_longer journal longer lanes pre all k d within = calls_longer journal longer (get_or lanes k d).0 (get_or lanes k d).1 pre (all k d within)

  pub blocks_longer : (journal longer : List (Entry O)) (blocks : List (Block O R)) → IsPrefix journal longer → All (BlockTold answer start journal) blocks → All (BlockTold answer start longer) blocks
  blocks_longer journal longer blocks pre all k d within = block_longer journal longer (get_or blocks k d) pre (all k d within)

module _ {O R : Type 0} where
  pub follows_one : (lanes : Block O R) (journal : List (Entry O)) → HasInOrder (lanes ∷ []) journal → Mixes journal (asked_of lanes)
  unfolding HasInOrder
  follows_one lanes journal f = subst (λ j. Mixes j (asked_of lanes)) (sym (f.2 ∙ ap (λ l. f.0 ++ l) f.4 ∙ append-nil f.0)) f.3

  pub one_follows : (lanes : Block O R) (journal : List (Entry O)) → Mixes journal (asked_of lanes) → HasInOrder (lanes ∷ []) journal
  unfolding HasInOrder
  one_follows lanes journal mixes = (journal, [], sym (append-nil journal), mixes, refl)

  pub follow_more : (blocks more : List (Block O R)) (journal rest : List (Entry O)) → HasInOrder blocks journal → HasInOrder more rest → HasInOrder (blocks ++ more) (journal ++ rest)
  unfolding HasInOrder
  follow_more [] more journal rest none second = subst (λ l. HasInOrder more (l ++ rest)) (sym none) second
  follow_more (lanes ∷ blocks) more journal rest f second =
      (f.0, f.1 ++ rest, ap (λ l. l ++ rest) f.2 ∙ append_assoc f.0 f.1 rest, f.3, follow_more blocks more f.1 rest f.4 second)
