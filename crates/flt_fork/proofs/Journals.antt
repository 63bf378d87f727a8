-- Journals in two pieces: which calls are in which piece.
use Rattle.std.proofs.Common.{◌≡◌, ℕ, zero, suc, ◌<◌, ◌≤◌, ◌+◌, List, [], ◌∷◌, ◌++◌, All, length, map, get_or, eq-eqb, arith, refl, sym, ap, subst, ◌∙◌, cond, leb, Bool, true, false, Some}
use Rattle.std.specs.Prelude.{slice_get}
use Rattle.std.proofs.lemmas.List.{length-append, append-nil, nil_from_length}
use Rattle.std.proofs.lemmas.List.Elements.{All-map, All-contains}
use Rattle.std.proofs.lemmas.Bool.{leb-true, leb-false}
use mathlib.Core.List.{IsPrefix, append-eq-nil_iff}
use Rattle.flt_turn.specs.declared.vault.Entry.{Entry}
use Rattle.flt_turn.specs.Journal.{entry, calls_of}
use Rattle.flt_turn.proofs.Journals.{calls_of-append, other_call, prefix_longer}
use Rattle.flt_fork.specs.Mixing.{Mixes}

module _ {X : Type 0} where
  pub empty_unless : (xs : List X) → ((x : X) (rest : List X) → xs ≡ x ∷ rest → ⊥) → xs ≡ []
  empty_unless [] not_more = refl
  empty_unless (x ∷ xs) not_more = absurd (not_more x xs refl)

  pub prefix_trans : (xs ys zs : List X) → IsPrefix xs ys → IsPrefix ys zs → IsPrefix xs zs
  prefix_trans xs ys zs first second = subst (IsPrefix xs) second.1 (prefix_longer xs ys second.0 first)

module _ {O : Type 0} where
  -- The first entry is a call of its lane.
  pub head_call : (e : Entry O) (es : List (Entry O)) → calls_of e.lane (e ∷ es) ≡ e.op ∷ calls_of e.lane es
  head_call e es = rw (eq-eqb e.lane e.lane refl) refl

  pub no_call_behind : (n : ℕ) (xs ys : List (Entry O)) → calls_of n (xs ++ ys) ≡ [] → calls_of n ys ≡ []
  no_call_behind n xs ys none = (append-eq-nil_iff.0 (sym (calls_of-append n xs ys) ∙ none)).1

  pub no_call_before : (n : ℕ) (xs ys : List (Entry O)) → calls_of n (xs ++ ys) ≡ [] → calls_of n xs ≡ []
  no_call_before n xs ys none = (append-eq-nil_iff.0 (sym (calls_of-append n xs ys) ∙ none)).0

  -- Where no lane has a call, there is none.
  pub no_calls : (xs : List (Entry O)) → ((n : ℕ) → calls_of n xs ≡ []) → xs ≡ []
  no_calls [] none = refl
  no_calls (e ∷ es) none = let first = head_call e es in let gone = none e.lane in absurd (cc)

  -- A piece has no call of a lane, where the whole has none, or else the lane is one of those of which the piece has none.
  pub none_of : (journal piece : List (Entry O)) (lanes : List (ℕ × List O)) (n : ℕ) → Mixes journal lanes → (calls_of n journal ≡ [] → calls_of n piece ≡ [])
      → All (λ lane. lane.0 ≡ n → calls_of n piece ≡ []) lanes → calls_of n piece ≡ []
  none_of journal piece lanes n mixes from each = empty_unless (calls_of n piece) (λ x rest is.
      let none : calls_of n piece ≡ [] = from (mixes.others n (λ among.
      let gone : calls_of n piece ≡ [] = All-contains (λ number. number ≡ n → calls_of n piece ≡ []) (map (λ lane. lane.0) lanes) n (All-map (λ number. number ≡ n → calls_of n piece ≡ []) (λ lane. lane.0) lanes each) among refl in
      cc)) in
      cc)

  -- A front that has as many calls of a lane as the whole has all of them.
  pub record IsFull (n : ℕ) (ops : List O) (front rest : List (Entry O)) : Type 0 where
    pub none : calls_of n rest ≡ []
    pub all : calls_of n front ≡ ops

  pub full_front : (n : ℕ) (ops : List O) (front rest : List (Entry O)) → calls_of n (front ++ rest) ≡ ops → length ops ≤ length (calls_of n front) → IsFull n ops front rest
  full_front n ops front rest is enough =
      let parts : calls_of n front ++ calls_of n rest ≡ ops = sym (calls_of-append n front rest) ∙ is in
      let lengths : length (calls_of n front) + length (calls_of n rest) ≡ length ops = sym (length-append (calls_of n front) (calls_of n rest)) ∙ ap length parts in
      let none : calls_of n rest ≡ [] = nil_from_length (calls_of n rest) (omega (arith, lengths, enough)) in
      record { none = none; all = sym (append-nil (calls_of n front)) ∙ ap (λ l. calls_of n front ++ l) (sym none) ∙ parts }

  -- Nothing follows a front that has as many calls of each lane as the whole.
  pub none_left : (front rest : List (Entry O)) (lanes : List (ℕ × List O)) → Mixes (front ++ rest) lanes → All (λ lane. length lane.1 ≤ length (calls_of lane.0 front)) lanes → rest ≡ []
  none_left front rest lanes mixes enough = no_calls rest (λ n. none_of (front ++ rest) rest lanes n mixes (no_call_behind n front rest)
      (λ k d within same. subst (λ m. calls_of m rest ≡ []) same (full_front (get_or lanes k d).0 (get_or lanes k d).1 front rest (mixes.each k d within) (enough k d within)).none))

  -- A longer journal has as many calls.
  pub more_calls : (n : ℕ) (xs ys : List (Entry O)) → IsPrefix xs ys → length (calls_of n xs) ≤ length (calls_of n ys)
  more_calls n xs ys pre =
      let lengths : length (calls_of n xs) + length (calls_of n pre.0) ≡ length (calls_of n ys) =
      sym (length-append (calls_of n xs) (calls_of n pre.0)) ∙ ap length (sym (calls_of-append n xs pre.0)) ∙ ap (λ l. length (calls_of n l)) pre.1 in
      omega (arith, lengths)

  -- An entry of a lane comes after a front in which the lane has no call.
  pub behind_front : (n : ℕ) (op : O) (front rest : List (Entry O)) (place : ℕ) → calls_of n front ≡ [] → slice_get (front ++ rest) place ≡ Some (entry n op) → length front ≤ place
  behind_front n op [] rest place none stands = omega arith
  behind_front n op (e ∷ front) rest zero none stands =
      let first = head_call e front in
      let same : e ≡ entry n op = cc in
      let gone : calls_of e.lane (e ∷ front) ≡ [] = subst (λ m. calls_of m (e ∷ front) ≡ []) (sym (ap (λ (x : Entry O). x.lane) same)) none in
      absurd (cc)
  behind_front n op (e ∷ front) rest (suc place) none stands =
      let more = behind_front n op front rest place (no_call_behind n (e ∷ []) front none) stands in omega (arith, more)

  -- ---- a journal cut where lanes past a number begin

  -- The front in which no lane is past this number.
  abbrev pub low_front : ℕ → List (Entry O) → List (Entry O)
  low_front most [] = []
  low_front most (e ∷ es) = cond (leb e.lane most) (e ∷ low_front most es) []

  abbrev pub high_rest : ℕ → List (Entry O) → List (Entry O)
  high_rest most [] = []
  high_rest most (e ∷ es) = cond (leb e.lane most) (high_rest most es) (e ∷ es)

  both_pieces : (most : ℕ) (e : Entry O) (es : List (Entry O)) (b : Bool) → es ≡ low_front most es ++ high_rest most es
      → e ∷ es ≡ cond b (e ∷ low_front most es) [] ++ cond b (high_rest most es) (e ∷ es)
  both_pieces most e es true rest = ap (λ l. e ∷ l) rest
  both_pieces most e es false rest = refl

  pub cut_at : (most : ℕ) (journal : List (Entry O)) → journal ≡ low_front most journal ++ high_rest most journal
  cut_at most [] = refl
  cut_at most (e ∷ es) = both_pieces most e es (leb e.lane most) (cut_at most es)

  longer_front : (most : ℕ) (e : Entry O) (es more : List (Entry O)) → (most < e.lane → calls_of e.lane (e ∷ es) ≡ []) → IsPrefix es (low_front most (es ++ more))
      → (b : Bool) → leb e.lane most ≡ b → IsPrefix (e ∷ es) (low_front most (e ∷ (es ++ more)))
  longer_front most e es more none rest true low = rw low (rest.0, ap (λ l. e ∷ l) rest.1)
  longer_front most e es more none rest false high = let first = head_call e es in let gone = none (leb-false e.lane most high) in absurd (cc)

  -- A beginning without calls of lanes past the number is a beginning of that front.
  pub low_prefix : (most : ℕ) (old journal : List (Entry O)) → ((n : ℕ) → most < n → calls_of n old ≡ []) → IsPrefix old journal → IsPrefix old (low_front most journal)
  low_prefix most [] journal none pre = (low_front most journal, refl)
  low_prefix most (e ∷ es) journal none pre =
      subst (λ l. IsPrefix (e ∷ es) (low_front most l)) pre.1
      (longer_front most e es pre.0 (none e.lane) (low_prefix most es (es ++ pre.0) (λ n past. no_call_behind n (e ∷ []) es (none n past)) (pre.0, refl)) (leb e.lane most) refl)

  low_calls_more : (most n : ℕ) (e : Entry O) (es : List (Entry O)) → most < n → calls_of n (low_front most es) ≡ [] → (b : Bool) → leb e.lane most ≡ b → calls_of n (low_front most (e ∷ es)) ≡ []
  low_calls_more most n e es past rest true low = rw low (calls_of-append n (e ∷ []) (low_front most es) ∙ ap (λ l. calls_of n (e ∷ []) ++ l) rest ∙ append-nil _
      ∙ other_call n e.lane e.op (λ same. absurd (omega (arith, same, leb-true e.lane most low))))
  low_calls_more most n e es past rest false high = rw high refl

  -- No lane past the number calls in that front.
  pub low_calls : (most n : ℕ) (journal : List (Entry O)) → most < n → calls_of n (low_front most journal) ≡ []
  low_calls most n [] past = refl
  low_calls most n (e ∷ es) past = low_calls_more most n e es past (low_calls most n es past) (leb e.lane most) refl
