-- What a chain of calls leaves of its seat.
use Rattle.std.proofs.Common.{◌≡◌, ◌⊎◌, inl, inr, ◌≤◌, ◌+◌, List, [], ◌∷◌, ◌++◌, All, length, arith, refl, sym, ap, subst, ◌∙◌}
use Rattle.std.specs.Prelude.{Contains, slice_get}
use Rattle.std.proofs.lemmas.List.{length-append, append-nil, append_assoc}
use Rattle.std.proofs.lemmas.List.Elements.{All-contains, All-nil, All-cons}
use mathlib.Core.List.{IsPrefix}
use Rattle.flt_turn.specs.declared.vault.Entry.{Entry}
use Rattle.flt_turn.specs.Call.{IsCall}
use Rattle.flt_turn.specs.Journal.{entry, calls_of}
use Rattle.flt_turn.specs.Seats.{Seated}
use Rattle.flt_turn.proofs.Journals.{calls_of_own, prefix_refl, prefix_longer}
use Rattle.flt_fork.specs.Mixing.{Call, ops_asked, IsToldInPlace, Rise}
use Rattle.flt_fork.specs.Chain.{Chain}
use Rattle.flt_fork.proofs.Mixings.{at_end, told_longer}
use Rattle.flt_fork.proofs.Journals.{no_call_before, prefix_trans}

module _ {S O R : Type 0} (admits : S → O → Type 0) (answer : S → List O → O → R) where
  -- What a chain leaves.
  pub record IsFact (before : Seated S O) (calls : List (Call O R)) (after : Seated S O) : Type 0 where
    pub number_is : after.number ≡ before.number
    pub start_is : after.start ≡ before.start
    pub lock_is : after.lock ≡ before.lock
    pub olds_are : after.olds ≡ before.olds
    pub left_is : after.left + length calls ≡ before.left
    pub mine_is : after.mine ≡ before.mine ++ ops_asked calls
    pub own : length before.mine ≤ length (calls_of before.number before.seen) → length after.mine ≤ length (calls_of after.number after.seen)
    pub longer : IsPrefix before.seen after.seen
    pub fresh : before.mine ≡ [] → (old : List (Entry O)) → (IsPrefix old before.seen ⊎ Contains before.olds old) → (calls ≡ []) ⊎ (calls_of before.number old ≡ [])
    pub told : All (IsToldInPlace answer before.start after.seen before.number) calls
    pub rising : Rise (length before.seen) calls

  -- What one call leaves.
  pub call_told : (before after : Seated S O) (call : Call O R) → IsCall admits answer before after call.op call.told → IsToldInPlace answer before.start after.seen before.number call
  call_told before after call is = let ext = is.place in record {
    stands = ap (λ j. slice_get j call.told.place) ext.seen ∙ at_end (before.seen ++ ext.between) (entry before.number call.op) call.told.place ext.place_is;
    reply = is.reply;
  }

  pub call_own : (before after : Seated S O) (call : Call O R) → IsCall admits answer before after call.op call.told → calls_of after.number after.seen ≡ after.mine
  call_own before after call is = let ext = is.place in
      ap (λ n. calls_of n after.seen) ext.rest.0 ∙ ap (calls_of before.number) ext.seen ∙ calls_of_own before.number call.op (before.seen ++ ext.between) ∙ ap (λ l. l ++ call.op ∷ []) ext.own ∙ sym ext.mine

  old_before : (before after : Seated S O) (call : Call O R) → IsCall admits answer before after call.op call.told → before.mine ≡ [] → (old : List (Entry O)) → (IsPrefix old before.seen ⊎ Contains before.olds old)
      → calls_of before.number old ≡ []
  old_before before after call is none old (inl pre) = let ext = is.place in
      let whole = prefix_trans old before.seen (before.seen ++ ext.between) pre (ext.between, refl) in
      no_call_before before.number old whole.0 (ap (calls_of before.number) whole.1 ∙ ext.own ∙ none)
  old_before before after call is none old (inr among) = let ext = is.place in
      let whole = All-contains (λ o. IsPrefix o (before.seen ++ ext.between)) before.olds old ext.olds among in
      no_call_before before.number old whole.0 (ap (calls_of before.number) whole.1 ∙ ext.own ∙ none)

  call_longer : (before after : Seated S O) (call : Call O R) → IsCall admits answer before after call.op call.told → IsPrefix before.seen after.seen
  call_longer before after call is = let ext = is.place in
      subst (IsPrefix before.seen) (sym ext.seen) (prefix_longer before.seen (before.seen ++ ext.between) (entry before.number call.op ∷ []) (ext.between, refl))

  call_rises : (before after : Seated S O) (call : Call O R) (calls : List (Call O R)) → IsCall admits answer before after call.op call.told → Rise (length after.seen) calls → Rise (length before.seen) (call ∷ calls)
  unfolding Rise
  call_rises before after call calls is rising =
      let ext = is.place in
      let lengths = length-append before.seen ext.between in
      let all = ap length ext.seen ∙ length-append (before.seen ++ ext.between) (entry before.number call.op ∷ []) in
      (omega (arith, lengths, ext.place_is), subst (λ n. Rise n calls) (omega (arith, all, ext.place_is)) rising)

  pub chain_fact : (before : Seated S O) (calls : List (Call O R)) (after : Seated S O) → Chain admits answer before calls after → IsFact before calls after
  unfolding Chain Rise
  chain_fact before [] after same = record {
    number_is = ap (λ (s : Seated S O). s.number) same;
    start_is = ap (λ (s : Seated S O). s.start) same;
    lock_is = ap (λ (s : Seated S O). s.lock) same;
    olds_are = ap (λ (s : Seated S O). s.olds) same;
    left_is = let left = ap (λ (s : Seated S O). s.left) same in omega (arith, left);
    mine_is = ap (λ (s : Seated S O). s.mine) same ∙ sym (append-nil before.mine);
    own = λ enough. subst (λ (s : Seated S O). length s.mine ≤ length (calls_of s.number s.seen)) (sym same) enough;
    longer = subst (λ (s : Seated S O). IsPrefix before.seen s.seen) (sym same) (prefix_refl before.seen);
    fresh = λ none old where_known. inl refl;
    told = All-nil (IsToldInPlace answer before.start after.seen before.number);
    rising = tt;
  }
  chain_fact before (call ∷ calls) after chain =
      let mid = chain.0 in
      let is = chain.1 in
      let ext = is.place in
      let rest = chain_fact mid calls after chain.2 in
      let own_mid = call_own before mid call is in
      record {
        number_is = rest.number_is ∙ ext.rest.0;
        start_is = rest.start_is ∙ ext.rest.1;
        lock_is = rest.lock_is ∙ ext.lock;
        olds_are = rest.olds_are ∙ ext.rest.3;
        left_is = omega (arith, rest.left_is, ext.left);
        mine_is = rest.mine_is ∙ ap (λ l. l ++ ops_asked calls) ext.mine ∙ append_assoc before.mine (call.op ∷ []) (ops_asked calls);
        own = λ enough. rest.own (omega (arith, ap length own_mid));
        longer = prefix_trans before.seen mid.seen after.seen (call_longer before mid call is) rest.longer;
        fresh = λ none old where_known. inr (old_before before mid call is none old where_known);
        told = All-cons (IsToldInPlace answer before.start after.seen before.number) call calls
            (told_longer answer before.start mid.seen after.seen before.number call rest.longer (call_told before mid call is))
            (subst (λ n. All (IsToldInPlace answer before.start after.seen n) calls) ext.rest.0 (subst (λ s. All (IsToldInPlace answer s after.seen mid.number) calls) ext.rest.1 rest.told));
        rising = call_rises before mid call calls is rest.rising;
      }

  -- Chains one after the other.
  pub chain_more : (before : Seated S O) (calls : List (Call O R)) (mid : Seated S O) (more : List (Call O R)) (after : Seated S O) → Chain admits answer before calls mid → Chain admits answer mid more after
      → Chain admits answer before (calls ++ more) after
  unfolding Chain
  chain_more before [] mid more after same second = subst (λ (s : Seated S O). Chain admits answer s more after) same second
  chain_more before (call ∷ calls) mid more after first second = (first.0, first.1, chain_more first.0 calls mid more after first.2 second)

  pub chain_of_one : (before : Seated S O) (call : Call O R) (after : Seated S O) → IsCall admits answer before after call.op call.told → Chain admits answer before (call ∷ []) after
  unfolding Chain
  chain_of_one before call after is = (after, is, refl)
