-- What the gates of a sector come to.
use Rattle.std.proofs.Common.{◌≡◌, ◌⊎◌, ℕ, Bool, true, false, List, [], get_or, Option, Some, None, Result, Ok, Err, inl, inr, refl, sym, ◌∙◌, ap, subst}
use Rattle.std.specs.Prelude.{IsTrue, if◌then◌else◌, ◌==◌}
use Rattle.std.proofs.lemmas.Bool.{eqb-true, eqb-false}
use Rattle.flt_code.specs.Seal.{unsealed}
use Rattle.flt_code.specs.Spoiled.{is_spoiled}
use Rattle.flt_code.specs.Word.{word_of}
use Rattle.flt_code.specs.declared.words.Word.{Word}
use Rattle.flt_code.specs.declared.words.Word.TheVariants.{Start, Active, Head, Gate}
use Rattle.flt_sector_model.specs.Gates.{started_by, activated_by, gate_by_code, gate_by, both_gates, gates_of}
use Rattle.flt_sector_model.specs.Says.{Says, SaysOther, IsNoCode}
use Rattle.flt_sector_model.specs.Damage.{IsStart, IsActive, HasWrongStart, HasWrongActive, IsValidSector}
use Rattle.flt_sector_model.proofs.Items.{says_one}

-- One gate page: wrong, no code word, or the gate of a number.
pub data GateIs (IsMeant : Word → Type 0) (named : ℕ → Word) (fault : ℕ) (page : List ℕ) (gate : Result (Option ℕ) ℕ) : Type 0 where
  is_wrong : IsTrue (is_spoiled page) ⊎ SaysOther IsMeant page → gate ≡ Err fault → GateIs IsMeant named fault page gate
  is_none : is_spoiled page ≡ false → IsNoCode page → gate ≡ Ok None → GateIs IsMeant named fault page gate
  names : is_spoiled page ≡ false → (sequence : ℕ) → Says (named sequence) page → gate ≡ Ok (Some sequence) → GateIs IsMeant named fault page gate

module _ (page code : List ℕ) (is_code : unsealed page ≡ Some code) where
  -- A code word that is another word, or none.
  wrong_word : (IsMeant : Word → Type 0) (named : ℕ → Word) (fault : ℕ) (found : Option Word) → word_of code ≡ found → ((word : Word) → found ≡ Some word → IsMeant word → ⊥) → GateIs IsMeant named fault page (Err fault)
  wrong_word IsMeant named fault found says differs = is_wrong (inr (record { code = code; is_code = is_code; other = λ word also. differs word (sym says ∙ also) })) refl

  start_word : (used : ℕ) → is_spoiled page ≡ false → (word : Option Word) → word_of code ≡ word → GateIs (IsStart used) (λ n. Start n used) 0 page (started_by used word)
  start_word used unspoiled None says = wrong_word (IsStart used) (λ n. Start n used) 0 None says (λ w same start. cc same)
  start_word used unspoiled (Some (Active s)) says = wrong_word (IsStart used) (λ n. Start n used) 0 (Some (Active s)) says (λ w same. let here : Active s ≡ w = cc in subst (λ (x : Word). IsStart used x → ⊥) here (λ no. no))
  start_word used unspoiled (Some (Head b l v p)) says = wrong_word (IsStart used) (λ n. Start n used) 0 (Some (Head b l v p)) says (λ w same. let here : Head b l v p ≡ w = cc in subst (λ (x : Word). IsStart used x → ⊥) here (λ no. no))
  start_word used unspoiled (Some (Gate b p)) says = wrong_word (IsStart used) (λ n. Start n used) 0 (Some (Gate b p)) says (λ w same. let here : Gate b p ≡ w = cc in subst (λ (x : Word). IsStart used x → ⊥) here (λ no. no))
  start_word used unspoiled (Some (Start s p)) says = by_test (p == used) refl
    where
      by_test : (test : Bool) → (p == used) ≡ test → GateIs (IsStart used) (λ n. Start n used) 0 page (if test then Ok (Some s) else Err 0)
      by_test true same = names unspoiled s (record { code = code; is_code = is_code; says = says ∙ ap (λ (n : ℕ). Some (Start s n)) (eqb-true p used same) }) refl
      by_test false apart = wrong_word (IsStart used) (λ n. Start n used) 0 (Some (Start s p)) says (λ w same. let here : Start s p ≡ w = cc in subst (λ (x : Word). IsStart used x → ⊥) here (eqb-false p used apart))

  active_word : is_spoiled page ≡ false → (word : Option Word) → word_of code ≡ word → GateIs IsActive Active 1 page (activated_by word)
  active_word unspoiled None says = wrong_word IsActive Active 1 None says (λ w same active. cc same)
  active_word unspoiled (Some (Active s)) says = names unspoiled s (record { code = code; is_code = is_code; says = says }) refl
  active_word unspoiled (Some (Start s p)) says = wrong_word IsActive Active 1 (Some (Start s p)) says (λ w same. let here : Start s p ≡ w = cc in subst (λ (x : Word). IsActive x → ⊥) here (λ no. no))
  active_word unspoiled (Some (Head b l v p)) says = wrong_word IsActive Active 1 (Some (Head b l v p)) says (λ w same. let here : Head b l v p ≡ w = cc in subst (λ (x : Word). IsActive x → ⊥) here (λ no. no))
  active_word unspoiled (Some (Gate b p)) says = wrong_word IsActive Active 1 (Some (Gate b p)) says (λ w same. let here : Gate b p ≡ w = cc in subst (λ (x : Word). IsActive x → ⊥) here (λ no. no))

-- The gate of a page, by what its code word says.
gate_is : (IsMeant : Word → Type 0) (named : ℕ → Word) (says : Option Word → Result (Option ℕ) ℕ) (fault : ℕ) (page : List ℕ)
    → (is_spoiled page ≡ false → (code : List ℕ) → unsealed page ≡ Some code → GateIs IsMeant named fault page (says (word_of code))) → GateIs IsMeant named fault page (gate_by says fault page)
gate_is IsMeant named says fault page by_word = by_tests (is_spoiled page) refl (unsealed page) refl
  where
    by_tests : (spoiled : Bool) → is_spoiled page ≡ spoiled → (found : Option (List ℕ)) → unsealed page ≡ found → GateIs IsMeant named fault page (if spoiled then Err fault else gate_by_code says found)
    by_tests true is found code = is_wrong (inl is) refl
    by_tests false is None code = is_none is code refl
    by_tests false is (Some word) code = by_word is word code

module _ (used : ℕ) (pages : List (List ℕ)) where
  start_is : GateIs (IsStart used) (λ n. Start n used) 0 (get_or pages 0 []) (gate_by (started_by used) 0 (get_or pages 0 []))
  start_is = gate_is (IsStart used) (λ n. Start n used) (started_by used) 0 (get_or pages 0 []) (λ unspoiled code is. start_word (get_or pages 0 []) code is used unspoiled (word_of code) refl)

  active_is : GateIs IsActive Active 1 (get_or pages 1 []) (gate_by activated_by 1 (get_or pages 1 []))
  active_is = gate_is IsActive Active activated_by 1 (get_or pages 1 []) (λ unspoiled code is. active_word (get_or pages 1 []) code is unspoiled (word_of code) refl)

  -- Both gates of a sector.
  pub data GatesAre (gates : Result (Option ℕ) ℕ) : Type 0 where
    start_wrong : HasWrongStart used pages → gates ≡ Err 0 → GatesAre gates
    active_wrong : (HasWrongStart used pages → ⊥) → HasWrongActive used pages → gates ≡ Err 1 → GatesAre gates
    valid : (HasWrongStart used pages → ⊥) → (HasWrongActive used pages → ⊥) → (sequence : ℕ) → IsValidSector used pages sequence → gates ≡ Ok (Some sequence) → GatesAre gates
    not_valid : (HasWrongStart used pages → ⊥) → (HasWrongActive used pages → ⊥) → ((sequence : ℕ) → IsValidSector used pages sequence → ⊥) → gates ≡ Ok None → GatesAre gates

  -- A start gate that is missing, or whole, is not wrong.
  no_start : is_spoiled (get_or pages 0 []) ≡ false → IsNoCode (get_or pages 0 []) → HasWrongStart used pages → ⊥
  no_start unspoiled none (inl spoiled) = cc
  no_start unspoiled none (inr differs) = let some = differs.is_code in cc

  right_start : is_spoiled (get_or pages 0 []) ≡ false → (sequence : ℕ) → Says (Start sequence used) (get_or pages 0 []) → HasWrongStart used pages → ⊥
  right_start unspoiled sequence says (inl spoiled) = cc
  right_start unspoiled sequence says (inr differs) =
      let one = says.is_code in
      let two = differs.is_code in
      let word = says.says in
      let same : word_of differs.code ≡ Some (Start sequence used) = cc in
      differs.other (Start sequence used) same refl

  -- An active gate that is missing, or whole with the same number, is not wrong.
  no_active : is_spoiled (get_or pages 1 []) ≡ false → IsNoCode (get_or pages 1 []) → HasWrongActive used pages → ⊥
  no_active unspoiled none (inl spoiled) = cc
  no_active unspoiled none (inr (inl differs)) = let some = differs.is_code in cc
  no_active unspoiled none (inr (inr two)) = let some = two.active.is_code in cc

  right_active : is_spoiled (get_or pages 1 []) ≡ false → (sequence : ℕ) → Says (Active sequence) (get_or pages 1 [])
      → ((first : ℕ) → Says (Start first used) (get_or pages 0 []) → first ≡ sequence) → HasWrongActive used pages → ⊥
  right_active unspoiled sequence says alike (inl spoiled) = cc
  right_active unspoiled sequence says alike (inr (inl differs)) =
      let one = says.is_code in
      let two = differs.is_code in
      let word = says.says in
      let same : word_of differs.code ≡ Some (Active sequence) = cc in
      differs.other (Active sequence) same tt
  right_active unspoiled sequence says alike (inr (inr two)) =
      let same : Active sequence ≡ Active two.second = says_one says two.active in
      let equal : sequence ≡ two.second = cc in
      two.differ (alike two.first two.start ∙ equal)

  by_both : (start active : Result (Option ℕ) ℕ) → GateIs (IsStart used) (λ n. Start n used) 0 (get_or pages 0 []) start → GateIs IsActive Active 1 (get_or pages 1 []) active → GatesAre (both_gates start active)
  by_both start active (is_wrong how told) second = start_wrong how (ap (λ (r : Result (Option ℕ) ℕ). both_gates r active) told)
  by_both start active (is_none unspoiled none told) (is_wrong (inl spoiled) also) = active_wrong (no_start unspoiled none) (inl spoiled) (λ i. both_gates (told i) (also i))
  by_both start active (is_none unspoiled none told) (is_wrong (inr differs) also) = active_wrong (no_start unspoiled none) (inr (inl differs)) (λ i. both_gates (told i) (also i))
  by_both start active (is_none unspoiled none told) (is_none whole no_code also) =
      not_valid (no_start unspoiled none) (no_active whole no_code) (λ n both. let some = both.start.is_code in cc) (λ i. both_gates (told i) (also i))
  by_both start active (is_none unspoiled none told) (names whole n says also) =
      not_valid (no_start unspoiled none) (right_active whole n says (λ first no. absurd (let some = no.is_code in cc))) (λ n both. let some = both.start.is_code in cc) (λ i. both_gates (told i) (also i))
  by_both start active (names unspoiled m says told) (is_wrong (inl spoiled) also) = active_wrong (right_start unspoiled m says) (inl spoiled) (λ i. both_gates (told i) (also i))
  by_both start active (names unspoiled m says told) (is_wrong (inr differs) also) = active_wrong (right_start unspoiled m says) (inr (inl differs)) (λ i. both_gates (told i) (also i))
  by_both start active (names unspoiled m says told) (is_none whole no_code also) =
      not_valid (right_start unspoiled m says) (no_active whole no_code) (λ n both. let some = both.active.is_code in cc) (λ i. both_gates (told i) (also i))
  by_both start active (names unspoiled m says told) (names whole n also_says also) = by_test (m == n) refl
    where
      pair : (test : Bool) → (m == n) ≡ test → both_gates start active ≡ (if test then Ok (Some m) else Err 1)
      pair test is = (λ i. both_gates (told i) (also i)) ∙ ap (λ (b : Bool). if b then Ok (Some m) else Err 1) is

      by_test : (test : Bool) → (m == n) ≡ test → GatesAre (both_gates start active)
      by_test true is =
          let same : m ≡ n = eqb-true m n is in
          valid (right_start unspoiled m says)
          (right_active whole n also_says (λ first other. let one : Start first used ≡ Start m used = says_one other says in let equal : first ≡ n = cc in equal)) m
          (record { start = says; active = subst (λ (k : ℕ). Says (Active k) (get_or pages 1 [])) (sym same) also_says }) (pair true is)
      by_test false is =
          active_wrong (right_start unspoiled m says) (inr (inr (record { first = m; second = n; start = says; active = also_says; differ = eqb-false m n is }))) (pair false is)

  pub gates_are : GatesAre (gates_of used pages)
  gates_are = by_both (gate_by (started_by used) 0 (get_or pages 0 [])) (gate_by activated_by 1 (get_or pages 1 [])) start_is active_is
