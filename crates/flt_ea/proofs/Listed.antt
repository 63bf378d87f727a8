-- What all positions together say.
use Rattle.std.proofs.Common.{◌≡◌, ◌≢◌, ◌+◌, ◌<◌, ℕ, zero, suc, Bool, true, false, List, [], ◌∷◌, get_or, length, Option, None, Result, Ok, refl, sym, ◌∙◌, ap, arith}
use Rattle.std.specs.Prelude.{◌||◌, ◌==◌, if◌then◌else◌}
use Rattle.std.specs.List.{AllPairs, list_any}
use Rattle.std.proofs.lemmas.Bool.{eq-eqb, ne_eqb, eqb-true}
use Rattle.flt_ea.specs.Image.{gate_at, gate_in, place_content, current_place, is_damaged, has_last_sequence, judged_places, same_sequence, first_of, value_from, spent_from, stuck_from, damage_from}
use Rattle.flt_ea.specs.declared.place.Held.{Held}
use Rattle.flt_ea.proofs.Judging.{verdict}
use Rattle.flt_ea.proofs.Scanned.{no_more}
use Rattle.flt_ea.specs.Laws.{here, here_is, behind, behind_is, value_first, value_none, stuck_first, spent_first, spent_none, either_first, either_second}

-- The gates of this position are sound.
abbrev pub SoundAt : ℕ → List (List ℕ) → ℕ → Type 0
SoundAt number units position = judged_places number (gate_at units position 0) (gate_at units position 1) ≡ Ok (current_place units position)

module _ (units : List (List ℕ)) where
  by_judged : (number from : ℕ) (first second same : Bool) (found : Option Held) (rest : Option (ℕ × ℕ)) → first_of from (verdict first second same found) rest ≡ None
      → (verdict first second same found ≡ Ok found) × (rest ≡ None)
  by_judged number from true second same found rest is = absurd cc
  by_judged number from false true same found rest is = absurd cc
  by_judged number from false false true found rest is = absurd cc
  by_judged number from false false false found rest is = (refl, is)

  first_sound : (from number : ℕ) (numbers : List ℕ) → damage_from from (number ∷ numbers) units ≡ None → SoundAt number units from × (damage_from (from + 1) numbers units ≡ None)
  unfolding damage_from
  first_sound from number numbers none = by_judged number from (is_damaged number (gate_at units from 0)) (is_damaged number (gate_at units from 1)) (same_sequence (gate_in (gate_at units from 0)) (gate_in (gate_at units from 1))) (current_place units from) (damage_from (from + 1) numbers units) none

  pub sound_at : (from : ℕ) (numbers : List ℕ) → damage_from from numbers units ≡ None → (k : ℕ) → k < length numbers → SoundAt (get_or numbers k 0) units (from + k)
  sound_at from [] none k within = absurd (omega arith)
  sound_at from (number ∷ numbers) none zero within = here_is (SoundAt number units) from (first_sound from number numbers none).0
  sound_at from (number ∷ numbers) none (suc k) within = behind_is (SoundAt (get_or numbers k 0) units) from k (sound_at (from + 1) numbers (first_sound from number numbers none).1 k (omega arith))

  sound_first : (from number : ℕ) (numbers : List ℕ) (found : Option Held) → judged_places number (gate_at units from 0) (gate_at units from 1) ≡ Ok found → damage_from (from + 1) numbers units ≡ None → damage_from from (number ∷ numbers) units ≡ None
  unfolding damage_from
  sound_first from number numbers found is none = ap (λ (j : Result (Option Held) ℕ). first_of from j (damage_from (from + 1) numbers units)) is ∙ none

  -- No position is damaged.
  pub sound_all : (from : ℕ) (numbers : List ℕ) → ((k : ℕ) → k < length numbers → SoundAt (get_or numbers k 0) units (from + k)) → damage_from from numbers units ≡ None
  sound_all from [] all = no_more from units
  sound_all from (number ∷ numbers) all =
      sound_first from number numbers (current_place units from) (here (SoundAt number units) from (all 0 (omega arith)))
      (sound_all (from + 1) numbers (λ k within. behind (SoundAt (get_or numbers k 0) units) from k (all (suc k) (omega arith))))

  tail_distinct : (number : ℕ) (numbers : List ℕ) → AllPairs (λ a b. a ≢ b) (number ∷ numbers) → AllPairs (λ a b. a ≢ b) numbers
  tail_distinct number numbers distinct i j d less within = distinct (suc i) (suc j) d (omega arith) (omega arith)

  -- What is looked up by a block is that of its position.
  first_at : {T : Type 0} (found : ℕ → List ℕ → ℕ → T) (at : ℕ → T) → ((from number : ℕ) (numbers : List ℕ) (block : ℕ) → found from (number ∷ numbers) block ≡ (if number == block then at from else found (from + 1) numbers block))
      → (from : ℕ) (numbers : List ℕ) (block : ℕ) → AllPairs (λ a b. a ≢ b) numbers → (k : ℕ) → k < length numbers → get_or numbers k 0 ≡ block → found from numbers block ≡ at (from + k)
  first_at found at first from [] block distinct k within is = absurd (omega arith)
  first_at found at first from (number ∷ numbers) block distinct zero within is =
      first from number numbers block ∙ ap (λ b. if b then at from else found (from + 1) numbers block) (eq-eqb number block is) ∙ here_is (λ n. at from ≡ at n) from refl
  first_at found at first from (number ∷ numbers) block distinct (suc k) within is =
      first from number numbers block
      ∙ ap (λ b. if b then at from else found (from + 1) numbers block) (ne_eqb number block (λ same. distinct 0 (suc k) 0 (omega arith) (omega arith) (same ∙ sym is)))
      ∙ behind_is (λ n. found (from + 1) numbers block ≡ at n) from k (first_at found at first (from + 1) numbers block (tail_distinct number numbers distinct) k (omega arith) is)

  -- A block holds what the current place at its position does.
  pub value_at : (from : ℕ) (numbers : List ℕ) (block : ℕ) → AllPairs (λ a b. a ≢ b) numbers → (k : ℕ) → k < length numbers → get_or numbers k 0 ≡ block
      → value_from from numbers units block ≡ place_content units (from + k) (current_place units (from + k))
  value_at = first_at (λ from numbers block. value_from from numbers units block) (λ n. place_content units n (current_place units n)) (λ from number numbers block. value_first units from number numbers block)

  pub stuck_at : (from : ℕ) (numbers : List ℕ) (block : ℕ) → AllPairs (λ a b. a ≢ b) numbers → (k : ℕ) → k < length numbers → get_or numbers k 0 ≡ block
      → stuck_from from numbers units block ≡ has_last_sequence (current_place units (from + k))
  stuck_at = first_at (λ from numbers block. stuck_from from numbers units block) (λ n. has_last_sequence (current_place units n)) (λ from number numbers block. stuck_first units from number numbers block)

  -- The table gives it too.
  pub spent_told : (from : ℕ) (numbers : List ℕ) (table : List (Option Held)) → length table ≡ length numbers → ((k : ℕ) → k < length numbers → get_or table k None ≡ current_place units (from + k))
      → list_any has_last_sequence table ≡ spent_from from numbers units
  spent_told from [] [] size tells = sym (spent_none units from)
  spent_told from [] (held ∷ table) size tells = absurd (omega arith)
  spent_told from (number ∷ numbers) [] size tells = absurd (omega arith)
  spent_told from (number ∷ numbers) (held ∷ table) size tells =
      (λ i. has_last_sequence (here (λ n. held ≡ current_place units n) from (tells 0 (omega arith)) i)
      || spent_told (from + 1) numbers table (omega arith) (λ k within. behind (λ n. get_or table k None ≡ current_place units n) from k (tells (suc k) (omega arith))) i)
      ∙ sym (spent_first units from number numbers)

-- Of two images.
module _ (before after : List (List ℕ)) where
  -- A block holds what it held where each position that has its number does.
  pub same_value : (from : ℕ) (numbers : List ℕ) (block : ℕ)
      → ((k : ℕ) → k < length numbers → get_or numbers k 0 ≡ block → place_content after (from + k) (current_place after (from + k)) ≡ place_content before (from + k) (current_place before (from + k)))
      → value_from from numbers after block ≡ value_from from numbers before block
  same_value from [] block same = value_none after from block ∙ sym (value_none before from block)
  same_value from (number ∷ numbers) block same =
      value_first after from number numbers block
      ∙ by_test (number == block) refl (same_value (from + 1) numbers block (λ k within is. behind (λ n. place_content after n (current_place after n) ≡ place_content before n (current_place before n)) from k (same (suc k) (omega arith) is)))
      ∙ sym (value_first before from number numbers block)
    where
      by_test : (test : Bool) → test ≡ (number == block) → value_from (from + 1) numbers after block ≡ value_from (from + 1) numbers before block
          → (if test then place_content after from (current_place after from) else value_from (from + 1) numbers after block) ≡ (if test then place_content before from (current_place before from) else value_from (from + 1) numbers before block)
      by_test true told rest = here (λ n. place_content after n (current_place after n) ≡ place_content before n (current_place before n)) from (same 0 (omega arith) (eqb-true number block (sym told)))
      by_test false told rest = rest

  -- What is spent stays so where each position does.
  pub stays_spent : (from : ℕ) (numbers : List ℕ) → ((k : ℕ) → k < length numbers → has_last_sequence (current_place before (from + k)) ≡ true → has_last_sequence (current_place after (from + k)) ≡ true)
      → spent_from from numbers before ≡ true → spent_from from numbers after ≡ true
  stays_spent from [] stays is = absurd (cc (spent_none before from, is))
  stays_spent from (number ∷ numbers) stays is = spent_first after from number numbers ∙ by_test (has_last_sequence (current_place before from)) refl
      (λ more. stays_spent (from + 1) numbers (λ k within. behind (λ n. has_last_sequence (current_place before n) ≡ true → has_last_sequence (current_place after n) ≡ true) from k (stays (suc k) (omega arith))) more)
      (sym (spent_first before from number numbers) ∙ is)
    where
      by_test : (test : Bool) → test ≡ has_last_sequence (current_place before from) → (spent_from (from + 1) numbers before ≡ true → spent_from (from + 1) numbers after ≡ true) → (test || spent_from (from + 1) numbers before) ≡ true → (has_last_sequence (current_place after from) || spent_from (from + 1) numbers after) ≡ true
      by_test true told rest is = either_first after (has_last_sequence (current_place after from)) (spent_from (from + 1) numbers after) (here (λ n. has_last_sequence (current_place before n) ≡ true → has_last_sequence (current_place after n) ≡ true) from (stays 0 (omega arith)) (sym told))
      by_test false told rest is = either_second after (has_last_sequence (current_place after from)) (spent_from (from + 1) numbers after) (rest is)
