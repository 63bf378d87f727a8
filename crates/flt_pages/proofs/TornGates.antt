-- The gates of a sector whose erase was torn, and the current sector.
use Rattle.std.proofs.Common.{◌≡◌, ◌⊎◌, inl, inr, ⊎_elim, ◌<◌, ◌≤◌, ℕ, Bool, true, false, List, [], get_or, replicate, length, Option, Some, None, Result, Ok, Err, refl, sym, ◌∙◌, ap, subst, arith}
use Rattle.std.specs.Prelude.{◌==◌, nat_lt, if◌then◌else◌}
use Rattle.std.proofs.lemmas.List.{get_or-replicate}
use Rattle.flt_flash.specs.Image.{blank_page}
use Rattle.flt_flash.specs.Tearing.{IsTornPage, IsTornSector}
use Rattle.flt_code.specs.Seal.{unsealed}
use Rattle.flt_code.specs.Spoiled.{is_spoiled}
use Rattle.flt_code.specs.declared.words.Word.{Word}
use Rattle.flt_code.proofs.Unspoiled.{erased_or_none, erased_unspoiled}
use Rattle.flt_sector_model.specs.Gates.{gate_by_code, gate_by, started_by, activated_by, both_gates, gates_of}
use Rattle.flt_sector_model.specs.Blocks.{Current, current_by}

module _ (says : Option Word → Result (Option ℕ) ℕ) (fault : ℕ) (page torn : List ℕ) (tears : IsTornPage page blank_page torn) where
  not_spoiled : (number : Option ℕ) → gate_by says fault page ≡ Ok number → is_spoiled page ≡ false
  not_spoiled number is = by_test (is_spoiled page) refl is
    where
      by_test : (test : Bool) → test ≡ is_spoiled page → (if test then Err fault else gate_by_code says (unsealed page)) ≡ Ok number → is_spoiled page ≡ false
      by_test true spoiled told = absurd (cc told)
      by_test false spoiled told = sym spoiled

  -- A gate without a fault is whole, or is gone.
  torn_gate : (number : Option ℕ) → gate_by says fault page ≡ Ok number → (gate_by says fault torn ≡ gate_by says fault page) ⊎ (gate_by says fault torn ≡ Ok None)
  torn_gate number is =
      let fresh = not_spoiled number is in
      ⊎_elim (λ same. inl (ap (gate_by says fault) same))
      (λ none. inr ((λ i. if erased_unspoiled page torn fresh tears i then Err fault else gate_by_code says (none i)))) (erased_or_none page torn fresh tears)

-- Both gates without a fault, each as it was or gone.
both_torn : (start active after_start after_active : Result (Option ℕ) ℕ) (number first second : Option ℕ) → both_gates start active ≡ Ok number → start ≡ Ok first → active ≡ Ok second
    → (after_start ≡ start) ⊎ (after_start ≡ Ok None) → (after_active ≡ active) ⊎ (after_active ≡ Ok None)
    → (both_gates after_start after_active ≡ both_gates start active) ⊎ (both_gates after_start after_active ≡ Ok None)
both_torn start active after_start after_active number first second is start_is active_is (inl s) (inl a) = inl (λ i. both_gates (s i) (a i))
both_torn start active after_start after_active number first second is start_is active_is (inr s) (inl a) = inr (λ i. both_gates (s i) ((a ∙ active_is) i))
both_torn start active after_start after_active number first second is start_is active_is (inr s) (inr a) = inr (λ i. both_gates (s i) (a i))
both_torn start active after_start after_active number None second is start_is active_is (inl s) (inr a) = inr (λ i. both_gates ((s ∙ start_is) i) (a i))
both_torn start active after_start after_active number (Some n) second is start_is active_is (inl s) (inr a) = inr (λ i. both_gates ((s ∙ start_is) i) (a i))

start_fine : (start active : Result (Option ℕ) ℕ) (number : Option ℕ) → both_gates start active ≡ Ok number → (first : Option ℕ) × (start ≡ Ok first)
start_fine (Ok first) active number is = (first, refl)
start_fine (Err page) active number is = absurd (cc is)

active_fine : (start active : Result (Option ℕ) ℕ) (number : Option ℕ) → both_gates start active ≡ Ok number → (second : Option ℕ) × (active ≡ Ok second)
active_fine (Ok first) (Ok second) number is = (second, refl)
active_fine (Ok first) (Err page) number is = absurd (cc is)
active_fine (Err page) active number is = absurd (cc is)

-- A sector without a fault at its gates stays as valid as it was, or is valid no more.
pub torn_gates : (used : ℕ) (pages torn : List (List ℕ)) (number : Option ℕ) → 2 ≤ length pages → gates_of used pages ≡ Ok number → IsTornSector pages (replicate (length pages) blank_page) torn
    → (gates_of used torn ≡ gates_of used pages) ⊎ (gates_of used torn ≡ Ok None)
torn_gates used pages torn number size is tears =
    let start = gate_by (started_by used) 0 (get_or pages 0 []) in
    let active = gate_by activated_by 1 (get_or pages 1 []) in
    let first = start_fine start active number is in
    let second = active_fine start active number is in
    both_torn start active _ _ number first.0 second.0 is first.1 second.1
    (torn_gate (started_by used) 0 (get_or pages 0 []) (get_or torn 0 []) (page 0 (omega arith)) first.0 first.1)
    (torn_gate activated_by 1 (get_or pages 1 []) (get_or torn 1 []) (page 1 (omega arith)) second.0 second.1)
  where
    page : (k : ℕ) → k < length pages → IsTornPage (get_or pages k []) blank_page (get_or torn k [])
    page k lt = subst (λ (p : List ℕ). IsTornPage (get_or pages k []) p (get_or torn k [])) (get_or-replicate (length pages) k blank_page [] lt) (tears.pages k lt)

abbrev pub chosen : ℕ → ℕ → Bool → Bool → Result (Option Current) (ℕ × ℕ)
chosen n m same less = if same then Err (1, 0) else if less then Ok (Some record { sector = 1; sequence = m }) else Ok (Some record { sector = 0; sequence = n })

abbrev pub the_sector : Result (Option Current) (ℕ × ℕ) → ℕ
the_sector (Ok (Some at)) = at.sector
the_sector (Ok None) = 2
the_sector (Err place) = 3

-- The current sector stays so while the other one is valid no more.
pub first_alone : (first second : Result (Option ℕ) ℕ) (sequence : ℕ) → current_by first second ≡ Ok (Some record { sector = 0; sequence = sequence }) → current_by first (Ok None) ≡ Ok (Some record { sector = 0; sequence = sequence })
first_alone (Err page) second sequence is = absurd (cc is)
first_alone (Ok first) (Err page) sequence is = absurd (cc is)
first_alone (Ok None) (Ok None) sequence is = absurd (cc is)
first_alone (Ok (Some n)) (Ok None) sequence is = is
first_alone (Ok None) (Ok (Some m)) sequence is = absurd (cc (ap the_sector is))
first_alone (Ok (Some n)) (Ok (Some m)) sequence is = by_tests (n == m) (nat_lt n m) is
  where
    by_tests : (same less : Bool) → chosen n m same less ≡ Ok (Some record { sector = 0; sequence = sequence })
        → current_by (Ok (Some n)) (Ok None) ≡ Ok (Some record { sector = 0; sequence = sequence })
    by_tests true less told = absurd (cc told)
    by_tests false true told = absurd (cc (ap the_sector told))
    by_tests false false told = told

pub second_alone : (first second : Result (Option ℕ) ℕ) (sequence : ℕ) → current_by first second ≡ Ok (Some record { sector = 1; sequence = sequence }) → current_by (Ok None) second ≡ Ok (Some record { sector = 1; sequence = sequence })
second_alone (Err page) second sequence is = absurd (cc is)
second_alone (Ok first) (Err page) sequence is = absurd (cc is)
second_alone (Ok None) (Ok None) sequence is = absurd (cc is)
second_alone (Ok None) (Ok (Some m)) sequence is = is
second_alone (Ok (Some n)) (Ok None) sequence is = absurd (cc (ap the_sector is))
second_alone (Ok (Some n)) (Ok (Some m)) sequence is = by_tests (n == m) (nat_lt n m) is
  where
    by_tests : (same less : Bool) → chosen n m same less ≡ Ok (Some record { sector = 1; sequence = sequence }) → current_by (Ok None) (Ok (Some m)) ≡ Ok (Some record { sector = 1; sequence = sequence })
    by_tests true less told = absurd (cc told)
    by_tests false true told = told
    by_tests false false told = absurd (cc (ap the_sector told))
