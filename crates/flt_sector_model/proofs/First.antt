-- The current sector, and the first fault of an image.
use Rattle.std.proofs.Common.{◌≡◌, ◌≢◌, ◌+◌, ◌*◌, ◌<◌, ◌≤◌, ℕ, Bool, true, false, List, Option, Some, None, Result, Ok, Err, inl, inr, refl, sym, ◌∙◌, ap, subst, arith}
use Rattle.std.specs.Prelude.{if◌then◌else◌, ◌==◌, nat_lt}
use Rattle.std.proofs.lemmas.Bool.{eqb-true, eqb-false, ltb-true, ltb-false, cases_order}
use Rattle.flt_flash.specs.Image.{sector_at}
use Rattle.flt_code.specs.declared.words.Word.TheVariants.{Active}
use Rattle.flt_sector_model.specs.Log.{log}
use Rattle.flt_sector_model.specs.Gates.{gates_of}
use Rattle.flt_sector_model.specs.Blocks.{Current, greater_of, current_by, current, place_in, fault_by, first_fault}
use Rattle.flt_sector_model.specs.Damage.{HasWrongStart, HasWrongActive, IsValidSector, IsCurrent, IsWrongAt, Look, start_gate, active_gate, both_numbers, log_page, mount_step, place_of, HasDamage, HasFirstDamage, HasSoundGates}
use Rattle.flt_sector_model.specs.Laws.{FirstFaultIsTold, NoFaultIsTold, GreaterIsCurrent, NoneIsCurrent}
use Rattle.flt_sector_model.proofs.Items.{says_one}
use Rattle.flt_sector_model.proofs.GateCases.{GatesAre, start_wrong, active_wrong, valid, not_valid, gates_are}
use Rattle.flt_sector_model.proofs.Wrong.{wrong_where_told, told_where_wrong}

-- A sector has one number.
one_number : (used : ℕ) (pages : List (List ℕ)) (first second : ℕ) → IsValidSector used pages first → IsValidSector used pages second → first ≡ second
one_number used pages first second one two = let same : Active first ≡ Active second = says_one one.active two.active in cc

module _ (used : ℕ) (numbers : List ℕ) (image : List (List (List ℕ))) where
  abbrev Wrong : Look → Type 0
  Wrong = HasDamage used numbers image

  -- No gate below a rank is wrong.
  none_below : (bound : ℕ) → bound ≤ 5 → ((sector : ℕ) → sector < 2 → mount_step (start_gate sector) < bound → HasWrongStart used (sector_at image sector) → ⊥)
      → ((sector : ℕ) → sector < 2 → mount_step (active_gate sector) < bound → HasWrongActive used (sector_at image sector) → ⊥)
      → (4 < bound → Wrong both_numbers → ⊥) → (look : Look) → mount_step look < bound → Wrong look → ⊥
  none_below bound most starts actives both (start_gate sector) below is = starts sector is.0 below is.1
  none_below bound most starts actives both (active_gate sector) below is = actives sector is.0 below is.1
  none_below bound most starts actives both both_numbers below is = both below is
  none_below bound most starts actives both (log_page sector page) below is = omega (arith, below, most)

  -- The sectors in turn.
  by_sector : (P : ℕ → Type 0) → P 0 → P 1 → (sector : ℕ) → sector < 2 → P sector
  by_sector P zero one sector within = elim (cases_order sector 0) [
    | inl here ↦ subst P (sym here) zero
    | inr (inl below) ↦ absurd (omega (arith, below))
    | inr (inr above) ↦ (let last : 1 ≡ sector = omega (arith, within, above) in subst P last one)
  ]

  -- What the gates of both sectors come to.
  pub data CurrentIs (found : Result (Option Current) (ℕ × ℕ)) : Type 0 where
    gates_wrong : (look : Look) → mount_step look ≤ 4 → HasFirstDamage used numbers image look → found ≡ Err (place_of look) → CurrentIs found
    is_current : HasSoundGates used numbers image → (at : Current) → IsCurrent used image at.sector at.sequence → found ≡ Ok (Some at) → CurrentIs found
    is_none : HasSoundGates used numbers image → ((sector sequence : ℕ) → sector < 2 → IsValidSector used (sector_at image sector) sequence → ⊥) → found ≡ Ok None → CurrentIs found

  abbrev RightStart : ℕ → Type 0
  RightStart sector = HasWrongStart used (sector_at image sector) → ⊥

  abbrev RightActive : ℕ → Type 0
  RightActive sector = HasWrongActive used (sector_at image sector) → ⊥

  module _ (start0 : RightStart 0) (active0 : RightActive 0) (start1 : RightStart 1) (active1 : RightActive 1) where
    sound : (Wrong both_numbers → ⊥) → HasSoundGates used numbers image
    sound differ look low = none_below 5 (omega arith) (λ s within _. by_sector RightStart start0 start1 s within) (λ s within _. by_sector RightActive active0 active1 s within) (λ _. differ) look (omega (arith, low))

    abbrev Valid : ℕ → ℕ → Type 0
    Valid sector sequence = IsValidSector used (sector_at image sector) sequence

    -- Neither is valid.
    neither : ((n : ℕ) → Valid 0 n → ⊥) → ((n : ℕ) → Valid 1 n → ⊥) → CurrentIs (greater_of None None)
    neither first second =
        is_none (sound (λ both. first both.0 both.1)) (λ sector n within. by_sector (λ s. Valid s n → ⊥) (first n) (second n) sector within) refl

    only_first : (n : ℕ) → Valid 0 n → ((m : ℕ) → Valid 1 m → ⊥) → CurrentIs (greater_of (Some n) None)
    only_first n is none =
        is_current (sound (λ both. none both.0 both.2)) (record { sector = 0; sequence = n })
        (record { within = omega arith; valid = is; greatest = λ other m within apart. by_sector (λ s. s ≢ 0 → Valid s m → m < n) (λ no. absurd (no refl)) (λ _ also. absurd (none m also)) other within apart }) refl

    only_second : (n : ℕ) → ((m : ℕ) → Valid 0 m → ⊥) → Valid 1 n → CurrentIs (greater_of None (Some n))
    only_second n none is =
        is_current (sound (λ both. none both.0 both.1)) (record { sector = 1; sequence = n })
        (record { within = omega arith; valid = is; greatest = λ other m within apart. by_sector (λ s. s ≢ 1 → Valid s m → m < n) (λ _ also. absurd (none m also)) (λ no. absurd (no refl)) other within apart }) refl

    module _ (n m : ℕ) (is : Valid 0 n) (also : Valid 1 m) where
      differ : n ≢ m → Wrong both_numbers → ⊥
      differ apart both =
          apart (one_number used (sector_at image 0) n both.0 is both.1 ∙ one_number used (sector_at image 1) both.0 m both.2 also)

      first_greater : m < n → IsCurrent used image 0 n
      first_greater less = record {
        within = omega arith;
        valid = is;
        greatest = λ other k within apart.
            by_sector (λ s. s ≢ 0 → Valid s k → k < n) (λ no. absurd (no refl)) (λ _ found. (let same = one_number used (sector_at image 1) k m found also in omega (arith, same, less))) other within apart;
      }

      second_greater : n < m → IsCurrent used image 1 m
      second_greater less = record {
        within = omega arith;
        valid = also;
        greatest = λ other k within apart.
            by_sector (λ s. s ≢ 1 → Valid s k → k < m) (λ _ found. (let same = one_number used (sector_at image 0) k n found is in omega (arith, same, less))) (λ no. absurd (no refl)) other within apart;
      }

      by_order : (less : Bool) → nat_lt n m ≡ less → n ≢ m → CurrentIs (if less then Ok (Some record { sector = 1; sequence = m }) else Ok (Some record { sector = 0; sequence = n }))
      by_order true is_less apart = is_current (sound (differ apart)) (record { sector = 1; sequence = m }) (second_greater (ltb-true n m is_less)) refl
      by_order false is_not apart = is_current (sound (differ apart)) (record { sector = 0; sequence = n }) (first_greater (let most = ltb-false n m is_not in omega (arith, most, apart))) refl

      by_equal : (same : Bool) → (n == m) ≡ same
          → CurrentIs (if same then Err (1, 0) else if nat_lt n m then Ok (Some record { sector = 1; sequence = m }) else Ok (Some record { sector = 0; sequence = n }))
      by_equal true is_same =
          gates_wrong both_numbers (omega arith)
          (record {
            is = (n, is, subst (Valid 1) (sym (eqb-true n m is_same)) also);
            first = none_below 4 (omega arith) (λ s within _. by_sector RightStart start0 start1 s within) (λ s within _. by_sector RightActive active0 active1 s within) (λ past. absurd (omega (arith, past)));
          }) refl
      by_equal false apart = by_order (nat_lt n m) refl (eqb-false n m apart)

      pub both_valid : CurrentIs (greater_of (Some n) (Some m))
      both_valid = by_equal (n == m) refl

  -- A fault of the gates, where none below it is wrong.
  wrong_start : (sector : ℕ) → sector < 2 → ((s : ℕ) → s < sector → RightStart s) → ((s : ℕ) → s < sector → RightActive s) → HasWrongStart used (sector_at image sector) → HasFirstDamage used numbers image (start_gate sector)
  wrong_start sector within starts actives is = record {
    is = (within, is);
    first = none_below (2 * sector) (omega (arith, within)) (λ s _ below. starts s (omega (arith, below))) (λ s _ below. actives s (omega (arith, below))) (λ past. absurd (omega (arith, past, within)));
  }

  wrong_active : (sector : ℕ) → sector < 2 → ((s : ℕ) → s ≤ sector → RightStart s) → ((s : ℕ) → s < sector → RightActive s) → HasWrongActive used (sector_at image sector) → HasFirstDamage used numbers image (active_gate sector)
  wrong_active sector within starts actives is = record {
    is = (within, is);
    first = none_below (2 * sector + 1) (omega (arith, within)) (λ s _ below. starts s (omega (arith, below))) (λ s _ below. actives s (omega (arith, below))) (λ past. absurd (omega (arith, past, within)));
  }

  up_to_first : (P : ℕ → Type 0) → P 0 → (s : ℕ) → s < 1 → P s
  up_to_first P zero s below = let here : 0 ≡ s = omega (arith, below) in subst P here zero

  -- The gates of sector 1, where those of sector 0 are right.
  module _ (start : RightStart 0) (active : RightActive 0) (number : Option ℕ) where
    by_second : (second : Result (Option ℕ) ℕ) → GatesAre used (sector_at image 1) second
        → (RightStart 1 → RightActive 1 → (m : ℕ) → IsValidSector used (sector_at image 1) m → CurrentIs (greater_of number (Some m)))
        → (RightStart 1 → RightActive 1 → ((m : ℕ) → IsValidSector used (sector_at image 1) m → ⊥) → CurrentIs (greater_of number None)) → CurrentIs (current_by (Ok number) second)
    by_second second (start_wrong how told) if_valid if_none =
        gates_wrong (start_gate 1) (omega arith) (wrong_start 1 (omega arith) (λ s below. up_to_first RightStart start s below) (λ s below. up_to_first RightActive active s below) how) (ap (current_by (Ok number)) told)
    by_second second (active_wrong begun how told) if_valid if_none =
        gates_wrong (active_gate 1) (omega arith) (wrong_active 1 (omega arith) (λ s below. by_sector RightStart start begun s (omega (arith, below))) (λ s below. up_to_first RightActive active s below) how) (ap (current_by (Ok number)) told)
    by_second second (valid begun ended m is told) if_valid if_none = subst (λ (r : Result (Option ℕ) ℕ). CurrentIs (current_by (Ok number) r)) (sym told) (if_valid begun ended m is)
    by_second second (not_valid begun ended none told) if_valid if_none = subst (λ (r : Result (Option ℕ) ℕ). CurrentIs (current_by (Ok number) r)) (sym told) (if_none begun ended none)

  by_gates : (first second : Result (Option ℕ) ℕ) → GatesAre used (sector_at image 0) first → GatesAre used (sector_at image 1) second → CurrentIs (current_by first second)
  by_gates first second (start_wrong how told) also =
      gates_wrong (start_gate 0) (omega arith) (wrong_start 0 (omega arith) (λ s below. absurd (omega (arith, below))) (λ s below. absurd (omega (arith, below))) how) (ap (λ (r : Result (Option ℕ) ℕ). current_by r second) told)
  by_gates first second (active_wrong start how told) also =
      gates_wrong (active_gate 0) (omega arith) (wrong_active 0 (omega arith) (λ s below. up_to_first RightStart start s (omega (arith, below))) (λ s below. absurd (omega (arith, below))) how) (ap (λ (r : Result (Option ℕ) ℕ). current_by r second) told)
  by_gates first second (valid start active n is told) also =
      subst (λ (r : Result (Option ℕ) ℕ). CurrentIs (current_by r second)) (sym told)
      (by_second start active (Some n) second also (λ begun ended m other. both_valid start active begun ended n m is other) (λ begun ended none. only_first start active begun ended n is none))
  by_gates first second (not_valid start active none told) also =
      subst (λ (r : Result (Option ℕ) ℕ). CurrentIs (current_by r second)) (sym told)
      (by_second start active None second also (λ begun ended m other. only_second start active begun ended m none other) (λ begun ended nor. neither start active begun ended none nor))

  pub current_is : CurrentIs (current used image)
  current_is = by_gates (gates_of used (sector_at image 0)) (gates_of used (sector_at image 1)) (gates_are used (sector_at image 0)) (gates_are used (sector_at image 1))

  -- ---- the first fault
  -- There is one current sector at most.
  one_current : (first second n m : ℕ) → IsCurrent used image first n → IsCurrent used image second m → first ≡ second
  one_current first second n m one two = elim (cases_order first second) [
    | inl same ↦ same
    | inr (inl less) ↦ absurd (crossed (λ e. omega (arith, e, less)))
    | inr (inr more) ↦ absurd (crossed (λ e. omega (arith, e, more)))
  ]
    where
      crossed : first ≢ second → ⊥
      crossed apart =
          let below = one.greatest second m two.within (λ e. apart (sym e)) two.valid in
          let above = two.greatest first n one.within apart one.valid in
          omega (arith, below, above)

  -- What the first fault comes to.
  pub data FirstIs (fault : Option (ℕ × ℕ)) : Type 0 where
    has_fault : (look : Look) → HasFirstDamage used numbers image look → fault ≡ Some (place_of look) → FirstIs fault
    has_none : ((look : Look) → Wrong look → ⊥) → fault ≡ None → FirstIs fault

  module _ (least : 2 ≤ used) where
    -- Where the gates are sound, nothing is wrong but pages of a log.
    only_log : HasSoundGates used numbers image → (Looked : Look → Type 0) → ((sector page : ℕ) → Looked (log_page sector page) → Wrong (log_page sector page) → ⊥) → (look : Look) → Looked look → Wrong look → ⊥
    only_log sound Looked pages (start_gate sector) looked wrong = sound (start_gate sector) (omega (arith, wrong.0)) wrong
    only_log sound Looked pages (active_gate sector) looked wrong = sound (active_gate sector) (omega (arith, wrong.0)) wrong
    only_log sound Looked pages both_numbers looked wrong = sound both_numbers (omega arith) wrong
    only_log sound Looked pages (log_page sector page) looked wrong = pages sector page looked wrong

    -- The log of the current sector.
    told_there : (at : Current) → IsCurrent used image at.sector at.sequence → (sector page : ℕ) → Wrong (log_page sector page) → (log used numbers (sector_at image at.sector)).fault ≡ Some page
    told_there at is sector page wrong =
        let here = one_current sector at.sector wrong.0.0 at.sequence wrong.0.1 is in
        told_where_wrong used numbers (sector_at image at.sector) least page (subst (λ (s : ℕ). IsWrongAt used numbers (sector_at image s) page) here wrong.1)

    by_log : HasSoundGates used numbers image → (at : Current) → IsCurrent used image at.sector at.sequence → (fault : Option ℕ) → (log used numbers (sector_at image at.sector)).fault ≡ fault → FirstIs (place_in at.sector fault)
    by_log sound at is None told = has_none (λ look. only_log sound (λ l. Unit {0}) (λ sector page _ wrong. (let there = told_there at is sector page wrong in cc)) look tt) refl
    by_log sound at is (Some page) told =
        has_fault (log_page at.sector page)
        (record { is = ((at.sequence, is), wrong_where_told used numbers (sector_at image at.sector) least page told); first = only_log sound (λ look. mount_step look < 5 + page) earlier }) refl
      where
        earlier : (sector other : ℕ) → 5 + other < 5 + page → Wrong (log_page sector other) → ⊥
        earlier sector other below wrong = (let there = told_there at is sector other wrong in let same : other ≡ page = cc in omega (arith, below, same))

    by_current : (found : Result (Option Current) (ℕ × ℕ)) → CurrentIs found → FirstIs (fault_by used numbers image found)
    by_current found (gates_wrong look low is told) = has_fault look is (ap (fault_by used numbers image) told)
    by_current found (is_current sound at is told) =
        subst (λ (r : Result (Option Current) (ℕ × ℕ)). FirstIs (fault_by used numbers image r)) (sym told) (by_log sound at is (log used numbers (sector_at image at.sector)).fault refl)
    by_current found (is_none sound none told) =
        has_none (λ look. only_log sound (λ l. Unit {0}) (λ sector page _ wrong. none sector wrong.0.0 wrong.0.1.within wrong.0.1.valid) look tt) (ap (fault_by used numbers image) told)

    pub first_is : FirstIs (first_fault used numbers image)
    first_is = by_current (current used image) current_is

    -- Two faults of one rank are reported at one place.
    same_place : (first second : Look) → mount_step first ≡ mount_step second → Wrong first → Wrong second → place_of first ≡ place_of second
    same_place (start_gate s) (start_gate t) rank one two = let same : s ≡ t = omega (arith, rank) in ap (λ (n : ℕ). (n, 0)) same
    same_place (active_gate s) (active_gate t) rank one two = let same : s ≡ t = omega (arith, rank) in ap (λ (n : ℕ). (n, 1)) same
    same_place both_numbers both_numbers rank one two = refl
    same_place (log_page s page) (log_page t other) rank one two =
        let same : page ≡ other = omega (arith, rank) in
        let here = one_current s t one.0.0 two.0.0 one.0.1 two.0.1 in
        λ i. (here i, same i)
    same_place (start_gate s) (active_gate t) rank one two = absurd (omega (arith, rank))
    same_place (active_gate s) (start_gate t) rank one two = absurd (omega (arith, rank))
    same_place (start_gate s) both_numbers rank one two = absurd (omega (arith, rank, one.0))
    same_place both_numbers (start_gate s) rank one two = absurd (omega (arith, rank, two.0))
    same_place (active_gate s) both_numbers rank one two = absurd (omega (arith, rank))
    same_place both_numbers (active_gate s) rank one two = absurd (omega (arith, rank))
    same_place (start_gate s) (log_page t page) rank one two = absurd (omega (arith, rank, one.0))
    same_place (log_page t page) (start_gate s) rank one two = absurd (omega (arith, rank, two.0))
    same_place (active_gate s) (log_page t page) rank one two = absurd (omega (arith, rank, one.0))
    same_place (log_page t page) (active_gate s) rank one two = absurd (omega (arith, rank, two.0))
    same_place both_numbers (log_page t page) rank one two = absurd (omega (arith, rank))
    same_place (log_page t page) both_numbers rank one two = absurd (omega (arith, rank))

    -- The first fault is reported.
    pub told_first : (look : Look) → HasFirstDamage used numbers image look → first_fault used numbers image ≡ Some (place_of look)
    told_first look is = elim first_is [
      | has_fault other also told ↦ told ∙ ap Some (elim (cases_order (mount_step look) (mount_step other)) [
        | inl same ↦ sym (same_place look other same is.is also.is)
        | inr (inl less) ↦ absurd (also.first look less is.is)
        | inr (inr more) ↦ absurd (is.first other more also.is)
      ])
      | has_none none told ↦ absurd (none look is.is)
    ]

    pub where_told : (place : ℕ × ℕ) → first_fault used numbers image ≡ Some place → (look : Look) × HasFirstDamage used numbers image look × (place_of look ≡ place)
    where_told place is = elim first_is [
      | has_fault look also told ↦ (look, also, (let same : place_of look ≡ place = cc in same))
      | has_none none told ↦ absurd (cc)
    ]

pub first_fault_is_told : FirstFaultIsTold
first_fault_is_told used numbers image place least =
    (where_told used numbers image least place, λ found. told_first used numbers image least found.0 found.1 ∙ ap Some found.2)

pub no_fault_is_told : NoFaultIsTold
no_fault_is_told used numbers image least = (none_where, told_none)
  where
    none_where : first_fault used numbers image ≡ None → (look : Look) → HasDamage used numbers image look → ⊥
    none_where is look wrong = elim (first_is used numbers image least) [
      | has_fault other also told ↦ cc
      | has_none none told ↦ none look wrong
    ]

    told_none : ((look : Look) → HasDamage used numbers image look → ⊥) → first_fault used numbers image ≡ None
    told_none none = elim (first_is used numbers image least) [
      | has_fault other also told ↦ absurd (none other also.is)
      | has_none same told ↦ told
    ]

pub greater_is_current : GreaterIsCurrent
greater_is_current used numbers image at = (where_current, current_where)
  where
    where_current : current used image ≡ Ok (Some at) → HasSoundGates used numbers image × IsCurrent used image at.sector at.sequence
    where_current told = elim (current_is used numbers image) [
      | gates_wrong look low first differs ↦ absurd (cc)
      | is_current right found is also ↦ (let same : found ≡ at = cc in (right, subst (λ (c : Current). IsCurrent used image c.sector c.sequence) same is))
      | is_none right none differs ↦ absurd (cc)
    ]

    current_where : HasSoundGates used numbers image × IsCurrent used image at.sector at.sequence → current used image ≡ Ok (Some at)
    current_where both = elim (current_is used numbers image) [
      | gates_wrong look low first differs ↦ absurd (both.0 look low first.is)
      | is_current right found is also ↦
          let here = one_current used numbers image found.sector at.sector found.sequence at.sequence is both.1 in
          let number = one_number used (sector_at image at.sector) found.sequence at.sequence (subst (λ (s : ℕ). IsValidSector used (sector_at image s) found.sequence) here is.valid) both.1.valid in
          also ∙ (λ i. Ok (Some (record { sector = here i; sequence = number i })))
      | is_none right none differs ↦ absurd (none at.sector at.sequence both.1.within both.1.valid)
    ]

pub none_is_current : NoneIsCurrent
none_is_current used numbers image = (where_none, none_where)
  where
    where_none : current used image ≡ Ok None → HasSoundGates used numbers image × ((sector sequence : ℕ) → sector < 2 → IsValidSector used (sector_at image sector) sequence → ⊥)
    where_none told = elim (current_is used numbers image) [
      | gates_wrong look low first differs ↦ absurd (cc)
      | is_current right found is differs ↦ absurd (cc)
      | is_none right none also ↦ (right, none)
    ]

    none_where : HasSoundGates used numbers image × ((sector sequence : ℕ) → sector < 2 → IsValidSector used (sector_at image sector) sequence → ⊥) → current used image ≡ Ok None
    none_where both = elim (current_is used numbers image) [
      | gates_wrong look low first differs ↦ absurd (both.0 look low first.is)
      | is_current right found is differs ↦ absurd (both.1 found.sector found.sequence is.within is.valid)
      | is_none right none also ↦ also
    ]
