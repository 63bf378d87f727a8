-- The script of a load keeps to the limits of scripts.
use Rattle.std.proofs.Common.{◌≡◌, ℕ, zero, suc, ◌+◌, ◌*◌, ◌/◌, ◌%◌, ◌^◌, ◌<◌, ◌≤◌, List, [], ◌∷◌, ◌++◌, length, Bool, true, false, cond, ◌&&◌, Ok, refl, sym, ap, ◌∙◌, arith, inl, inr, ⊎_elim, length-append, add-one}
use Rattle.std.specs.Prelude.{◌==◌, filter, map, sum_by}
use Rattle.std.specs.List.{list_all, flat_map, range_with_len}
use Rattle.std.proofs.lemmas.Bool.{cases_lt, lt-ltb, and_parts}
use Rattle.std.proofs.lemmas.Bool.Decides.{nat_tests}
use Rattle.std.proofs.lemmas.List.{append-nil, append_assoc, length-map, map-append}
use Rattle.std.proofs.lemmas.List.Elements.{filter-append}
use Rattle.std.proofs.lemmas.List.Folds.{list_all-append}
use Rattle.std.proofs.lemmas.List.FromFn.{length-range_with_len}
use Rattle.std.proofs.lemmas.List.Sums.{sum_by-cons, sum_by-append}
use Rattle.flt_config.specs.Check.{check_of, distinct_behind}
use Rattle.flt_config.specs.Ranges.{global_settings, plain_settings, jump_settings, threshold_settings, counter_settings, debounce_settings, did_width_settings, did_settings, event_settings, events_settings, ranges_result}
use Rattle.flt_step.specs.declared.step.Step.{Step}
use Rattle.flt_step.specs.declared.step.Step.TheVariants as step
use Rattle.flt_script.specs.Laws.{LoadOfFour}
use Rattle.flt_script.specs.Load.{load_config, next_number, load_number, load_step, load_lane, load_lanes, plain_parts, load_parts, load_life, shown_life}
use Rattle.flt_step.specs.declared.step.Part.TheVariants.{One}
use Rattle.flt_step.specs.Part.{PartOf, part_of}
use Rattle.flt_step.specs.Step.{is_step_in, is_lane_step, has_store_step, store_lanes, is_lane_in, is_part_in, are_parts_in, steps_of_part, steps_of_parts, lanes_of_part, lanes_of_parts, arms_of_part, arms_of_parts, drain_count, drains_of_lane, drains_of_part, drains_of_parts}
use Rattle.flt_script.specs.Within.{lines_at_least, IsWithinLimits}

pub load_is_accepted : check_of load_config ≡ Ok load_config
unfolding check_of load_config distinct_behind global_settings plain_settings jump_settings threshold_settings counter_settings debounce_settings did_width_settings did_settings event_settings events_settings ranges_result
load_is_accepted = refl

-- ---- the steps of a lane

step_is_in : (lane number : ℕ) → lane < 4 → is_step_in load_config (load_step lane number) ≡ true
unfolding load_config
step_is_in lane number few = lt-ltb (4 * lane + number / 65536 % 4) 16 (omega arith)

steps_are_in : (count lane : ℕ) → lane < 4 → (places : List ℕ) → is_lane_in load_config (map (λ place. load_step lane (load_number count (place + 1))) places) ≡ true
steps_are_in count lane few [] = refl
steps_are_in count lane few (place ∷ places) = rw (step_is_in lane (load_number count (place + 1)) few, steps_are_in count lane few places) refl

lane_is_in : (count lane reports : ℕ) → lane < 4 → is_lane_in load_config (load_lane count lane reports) ≡ true
unfolding load_lane
lane_is_in count lane reports few = steps_are_in count lane few (filter (λ place. place % 4 == lane) (range_with_len 0 reports))

lanes_are_in : (count : ℕ) → list_all (is_lane_in load_config) (load_lanes count) ≡ true
lanes_are_in count =
    rw (lane_is_in count 0 count (omega arith), lane_is_in count 1 count (omega arith), lane_is_in count 2 count (omega arith), lane_is_in count 3 count (omega arith)) refl

-- ---- no save, drain or get in a lane

reports_are_stored : (count lane : ℕ) (places : List ℕ) → has_store_step (map (λ place. load_step lane (load_number count (place + 1))) places) ≡ false
reports_are_stored count lane [] = refl
reports_are_stored count lane (place ∷ places) = reports_are_stored count lane places

lane_is_stored : (count lane reports : ℕ) → has_store_step (load_lane count lane reports) ≡ false
unfolding load_lane
lane_is_stored count lane reports = reports_are_stored count lane (filter (λ place. place % 4 == lane) (range_with_len 0 reports))

lanes_are_stored : (count : ℕ) → store_lanes (load_lanes count) ≡ 0
lanes_are_stored count = rw (lane_is_stored count 0 count, lane_is_stored count 1 count, lane_is_stored count 2 count, lane_is_stored count 3 count) refl

reports_drain : (count lane : ℕ) (places : List ℕ) → drains_of_lane (map (λ place. load_step lane (load_number count (place + 1))) places) ≡ 0
reports_drain count lane [] = refl
reports_drain count lane (place ∷ places) =
    let report = λ (p : ℕ). load_step lane (load_number count (p + 1)) in
    omega (arith, reports_drain count lane places, sum_by-cons drain_count (report place) (map report places))

lane_drains : (count lane reports : ℕ) → drains_of_lane (load_lane count lane reports) ≡ 0
unfolding load_lane
lane_drains count lane reports = reports_drain count lane (filter (λ place. place % 4 == lane) (range_with_len 0 reports))

lanes_drain : (count : ℕ) → sum_by drains_of_lane (load_lanes count) ≡ 0
lanes_drain count = omega (arith, lane_drains count 0 count, lane_drains count 1 count, lane_drains count 2 count, lane_drains count 3 count)

-- ---- how many steps the lanes have

one_more : {X : Type 0} (test : Bool) (x : X) (xs : List X) → length (cond test (x ∷ xs) xs) ≡ cond test 1 0 + length xs
one_more true x xs = omega arith
one_more false x xs = omega arith

in_one_lane : (rest : ℕ) → rest < 4 → cond (rest == 0) 1 0 + cond (rest == 1) 1 0 + cond (rest == 2) 1 0 + cond (rest == 3) 1 0 ≡ 1
in_one_lane zero few = refl
in_one_lane (suc zero) few = refl
in_one_lane (suc (suc zero)) few = refl
in_one_lane (suc (suc (suc zero))) few = refl
in_one_lane (suc (suc (suc (suc rest)))) few = absurd (omega (arith, few))

abbrev of_lane : ℕ → List ℕ → List ℕ
of_lane lane places = filter (λ place. place % 4 == lane) places

each_in_one_lane : (places : List ℕ) → length (of_lane 0 places) + length (of_lane 1 places) + length (of_lane 2 places) + length (of_lane 3 places) ≡ length places
each_in_one_lane [] = refl
each_in_one_lane (place ∷ places) =
    let more = each_in_one_lane places in
    let small : place % 4 < 4 = omega arith in
    let one = in_one_lane (place % 4) small in
    omega (
      arith,
      more,
      one,
      one_more (place % 4 == 0) place (of_lane 0 places),
      one_more (place % 4 == 1) place (of_lane 1 places),
      one_more (place % 4 == 2) place (of_lane 2 places),
      one_more (place % 4 == 3) place (of_lane 3 places),
    )

length-load_lane : (count lane : ℕ) → length (load_lane count lane count) ≡ length (of_lane lane (range_with_len 0 count))
unfolding load_lane
length-load_lane count lane = length-map (of_lane lane (range_with_len 0 count)) (λ (place : ℕ). load_step lane (load_number count (place + 1)))

steps_in_lanes : (count : ℕ) → sum_by length (load_lanes count) ≡ count
steps_in_lanes count =
    let places = range_with_len 0 count in
    omega (
      arith,
      each_in_one_lane places,
      length-range_with_len 0 count,
      length-load_lane count 0,
      length-load_lane count 1,
      length-load_lane count 2,
      length-load_lane count 3,
    )

-- ---- steps by themselves

plain_in : (steps : List Step) → is_lane_in load_config steps ≡ true → are_parts_in load_config (plain_parts steps) ≡ true
plain_in [] all = refl
plain_in (s ∷ steps) all =
    let here = and_parts (is_step_in load_config s && is_lane_step s) (is_lane_in load_config steps) all in
    let first = and_parts (is_step_in load_config s) (is_lane_step s) here.0 in
    rw (first.0, plain_in steps here.1) refl

steps_of-plain : (steps : List Step) → steps_of_parts (plain_parts steps) ≡ length steps
steps_of-plain [] = refl
steps_of-plain (s ∷ steps) = omega (arith, steps_of-plain steps, sum_by-cons steps_of_part (inl s) (plain_parts steps))

lanes_of-plain : (steps : List Step) → lanes_of_parts (plain_parts steps) ≡ 0
lanes_of-plain [] = refl
lanes_of-plain (s ∷ steps) = omega (arith, lanes_of-plain steps, sum_by-cons lanes_of_part (inl s) (plain_parts steps))

-- A step of a lane arms nothing.
no_arm : (s : Step) → is_lane_step s ≡ true → arms_of_part (inl s) ≡ 0
no_arm (step.Report event report) may = refl
no_arm (step.Show event) may = refl
no_arm (step.Cycle cycle) may = refl
no_arm (step.Tick ticks) may = refl
no_arm (step.Signal index value) may = refl
no_arm (step.Enable condition fulfilled) may = refl
no_arm (step.Request tester bytes) may = refl
no_arm step.Save may = refl
no_arm (step.Post urgent block bytes) may = refl
no_arm step.Drain may = refl
no_arm (step.Get block) may = refl
no_arm (step.Ask block) may = refl
no_arm (step.Arming arm) may = absurd cc

arms_of-plain : (steps : List Step) → is_lane_in load_config steps ≡ true → arms_of_parts (plain_parts steps) ≡ 0
arms_of-plain [] all = refl
arms_of-plain (s ∷ steps) all =
    let here = and_parts (is_step_in load_config s && is_lane_step s) (is_lane_in load_config steps) all in
    let first = and_parts (is_step_in load_config s) (is_lane_step s) here.0 in
    omega (arith, arms_of-plain steps here.1, no_arm s first.1, sum_by-cons arms_of_part (inl s) (plain_parts steps))

drains_of-plain : (steps : List Step) → drains_of_parts (plain_parts steps) ≡ drains_of_lane steps
drains_of-plain [] = refl
drains_of-plain (s ∷ steps) = omega (arith, drains_of-plain steps, sum_by-cons drains_of_part (inl s) (plain_parts steps), sum_by-cons drain_count s steps)

-- ---- the parts of the reports

record IsPart (parts : List (PartOf Step)) (steps : ℕ) : Type 0 where
  in_range : are_parts_in load_config parts ≡ true
  few : steps_of_parts parts ≡ steps
  few_arms : arms_of_parts parts ≡ 0
  no_drains : drains_of_parts parts ≡ 0
  few_marks : lines_at_least parts ≤ steps + 5

record IsPlain (parts : List (PartOf Step)) (steps drains : ℕ) : Type 0 where
  in_range : are_parts_in load_config parts ≡ true
  few : steps_of_parts parts ≡ steps
  no_arms : arms_of_parts parts ≡ 0
  drained : drains_of_parts parts ≡ drains
  no_lanes : lanes_of_parts parts ≡ 0
  long : length parts ≡ steps

flat_plain : (lanes : List (List Step)) → list_all (is_lane_in load_config) lanes ≡ true → IsPlain (flat_map plain_parts lanes) (sum_by length lanes) (sum_by drains_of_lane lanes)
flat_plain [] all = record { in_range = refl; few = refl; no_arms = refl; drained = refl; no_lanes = refl; long = refl }
flat_plain (lane ∷ lanes) all =
    let parts = and_parts (is_lane_in load_config lane) (list_all (is_lane_in load_config) lanes) all in
    let rest = flat_plain lanes parts.1 in
    let first = plain_parts lane in
    let others = flat_map plain_parts lanes in
    let sum = sum_by-cons length lane lanes in
    record {
      in_range = rw (list_all-append (is_part_in load_config) first others, plain_in lane parts.0, rest.in_range) refl;
      few = omega (arith, sum, sum_by-append steps_of_part first others, steps_of-plain lane, rest.few);
      no_arms = omega (arith, sum_by-append arms_of_part first others, arms_of-plain lane parts.0, rest.no_arms);
      drained = omega (arith, sum_by-cons drains_of_lane lane lanes, sum_by-append drains_of_part first others, drains_of-plain lane, rest.drained);
      no_lanes = omega (arith, sum_by-append lanes_of_part first others, lanes_of-plain lane, rest.no_lanes);
      long = omega (arith, sum, length-append first others, length-map lane (λ (s : Step). let part : PartOf Step = inl s in part), rest.long);
    }

reports_are_part : (count : ℕ) (lanes : Bool) → IsPart (load_parts count lanes) count
reports_are_part count true = record {
  in_range = rw (lanes_are_in count, lanes_are_stored count) refl;
  few = omega (arith, steps_in_lanes count, sum_by-cons steps_of_part (inr (load_lanes count)) []);
  few_arms = refl;
  no_drains = omega (arith, lanes_drain count, sum_by-cons drains_of_part (inr (load_lanes count)) []);
  few_marks = omega arith;
}
reports_are_part count false =
    let plain = flat_plain (load_lanes count) (lanes_are_in count) in
    let sum = steps_in_lanes count in
    record {
      in_range = plain.in_range;
      few = omega (arith, plain.few, sum);
      few_arms = plain.no_arms;
      no_drains = omega (arith, plain.drained, lanes_drain count);
      few_marks = omega (arith, plain.no_lanes, plain.long, sum);
    }

-- ---- both lives

module _ (count : ℕ) (lanes : Bool) where
  life_in : are_parts_in load_config (load_life count lanes) ≡ true
  life_in = rw (list_all-append (is_part_in load_config) (load_parts count lanes) (inl step.Save ∷ []), (reports_are_part count lanes).in_range) refl

  life_steps : steps_of_parts (load_life count lanes) ≡ count + 2
  life_steps = omega (
    arith,
    (reports_are_part count lanes).few,
    sum_by-cons steps_of_part (inl (step.Cycle 0)) (load_parts count lanes ++ inl step.Save ∷ []),
    sum_by-append steps_of_part (load_parts count lanes) (inl step.Save ∷ []),
    sum_by-cons steps_of_part (inl step.Save) [],
  )

  life_arms : arms_of_parts (load_life count lanes) ≡ 0
  life_arms = omega (
    arith,
    (reports_are_part count lanes).few_arms,
    sum_by-cons arms_of_part (inl (step.Cycle 0)) (load_parts count lanes ++ inl step.Save ∷ []),
    sum_by-append arms_of_part (load_parts count lanes) (inl step.Save ∷ []),
    sum_by-cons arms_of_part (inl step.Save) [],
  )

  life_drains : drains_of_parts (load_life count lanes) ≡ 0
  life_drains = omega (
    arith,
    (reports_are_part count lanes).no_drains,
    sum_by-cons drains_of_part (inl (step.Cycle 0)) (load_parts count lanes ++ inl step.Save ∷ []),
    sum_by-append drains_of_part (load_parts count lanes) (inl step.Save ∷ []),
    sum_by-cons drains_of_part (inl step.Save) [],
  )

  life_marks : lines_at_least (load_life count lanes) ≤ count + 7
  life_marks = omega (
    arith,
    (reports_are_part count lanes).few_marks,
    sum_by-cons lanes_of_part (inl (step.Cycle 0)) (load_parts count lanes ++ inl step.Save ∷ []),
    sum_by-append lanes_of_part (load_parts count lanes) (inl step.Save ∷ []),
    sum_by-cons lanes_of_part (inl step.Save) [],
    length-append (load_parts count lanes) (inl step.Save ∷ []),
  )

shown_in : are_parts_in load_config shown_life ≡ true
unfolding load_config
shown_in = refl

shown_steps : steps_of_parts shown_life ≡ 16
shown_steps = refl

shown_arms : arms_of_parts shown_life ≡ 0
shown_arms = refl

shown_drains : drains_of_parts shown_life ≡ 0
shown_drains = refl

shown_marks : lines_at_least shown_life ≡ 16
shown_marks = refl

-- The lives of a load are those of a script.
pub load_within : (count : ℕ) (lanes : Bool) → count ≤ 60000 → IsWithinLimits load_config (load_life count lanes ∷ shown_life ∷ [])
load_within count lanes few = record {
  in_range = rw (life_in count lanes, shown_in) refl;
  few = omega (arith, life_steps count lanes, shown_steps, sum_by-cons steps_of_parts (load_life count lanes) (shown_life ∷ []), sum_by-cons steps_of_parts shown_life []);
  few_arms = omega (arith, life_arms count lanes, shown_arms, sum_by-cons arms_of_parts (load_life count lanes) (shown_life ∷ []), sum_by-cons arms_of_parts shown_life []);
  few_drains = omega (arith, life_drains count lanes, shown_drains, sum_by-cons drains_of_parts (load_life count lanes) (shown_life ∷ []), sum_by-cons drains_of_parts shown_life []);
  few_parts = omega (arith, life_marks count lanes, shown_marks, sum_by-cons lines_at_least (load_life count lanes) (shown_life ∷ []), sum_by-cons lines_at_least shown_life []);
  few_lives = omega arith;
}

-- ---- one report more

place_more : (first count last : ℕ) → first + count ≡ last → range_with_len first (suc count) ≡ range_with_len first count ++ last ∷ []
place_more first zero last e = let same : first ≡ last = omega (arith, e) in ap (λ n. n ∷ []) same
place_more first (suc count) last e = ap (λ (more : List ℕ). first ∷ more) (place_more (first + 1) count last (omega (arith, e)))

mapped : {X : Type 0} (f : ℕ → X) (test : Bool) (place : ℕ) → map f (cond test (place ∷ []) []) ≡ cond test (f place ∷ []) []
mapped f true place = refl
mapped f false place = refl

pub lane_more : (count lane place : ℕ) → load_lane count lane (place + 1) ≡ load_lane count lane place ++ cond (place % 4 == lane) (load_step lane (load_number count (place + 1)) ∷ []) []
unfolding load_lane
lane_more count lane place =
    let test = λ (p : ℕ). p % 4 == lane in
    let report = λ (p : ℕ). load_step lane (load_number count (p + 1)) in
    ap (λ (n : ℕ). map report (filter test (range_with_len 0 n))) (add-one place)
    ∙ ap (λ (places : List ℕ). map report (filter test places)) (place_more 0 place place (omega arith))
    ∙ ap (map report) (filter-append test (range_with_len 0 place) (place ∷ []))
    ∙ map-append report (filter test (range_with_len 0 place)) (filter test (place ∷ []))
    ∙ ap (λ (last : List Step). map report (filter test (range_with_len 0 place)) ++ last) (mapped report (test place) place)

pub number_more : (count place number next : ℕ) → number ≡ load_number count place → next ≡ next_number number → next ≡ load_number count (place + 1)
unfolding load_number
number_more count place number next e made = rw (add-one, made, e) refl

-- ---- a lane, round by round

-- The second and the fourth number after a number, which are as linear in it as the next one.
second_number : (number : ℕ) → (number * 1117952617 + 1406932606) % 2 ^ 31 ≡ next_number (next_number number)
second_number number = omega arith

pub fourth_number : (number : ℕ) → (number * 1845919505 + 1449466924) % 2 ^ 31 ≡ next_number (next_number (next_number (next_number number)))
fourth_number number =
    let twice : (number * 1845919505 + 1449466924) % 2 ^ 31 ≡ ((number * 1117952617 + 1406932606) % 2 ^ 31 * 1117952617 + 1406932606) % 2 ^ 31 = omega arith in
    twice ∙ rw (second_number number, second_number (next_number (next_number number))) refl

pub four_more : (count place number next : ℕ) → number ≡ load_number count place → next ≡ next_number (next_number (next_number (next_number number)))
    → next ≡ load_number count (suc (suc (suc (suc place))))
unfolding load_number
four_more count place number next e made = rw (made, e) refl

-- Before its place in a round a lane reports nothing.
pub none_yet : (count lane round places : ℕ) → lane < 4 → places ≤ lane → load_lane count lane (4 * round + places) ≡ load_lane count lane (4 * round)
none_yet count lane round zero few within = ap (load_lane count lane) (omega arith)
none_yet count lane round (suc places) few within =
    let place = 4 * round + places in
    let other : (place % 4 == lane) ≡ false = grind (arith, nat_tests, few, within) in
    ap (load_lane count lane) (let after : 4 * round + suc places ≡ place + 1 = omega arith in after)
    ∙ lane_more count lane place
    ∙ ap (λ (t : Bool). load_lane count lane place ++ cond t (load_step lane (load_number count (place + 1)) ∷ []) []) other
    ∙ append-nil (load_lane count lane place)
    ∙ none_yet count lane round places few (omega (arith, within))

-- After it, it has reported once.
once : (count lane round places : ℕ) → lane < places → places ≤ 4
    → load_lane count lane (4 * round + places) ≡ load_lane count lane (4 * round) ++ load_step lane (load_number count (4 * round + lane + 1)) ∷ []
once count lane round zero within most = absurd (omega (arith, within))
once count lane round (suc places) within most =
    let place = 4 * round + places in
    let lane_at = λ (t : Bool). load_lane count lane place ++ cond t (load_step lane (load_number count (place + 1)) ∷ []) [] in
    let few : lane < 4 = omega (arith, within, most) in
    let more : load_lane count lane (4 * round + suc places) ≡ lane_at (place % 4 == lane) =
    ap (load_lane count lane) (let after : 4 * round + suc places ≡ place + 1 = omega arith in after) ∙ lane_more count lane place in
    ⊎_elim
    (λ before.
    let other : (place % 4 == lane) ≡ false = grind (arith, nat_tests, before, most) in
    more ∙ ap lane_at other ∙ append-nil (load_lane count lane place) ∙ once count lane round places before (omega (arith, most)))
    (λ last.
    let same : places ≡ lane = omega (arith, within, last) in
    let here : (place % 4 == lane) ≡ true = grind (arith, nat_tests, same, few) in
    more
    ∙ ap lane_at here
    ∙ ap (λ (steps : List Step). steps ++ load_step lane (load_number count (place + 1)) ∷ []) (none_yet count lane round places few last)
    ∙ ap (λ (p : ℕ). load_lane count lane (4 * round) ++ load_step lane (load_number count (4 * round + p + 1)) ∷ []) same)
    (cases_lt lane places)

-- The same of what a list has for its steps.
pub reported : {T : Type 0} (of : Step → T) (earlier : List T) (count lane round places : ℕ) → lane < places → places ≤ 4
    → (earlier ++ map of (load_lane count lane (4 * round))) ++ of (load_step lane (load_number count (4 * round + lane + 1))) ∷ []
    ≡ earlier ++ map of (load_lane count lane (4 * round + places))
reported of earlier count lane round places within most =
    let before = load_lane count lane (4 * round) in
    let last = load_step lane (load_number count (4 * round + lane + 1)) in
    append_assoc earlier (map of before) (of last ∷ [])
    ∙ ap (λ more. earlier ++ more) (sym (map-append of before (last ∷ [])) ∙ ap (map of) (sym (once count lane round places within most)))

pub plain_more : (steps : List Step) (s : Step) → plain_parts (steps ++ s ∷ []) ≡ plain_parts steps ++ inl s ∷ []
plain_more [] s = refl
plain_more (first ∷ steps) s = let rest = plain_more steps s in ap (λ (more : List (PartOf Step)). inl first ∷ more) rest

-- ---- an example

pub load_of_four : LoadOfFour
unfolding load_number load_lane
load_of_four = record { numbers = refl; steps = refl }

-- Steps by themselves, as they lie in memory.
pub plain_of : (steps : List Step) → map part_of (map One steps) ≡ plain_parts steps
plain_of [] = refl
plain_of (step ∷ steps) = ap (λ parts. inl step ∷ parts) (plain_of steps)
