-- The deeds of lanes and of parts, one more at a time.
use Rattle.std.proofs.Common.{◌≡◌, ◌≢◌, inl, inr, ℕ, zero, suc, ◌<◌, ◌+◌, Bool, true, false, List, [], ◌∷◌, ◌++◌, length, take, drop, get_or, reverse, refl, ap, sym, arith, ◌∙◌}
use Rattle.std.specs.List.{list_any}
use Rattle.std.specs.Prelude.{◌||◌}
use Rattle.std.proofs.lemmas.Bool.{true≢false}
use Rattle.std.proofs.lemmas.List.{append-nil, append_assoc, reverse-append, length-append, length-drop, take-append-le, drop-append-le, take_all}
use Rattle.flt_step.specs.declared.step.Step.{Step}
use Rattle.flt_step.specs.Part.{PartOf}
use Rattle.flt_step.specs.Step.{has_store_step, is_store_step}
use Rattle.flt_life_model.specs.Answers.{Told}
use Rattle.flt_fork.specs.Making.{AreMadeBy, LanesMake}
use Rattle.flt_life_model.specs.Making.{PartMakes, PartsMake}
use Rattle.flt_fork.specs.Mixing.{Block, Call}
use Rattle.flt_life_model.specs.Ordered.{Deed, block_deeds, deed_if, deeds_in, lane_deeds, with_deed}
use Rattle.flt_life_model.specs.Parts.{own_steps, width, widths}
use Rattle.flt_life_model.proofs.DeedLists.{deed_if-append}

-- ---- one step more

-- Its deed comes after those of the steps before it.
pub lane_deeds_more : (steps : List Step) (told : List Told) (step : Step) (one : Told) → length told ≡ length steps → lane_deeds (steps ++ step ∷ []) (told ++ one ∷ []) ≡ lane_deeds steps told ++ with_deed step one []
lane_deeds_more [] [] step one size = refl
lane_deeds_more [] (answer ∷ told) step one size = absurd (omega (arith, size))
lane_deeds_more (first ∷ steps) [] step one size = absurd (omega (arith, size))
lane_deeds_more (first ∷ steps) (answer ∷ told) step one size =
    ap (with_deed first answer) (lane_deeds_more steps told step one (omega (arith, size))) ∙ deed_if-append (is_store_step first) first answer (lane_deeds steps told) (with_deed step one [])

-- And is the newest.
newest_if : (b : Bool) (step : Step) (told : Told) (deeds earlier : List Deed) → reverse (deeds ++ deed_if b step told []) ++ earlier ≡ deed_if b step told (reverse deeds ++ earlier)
newest_if true step told deeds earlier = ap (λ l. l ++ earlier) (reverse-append deeds ((step, told) ∷ []))
newest_if false step told deeds earlier = ap (λ l. reverse l ++ earlier) (append-nil deeds)

pub newest_deed : (step : Step) (told : Told) (deeds earlier : List Deed) → reverse (deeds ++ with_deed step told []) ++ earlier ≡ with_deed step told (reverse deeds ++ earlier)
newest_deed step told deeds earlier = newest_if (is_store_step step) step told deeds earlier

-- ---- lanes of which one at most touches the store

left_false : (x y : Bool) → (x || y) ≡ false → x ≡ false
left_false true y is = absurd (true≢false is)
left_false false y is = refl

right_false : (x y : Bool) → (x || y) ≡ false → y ≡ false
right_false true y is = absurd (true≢false is)
right_false false y is = is

if_none : (b : Bool) (step : Step) (told : Told) (deeds : List Deed) → b ≡ false → deeds ≡ [] → deed_if b step told deeds ≡ []
if_none true step told deeds is none = absurd (true≢false is)
if_none false step told deeds is none = none

-- A lane that does not has no deeds.
pub no_deeds : (steps : List Step) (told : List Told) → has_store_step steps ≡ false → lane_deeds steps told ≡ []
no_deeds [] told none = refl
no_deeds (step ∷ steps) [] none = refl
no_deeds (step ∷ steps) (answer ∷ told) none =
    if_none (is_store_step step) step answer (lane_deeds steps told) (left_false (is_store_step step) (list_any is_store_step steps) none) (no_deeds steps told (right_false (is_store_step step) (list_any is_store_step steps) none))

-- Nor have several.
pub none_deeds : (lanes : List (List Step)) (told : List (List Told)) → ((k : ℕ) (d : List Step) → k < length lanes → has_store_step (get_or lanes k d) ≡ false) → block_deeds lanes told ≡ []
none_deeds [] told none = refl
none_deeds (steps ∷ lanes) [] none = refl
none_deeds (steps ∷ lanes) (answers ∷ told) none =
    ap (λ l. l ++ block_deeds lanes told) (no_deeds steps answers (none 0 steps (omega arith))) ∙ none_deeds lanes told (λ k d within. none (suc k) d (omega arith))

-- Where one does, its deeds are all.
pub one_deeds : (lanes : List (List Step)) (told : List (List Told)) (place : ℕ) (steps : List Step) (answers : List Told) → place < length lanes → length told ≡ length lanes → get_or lanes place steps ≡ steps → get_or told place answers ≡ answers
    → ((k : ℕ) (d : List Step) → k < length lanes → k ≢ place → has_store_step (get_or lanes k d) ≡ false) → block_deeds lanes told ≡ lane_deeds steps answers
one_deeds [] told place steps answers within size is told_is others = absurd (omega (arith, within))
one_deeds (first ∷ lanes) [] place steps answers within size is told_is others = absurd (omega (arith, size))
one_deeds (first ∷ lanes) (answer ∷ told) zero steps answers within size is told_is others =
    ap (λ l. lane_deeds first answer ++ l) (none_deeds lanes told (λ k d inside. others (suc k) d (omega arith) (λ same. absurd (omega (arith, same))))) ∙ append-nil (lane_deeds first answer) ∙ (λ i. lane_deeds (is i) (told_is i))
one_deeds (first ∷ lanes) (answer ∷ told) (suc place) steps answers within size is told_is others =
    ap (λ l. l ++ block_deeds lanes told) (no_deeds first answer (others 0 first (omega arith) (λ same. absurd (omega (arith, same)))))
    ∙ one_deeds lanes told place steps answers (omega (arith, within)) (omega (arith, size)) is told_is (λ k d inside apart. others (suc k) d (omega arith) (λ same. apart (omega (arith, same))))

-- ---- parts

pub deeds_of_block : (lanes : List (List Step)) (told : List (List Told)) → length told ≡ length lanes → deeds_in (inr lanes ∷ []) [] told ≡ block_deeds lanes told
deeds_of_block lanes told size = append-nil (block_deeds lanes (take (length lanes) told)) ∙ ap (block_deeds lanes) (take_all (length lanes) told (omega (arith, size)))

nothing : {X : Type 0} (xs : List X) → length xs ≡ 0 → xs ≡ []
nothing [] none = refl
nothing (x ∷ xs) none = absurd (omega (arith, none))

-- The deeds of a part come after those of the parts before it.
pub deeds_more : (parts : List (PartOf Step)) (own : List Told) (lanes : List (List Told)) (part : PartOf Step) (mine : List Told) (others : List (List Told)) → length own ≡ length (own_steps parts) → length lanes ≡ widths parts
    → deeds_in (parts ++ part ∷ []) (own ++ mine) (lanes ++ others) ≡ deeds_in parts own lanes ++ deeds_in (part ∷ []) mine others
deeds_more [] own lanes part mine others size wide = λ i. deeds_in (part ∷ []) (nothing own size i ++ mine) (nothing lanes wide i ++ others)
deeds_more (inl step ∷ parts) [] lanes part mine others size wide = absurd (omega (arith, size))
deeds_more (inl step ∷ parts) (answer ∷ own) lanes part mine others size wide =
    ap (with_deed step answer) (deeds_more parts own lanes part mine others (omega (arith, size)) (omega (arith, wide))) ∙ deed_if-append (is_store_step step) step answer (deeds_in parts own lanes) (deeds_in (part ∷ []) mine others)
deeds_more (inr block ∷ parts) own lanes part mine others size wide =
    let n = length block in
    let front = block_deeds block (take n lanes) in
    let rest = deeds_more parts own (drop n lanes) part mine others size (let dropped = length-drop n lanes in omega (arith, dropped, wide)) in
    (λ i. block_deeds block (take-append-le n lanes others (omega (arith, wide)) i) ++ deeds_in (parts ++ part ∷ []) (own ++ mine) (drop-append-le n lanes others (omega (arith, wide)) i))
    ∙ ap (λ l. front ++ l) rest ∙ sym (append_assoc front (deeds_in parts own (drop n lanes)) (deeds_in (part ∷ []) mine others))

-- ---- how many answers there are

module _ {O R : Type 0} (MadeBy : Step → Told → List (Call O R) → Type 0) where
  pub told_count : (steps : List Step) (told : List Told) (calls : List (Call O R)) → AreMadeBy MadeBy steps told calls → length told ≡ length steps
  unfolding AreMadeBy
  told_count [] [] calls made = refl
  told_count [] (answer ∷ told) calls made = absurd made
  told_count (step ∷ steps) [] calls made = absurd made
  told_count (step ∷ steps) (answer ∷ told) calls made = let rest = told_count steps told made.1 made.4 in omega (arith, rest)

  pub lanes_told_count : (number : ℕ) (lanes : List (List Step)) (told : List (List Told)) (made : Block O R) → LanesMake MadeBy number lanes told made → length told ≡ length lanes
  unfolding LanesMake
  lanes_told_count number [] [] made makes = refl
  lanes_told_count number [] (answers ∷ told) made makes = absurd makes
  lanes_told_count number (steps ∷ lanes) [] made makes = absurd makes
  lanes_told_count number (steps ∷ lanes) (answers ∷ told) made makes = let rest = lanes_told_count (number + 1) lanes told makes.1 makes.4 in omega (arith, rest)

  own_count : (number : ℕ) (part : PartOf Step) (mine : List Told) (others : List (List Told)) (made : Block O R) (parts : List (PartOf Step)) → PartMakes MadeBy number part mine others made
      → length mine + length (own_steps parts) ≡ length (own_steps (part ∷ parts))
  own_count number (inl step) mine others made parts makes = let one = ap length makes.2 in omega (arith, one)
  own_count number (inr lanes) mine others made parts makes = let none = ap length makes.0 in omega (arith, none)

  others_count : (number : ℕ) (part : PartOf Step) (mine : List Told) (others : List (List Told)) (made : Block O R) → PartMakes MadeBy number part mine others made → length others ≡ width part
  others_count number (inl step) mine others made makes = ap length makes.3
  others_count number (inr lanes) mine others made makes = lanes_told_count number lanes others made makes.1

  pub all_own_count : (number : ℕ) (parts : List (PartOf Step)) (own : List Told) (lanes : List (List Told)) (blocks : List (Block O R)) → PartsMake MadeBy number parts own lanes blocks → length own ≡ length (own_steps parts)
  unfolding PartsMake
  all_own_count number [] own lanes blocks makes = ap length makes.0
  all_own_count number (part ∷ parts) own lanes blocks makes =
      let rest = all_own_count (number + width part) parts makes.1 makes.3 makes.5 makes.10 in
      let sum = ap length makes.6 ∙ length-append makes.0 makes.1 in
      let first = own_count number part makes.0 makes.2 makes.4 parts makes.9 in
      omega (arith, rest, sum, first)

  pub all_lanes_count : (number : ℕ) (parts : List (PartOf Step)) (own : List Told) (lanes : List (List Told)) (blocks : List (Block O R)) → PartsMake MadeBy number parts own lanes blocks → length lanes ≡ widths parts
  unfolding PartsMake
  all_lanes_count number [] own lanes blocks makes = ap length makes.1
  all_lanes_count number (part ∷ parts) own lanes blocks makes =
      let rest = all_lanes_count (number + width part) parts makes.1 makes.3 makes.5 makes.10 in
      let sum = ap length makes.7 ∙ length-append makes.2 makes.3 in
      let first = others_count number part makes.0 makes.2 makes.4 makes.9 in
      omega (arith, rest, sum, first)
