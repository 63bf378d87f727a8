-- The steps of a life, each with its answer, by what two machines made of them.
use Rattle.std.proofs.Common.{◌≡◌, inl, inr, ℕ, ◌+◌, List, [], ◌∷◌, ◌++◌, length, take, drop, arith, refl, sym, ap, subst, ◌∙◌}
use Rattle.std.proofs.lemmas.List.{take_at, drop_at, take-append-drop}
use Rattle.flt_step.specs.Part.{PartOf}
use Rattle.flt_fork.specs.Making.{AreMadeBy, LanesMake}
use Rattle.flt_life_model.specs.Making.{PartsMake}
use Rattle.flt_fork.specs.Mixing.{Block, Call}
use Rattle.flt_trace.proofs.Each.{Each, back_of, both, front_of}

-- The items of two lists in pairs.
abbrev pub Zip : {T A : Type 0} → (T → A → Type 0) → List T → List A → Type 0
Zip P [] [] = Unit {0}
Zip P [] (a ∷ rest) = ⊥
Zip P (t ∷ rest) [] = ⊥
Zip P (t ∷ ts) (a ∷ rest) = P t a × Zip P ts rest

same_length : {T A : Type 0} (P : T → A → Type 0) (ts : List T) (answers : List A) → Zip P ts answers → length answers ≡ length ts
same_length P [] [] zip = refl
same_length P [] (a ∷ answers) zip = absurd zip
same_length P (t ∷ ts) [] zip = absurd zip
same_length P (t ∷ ts) (a ∷ answers) zip = let rest = same_length P ts answers zip.1 in omega (arith, rest)

-- The steps of parts with their answers, by lane.
abbrev pub PartsZip : {T A : Type 0} → (T → A → Type 0) → List (PartOf T) → List A → List (List A) → Type 0
PartsZip P [] own lanes = (own ≡ []) × (lanes ≡ [])
PartsZip P (inl step ∷ parts) [] lanes = ⊥
PartsZip P (inl step ∷ parts) (answer ∷ own) lanes = P step answer × PartsZip P parts own lanes
PartsZip P (inr block ∷ parts) own lanes = Zip (Zip P) block (take (length block) lanes) × PartsZip P parts own (drop (length block) lanes)

-- What holds of each call of a block.
abbrev pub EachCall : {O R : Type 0} → (Call O R → Type 0) → Block O R → Type 0
EachCall Q lanes = Each (λ lane. Each Q lane.1) lanes

module _ {T A O R : Type 0} (MadeBy : T → A → List (Call O R) → Type 0) (Q : Call O R → Type 0) (P : T → A → Type 0)
    (gives : (step : T) (answer : A) (calls : List (Call O R)) → MadeBy step answer calls → Each Q calls → P step answer) where
  steps_paired : (steps : List T) (answers : List A) (calls : List (Call O R)) → AreMadeBy MadeBy steps answers calls → Each Q calls → Zip P steps answers
  unfolding AreMadeBy
  steps_paired [] [] calls made each = tt
  steps_paired [] (answer ∷ answers) calls made each = absurd made
  steps_paired (step ∷ steps) [] calls made each = absurd made
  steps_paired (step ∷ steps) (answer ∷ answers) calls made each =
      let all = subst (Each Q) made.2 each in
      (gives step answer made.0 made.3 (front_of Q made.0 made.1 all), steps_paired steps answers made.1 made.4 (back_of Q made.0 made.1 all))

  lanes_paired : (number : ℕ) (lanes : List (List T)) (told : List (List A)) (made : Block O R) → LanesMake MadeBy number lanes told made → EachCall Q made → Zip (Zip P) lanes told
  unfolding LanesMake
  lanes_paired number [] [] made makes each = tt
  lanes_paired number [] (answers ∷ told) made makes each = absurd makes
  lanes_paired number (steps ∷ lanes) [] made makes each = absurd makes
  lanes_paired number (steps ∷ lanes) (answers ∷ told) made makes each =
      let all = subst (EachCall Q) makes.2 each in
      (steps_paired steps answers makes.0 makes.3 all.0, lanes_paired (number + 1) lanes told makes.1 makes.4 all.1)

  pub parts_paired : (number : ℕ) (parts : List (PartOf T)) (own : List A) (lanes : List (List A)) (blocks : List (Block O R)) → PartsMake MadeBy number parts own lanes blocks → Each (EachCall Q) blocks
      → PartsZip P parts own lanes
  unfolding PartsMake
  parts_paired number [] own lanes blocks makes each = (makes.0, makes.1)
  parts_paired number (inl step ∷ parts) own lanes blocks makes each =
      let all = subst (Each (EachCall Q)) makes.8 each in
      let one = makes.9 in
      let calls = subst (EachCall Q) one.4 all.0 in
      let own_is : own ≡ one.0 ∷ makes.1 = makes.6 ∙ ap (λ (l : List A). l ++ makes.1) one.2 in
      let lanes_are : lanes ≡ makes.3 = makes.7 ∙ ap (λ (l : List (List A)). l ++ makes.3) one.3 in
      let rest = parts_paired (number + 0) parts makes.1 makes.3 makes.5 makes.10 all.1 in
      subst (λ (l : List A). PartsZip P (inl step ∷ parts) l lanes) (sym own_is)
      (gives step one.0 one.1 one.5 calls.0, subst (λ (l : List (List A)). PartsZip P parts makes.1 l) (sym lanes_are) rest)
  parts_paired number (inr block ∷ parts) own lanes blocks makes each =
      let all = subst (Each (EachCall Q)) makes.8 each in
      let zip = lanes_paired number block makes.2 makes.4 makes.9.1 all.0 in
      let size = same_length (Zip P) block makes.2 zip in
      let own_is : own ≡ makes.1 = makes.6 ∙ ap (λ (l : List A). l ++ makes.1) makes.9.0 in
      let front : take (length block) lanes ≡ makes.2 = ap (take (length block)) makes.7 ∙ take_at makes.2 makes.3 (length block) size in
      let back : drop (length block) lanes ≡ makes.3 = ap (drop (length block)) makes.7 ∙ drop_at makes.2 makes.3 (length block) size in
      let rest = parts_paired (number + length block) parts makes.1 makes.3 makes.5 makes.10 all.1 in (
        subst (λ (l : List (List A)). Zip (Zip P) block l) (sym front) zip,
        subst (λ (l : List A). PartsZip P parts l (drop (length block) lanes)) (sym own_is) (subst (λ (l : List (List A)). PartsZip P parts makes.1 l) (sym back) rest),
      )

-- What two relations of each step and its answer give of each answer.
module _ {T A : Type 0} (P Q : T → A → Type 0) (Result : A → Type 0) (gives : (step : T) (answer : A) → P step answer → Q step answer → Result answer) where
  zip_gives : (steps : List T) (answers : List A) → Zip P steps answers → Zip Q steps answers → Each Result answers
  zip_gives [] [] first second = tt
  zip_gives [] (answer ∷ answers) first second = absurd first
  zip_gives (step ∷ steps) [] first second = absurd first
  zip_gives (step ∷ steps) (answer ∷ answers) first second = (gives step answer first.0 second.0, zip_gives steps answers first.1 second.1)

  lanes_give : (lanes : List (List T)) (told : List (List A)) → Zip (Zip P) lanes told → Zip (Zip Q) lanes told → Each (Each Result) told
  lanes_give [] [] first second = tt
  lanes_give [] (answers ∷ told) first second = absurd first
  lanes_give (steps ∷ lanes) [] first second = absurd first
  lanes_give (steps ∷ lanes) (answers ∷ told) first second = (zip_gives steps answers first.0 second.0, lanes_give lanes told first.1 second.1)

  pub parts_give : (parts : List (PartOf T)) (own : List A) (lanes : List (List A)) → PartsZip P parts own lanes → PartsZip Q parts own lanes → Each Result own × Each (Each Result) lanes
  parts_give [] own lanes first second = (subst (Each Result) (sym first.0) tt, subst (Each (Each Result)) (sym first.1) tt)
  parts_give (inl step ∷ parts) [] lanes first second = absurd first
  parts_give (inl step ∷ parts) (answer ∷ own) lanes first second =
      let rest = parts_give parts own lanes first.1 second.1 in ((gives step answer first.0 second.0, rest.0), rest.1)
  parts_give (inr block ∷ parts) own lanes first second =
      let n = length block in
      let here = lanes_give block (take n lanes) first.0 second.0 in
      let rest = parts_give parts own (drop n lanes) first.1 second.1 in
      (rest.0, subst (Each (Each Result)) (take-append-drop n lanes) (both (Each Result) (take n lanes) (drop n lanes) here rest.1))
