-- Lives of a script one after the other, as far as they were made.
use Rattle.std.proofs.Common.{◌≡◌, ◌∙◌, ◌+◌, ◌∷◌, [], ◌++◌, reverse, ap, sym, subst, refl, arith, List, ℕ, suc, ◌<◌, length, get_or, inl, inr}
use Rattle.std.specs.Prelude.{All, IsFalse, IsTrue, Vec}
use Rattle.std.proofs.lemmas.List.{reverse-append, length-append, length-reverse}
use Rattle.std.proofs.lemmas.List.Elements.{All-nil, All-cons, All-tail}
use Rattle.flt_flash.specs.declared.blocks.Blocks.{Ghosts}
use Rattle.flt_config.specs.declared.config.Config.{Config}
use Rattle.flt_step.specs.declared.step.Part.{Part}
use Rattle.flt_step.specs.declared.step.Step.{Step}
use Rattle.flt_step.specs.Part.{PartOf, parts_of}
use Rattle.flt_store.specs.declared.store.Store.{Store}
use Rattle.flt_store.specs.Store.{driver_of}
use Rattle.flt_store.specs.Cause.{HasRoom}
use Rattle.flt_life_model.specs.declared.life.Life.{Life}
use Rattle.flt_life_model.specs.Chain.{LifeView}
use Rattle.flt_life_model.specs.Going.{WereGivenIn}
use Rattle.flt_life_model.specs.Lives.{ArePlayed, AreEnded, arms_given, is_refused, lists, lives_seen, view_of, views_of}
use Rattle.flt_life_model.specs.Moment.{Medium, boot_of}
use Rattle.flt_life_model.specs.Played.{IsPlayed}
use Rattle.flt_life_model.proofs.Giving.{none_added, more_given}
use Rattle.flt_lives.specs.Devices.{BeginsLives}
use Rattle.flt_lives.specs.Linked.{KeepsOn, IsLinkedBy}
use Rattle.flt_lives.specs.Lives.{IsLivedThrough}
use Rattle.flt_lives.proofs.Beginning.{none_begun, begun_next}
use Rattle.flt_lives.proofs.Linking.{links_none, links_more}

-- One life more, and the parts that it has.
views_more : {A : Type 0} (script : List (Vec Part A)) (made : List Life) (item : Vec Part A) (life : Life) → length made < length script → item ≡ get_or script (length made) item
    → views_of (lists script) (made ++ life ∷ []) ≡ views_of (lists script) made ++ view_of (parts_of item.items) life ∷ []
views_more [] made item life within is = absurd (omega (arith, within))
views_more {A} (parts ∷ script) [] item life within is = ap (λ (v : Vec Part A). view_of (parts_of v.items) life ∷ []) (sym is)
views_more (parts ∷ script) (first ∷ made) item life within is = ap (λ (views : List LifeView). view_of (parts_of parts.items) first ∷ views) (views_more script made item life (omega (arith, within)) is)

-- As many are seen as were made.
views_count : (script : List (List (PartOf Step))) (made : List Life) → length (views_of script made) ≡ length made
views_count script [] = refl
views_count [] (life ∷ made) = ap suc (views_count [] made)
views_count (parts ∷ script) (life ∷ made) = ap suc (views_count script made)

pub seen_count : (script : List (List (PartOf Step))) (made : List Life) → length (lives_seen script made) ≡ length made
seen_count script made = length-reverse (views_of script made) ∙ views_count script made

-- This many lives were made of the first parts of a script, over a store that was as before and is as now.
pub record AreMadeSoFar {B : Type 0} {b : Ghosts B} {A : Type 0} (c : Config) (script : List (Vec Part A)) (index : ℕ) (before now : Store B b) (made : List Life) : Type 0 where
  pub many : length made ≡ index
  pub count : length (driver_of now).device.bench.boots ≡ length (driver_of before).device.bench.boots + index
  pub begun : BeginsLives index (driver_of before).device (driver_of now).device
  pub played : ArePlayed c (lives_seen (lists script) made)
  pub arms_made : WereGivenIn (arms_given (length (driver_of before).device.bench.boots) (lives_seen (lists script) made))
      (driver_of before).device.bench.arms (driver_of now).device.bench.arms
  pub linked : (medium : Medium) → KeepsOn b c medium → IsLinkedBy c medium (driver_of before) (driver_of now) (lives_seen (lists script) made)

-- None.
pub none_made : {B : Type 0} {b : Ghosts B} {A : Type 0} (c : Config) (script : List (Vec Part A)) (store : Store B b) (made : List Life) → made ≡ [] → AreMadeSoFar c script 0 store store made
none_made {A = A} c script store made none =
    subst (λ (made : List Life). AreMadeSoFar c script 0 store store made) (sym none)
    record {
      many = refl;
      count = omega arith;
      begun = none_begun 0 (driver_of store).device;
      played = All-nil _;
      arms_made = none_added (λ a. (a.boots, a.arm)) (driver_of store).device.bench.arms;
      linked = λ medium keeps. links_none c medium (driver_of store);
    }

-- And one more, of the parts at this index.
module _ {A : Type 0} (script : List (Vec Part A)) (index : ℕ) (item : Vec Part A) (within : index < length script) (is : item ≡ get_or script index item) (parts : List Part) (parts_are : parts ≡ item.items)
    (made next : List Life) (life : Life) (more : next ≡ made ++ life ∷ []) where
  seen_more : length made ≡ index → lives_seen (lists script) next ≡ view_of (parts_of parts) life ∷ lives_seen (lists script) made
  seen_more many =
      let at : item ≡ get_or script (length made) item = is ∙ ap (λ n. get_or script n item) (sym many) in
      ap (λ items. reverse (views_of (lists script) items)) more
      ∙ ap reverse (views_more script made item life (omega (arith, within, many)) at)
      ∙ reverse-append (views_of (lists script) made) (view_of (parts_of item.items) life ∷ [])
      ∙ ap (λ items. view_of (parts_of items) life ∷ lives_seen (lists script) made) (sym parts_are)

  module _ {B : Type 0} {b : Ghosts B} (c : Config) (before now after : Store B b) (so_far : AreMadeSoFar c script index before now made) where
    pub one_made : HasRoom c (driver_of now).room → IsLivedThrough c (driver_of now) (driver_of after) (view_of (parts_of parts) life) → BeginsLives 1 (driver_of now).device (driver_of after).device → AreMadeSoFar c script (index + 1) before after next
    one_made room whole begins =
        let adds = whole.adds in
        let first = (driver_of before).device.bench in
        let last = (driver_of after).device.bench in
        let earlier = lives_seen (lists script) made in
        let view = view_of (parts_of parts) life in
        let many = so_far.many in
        let count = so_far.count in
        let size = seen_count (lists script) made in
        let longer = ap length more ∙ length-append made (life ∷ []) in
        let boots = ap length adds.boots ∙ length-append (driver_of now).device.bench.boots (boot_of (driver_of now) ∷ []) in
        let seen = sym (seen_more many) in
        record {
          many = omega (arith, many, longer);
          count = omega (arith, count, boots);
          begun = begun_next _ _ (driver_of before).device (driver_of now).device (driver_of after).device (omega arith) so_far.begun begins;
          played = subst (ArePlayed c) seen (All-cons (IsPlayed c) view earlier whole.played so_far.played);
          arms_made = subst (λ (views : List LifeView). WereGivenIn (arms_given (length first.boots) views) first.arms last.arms) seen
              (more_given (length first.boots) (length (driver_of now).device.bench.boots) whole.lived.ended earlier view first.arms (driver_of now).device.bench.arms last.arms (omega (arith, count, size, many))
              so_far.arms_made whole.lived.arms whole.arms_made);
          linked = λ medium keeps. subst (λ (views : List LifeView). IsLinkedBy c medium (driver_of before) (driver_of after) views) seen
              (links_more c medium (driver_of before) (driver_of now) (driver_of after) earlier view (keeps now.nvm.blocks now.numbers room)
              (keeps after.nvm.blocks after.numbers (subst (HasRoom c) (sym adds.room) room)) (so_far.linked medium keeps) whole.lived adds);
        }

  -- None of them is refused, and so is none with one more that is not.
  pub one_goes : length made ≡ index → IsFalse (is_refused life.boot) → All (λ (l : LifeView). IsFalse (is_refused l.boot)) (lives_seen (lists script) made)
      → All (λ (l : LifeView). IsFalse (is_refused l.boot)) (lives_seen (lists script) next)
  one_goes many goes going =
      subst (All (λ (l : LifeView). IsFalse (is_refused l.boot))) (sym (seen_more many))
      (All-cons (λ (l : LifeView). IsFalse (is_refused l.boot)) (view_of (parts_of parts) life) (lives_seen (lists script) made) goes going)

  -- Or the last is.
  pub ended_by : length made ≡ index → IsTrue (is_refused life.boot) → All (λ (l : LifeView). IsFalse (is_refused l.boot)) (lives_seen (lists script) made)
      → AreEnded (length script) (lives_seen (lists script) next)
  ended_by many refused going =
      let size = seen_count (lists script) made in
      subst (AreEnded (length script)) (sym (seen_more many)) (going, omega (arith, size, many, within), inl refused)

-- All of them, and none was refused.
ended_with : (script many : ℕ) (views : List LifeView) → script ≡ many → length views ≡ many → All (λ (life : LifeView). IsFalse (is_refused life.boot)) views → AreEnded script views
ended_with script many [] same size going = omega (arith, same, size)
ended_with script many (life ∷ earlier) same size going =
    (All-tail (λ (l : LifeView). IsFalse (is_refused l.boot)) life earlier going, omega (arith, same, size), inr (omega (arith, same, size)))

pub ended_all : {A : Type 0} (script : List (Vec Part A)) (index : ℕ) (made : List Life) → length script ≡ index → length made ≡ index
    → All (λ (life : LifeView). IsFalse (is_refused life.boot)) (lives_seen (lists script) made) → AreEnded (length script) (lives_seen (lists script) made)
ended_all script index made all many going = ended_with (length script) index (lives_seen (lists script) made) all (seen_count (lists script) made ∙ many) going
