-- Texts that are put at their places: where each is the one due there, and each other place has the one due, all are those due.
use Rattle.std.proofs.Common.{◌≡◌, ◌≢◌, ◌⊎◌, inl, inr, ℕ, ◌<◌, List, [], ◌∷◌, length, get_or, arith, refl, sym, ap, ◌∙◌}
use Rattle.std.specs.Prelude.{slice_set}
use Rattle.std.proofs.lemmas.Bool.{cases_eq}
use Rattle.std.proofs.lemmas.List.{ext_get_or, get_or-set_same, get_or-set_other, length-set}
use Rattle.flt_turn.specs.declared.answer.Answer.{Answer}
use Rattle.flt_model.specs.Reply.{Reply}
use Rattle.flt_life_model.specs.Answers.{Told}
use Rattle.flt_life_model.specs.declared.answer.StepAnswer.TheVariants.{Dem, Saved, SaveFailed, Queue, Drained, Bytes, NoBlock, BlockFlash, Armed, Dark}
use Rattle.flt_report.specs.Answer.{reply_text}
use Rattle.flt_trace.specs.Answered.{with_told, with_lane, with_lanes}
use Rattle.flt_trace.proofs.Each.{Each}

-- An answer was given at this place.
abbrev pub IsToldAt : ℕ → Told → Type 0
IsToldAt place (Dem told) = told.place ≡ place
IsToldAt place _ = ⊥

abbrev pub HasPlace : ℕ → List Told → Type 0
HasPlace place [] = ⊥
HasPlace place (told ∷ lane) = IsToldAt place told ⊎ HasPlace place lane

abbrev pub HavePlace : ℕ → List (List Told) → Type 0
HavePlace place [] = ⊥
HavePlace place (lane ∷ lanes) = HasPlace place lane ⊎ HavePlace place lanes

-- The texts of one answer more, and of a lane, are as many.
one_kept : (texts : List (List ℕ)) (told : Told) → length (with_told texts told) ≡ length texts
one_kept texts (Dem told) = length-set texts told.place (reply_text told.reply)
one_kept texts (Saved number) = refl
one_kept texts (SaveFailed fault) = refl
one_kept texts (Queue told) = refl
one_kept texts (Drained written failed) = refl
one_kept texts (Bytes bytes) = refl
one_kept texts NoBlock = refl
one_kept texts BlockFlash = refl
one_kept texts Armed = refl
one_kept texts Dark = refl

lane_kept : (texts : List (List ℕ)) (lane : List Told) → length (with_lane texts lane) ≡ length texts
lane_kept texts [] = refl
lane_kept texts (told ∷ lane) = lane_kept (with_told texts told) lane ∙ one_kept texts told

lanes_kept : (texts : List (List ℕ)) (lanes : List (List Told)) → length (with_lanes texts lanes) ≡ length texts
lanes_kept texts [] = refl
lanes_kept texts (lane ∷ lanes) = lanes_kept (with_lane texts lane) lanes ∙ lane_kept texts lane

module _ (due : List (List ℕ)) where
  -- The text of an answer is the one due at its place.
  abbrev pub IsDueAt : Told → Type 0
  IsDueAt (Dem told) = (told.place < length due) × (get_or due told.place [] ≡ reply_text told.reply)
  IsDueAt _ = Unit {0}

  -- The text at a place is the one due.
  abbrev IsRight : List (List ℕ) → ℕ → Type 0
  IsRight texts place = get_or texts place [] ≡ get_or due place []

  put_right : (texts : List (List ℕ)) (told : Answer Reply) (place : ℕ) → length texts ≡ length due → IsDueAt (Dem told) → IsRight texts place ⊎ (told.place ≡ place)
      → (told.place ≡ place) ⊎ (told.place ≢ place) → IsRight (slice_set texts told.place (reply_text told.reply)) place
  put_right texts told place size is right (inl same) =
      ap (λ p. get_or (slice_set texts told.place (reply_text told.reply)) p []) (sym same) ∙ get_or-set_same texts told.place (reply_text told.reply) [] (let within = is.0 in omega (arith, within, size)) ∙ sym is.1
      ∙ ap (λ p. get_or due p []) same
  put_right texts told place size is (inl right) (inr other) = get_or-set_other texts told.place place (reply_text told.reply) [] (λ same. other (sym same)) ∙ right
  put_right texts told place size is (inr same) (inr other) = absurd (other same)

  one_right : (texts : List (List ℕ)) (told : Told) (place : ℕ) → length texts ≡ length due → IsDueAt told → IsRight texts place ⊎ IsToldAt place told → IsRight (with_told texts told) place
  one_right texts (Dem told) place size is right = put_right texts told place size is right (cases_eq told.place place)
  one_right texts (Saved number) place size is (inl right) = right
  one_right texts (Saved number) place size is (inr none) = absurd none
  one_right texts (SaveFailed fault) place size is (inl right) = right
  one_right texts (SaveFailed fault) place size is (inr none) = absurd none
  one_right texts (Queue told) place size is (inl right) = right
  one_right texts (Queue told) place size is (inr none) = absurd none
  one_right texts (Drained written failed) place size is (inl right) = right
  one_right texts (Drained written failed) place size is (inr none) = absurd none
  one_right texts (Bytes bytes) place size is (inl right) = right
  one_right texts (Bytes bytes) place size is (inr none) = absurd none
  one_right texts NoBlock place size is (inl right) = right
  one_right texts NoBlock place size is (inr none) = absurd none
  one_right texts BlockFlash place size is (inl right) = right
  one_right texts BlockFlash place size is (inr none) = absurd none
  one_right texts Armed place size is (inl right) = right
  one_right texts Armed place size is (inr none) = absurd none
  one_right texts Dark place size is (inl right) = right
  one_right texts Dark place size is (inr none) = absurd none

  lane_right : (texts : List (List ℕ)) (lane : List Told) (place : ℕ) → length texts ≡ length due → Each IsDueAt lane → IsRight texts place ⊎ HasPlace place lane → IsRight (with_lane texts lane) place
  lane_right texts [] place size each (inl right) = right
  lane_right texts [] place size each (inr none) = absurd none
  lane_right texts (told ∷ lane) place size each (inl right) =
      lane_right (with_told texts told) lane place (one_kept texts told ∙ size) each.1 (inl (one_right texts told place size each.0 (inl right)))
  lane_right texts (told ∷ lane) place size each (inr (inl here)) =
      lane_right (with_told texts told) lane place (one_kept texts told ∙ size) each.1 (inl (one_right texts told place size each.0 (inr here)))
  lane_right texts (told ∷ lane) place size each (inr (inr later)) = lane_right (with_told texts told) lane place (one_kept texts told ∙ size) each.1 (inr later)

  lanes_right : (texts : List (List ℕ)) (lanes : List (List Told)) (place : ℕ) → length texts ≡ length due → Each (Each IsDueAt) lanes → IsRight texts place ⊎ HavePlace place lanes → IsRight (with_lanes texts lanes) place
  lanes_right texts [] place size each (inl right) = right
  lanes_right texts [] place size each (inr none) = absurd none
  lanes_right texts (lane ∷ lanes) place size each (inl right) =
      lanes_right (with_lane texts lane) lanes place (lane_kept texts lane ∙ size) each.1 (inl (lane_right texts lane place size each.0 (inl right)))
  lanes_right texts (lane ∷ lanes) place size each (inr (inl here)) =
      lanes_right (with_lane texts lane) lanes place (lane_kept texts lane ∙ size) each.1 (inl (lane_right texts lane place size each.0 (inr here)))
  lanes_right texts (lane ∷ lanes) place size each (inr (inr later)) = lanes_right (with_lane texts lane) lanes place (lane_kept texts lane ∙ size) each.1 (inr later)

  pub filled : (texts : List (List ℕ)) (lanes : List (List Told)) → length texts ≡ length due → Each (Each IsDueAt) lanes
      → ((place : ℕ) → place < length due → IsRight texts place ⊎ HavePlace place lanes) → with_lanes texts lanes ≡ due
  filled texts lanes size each some =
      ext_get_or [] (with_lanes texts lanes) due (lanes_kept texts lanes ∙ size)
      (λ place within. lanes_right texts lanes place size each (some place (omega (arith, within, lanes_kept texts lanes, size))))
