-- The first place at which two lists of texts differ, gone over from the front.
use Rattle.std.proofs.Common.{◌≡◌, ℕ, suc, ◌+◌, ◌<◌, ◌≤◌, List, [], ◌∷◌, true, false, Bool, cond, Some, None, refl, sym, ap, ◌∙◌, arith, length, drop, take, get_or, map, reverse, inl, inr}
use Rattle.std.proofs.Math.Seq.{drop-cons}
use Rattle.std.proofs.lemmas.List.{drop_all}
use Rattle.std.proofs.lemmas.Bool.{cases_Bool}
use Rattle.std.proofs.lemmas.Grind.{take_at_read}
use Rattle.std.proofs.lemmas.List.{reverse-append}
use Rattle.std.proofs.lemmas.Slice.Eq.{bytes_eq-Decides}
use Rattle.std.specs.Str.{bytes_eq}
use Rattle.flt_model.specs.Answer.{answer, answers}
use Rattle.flt_model.specs.Start.{Start, History}
use Rattle.flt_model.specs.declared.call.Op.{Op}
use Rattle.flt_report.specs.Answer.{reply_text}
use Rattle.flt_turn.specs.Journal.{ops_of}
use Rattle.flt_turn.specs.declared.vault.Entry.{Entry}
use Rattle.flt_audit.specs.Audit.{unlike_from}

-- The texts that are due of calls, after these ones.
abbrev pub due_after : Start → History → List (Entry Op) → List (List ℕ)
due_after life past calls = map reply_text (answers life past (ops_of calls))

module _ (life : Start) (past : History) (calls : List (Entry Op)) (texts : List (List ℕ)) (place : ℕ) where
  -- What is left of both, at a place that both have.
  left : (call : Entry Op) (text : List ℕ) → place < length calls → place < length texts
      → unlike_from place (drop place texts) (due_after life past (drop place calls))
      ≡ cond (bytes_eq (get_or texts place text) (reply_text (answer life past (get_or calls place call).op)))
      (unlike_from (place + 1) (drop (suc place) texts) (due_after life ((get_or calls place call).op ∷ past) (drop (suc place) calls))) (Some place)
  left call text among among_texts =
      (λ i. unlike_from place (drop-cons texts place text among_texts i) (due_after life past (drop-cons calls place call among i)))

  -- The text there is the one due.
  pub alike : (call : Entry Op) (text : List ℕ) → place < length calls → place < length texts
      → bytes_eq (get_or texts place text) (reply_text (answer life past (get_or calls place call).op)) ≡ true
      → unlike_from place (drop place texts) (due_after life past (drop place calls))
      ≡ unlike_from (place + 1) (drop (place + 1) texts) (due_after life ((get_or calls place call).op ∷ past) (drop (place + 1) calls))
  alike call text among among_texts same =
      let one : suc place ≡ place + 1 = omega arith in
      left call text among among_texts
      ∙ ap (λ (b : Bool). cond b (unlike_from (place + 1) (drop (suc place) texts) (due_after life ((get_or calls place call).op ∷ past) (drop (suc place) calls))) (Some place)) same
      ∙ ap (λ (n : ℕ). unlike_from (place + 1) (drop n texts) (due_after life ((get_or calls place call).op ∷ past) (drop n calls))) one

  -- It is another.
  pub unlike : (call : Entry Op) (text : List ℕ) → place < length calls → place < length texts
      → bytes_eq (get_or texts place text) (reply_text (answer life past (get_or calls place call).op)) ≡ false
      → unlike_from place (drop place texts) (due_after life past (drop place calls)) ≡ Some place
  unlike call text among among_texts other =
      left call text among among_texts
      ∙ ap (λ (b : Bool). cond b (unlike_from (place + 1) (drop (suc place) texts) (due_after life ((get_or calls place call).op ∷ past) (drop (suc place) calls))) (Some place)) other

  -- No place is left.
  pub none_left : length calls ≤ place → unlike_from place (drop place texts) (due_after life past (drop place calls)) ≡ None
  none_left past_all =
      ap (λ (rest : List (Entry Op)). unlike_from place (drop place texts) (due_after life past rest)) (drop_all place calls past_all) ∙ nothing place (drop place texts)
    where
      nothing : (n : ℕ) (rest : List (List ℕ)) → unlike_from n rest [] ≡ None
      nothing n [] = refl
      nothing n (text ∷ rest) = refl

-- Texts that are the same, or others, however they are named.
pub same_texts : (x y a b : List ℕ) → x ≡ b → a ≡ y → bytes_eq a b ≡ true → bytes_eq x y ≡ true
same_texts x y a b first second alike_is = (bytes_eq-Decides x y).1 (first ∙ sym ((bytes_eq-Decides a b).0 alike_is) ∙ second)

pub other_texts : (x y a b : List ℕ) → x ≡ b → a ≡ y → bytes_eq a b ≡ false → bytes_eq x y ≡ false
other_texts x y a b first second other_is = elim (cases_Bool (bytes_eq x y)) [
  | inl same_is ↦
      let wrong : false ≡ true = sym other_is ∙ (bytes_eq-Decides a b).1 (second ∙ sym ((bytes_eq-Decides x y).0 same_is) ∙ first) in
      absurd (cc wrong)
  | inr apart ↦ apart
]

-- The calls so far, the newest first, with one more.
pub one_call_more : (calls : List (Entry Op)) (place : ℕ) (call : Entry Op) → place < length calls
    → ops_of (reverse (take (place + 1) calls)) ≡ (get_or calls place call).op ∷ ops_of (reverse (take place calls))
one_call_more calls place call among =
    ap (λ (l : List (Entry Op)). ops_of (reverse l)) (take_at_read calls place call among).1
    ∙ ap ops_of (reverse-append (take place calls) (get_or calls place call ∷ []))
