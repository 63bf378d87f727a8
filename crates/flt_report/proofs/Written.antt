-- Lines that are written one after the other.
use Rattle.std.proofs.Common.{◌≡◌, ℕ, ◌+◌, ◌<◌, ◌≤◌, min, map, List, [], ◌∷◌, ◌++◌, length, take, drop, get_or, Option, refl, sym, subst, ap, ◌∙◌, append_assoc, inl, inr, drop-cons, add-one, arith}
use Rattle.std.specs.Prelude.{Vec, Result}
use Rattle.std.proofs.lemmas.List.{append-nil, take_at, take_all, take-append-le}
use Rattle.std.proofs.lemmas.Bool.{cases_lt}
use Rattle.std.proofs.lemmas.Result.{on_ok_weaker, on_err_weaker}
use Rattle.std.proofs.Math.Seq.{take-append-add}
use Rattle.std.proofs.Math.ListN.{drop_of_length-le}
use Rattle.std.proofs.KnownBytes.{Appends-trans, Appends-nil}
use Rattle.std.specs.Io.KnownBytes.{Appends}
use Rattle.flt_io.specs.Sink.{AppendsFront}
use Rattle.flt_io.specs.Written.{Writes}
use Rattle.flt_io.specs.declared.stream.StreamFault.{StreamFault}
use Rattle.flt_step.specs.declared.step.Step.{Step}
use Rattle.flt_life_model.specs.declared.replies.LaneReplies.{LaneReplies}
use Rattle.flt_life_model.specs.Room.{told_in}
use Rattle.flt_report.specs.Left.{IsWritten}
use Rattle.flt_life_model.specs.Answers.{KeptAnswer, Told, told_of, told_by}
use Rattle.flt_report.specs.Answer.{step_line}
use Rattle.flt_report.specs.Life.{lane_steps, lines_text, lane_text, lanes_text}

pub starts : (held : Option (List ℕ)) (whole : List ℕ) → IsWritten held held whole whole
starts held whole = record { text = []; appended = Appends-nil held; both = refl }

take_within : (n : ℕ) (piece more : List ℕ) → take (min n (length piece)) (piece ++ more) ≡ take n piece
take_within n piece more = elim (cases_lt n (length piece)) [
  | inl short ↦
      let same : min n (length piece) ≡ n = omega arith in
      rw same (take-append-le n piece more (omega arith))
  | inr long ↦
      let same : min n (length piece) ≡ length piece = omega arith in
      rw same (take_at piece more (length piece) refl ∙ sym (take_all n piece long))
]

-- A front of what follows a text is a front after it.
pub front_behind : (a b c : Option (List ℕ)) (text piece more : List ℕ) → Appends a b text → AppendsFront b c piece → AppendsFront a c (text ++ (piece ++ more))
front_behind a b c text piece more first second =
    (length text + min second.0 (length piece), rw (take-append-add, take_within second.0 piece more) (Appends-trans a b c text (take second.0 piece) first second.1))

-- A front of a text is a front of a longer one.
pub front_first : (a c : Option (List ℕ)) (piece more : List ℕ) → AppendsFront a c piece → AppendsFront a c (piece ++ more)
front_first a c piece more first = (min first.0 (length piece), rw (take_within first.0 piece more) first.1)

pub front_next : (a b c : Option (List ℕ)) (text piece : List ℕ) → Appends a b text → AppendsFront b c piece → AppendsFront a c (text ++ piece)
front_next a b c text piece first second = (length text + second.0, rw take-append-add (Appends-trans a b c text (take second.0 piece) first second.1))

-- A text is written after one that was.
pub writes_next : {K T : Type 0} {held : K → Option (List ℕ)} {faults : K → ℕ} {before after last : K} {more : List ℕ} {result : Result T StreamFault} (text : List ℕ)
    → Appends (held before) (held after) text → faults before ≤ faults after → Writes held faults after last more result → Writes held faults before last (text ++ more) result
writes_next {held = held} {before = before} {after = after} {last = last} {more = more} {result = result} text first later next = record {
  ok = on_ok_weaker result (Appends-trans (held before) (held after) (held last) text more first) next.ok;
  err = on_err_weaker result (front_next (held before) (held after) (held last) text more first) next.err;
  later = let l = next.later in omega (arith, later, l);
  cause = λ is. let rose = next.cause is in omega (arith, later, rose);
}

-- The same, of a text that is all.
pub front_of : (a b : Option (List ℕ)) (text more : List ℕ) → Appends a b text → AppendsFront a b (text ++ more)
front_of a b text more first = (length text, rw (take_at text more (length text) refl) first)

module _ (old new : Option (List ℕ)) (piece more whole : List ℕ) (on : IsWritten old new (piece ++ more) whole) where
  pub goes_on : (now : Option (List ℕ)) → Appends new now piece → IsWritten old now more whole
  goes_on now appends = record {
    text = on.text ++ piece;
    appended = Appends-trans old new now on.text piece on.appended appends;
    both = append_assoc on.text piece more ∙ on.both;
  }

  pub stops : (now : Option (List ℕ)) → AppendsFront new now piece → AppendsFront old now whole
  stops now appends = subst (AppendsFront old now) on.both (front_behind old new now on.text piece more on.appended appends)

-- What is kept of a text that comes before the rest.
pub passes : (old new now : Option (List ℕ)) (text more whole kept : List ℕ) → IsWritten old new (text ++ more) whole → IsWritten new now kept text → IsWritten old now (kept ++ more) whole
passes old new now text more whole kept on part =
    goes_on old new part.text (kept ++ more) whole
    (subst (λ left. IsWritten old new left whole) (ap (λ text. text ++ more) (sym part.both) ∙ append_assoc part.text kept more) on) now part.appended

-- Lines that are kept, with those after them.
pub joined : (old new : Option (List ℕ)) (kept piece more whole : List ℕ) → IsWritten old new (kept ++ (piece ++ more)) whole → IsWritten old new ((kept ++ piece) ++ more) whole
joined old new kept piece more whole = subst (λ left. IsWritten old new left whole) (sym (append_assoc kept piece more))

-- Lines that are kept, with none after them.
pub kept_last : (old new : Option (List ℕ)) (kept whole : List ℕ) → IsWritten old new kept whole → IsWritten old new (kept ++ []) whole
kept_last old new kept whole = subst (λ left. IsWritten old new left whole) (sym (append-nil kept))

pub so_far : (old new : Option (List ℕ)) (left whole : List ℕ) → IsWritten old new left whole → AppendsFront old new whole
so_far old new left whole on = subst (AppendsFront old new) on.both (front_of old new on.text left on.appended)

pub ends : (old new : Option (List ℕ)) (left whole : List ℕ) → left ≡ [] → IsWritten old new left whole → Appends old new whole
ends old new left whole none on = subst (Appends old new) (sym (append-nil on.text) ∙ ap (λ rest. on.text ++ rest) (sym none) ∙ on.both) on.appended

-- ---- the lines of steps that are left

-- Those of the steps from an index on.
abbrev pub steps_left : List ℕ → List Step → List KeptAnswer → ℕ → List ℕ
steps_left bytes steps answers index = lines_text (drop index steps) (told_by bytes (drop index answers))

pub steps_more : (bytes : List ℕ) (steps : List Step) (answers : List KeptAnswer) (index : ℕ) (step : Step) (answer : KeptAnswer) → index < length steps → index < length answers
    → steps_left bytes steps answers index ≡ step_line (get_or steps index step) (told_of bytes (get_or answers index answer)) ++ steps_left bytes steps answers (index + 1)
unfolding lines_text
steps_more bytes steps answers index step answer there too = rw (drop-cons steps index step there, drop-cons answers index answer too, add-one) refl

pub no_answers : (steps : List Step) → lines_text steps [] ≡ []
unfolding lines_text
no_answers [] = refl
no_answers (step ∷ rest) = refl

no_steps : (told : List Told) → lines_text [] told ≡ []
unfolding lines_text
no_steps told = refl

pub steps_end : (bytes : List ℕ) (steps : List Step) (answers : List KeptAnswer) (index : ℕ) → min (length steps) (length answers) ≤ index → steps_left bytes steps answers index ≡ []
steps_end bytes steps answers index past = elim (cases_lt index (length steps)) [
  | inl below ↦
      let short : length answers ≤ index = omega (arith, below, past) in
      rw (drop_of_length-le answers short) (no_answers (drop index steps))
  | inr beyond ↦ rw (drop_of_length-le steps beyond) (no_steps (told_by bytes (drop index answers)))
]

-- ---- the lanes that are left

-- The lines of the lanes from an index on.
abbrev pub lanes_left : {A : Type 0} → ℕ → List (Vec Step A) → List LaneReplies → ℕ → List ℕ
lanes_left number lanes told index = lanes_text (number + index) (lane_steps (drop index lanes)) (map told_in (drop index told))

pub lanes_more : {A : Type 0} (number : ℕ) (lanes : List (Vec Step A)) (told : List LaneReplies) (index : ℕ) (lane : Vec Step A) (replies : LaneReplies) → index < length lanes → index < length told
    → lanes_left number lanes told index ≡ lane_text (number + index) (get_or lanes index lane).items (told_in (get_or told index replies)) ++ lanes_left number lanes told (index + 1)
unfolding lanes_text
lanes_more number lanes told index lane replies there too =
    let next : number + index + 1 ≡ number + (index + 1) = omega arith in
    rw (drop-cons lanes index lane there, drop-cons told index replies too, next, add-one) refl

no_lanes : (number : ℕ) (told : List (List Told)) → lanes_text number [] told ≡ []
unfolding lanes_text
no_lanes number told = refl

pub no_told : (number : ℕ) (lanes : List (List Step)) → lanes_text number lanes [] ≡ []
unfolding lanes_text
no_told number [] = refl
no_told number (lane ∷ rest) = refl

pub lanes_end : {A : Type 0} (number : ℕ) (lanes : List (Vec Step A)) (told : List LaneReplies) (index : ℕ) → min (length lanes) (length told) ≤ index → lanes_left number lanes told index ≡ []
lanes_end number lanes told index past = elim (cases_lt index (length lanes)) [
  | inl below ↦
      let short : length told ≤ index = omega (arith, below, past) in
      rw (drop_of_length-le told short) (no_told (number + index) (lane_steps (drop index lanes)))
  | inr beyond ↦ rw (drop_of_length-le lanes beyond) (no_lanes (number + index) (map told_in (drop index told)))
]
