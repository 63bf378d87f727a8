-- Texts that are put one after the other.
use Rattle.std.proofs.Common.{◌≡◌, ℕ, suc, ◌+◌, ◌<◌, List, length, drop, get_or, map, arith, ap, ◌∙◌}
use Rattle.std.proofs.Math.Seq.{drop-cons}
use Rattle.std.proofs.lemmas.List.{get_or-map, length-map}
use Rattle.flt_life_model.specs.Answers.{KeptAnswer, told_by, told_of}
use Rattle.flt_life_model.specs.Room.{told_in}
use Rattle.flt_life_model.specs.declared.replies.LaneReplies.{LaneReplies}
use Rattle.flt_trace.specs.Answered.{with_lane, with_lanes, with_told}

-- One answer more of a lane.
pub next_told : (texts : List (List ℕ)) (bytes : List ℕ) (answers : List KeptAnswer) (place : ℕ) (answer : KeptAnswer) → place < length answers
    → with_lane texts (drop place (told_by bytes answers)) ≡ with_lane (with_told texts (told_of bytes (get_or answers place answer))) (drop (place + 1) (told_by bytes answers))
next_told texts bytes answers place answer within =
    let told = told_by bytes answers in
    let one = told_of bytes in
    let inside : place < length told = omega (arith, within, length-map answers one) in
    let here : get_or told place (one answer) ≡ one (get_or answers place answer) = get_or-map one answers place answer (one answer) within in
    let next : suc place ≡ place + 1 = omega arith in
    ap (with_lane texts) (drop-cons told place (one answer) inside)
    ∙ (λ i. with_lane (with_told texts (here i)) (drop (next i) told))

pub next_lane : (texts : List (List ℕ)) (replies : List LaneReplies) (place : ℕ) (lane : LaneReplies) → place < length replies
    → with_lanes texts (drop place (map told_in replies)) ≡ with_lanes (with_lane texts (told_in (get_or replies place lane))) (drop (place + 1) (map told_in replies))
next_lane texts replies place lane within =
    let lanes = map told_in replies in
    let inside : place < length lanes = omega (arith, within, length-map replies told_in) in
    let here : get_or lanes place (told_in lane) ≡ told_in (get_or replies place lane) = get_or-map told_in replies place lane (told_in lane) within in
    let next : suc place ≡ place + 1 = omega arith in
    ap (with_lanes texts) (drop-cons lanes place (told_in lane) inside)
    ∙ (λ i. with_lanes (with_lane texts (here i)) (drop (next i) lanes))
