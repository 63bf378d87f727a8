-- How many bytes the records of a DTC have at most.
use Rattle.std.proofs.Common.{◌≡◌, ◌∙◌, ℕ, ◌+◌, ◌*◌, ◌<◌, ◌≤◌, Bool, true, false, cond, List, [], ◌∷◌, ◌++◌, length, take, drop, get_or, arith, sym, ap}
use Rattle.std.proofs.lemmas.List.{length-append, length-take, drop_more}
use Rattle.std.proofs.lemmas.List.Sums.{sum_by-cons}
use Rattle.flt_config.specs.declared.TheConstants.{DIDS, FRAME}
use Rattle.flt_model.specs.declared.TheConstants.{RESPONSE}
use Rattle.flt_config.specs.declared.config.DidUse.{DidUse}
use Rattle.flt_config.specs.Ranges.{frame_width}
use Rattle.flt_model.specs.Response.{selects, where_selected, identified_values, snapshot}

values_length : (dids : List DidUse) (frame : List ℕ) → length (identified_values dids frame) ≤ 2 * length dids + frame_width dids
values_length [] frame = omega arith
values_length (did ∷ dids) frame =
    let rest = values_length dids (drop did.width frame) in
    let joined = length-append (take did.width frame) (identified_values dids (drop did.width frame)) in
    let own = length-take did.width frame in
    let sum = sum_by-cons (λ (d : DidUse). d.width) did dids in
    omega (arith, rest, joined, own, sum)

where_length : (test : Bool) (bytes : List ℕ) (most : ℕ) → length bytes ≤ most → length (cond test bytes []) ≤ most
where_length true bytes most h = h
where_length false bytes most h = omega arith

-- How many bytes a snapshot record has at most: its number, how many identifiers it has, and each with its value.
abbrev pub snapshot_size : ℕ
snapshot_size = 2 + 2 * DIDS + FRAME

pub snapshot_fits : (number which : ℕ) (dids : List DidUse) (frame : List ℕ) → length dids ≤ DIDS → frame_width dids ≤ FRAME →
    length (where_selected number which (snapshot dids which frame)) ≤ snapshot_size
snapshot_fits number which dids frame few narrow =
    let values = values_length dids frame in
    where_length (selects number which) (snapshot dids which frame) snapshot_size (omega (arith, values, few, narrow))

-- What is left of the data identifiers fits, so the next one does.
pub value_fits : (old out : List ℕ) (dids : List DidUse) (index : ℕ) (d : DidUse) (rest frame : List ℕ) → out ++ identified_values (drop index dids) rest ≡ old ++ identified_values dids frame →
    index < length dids → length old + length (identified_values dids frame) ≤ RESPONSE → length out + (2 + length (take (get_or dids index d).width rest)) ≤ RESPONSE
value_fits old out dids index d rest frame is within room =
    let did = get_or dids index d in
    let next = ap (λ left. out ++ identified_values left rest) (sym (drop_more dids index d within)) ∙ is in
    let all = ap length next in
    let left = length-append out (identified_values (did ∷ drop (index + 1) dids) rest) in
    let right = length-append old (identified_values dids frame) in
    let own = length-append (take did.width rest) (identified_values (drop (index + 1) dids) (drop did.width rest)) in
    omega (arith, all, left, right, own, room)
