use Rattle.std.proofs.Common.{◌≡◌, ◌∙◌, ◌||◌, Bool, false, map, length, sym, ap, arith}
use Rattle.std.specs.Prelude.{nat_lt}
use Rattle.std.specs.List.{list_any}
use Rattle.std.proofs.lemmas.Bool.{le-ltb}
use Rattle.std.proofs.lemmas.List.{length-map}
use Rattle.flt_step.specs.Part.{part_of, parts_of}
use Rattle.flt_dump.specs.Dump.{has_step}
use Rattle.flt_dump.proofs.Steps.{any_mapped}
use Rattle.flt_dump.proofs.reading.has_begun.Goals as goal

pub returns-else-len-gt1 : goal.returns-else-len-gt1
returns-else-len-gt1 c =
    let lives = c.args.script.now.lives in
    let few : nat_lt 1 (length (map (λ life. parts_of life.items) lives.items)) ≡ false = le-ltb _ _ (omega (arith, length-map lives.items (λ life. parts_of life.items), lives.ok.0)) in
    c.lives_have_step.ensures
    ∙ ap (λ items. list_any (λ life. list_any (λ part. has_step (part_of part)) life.items) items) c.deref.ensures.value
    ∙ (λ i. list_any (λ life. sym (any_mapped part_of has_step life.items) i) lives.items)
    ∙ sym (any_mapped (λ life. parts_of life.items) (λ parts. list_any has_step parts) lives.items)
    ∙ sym (ap (λ (b : Bool). b || list_any (λ parts. list_any has_step parts) (map (λ life. parts_of life.items) lives.items)) few)
