-- A line of which the first part is there, and the rest could not be put.
use Rattle.std.proofs.Common.{◌≡◌, ℕ, List, ◌++◌, length, ap, sym, ◌∙◌}
use Rattle.std.proofs.Math.Seq.{take-append_seam}
use Rattle.flt_step.specs.Puts.{GrowsByFront}

pub front_of_parts : (old middle new words rest : List ℕ) → middle ≡ old ++ words → new ≡ middle → GrowsByFront old new (words ++ rest)
front_of_parts old middle new words rest first same =
    (length words, same ∙ first ∙ ap (λ front. old ++ front) (sym (take-append_seam words rest)))
