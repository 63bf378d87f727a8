use Rattle.std.proofs.Common.{◌∙◌, ◌++◌, ℕ, List, ap, arith}
use Rattle.std.proofs.lemmas.List.{take-replicate}
use Rattle.flt_image.proofs.pushing.push_zeros.Goals as goal

pub returns : goal.returns
returns c = let room = c.requires in c.push_all.ensures ∙ ap (λ (zeros : List ℕ). c.args.out.now.items ++ zeros) (take-replicate c.args.count 128 0 (omega (arith, room)))
