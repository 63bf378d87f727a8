use Rattle.std.proofs.Common.{◌∷◌, [], arith}
use Rattle.std.proofs.lemmas.List.{map-append}
use Rattle.flt_step.specs.Part.{parts_of}
use Rattle.flt_script.proofs.InMemory.{Life}
use Rattle.flt_script.proofs.draft.Draft.finish.Goals as goal

pub new-requires-2 : goal.new-requires-2
new-requires-2 c =
    let draft = c.args.self in
    record {
      within = rw (c.new.ensures, c.in_ok-push.ensures.items, map-append (λ (life : Life). parts_of life.items) draft.lives.items (draft.parts ∷ [])) c.requires;
      some = omega (arith, c.in_ok-push.ensures.len);
    }
