use Rattle.std.proofs.Common.{refl, sym, ◌∙◌}
use Rattle.flt_script.specs.Pair.{is_key}
use Rattle.flt_script.proofs.Seen.{position-seen, take-seen}
use Rattle.flt_script.proofs.pair.before_key.Goals as goal

pub returns-in-Some : goal.returns-in-Some
returns-in-Some c =
    let found = sym (position-seen is_key c.args.words.now) ∙ sym c.next_key.ensures ∙ c.in-Some.is in
    rw (found, take-seen) refl

pub returns-in-None : goal.returns-in-None
returns-in-None c =
    let found = sym (position-seen is_key c.args.words.now) ∙ sym c.next_key.ensures ∙ c.in-None.is in
    rw found refl
