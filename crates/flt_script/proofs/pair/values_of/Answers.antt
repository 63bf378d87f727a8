use Rattle.std.proofs.Common.{refl, sym, ◌∙◌}
use Rattle.flt_script.specs.Pair.{spells}
use Rattle.flt_script.proofs.Seen.{position-seen, drop-seen}
use Rattle.flt_script.proofs.pair.values_of.Goals as goal

pub returns-in_err-place : goal.returns-in_err-place
returns-in_err-place c =
    let found = sym (position-seen (spells c.args.key) c.args.words.now) ∙ sym c.place_of.ensures ∙ c.in_err-place.was in
    rw (found, c.from_residual.ensures) refl

pub returns : goal.returns
returns c =
    let found = sym (position-seen (spells c.args.key) c.args.words.now) ∙ sym c.place_of.ensures ∙ c.in_ok-place.was in
    rw (found, c.before_key.ensures, c.split_at.ensures.back, drop-seen) refl
