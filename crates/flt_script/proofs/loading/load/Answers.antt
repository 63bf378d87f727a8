use Rattle.std.proofs.Common.{◌≡◌, refl}
use Rattle.flt_script.specs.Load.{load_config}
use Rattle.flt_script.proofs.Loads.{load_is_accepted, load_within}
use Rattle.flt_script.proofs.loading.load.Goals as goal

pub unreachable-requires : goal.unreachable-requires
unreachable-requires c = let told = rw (c.in_default.is, c.load_config.ensures, load_is_accepted) at c.check.ensures in cc

pub new-requires-clause-within : goal.new-requires-clause-within
new-requires-clause-within c =
    let told = rw (c.in-Ok.is, c.load_config.ensures, load_is_accepted) at c.check.ensures in
    let same : c.in-Ok.config ≡ load_config = cc in
    rw (same, c.in_ok-push-2.ensures.items, c.in_ok-push.ensures.items, c.new-lives.ensures.items, c.in_ok-load_life.ensures, c.in_ok-shown_life.ensures)
    (load_within c.args.count c.args.lanes c.requires.few)

pub returns : goal.returns
returns c =
    let told = rw (c.in-Ok.is, c.load_config.ensures, load_is_accepted) at c.check.ensures in
    let same : c.in-Ok.config ≡ load_config = cc in
    rw (c.new.ensures, same, c.in_ok-push-2.ensures.items, c.in_ok-push.ensures.items, c.new-lives.ensures.items, c.in_ok-load_life.ensures, c.in_ok-shown_life.ensures) refl
