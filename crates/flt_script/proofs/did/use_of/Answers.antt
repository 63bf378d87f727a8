use Rattle.std.proofs.Common.{refl, sym, ◌∙◌}
use Rattle.flt_script.proofs.Dids.{found_with}
use Rattle.flt_script.proofs.did.use_of.Goals as goal

pub returns : goal.returns
returns g c = found_with c.args.id c.in_ok-width.width _ _ refl (sym c.width.ensures ∙ c.in_ok-width.was)
