use Rattle.std.proofs.Common.{subst, Option}
use Rattle.std.specs.Prelude.{All, IfSome, Vec, ◌≢◌}
use Rattle.flt_restore.specs.declared.fault.StartFault.TheVariants.{Flash}
use Rattle.flt_life_model.specs.declared.life.Boot.TheVariants.{Refused}
use Rattle.flt_life_model.specs.declared.life.Life.{Life}
use Rattle.flt_report.proofs.Possible.{each_few}
use Rattle.flt_run.proofs.performing.made_of.Goals as goal

pub invariant_of-result : goal.invariant_of-result
invariant_of-result c = record {
  some = c.args.script.some_life;
  few = c.args.script.few_lives;
  small = each_few c.args.script.lives.items 1048577 c.args.script.few_parts;
  none_by_flash = subst (λ (lives : Option (Vec Life _)). IfSome lives (λ lives. All (λ life. life.boot ≢ Refused Flash) lives.items)) c.in_ok-lives.was c.requires;
}
