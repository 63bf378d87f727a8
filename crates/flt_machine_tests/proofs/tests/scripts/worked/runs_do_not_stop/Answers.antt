use Rattle.std.proofs.Common.{◌≡◌, [], inr, refl, arith, ⊎_elim}
use Rattle.std.specs.Prelude.{IsFalse}
use Rattle.std.proofs.lemmas.List.Elements.{All-cons, All-nil}
use Rattle.flt_life_model.specs.Chain.{LifeView}
use Rattle.flt_life_model.specs.Lives.{is_refused}
use Rattle.flt_machine_tests.specs.LifeExamples.{dark_life}
use Rattle.flt_machine_tests.proofs.tests.scripts.worked.runs_do_not_stop.Goals as goal

pub returns : goal.returns
returns c = record {
  both = (All-cons (λ (l : LifeView). IsFalse (is_refused l.boot)) dark_life [] refl (All-nil _), omega arith, inr refl);
  one = λ never. ⊎_elim (λ refused. absurd (cc (refused))) (λ same. omega (arith, same)) never.2;
  none = λ never. absurd (cc (never));
  more = λ never. (let most = never.1 in omega (arith, most));
}
