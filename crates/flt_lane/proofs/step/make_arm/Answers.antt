use Rattle.std.proofs.Common.{refl, rules}
use Rattle.flt_life_model.specs.declared.answer.StepAnswer.TheVariants.{Armed}
use Rattle.flt_step.specs.declared.step.Step.TheVariants as steps
use Rattle.flt_lane.proofs.Answering.{keeps}
use Rattle.flt_lane.proofs.Carrying.{carries_arm}
use Rattle.flt_lane.proofs.Stepping.{none_made, none_queued}
use Rattle.flt_lane.proofs.step.make_arm.Goals as goal

pub returns : goal.returns
returns g c =
    let step = steps.Arming c.args.arm in
    let kept = c.keep.ensures in
    record {
      takes = λ config seat jobs. record {
        made = record {
          answer = Armed;
          keeps = keeps c.args.replies.now c.keep.new.self step Armed kept.told kept.answers kept.room kept.responses kept.bytes refl;
          dem = none_made seat step Armed (refl, refl);
          queue = none_queued jobs step Armed refl;
        };
        carries = λ earlier. carries_arm config seat jobs earlier c.args.store.now c.arm.new.self _ c.arm.ensures.arms (c.arm.ensures.running config);
        keeps_driver = search rules;
        arms_made = search rules;
        armed = search rules;
      };
    }
