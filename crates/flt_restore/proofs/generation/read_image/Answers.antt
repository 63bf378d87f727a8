use Rattle.std.proofs.Common.{◌≡◌, Ok}
use Rattle.flt_flash.specs.Content.{Content}
use Rattle.flt_nvm.specs.Driver.{driver_of}
use Rattle.flt_store_model.specs.Layout.{mark_number}
use Rattle.flt_store_model.specs.Holding.{marked, applications_judged, excess_judged}
use Rattle.flt_restore.specs.Found.{held_content}
use Rattle.flt_restore.proofs.Telling.{handed_on, same_values, step_ok, step_told}
use Rattle.flt_restore.proofs.Naming.{mark_refused, named_refused, applications_refused, excess_refused, all_told}
use Rattle.flt_restore.proofs.generation.read_image.Goals.{In_ok-judge_mark, In_ok-judge_applications}
use Rattle.flt_restore.proofs.generation.read_image.Goals as goal

own : (g : _) (c : In_ok-judge_mark g) → marked c.args.config.now ((driver_of c.args.nvm.now).value mark_number) (held_content c.args.source.held) ≡ Ok tt
own g c = step_ok c.args.config.now (λ (mark : Content). marked c.args.config.now mark (held_content c.args.source.held)) _ _ _ tt c.in_ok-judge_mark.was c.judge_mark.ensures c.requires.mark

fine : (g : _) (c : In_ok-judge_applications g) → applications_judged (driver_of c.args.nvm.now).value ≡ Ok tt
fine g c = step_ok c.args.config.now applications_judged _ _ _ tt c.in_ok-judge_applications.was c.judge_applications.ensures (same_values (driver_of c.args.nvm.now) (driver_of c.read_generation.new.nvm) c.in_ok-commit.ensures.reads)

pub returns-in_err-judge_mark-clause-refused : goal.returns-in_err-judge_mark-clause-refused
returns-in_err-judge_mark-clause-refused g c =
    let before = driver_of c.args.nvm.now in
    let content = held_content c.args.source.held in
    handed_on _ c.from_residual.result _ c.from_residual.ensures.1
    (mark_refused c.args.config.now before.value content before before _
    (step_told c.args.config.now before before (λ (mark : Content). marked c.args.config.now mark content) _ _ _ _ c.in_err-judge_mark.was c.judge_mark.ensures c.requires.mark))

pub returns-in_err-commit-clause-refused : goal.returns-in_err-commit-clause-refused
returns-in_err-commit-clause-refused g c =
    let before = driver_of c.args.nvm.now in
    handed_on _ c.from_residual-in_err-commit.result _ c.from_residual-in_err-commit.ensures.1
    (named_refused c.args.config.now before.value (held_content c.args.source.held) (own g (goal.at.returns-in_err-commit-clause-refused g c).In_ok-judge_mark)
    before (driver_of c.read_generation.new.nvm) _ c.in_err-commit.ensures.refused)

pub returns-in_err-judge_applications-clause-refused : goal.returns-in_err-judge_applications-clause-refused
returns-in_err-judge_applications-clause-refused g c =
    let before = driver_of c.args.nvm.now in
    let after = driver_of c.read_generation.new.nvm in
    handed_on _ c.from_residual-in_err-judge_applications.result _ c.from_residual-in_err-judge_applications.ensures.1
    (applications_refused c.args.config.now before.value (held_content c.args.source.held) (own g (goal.at.returns-in_err-judge_applications-clause-refused g c).In_ok-judge_mark) _ c.in_ok-commit.ensures.told before after _
    (step_told c.args.config.now before after applications_judged _ _ _ _ c.in_err-judge_applications.was c.judge_applications.ensures (same_values before after c.in_ok-commit.ensures.reads)))

pub returns-in_err-judge_excess-clause-refused : goal.returns-in_err-judge_excess-clause-refused
returns-in_err-judge_excess-clause-refused g c =
    let at = goal.at.returns-in_err-judge_excess-clause-refused g c in
    let before = driver_of c.args.nvm.now in
    let after = driver_of c.read_generation.new.nvm in
    handed_on _ c.from_residual-in_err-judge_excess.result _ c.from_residual-in_err-judge_excess.ensures.1
    (excess_refused c.args.config.now before.value (held_content c.args.source.held) (own g at.In_ok-judge_mark) _ c.in_ok-commit.ensures.told (fine g at.In_ok-judge_applications) before after _
    (step_told c.args.config.now before after (excess_judged c.args.config.now) _ _ _ _ c.in_err-judge_excess.was c.judge_excess.ensures (same_values before after c.in_ok-commit.ensures.reads)))

pub returns-clause-told : goal.returns-clause-told
returns-clause-told g c =
    let at = goal.at.returns-clause-told g c in
    let before = driver_of c.args.nvm.now in
    all_told c.args.config.now before.value (held_content c.args.source.held) (own g at.In_ok-judge_mark) _ c.in_ok-commit.ensures.told (fine g at.In_ok-judge_applications)
    (step_ok c.args.config.now (excess_judged c.args.config.now) _ _ _ tt c.in_ok-judge_excess.was c.judge_excess.ensures (same_values before (driver_of c.read_generation.new.nvm) c.in_ok-commit.ensures.reads))
