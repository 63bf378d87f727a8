use Rattle.flt_model.proofs.SessionLaws.{request_leaves_other_testers}
use Rattle.flt_model.proofs.laws.request_leaves_other_testers.Goals as goal

pub returns : goal.returns
returns c = request_leaves_other_testers
