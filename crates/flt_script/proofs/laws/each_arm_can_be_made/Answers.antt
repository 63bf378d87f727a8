use Rattle.flt_script.proofs.PrintedArm.{each_arm_can_be_made}
use Rattle.flt_script.proofs.laws.each_arm_can_be_made.Goals as goal

pub returns : goal.returns
returns c = each_arm_can_be_made
