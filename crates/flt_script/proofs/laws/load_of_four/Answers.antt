use Rattle.flt_script.proofs.Loads.{load_of_four}
use Rattle.flt_script.proofs.laws.load_of_four.Goals as goal

pub returns : goal.returns
returns c = load_of_four
