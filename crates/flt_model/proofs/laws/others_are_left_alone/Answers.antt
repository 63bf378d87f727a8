use Rattle.flt_model.proofs.AloneLaws.{report_is_about_its_event, clear_is_about_its_event, others_are_left_alone, displacement_leaves_other_bits}
use Rattle.flt_model.proofs.laws.others_are_left_alone.Goals as goal

pub returns : goal.returns
returns c = record {
  report = report_is_about_its_event;
  clear = clear_is_about_its_event;
  alone = others_are_left_alone;
  displaced = displacement_leaves_other_bits;
}
