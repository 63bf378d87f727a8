use Rattle.std.proofs.Common.{refl}
use Rattle.flt_script.specs.Behind.{added_line}
use Rattle.flt_script.specs.Event.{counter_of, debounce_held, debounce_of, spelled_dtc, event_held, event_line_of, jump_held, jump_of, number_or, numbers_of, threshold_words, thresholds_of, times_of}
use Rattle.flt_script.specs.Line.{by_words, keyword_of, line_of, line_with}
use Rattle.flt_script.specs.Next.{with_line, with_text}
use Rattle.flt_script.specs.Numeral.{hexadecimal, number, numeral, signed}
use Rattle.flt_script.specs.Refusal.{event_refusal, refusal}
use Rattle.flt_script.specs.Text.{is_space_or_tab, words_of}
use Rattle.flt_machine_tests.proofs.tests.scripts.worked.numbers_of_a_counter.Goals as goal

pub returns : goal.returns
unfolding added_line by_words counter_of debounce_held debounce_of spelled_dtc event_held event_line_of event_refusal hexadecimal is_space_or_tab jump_held jump_of keyword_of line_of line_with number number_or numbers_of numeral refusal signed threshold_words thresholds_of times_of with_line with_text words_of
returns c = record { all = refl; in_range = refl; fail = refl; pass = refl; up = refl; down = refl; jump_up = refl; jump_down = refl }
