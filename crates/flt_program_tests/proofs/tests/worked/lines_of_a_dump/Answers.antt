use Rattle.std.proofs.Common.{refl}
use Rattle.std.specs.Fmt.{digits}
use Rattle.flt_config.specs.Check.{check_of, distinct_behind}
use Rattle.flt_config.specs.Ranges.{counter_settings, debounce_settings, did_settings, did_width_settings, event_settings, events_settings, global_settings, jump_settings, plain_settings, ranges_result, threshold_settings}
use Rattle.flt_dump.specs.Dump.{first_lines, pages_spelled}
use Rattle.flt_script.specs.Behind.{added_line}
use Rattle.flt_script.specs.Event.{counter_of, debounce_held, debounce_of, spelled_dtc, event_held, event_line_of, jump_held, jump_of, number_or, numbers_of, threshold_words, thresholds_of, times_of}
use Rattle.flt_script.specs.Line.{by_words, keyword_of, line_of, line_with}
use Rattle.flt_script.specs.Numeral.{hexadecimal, number, numeral, signed}
use Rattle.flt_script.specs.Refusal.{event_refusal, line_behind, refusal, setting_refusal, step_refusal}
use Rattle.flt_script.specs.Script.{ended, lines_behind, script_of}
use Rattle.flt_script.specs.Text.{is_space_or_tab, lines_of, words_of}
use Rattle.flt_program_tests.proofs.tests.worked.lines_of_a_dump.Goals as goal

pub returns : goal.returns
unfolding digits first_lines pages_spelled added_line counter_of debounce_held debounce_of spelled_dtc event_held event_line_of jump_held jump_of number_or numbers_of threshold_words thresholds_of times_of by_words keyword_of line_of line_with hexadecimal number numeral signed event_refusal refusal ended lines_behind script_of line_behind setting_refusal step_refusal check_of distinct_behind counter_settings debounce_settings did_settings did_width_settings event_settings events_settings global_settings jump_settings plain_settings ranges_result threshold_settings is_space_or_tab lines_of words_of
returns c = record { first_page = refl; no_pages = refl; step = refl; wrong = refl; no_image = refl }
