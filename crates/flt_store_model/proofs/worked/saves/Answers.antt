use Rattle.std.proofs.Common.{refl}
use Rattle.flt_flash.specs.Image.{blank_page}
use Rattle.flt_code.specs.Seal.{sealed, unsealed}
use Rattle.flt_code.specs.Spoiled.{is_spoiled}
use Rattle.flt_code.specs.Word.{word_bytes, candidate, word_of}
use Rattle.flt_sector_model.specs.Log.{log_from}
use Rattle.flt_store_model.specs.Layout.{numbers}
use Rattle.flt_store_model.specs.Form.{mark_bytes, mark_bytes_1, commit_bytes, commit_bytes_1, summary_bytes, state_bytes, first_states, entry_bytes, no_entry_bytes}
use Rattle.flt_store_model.specs.Fit.{state_fits, states_fit}
use Rattle.flt_store_model.specs.Reading.{mark_from, mark_in, commit_from_1, commit_from, is_commit, commit_in, with_summary, state_from, with_states, entry_from, with_part, if_holds}
use Rattle.flt_store_model.specs.Excess.{own_pages}
use Rattle.flt_store_model.specs.Holding.{marked, parts_read, named, applications_judged, excess_judged, held_by}
use Rattle.flt_store_model.proofs.worked.saves.Goals as goal

pub returns : goal.returns
unfolding blank_page sealed unsealed is_spoiled word_bytes candidate word_of log_from numbers mark_bytes mark_bytes_1 commit_bytes commit_bytes_1 summary_bytes state_bytes first_states entry_bytes no_entry_bytes state_fits states_fit mark_from mark_in commit_from_1 commit_from is_commit commit_in with_summary state_from with_states entry_from with_part if_holds own_pages marked parts_read named applications_judged excess_judged held_by
returns c = record { by_first = refl; by_second = refl }
