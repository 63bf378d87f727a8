use Rattle.std.proofs.Common.{refl}
use Rattle.flt_store_model.specs.Layout.{numbers}
use Rattle.flt_store_model.specs.Form.{mark_bytes, mark_bytes_1, commit_bytes, commit_bytes_1, summary_bytes, state_bytes, first_states, entry_bytes, no_entry_bytes}
use Rattle.flt_store_model.specs.Fit.{state_fits, states_fit}
use Rattle.flt_store_model.specs.Reading.{mark_from, mark_in, commit_from_1, commit_from, is_commit, commit_in, with_summary, state_from, with_states, entry_from, with_part, if_holds}
use Rattle.flt_store_model.specs.Excess.{own_pages}
use Rattle.flt_store_model.specs.Holding.{marked, parts_read, named, applications_judged, excess_judged, held_by}
use Rattle.flt_store_model.proofs.worked.many_events.Goals as goal

pub returns : goal.returns
unfolding numbers mark_bytes mark_bytes_1 commit_bytes commit_bytes_1 summary_bytes state_bytes first_states entry_bytes no_entry_bytes state_fits states_fit mark_from mark_in commit_from_1 commit_from is_commit commit_in with_summary state_from with_states entry_from with_part if_holds own_pages marked parts_read named applications_judged excess_judged held_by
returns c = record { by_first = refl; by_second = refl }
