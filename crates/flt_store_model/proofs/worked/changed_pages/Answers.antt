use Rattle.std.proofs.Common.{refl}
use Rattle.flt_store_model.specs.Form.{summary_bytes, state_bytes, first_states, entry_bytes, no_entry_bytes}
use Rattle.flt_store_model.specs.Successor.{changed_pages}
use Rattle.flt_store_model.proofs.worked.changed_pages.Goals as goal

pub returns : goal.returns
unfolding summary_bytes state_bytes first_states entry_bytes no_entry_bytes changed_pages
returns c = refl
