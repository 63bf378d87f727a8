use Rattle.std.proofs.Common.{◌≡◌, replicate}
use Rattle.flt_store_model.specs.Reading.{untaken_entry}
use Rattle.flt_image.proofs.summary.untaken_entries.Given as goal

abbrev pub invariant-loop-place : goal.invariant-loop-place
invariant-loop-place l = l.entries.items ≡ replicate l._place untaken_entry
