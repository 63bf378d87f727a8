-- What is put of a log. This serves the proof.
use Rattle.std.specs.Prelude.{◌≡◌, ◌≢◌, ℕ, Bool, true, false, List, ◌++◌, None}
use Rattle.flt_sector_model.specs.Log.{Entry, LogFrom}
use Rattle.flt_dump.specs.Listing.{log_text}
use Rattle.flt_dump.specs.declared.listing.Record.{Record}

-- A record as an entry of the log.
abbrev pub entry_of : Record → Entry
entry_of found = record { page = found.page; block = found.block; length = found.length; valid = found.valid; complete = found.complete }

-- The lines of a log without a fault were put after the text, or the log has a fault.
abbrev pub IsListed : Bool → LogFrom → List ℕ → List ℕ → Type 0
IsListed true log old new = (log.fault ≡ None) × (new ≡ old ++ log_text 2 log.entries log.end)
IsListed false log old new = log.fault ≢ None
