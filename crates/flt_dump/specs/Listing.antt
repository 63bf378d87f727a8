-- What an image says line by line: its current sector, and the log of that, in order.
use Rattle.std.specs.Prelude.{ℕ, zero, suc, ◌+◌, ◌-◌, Bool, true, false, List, [], ◌∷◌, ◌++◌, Option, Some, None, Result, Ok, Err, codes}
use Rattle.std.specs.Fmt.{decimal}
use Rattle.flt_flash.specs.Image.{sector_at}
use Rattle.flt_flash.specs.Blocks.{record_pages}
use Rattle.flt_sector_model.specs.Log.{Entry, LogFrom, log}
use Rattle.flt_sector_model.specs.Blocks.{Current, current}

-- A page with a torn head.
unfoldable pub torn_line : ℕ → List ℕ
torn_line page = codes "page " ++ decimal page ++ codes " torn" ++ 10 ∷ []

-- How a record ends: complete, by the gate of its valid or invalid head, or without its gate.
abbrev pub ending_text : Bool → Bool → List ℕ
ending_text valid false = codes " incomplete"
ending_text true true = codes " complete"
ending_text false true = codes " invalid"

-- A record: the page of its head, its block, how many bytes it has, and how it ends.
unfoldable pub record_line : Entry → List ℕ
record_line entry = codes "page " ++ decimal entry.page ++ codes " block " ++ decimal entry.block ++ codes " length " ++ decimal entry.length
    ++ ending_text entry.valid entry.complete ++ 10 ∷ []

-- This many pages from this one on, each with a torn head.
unfoldable pub torn_lines : ℕ → ℕ → List ℕ
torn_lines page zero = []
torn_lines page (suc left) = torn_line page ++ torn_lines (page + 1) left

-- The lines of a log from a page on, with these records, up to its end: each page that no record takes has a torn head.
unfoldable pub log_text : ℕ → List Entry → ℕ → List ℕ
log_text page [] end = torn_lines page (end - page)
log_text page (entry ∷ entries) end =
    torn_lines page (entry.page - page) ++ record_line entry ++ log_text (entry.page + record_pages entry.length) entries end

-- The current sector, and its sequence number.
unfoldable pub sector_line : Current → List ℕ
sector_line at = codes "sector " ++ decimal at.sector ++ codes " sequence " ++ decimal at.sequence ++ 10 ∷ []

-- The sector and its log, where it has no fault.
abbrev pub listing_in : Current → LogFrom → Option ℕ → List ℕ
listing_in at log (Some fault) = []
listing_in at log None = sector_line at ++ log_text 2 log.entries log.end

-- The lines by the current sector; none where the pages have a fault.
abbrev pub listing_by : ℕ → List ℕ → List (List (List ℕ)) → Result (Option Current) (ℕ × ℕ) → List ℕ
listing_by used numbers image (Err place) = []
listing_by used numbers image (Ok None) = codes "no sector" ++ 10 ∷ []
listing_by used numbers image (Ok (Some at)) =
    listing_in at (log used numbers (sector_at image at.sector)) (log used numbers (sector_at image at.sector)).fault

-- The lines of an image.
abbrev pub listing_text : ℕ → List ℕ → List (List (List ℕ)) → List ℕ
listing_text used numbers image = listing_by used numbers image (current used image)
