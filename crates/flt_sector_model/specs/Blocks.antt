-- What a whole image says: its current sector, its first fault, its log, and what each block holds.
use Rattle.std.specs.Prelude.{ℕ, ◌+◌, ◌==◌, ◌&&◌, nat_lt, if◌then◌else◌, List, [], ◌∷◌, take, Option, Some, None, Result, Ok, Err, slice_range}
use Rattle.std.specs.List.{flat_map}
use Rattle.flt_flash.specs.Image.{sector_at}
use Rattle.flt_flash.specs.Content.{Content, missing, invalid, bytes}
use Rattle.flt_flash.specs.Blocks.{byte_pages}
use Rattle.flt_sector_model.specs.Log.{Entry, log}
use Rattle.flt_sector_model.specs.Gates.{gates_of}

-- The current sector and its sequence number.
pub record Current : Type 0 where
  pub sector : ℕ
  pub sequence : ℕ

-- Of the valid sectors the one with the greater number; the same number in both is a fault.
abbrev pub greater_of : Option ℕ → Option ℕ → Result (Option Current) (ℕ × ℕ)
greater_of None None = Ok None
greater_of (Some first) None = Ok (Some record { sector = 0; sequence = first })
greater_of None (Some second) = Ok (Some record { sector = 1; sequence = second })
greater_of (Some first) (Some second) =
    if first == second then Err (1, 0)
    else if nat_lt first second then Ok (Some record { sector = 1; sequence = second })
    else Ok (Some record { sector = 0; sequence = first })

-- The current sector by the gates of both sectors.
abbrev pub current_by : Result (Option ℕ) ℕ → Result (Option ℕ) ℕ → Result (Option Current) (ℕ × ℕ)
current_by (Err page) second = Err (0, page)
current_by (Ok first) (Err page) = Err (1, page)
current_by (Ok first) (Ok second) = greater_of first second

-- The current sector of an image, or the first fault of the gates, by sector and page.
abbrev pub current : ℕ → List (List (List ℕ)) → Result (Option Current) (ℕ × ℕ)
current used image = current_by (gates_of used (sector_at image 0)) (gates_of used (sector_at image 1))

-- A page of a sector, by sector and page.
abbrev pub place_in : ℕ → Option ℕ → Option (ℕ × ℕ)
place_in sector None = None
place_in sector (Some page) = Some (sector, page)

-- The first fault of an image of this current sector.
abbrev pub fault_by : ℕ → List ℕ → List (List (List ℕ)) → Result (Option Current) (ℕ × ℕ) → Option (ℕ × ℕ)
fault_by used numbers image (Err place) = Some place
fault_by used numbers image (Ok None) = None
fault_by used numbers image (Ok (Some at)) = place_in at.sector (log used numbers (sector_at image at.sector)).fault

-- The first fault of an image, by sector and page: of the gates of sector 0, then of sector 1, then of the current sector's log.
abbrev pub first_fault : ℕ → List ℕ → List (List (List ℕ)) → Option (ℕ × ℕ)
first_fault used numbers image = fault_by used numbers image (current used image)

-- The bytes after a head.
abbrev pub bytes_behind : List (List ℕ) → Entry → List ℕ
bytes_behind pages entry = take entry.length (flat_map (λ page. page) (slice_range pages (entry.page + 1) (entry.page + 1 + byte_pages entry.length)))

-- A later record, or else this one, if it is complete and of the block.
abbrev pub or_earlier : Option Entry → Entry → ℕ → Option Entry
or_earlier (Some later) entry block = Some later
or_earlier None entry block = if entry.complete && (entry.block == block) then Some entry else None

-- The last complete record of a block in a list of records.
abbrev pub last_complete : ℕ → List Entry → Option Entry
last_complete block [] = None
last_complete block (entry ∷ rest) = or_earlier (last_complete block rest) entry block

-- What a block holds by its last complete record.
abbrev pub content_of : List (List ℕ) → Option Entry → Content
content_of pages None = missing
content_of pages (Some entry) = if entry.valid then bytes (bytes_behind pages entry) else invalid

-- The pages of the current sector.
abbrev pub pages_by : List (List (List ℕ)) → Result (Option Current) (ℕ × ℕ) → List (List ℕ)
pages_by image (Err place) = []
pages_by image (Ok None) = []
pages_by image (Ok (Some at)) = sector_at image at.sector

-- The records of the current sector.
abbrev pub log_by : ℕ → List ℕ → List (List (List ℕ)) → Result (Option Current) (ℕ × ℕ) → List Entry
log_by used numbers image (Err place) = []
log_by used numbers image (Ok None) = []
log_by used numbers image (Ok (Some at)) = (log used numbers (sector_at image at.sector)).entries

-- The log of an image.
abbrev pub image_log : ℕ → List ℕ → List (List (List ℕ)) → List Entry
image_log used numbers image = log_by used numbers image (current used image)

-- What a block holds by its last complete record in the current sector.
abbrev pub value_by : ℕ → List ℕ → List (List (List ℕ)) → ℕ → Result (Option Current) (ℕ × ℕ) → Content
value_by used numbers image block at = content_of (pages_by image at) (last_complete block (log_by used numbers image at))

-- The blocks of an image: what each of them holds.
abbrev pub block_value : ℕ → List ℕ → List (List (List ℕ)) → ℕ → Content
block_value used numbers image block = value_by used numbers image block (current used image)
