-- What an item is, by what its first page says and by the page in the place of its gate.
use Rattle.std.specs.Prelude.{ℕ, ◌<◌, Bool, List, [], Option, Some, None, Result, Ok, Err, slice_index_or}
use Rattle.flt_code.specs.Seal.{unsealed}
use Rattle.flt_sector_model.specs.Log.{item_by_gate}
use Rattle.flt_sector_model.specs.declared.log.Item.{Item}
use Rattle.flt_sector_model.specs.declared.log.Item.TheVariants.{End, Torn, Kept}
use Rattle.flt_pages.specs.declared.items.Begin.{Begin}
use Rattle.flt_pages.specs.declared.items.Begin.TheVariants.{Whole, Damaged, Record}

-- The item that begins at this page with this first page.
abbrev pub item_begun : Begin → List (List ℕ) → ℕ → Result Item ℕ
item_begun (Whole item) pages page = Ok item
item_begun Damaged pages page = Err page
item_begun (Record block length valid gate) pages page = item_by_gate block length valid page gate (unsealed (slice_index_or pages gate []))

-- A record's gate is below the used pages.
abbrev pub GateBelow : ℕ → Begin → Type 0
GateBelow used (Whole item) = Unit {0}
GateBelow used Damaged = Unit {0}
GateBelow used (Record block length valid gate) = gate < used

-- The record that is complete or not, or a fault at its gate's page.
abbrev pub item_completed : ℕ → ℕ → Bool → ℕ → Option Bool → Result Item ℕ
item_completed block length valid gate (Some complete) = Ok (Kept block length valid complete)
item_completed block length valid gate None = Err gate

-- The pages that are read of an item at most: the first one, and for a record the one of its gate.
abbrev pub reads_of : Item → ℕ
reads_of End = 1
reads_of Torn = 1
reads_of (Kept block length valid complete) = 2
