-- What operations leave of an image: page after page, sector 1 after sector 0.
use Rattle.std.specs.Prelude.{ℕ, ◌+◌, ◌*◌, nat_le, List, [], ◌∷◌, length, replicate, if◌then◌else◌}
use Rattle.flt_file.specs.Bytes.{spliced}
use Rattle.flt_embed.specs.declared.operation.Operation.{Operation}
use Rattle.flt_embed.specs.declared.operation.Operation.TheVariants.{Program, Erase}

-- These bytes over those from a place on, where they fit.
abbrev pub spliced_at : ℕ → List ℕ → List ℕ → List ℕ
spliced_at at new held = if nat_le (at + length new) (length held) then spliced at new held else held

-- One operation: a page is programmed, or a sector made blank.
abbrev pub carried_by : ℕ → Operation → List ℕ → List ℕ
carried_by pages (Program sector page bytes) held = spliced_at (32 * (sector * pages + page)) bytes held
carried_by pages (Erase sector) held = spliced_at (32 * pages * sector) (replicate (32 * pages) 255) held

-- These, one after the other.
abbrev pub carried : ℕ → List Operation → List ℕ → List ℕ
carried pages [] held = held
carried pages (operation ∷ operations) held = carried pages operations (carried_by pages operation held)
