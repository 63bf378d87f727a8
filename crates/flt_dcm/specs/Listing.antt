-- The lists of DTCs that a response may have.
use Rattle.std.specs.Prelude.{ℕ, if◌then◌else◌, List, [], ◌∷◌}
use Rattle.flt_model.specs.Response.{EventView, is_masked, is_prefailed, with_status, with_counter}
use Rattle.flt_dcm.specs.declared.listing.Listing.{Listing}
use Rattle.flt_dcm.specs.declared.listing.Listing.TheVariants.{ByMask, Supported, Counters}

-- What a list has of one event.
abbrev pub listed : Listing → EventView → List ℕ
listed (ByMask mask) event = if is_masked mask event then with_status event else []
listed Supported event = with_status event
listed Counters event = if is_prefailed event then with_counter event else []

-- The beginning of a response with the list.
abbrev pub head_of : Listing → List ℕ
head_of (ByMask mask) = 0x59 ∷ 0x02 ∷ 0xFF ∷ []
head_of Supported = 0x59 ∷ 0x0A ∷ 0xFF ∷ []
head_of Counters = 0x59 ∷ 0x14 ∷ []
