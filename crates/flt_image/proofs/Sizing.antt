-- How many bytes the blocks of a state that fits have.
use Rattle.std.proofs.Common.{◌≡◌, ◌≤◌, length, Option, ◌∙◌, ap, subst, arith, inl, inr}
use Rattle.std.proofs.lemmas.Option.{slice_get_cases}
use Rattle.flt_config.specs.declared.config.Config.{Config}
use Rattle.flt_config.specs.declared.persist.Persist.{Persist}
use Rattle.flt_config.specs.declared.persist.EntryState.{EntryState}
use Rattle.flt_config.specs.Durable.{Fits, IsEntryOf}
use Rattle.flt_store_model.specs.declared.part.Part.{Part}
use Rattle.flt_store_model.specs.declared.part.Part.TheVariants.{Summary, States, Entry}
use Rattle.flt_store_model.specs.Form.{place_bytes, part_bytes, part_length}
use Rattle.flt_store_model.specs.Laws.{IsGiven}
use Rattle.flt_image.specs.Blocks.{longest}
use Rattle.flt_store_model.proofs.Sizes.{summary_size, states_size, entry_size, no_entry_size}
use Rattle.flt_store_model.proofs.Short.{entry_sizes}
use Rattle.flt_store_model.proofs.ImageLaws.{sizes_of}

-- No part is longer than an entry.
pub part_short : (part : Part) → part_length part ≤ longest
part_short Summary = omega arith
part_short (States first) = omega arith
part_short (Entry place) = omega arith

-- Each part of a state that fits has its length.
pub part_sized : (c : Config) → IsGiven c → (p : Persist) → Fits c p → (part : Part) → length (part_bytes p part) ≡ part_length part
part_sized c given p fits Summary = summary_size p
part_sized c given p fits (States first) = states_size p.events.items first 16
part_sized c given p fits (Entry place) = elim (slice_get_cases p.entries.items place).1 [
  | inl found ↦
      let is : IsEntryOf c.events.items found.0 = subst (IsEntryOf c.events.items) found.3 (fits.entries place found.0 found.1) in
      let frames = entry_sizes c (sizes_of c given) found.0 is in
      ap (λ (entry : Option EntryState). length (place_bytes entry)) found.2 ∙ entry_size found.0 frames.0 (omega (arith, frames.0, frames.1))
  | inr past ↦ ap (λ (entry : Option EntryState). length (place_bytes entry)) past.1 ∙ no_entry_size
]
