-- What is held where a device gives the first fault of its pages and what each block holds.
use Rattle.std.specs.Prelude.{◌≡◌, ℕ, Option, Some, None, Result, Err}
use Rattle.flt_flash.specs.Content.{Content}
use Rattle.flt_config.specs.declared.config.Config.{Config}
use Rattle.flt_store_model.specs.declared.place.Place.TheVariants.{Page}
use Rattle.flt_store_model.specs.Holding.{Generation, Fault, damaged, held, spare, IsSound}

-- A fault of the pages is reported at its sector and page, and the blocks are not judged.
abbrev pub unless_damaged : Option (ℕ × ℕ) → Result Generation Fault → Result Generation Fault
unless_damaged None judged = judged
unless_damaged (Some place) judged = Err (damaged (Page place.0 place.1))

module _ (c : Config) (damage : Option (ℕ × ℕ)) (value : ℕ → Content) where
  -- The generation that is held.
  abbrev pub whole_held : Result Generation Fault
  whole_held = unless_damaged damage (held c value)

  -- The generation that is held where the first copy of the commit can't be read.
  abbrev pub whole_spare : Result Generation Fault
  whole_spare = unless_damaged damage (spare c value)

  -- No page is at fault, and the two generations are one or follow each other.
  pub record IsSoundWhole (held_now spare_now : Generation) : Type 0 where
    pub undamaged : damage ≡ None
    pub sound : IsSound c value held_now spare_now
