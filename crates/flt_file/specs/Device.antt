-- The device that bytes in a store are.
use Rattle.std.specs.Prelude.{ℕ, List, None, map}
use Rattle.flt_flash.specs.State.{FlashState, PowerUp}
use Rattle.flt_file.specs.Kept.{KeptState, KeptBoot}

-- A power-up, as the layout of the pages gives its image.
abbrev pub boot_by : (List ℕ → List (List (List ℕ))) → KeptBoot → PowerUp
boot_by image boot = record { faults = boot.faults; image = image boot.bytes }

-- A device of this many pages, whose image this layout gives, with these counts of erases. Its arms are not known, and none remains.
abbrev pub device_by : ℕ → (List ℕ → List (List (List ℕ))) → List ℕ → KeptState → FlashState
device_by pages image wear kept = record {
  pages = pages;
  image = image kept.bytes;
  is_off = kept.is_off;
  faults = kept.faults;
  operations = kept.operations;
  wear = wear;
  bench = record { boots = map (boot_by image) kept.boots; boots_left = kept.boots_left; arms = None; armed = 0 };
}
