-- What the check of a configuration answers.
use Rattle.std.specs.Prelude.{◌≡◌, ◌≢◌, ℕ, ◌<◌, ◌↔◌, List, length, take, slice_index_or, AllPairs, Ok, Err}
use Rattle.flt_config.specs.declared.config.Config.{Config}
use Rattle.flt_config.specs.declared.config.EventCfg.{EventCfg}
use Rattle.flt_config.specs.declared.config.CfgFault.{CfgFault}
use Rattle.flt_config.specs.declared.config.CfgFault.TheVariants.{Range, DtcTwice, NoRoom}
use Rattle.flt_config.specs.Ranges.{settings, ranges_result}
use Rattle.flt_config.specs.Validity.{IsValid, HasOtherDtc, needed_pages}
use Rattle.flt_config.specs.Check.{check_of}

-- The second is the first event whose DTC an earlier one has, and the first is the first that has it.
pub record IsFirstTwice (events : List EventCfg) (first second : ℕ) : Type 0 where
  pub order : first < second
  pub within : second < length events
  pub same : (d : EventCfg) → (slice_index_or events first d).dtc ≡ (slice_index_or events second d).dtc
  pub distinct_before : AllPairs HasOtherDtc (take second events)
  pub none_before : (k : ℕ) (d : EventCfg) → k < first
      → (slice_index_or events k d).dtc ≢ (slice_index_or events second d).dtc

-- A fault is the first of a configuration.
abbrev pub IsFirstFault : Config → CfgFault → Type 0
IsFirstFault config (Range event field value) = ranges_result (settings config) ≡ Err (Range event field value)
IsFirstFault config (DtcTwice first second) =
    (ranges_result (settings config) ≡ Ok tt) × IsFirstTwice config.events.items first second
IsFirstFault config (NoRoom needed pages) =
    (ranges_result (settings config) ≡ Ok tt) × AllPairs HasOtherDtc config.events.items
    × (needed ≡ needed_pages config) × (pages ≡ config.pages) × (pages < needed)

-- A configuration is accepted if and only if it is valid.
abbrev pub AcceptedWhereValid : Type 0
AcceptedWhereValid = (config : Config) → (check_of config ≡ Ok config) ↔ IsValid config

-- One that is refused is reported with its first fault.
abbrev pub ToldFaultIsFirst : Type 0
ToldFaultIsFirst = (config : Config) (fault : CfgFault) → check_of config ≡ Err fault → IsFirstFault config fault
