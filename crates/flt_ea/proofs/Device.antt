-- One operation of an EEPROM.
use Rattle.std.proofs.Common.{◌≡◌, ◌<◌, ℕ, List, [], get_or, set, Result, Ok, Err, refl, sym, ◌∙◌, ap, arith}
use Rattle.std.specs.Prelude.{OnOk, OnErr}
use Rattle.flt_flash.specs.Image.{sector_at, programmed}
use Rattle.flt_flash.specs.State.{FlashState, Operates, OnlyReads, HasRisenBy}
use Rattle.flt_flash.specs.Tearing.{IsTornPage, IsTorn}
use Rattle.flt_flash.specs.declared.flash.FlashFailed.{FlashFailed}
use Rattle.flt_flash.proofs.Following.{one_run, one_read}
use Rattle.flt_flash.proofs.TornParts.{torn_sector_of, torn_page_of}
use Rattle.flt_pages.specs.Recorded.{OnSector}
use Rattle.flt_pages.proofs.FillStep.{Lays}
use Rattle.flt_pages.proofs.Recording.{sector_given}
use Rattle.flt_ea.specs.State.{HasUnits}

pub wear_stays : (before after : FlashState) → HasUnits before → HasUnits after → after.wear ≡ before.wear
wear_stays before after shape shape_after = shape_after.wear ∙ sym shape.wear

-- A read of a unit.
pub one_reading : {T : Type 0} (before after : FlashState) (result : Result T FlashFailed) → HasUnits before → HasUnits after → Operates before after result → after.image ≡ before.image → OnlyReads before after
one_reading before after result shape shape_after does image = one_read does image (wear_stays before after shape shape_after)

-- The units of an image that was given them.
pub units_on : (before after : FlashState) (units : List (List ℕ)) → HasUnits before → OnSector before after 0 units → sector_at after.image 0 ≡ units
units_on before after units shape = sector_given before after 0 units (omega (arith, shape.one))

-- A unit is written: as asked, or torn.
pub record GivesUnit {T : Type 0} (before after : FlashState) (unit : ℕ) (asked : List ℕ) (result : Result T FlashFailed) : Type 0 where
  pub laid : List ℕ
  pub on : OnSector before after 0 (set (sector_at before.image 0) unit laid)
  pub holds_asked : OnOk result (laid ≡ asked)
  pub torn : OnErr result (IsTornPage (get_or (sector_at before.image 0) unit []) asked laid)
  pub cause : OnErr result (HasRisenBy 1 before.faults after.faults)

pub unit_laid : {T : Type 0} {before after : FlashState} {unit : ℕ} {asked : List ℕ} {result : Result T FlashFailed} → GivesUnit before after unit asked result → Lays before after 0 unit asked result
unit_laid is = record { laid = is.laid; on = is.on; holds_asked = is.holds_asked; cause = is.cause }

pub gives_unit : {T : Type 0} (before after : FlashState) (unit : ℕ) (asked : List ℕ) (result : Result T FlashFailed) → HasUnits before → HasUnits after → unit < before.pages
    → OnOk result (after.image ≡ programmed before.image 0 unit asked) → OnErr result (IsTorn before.image (programmed before.image 0 unit asked) after.image) → Operates before after result
    → GivesUnit before after unit asked result
gives_unit before after unit asked (Ok x) shape shape_after within done torn does = record {
  laid = asked;
  on = record { image = done; wear = wear_stays before after shape shape_after; runs = one_run does };
  holds_asked = refl;
  torn = tt;
  cause = tt;
}
gives_unit before after unit asked (Err e) shape shape_after within done torn does =
    let in_sector = torn_sector_of before.image 0 (omega (arith, shape.one)) (set (sector_at before.image 0) unit asked) after.image torn in
    let in_page = torn_page_of (sector_at before.image 0) unit (omega (arith, shape.units)) asked in_sector.0 in_sector.1 in
    record {
      laid = in_page.0;
      on = record { image = in_sector.2 ∙ ap (set before.image 0) in_page.2; wear = wear_stays before after shape shape_after; runs = one_run does };
      holds_asked = tt;
      torn = in_page.1;
      cause = does.cause;
    }
