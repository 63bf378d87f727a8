-- A program of a sealed page on a blank one is an append.
use Rattle.std.proofs.Common.{◌≡◌, ◌<◌, ℕ, List, [], length, get_or, set, Result, Ok, Err, inl, inr, replicate, get_or-set_same, ◌∙◌, ap, subst, arith}
use Rattle.std.specs.Prelude.{OnOk, OnErr, IsErr, slice_index}
use Rattle.std.proofs.lemmas.List.{get_or-replicate}
use Rattle.flt_flash.specs.Image.{page_at, sector_at, programmed, erased, blank_page}
use Rattle.flt_flash.specs.Tearing.{IsTornPage, IsTorn}
use Rattle.flt_flash.specs.State.{FlashState, HasShape, Operates, counted_up}
use Rattle.flt_flash.specs.declared.flash.FlashFailed.{FlashFailed}
use Rattle.flt_flash.proofs.TornParts.{torn_sector_of, torn_page_of}
use Rattle.flt_flash.proofs.Following.{one_run, runs_on}
use Rattle.flt_code.specs.Seal.{IsCodeWordOf}
use Rattle.flt_code.proofs.Unspoiled.{programmed_or_none, programmed_unspoiled}
use Rattle.flt_pages.specs.Append.{TornCode, Appends, TornPiece, AppendsPiece, TornErase, BeginsSector}

-- What a torn program leaves, and that of a code word.
pub torn_piece : (before after : List (List (List ℕ))) (sector page : ℕ) (asked : List ℕ) → sector < length before → page < length (sector_at before sector)
    → page_at before sector page ≡ blank_page → IsTorn before (programmed before sector page asked) after → TornPiece before sector page asked after
torn_piece before after sector page asked within_image within_sector blank tears =
    let in_sector = torn_sector_of before sector within_image (set (sector_at before sector) page asked) after tears in
    let in_page = torn_page_of (sector_at before sector) page within_sector asked in_sector.0 in_sector.1 in
    record {
      torn = in_page.0;
      tears = subst (λ (p : List ℕ). IsTornPage p asked in_page.0) blank in_page.1;
      only = in_sector.2 ∙ ap (λ (pages : List (List ℕ)). set before sector pages) in_page.2;
    }

pub torn_code : (before after : List (List (List ℕ))) (sector page : ℕ) (bytes asked : List ℕ) → sector < length before → page < length (sector_at before sector)
    → page_at before sector page ≡ blank_page → IsCodeWordOf bytes asked → IsTorn before (programmed before sector page asked) after → TornCode before sector page asked after
torn_code before after sector page bytes asked within_image within_sector blank word tears =
    let piece = torn_piece before after sector page asked within_image within_sector blank tears in
    record {
      torn = piece.torn;
      tears = piece.tears;
      word = programmed_or_none bytes asked piece.torn word piece.tears;
      unspoiled = programmed_unspoiled bytes asked piece.torn word piece.tears;
      only = piece.only;
    }

pub appended : {T : Type 0} (before after : FlashState) (sector page : ℕ) (bytes asked : List ℕ) (result : Result T FlashFailed) → HasShape before → sector < 2 → page < before.pages
    → page_at before.image sector page ≡ blank_page → IsCodeWordOf bytes asked
    → OnOk result (after.image ≡ programmed before.image sector page asked)
    → OnErr result (IsTorn before.image (programmed before.image sector page asked) after.image)
    → after.wear ≡ before.wear → Operates before after result
    → Appends before after sector page asked result
appended before after sector page bytes asked (Ok x) shape in_image in_sector blank word done torn wear does =
    record { holds_asked = done; torn = tt; wear = wear; operation = does }
appended before after sector page bytes asked (Err e) shape in_image in_sector blank word done torn wear does =
    record {
      holds_asked = tt;
      torn = torn_code before.image after.image sector page bytes asked (omega (arith, shape.sectors)) (omega (arith, shape.pages sector in_image)) blank word torn;
      wear = wear;
      operation = does;
    }

pub appended_piece : {T : Type 0} (before after : FlashState) (sector page : ℕ) (asked : List ℕ) (result : Result T FlashFailed) → HasShape before → sector < 2 → page < before.pages
    → page_at before.image sector page ≡ blank_page
    → OnOk result (after.image ≡ programmed before.image sector page asked)
    → OnErr result (IsTorn before.image (programmed before.image sector page asked) after.image)
    → after.wear ≡ before.wear → Operates before after result
    → AppendsPiece before after sector page asked result
appended_piece before after sector page asked (Ok x) shape in_image in_sector blank done torn wear does =
    record { holds_asked = done; torn = tt; wear = wear; operation = does }
appended_piece before after sector page asked (Err e) shape in_image in_sector blank done torn wear does =
    record {
      holds_asked = tt;
      torn = torn_piece before.image after.image sector page asked (omega (arith, shape.sectors)) (omega (arith, shape.pages sector in_image)) blank torn;
      wear = wear;
      operation = does;
    }

pub torn_erase : (before after : List (List (List ℕ))) (sector : ℕ) → sector < length before → IsTorn before (erased before sector) after → TornErase before sector after
torn_erase before after sector within tears =
    let in_sector = torn_sector_of before sector within (replicate (length (sector_at before sector)) blank_page) after tears in
    record { torn = in_sector.0; tears = in_sector.1; only = in_sector.2 }

-- A page of an erased sector.
pub erased_page : (image : List (List (List ℕ))) (sector page : ℕ) → sector < length image → page < length (sector_at image sector) → page_at (erased image sector) sector page ≡ blank_page
erased_page image sector page within in_sector =
    ap (λ (pages : List (List ℕ)). get_or pages page []) (get_or-set_same image sector (replicate (length (sector_at image sector)) blank_page) [] within)
    ∙ get_or-replicate (length (sector_at image sector)) page blank_page [] in_sector

pub failed_to_begin : (before after : FlashState) (sector : ℕ) (asked : List ℕ) (failed : FlashFailed) (result : Result (Unit {0}) FlashFailed) → IsErr result → HasShape before → sector < 2
    → IsTorn before.image (erased before.image sector) after.image → after.wear ≡ set before.wear sector (counted_up (slice_index before.wear sector))
    → Operates {T = Unit {0}} before after (Err failed) → BeginsSector before after sector asked result
failed_to_begin before after sector asked failed (Ok x) fails shape in_image torn wear does = absurd (cc fails)
failed_to_begin before after sector asked failed (Err e) fails shape in_image torn wear does = record {
  holds_asked = tt;
  torn = inl (torn_erase before.image after.image sector (omega (arith, shape.sectors)) torn);
  wear = wear;
  runs = one_run does;
  operations = omega (arith, does.operations);
  cause = does.cause;
}

pub begun_on : (before middle after : FlashState) (sector : ℕ) (asked : List ℕ) (result : Result (Unit {0}) FlashFailed)
    → middle.image ≡ erased before.image sector → middle.wear ≡ set before.wear sector (counted_up (slice_index before.wear sector))
    → Operates {T = Unit {0}} before middle (Ok tt) → Appends middle after sector 0 asked result → BeginsSector before after sector asked result
begun_on before middle after sector asked (Ok x) is wear does appends = record {
  holds_asked = subst (λ (image : List (List (List ℕ))). after.image ≡ programmed image sector 0 asked) is appends.holds_asked;
  torn = tt;
  wear = appends.wear ∙ wear;
  runs = runs_on (one_run does) (one_run appends.operation);
  operations = omega (arith, does.operations, appends.operation.operations);
  cause = tt;
}
begun_on before middle after sector asked (Err e) is wear does appends = record {
  holds_asked = tt;
  torn = inr (subst (λ (image : List (List (List ℕ))). TornCode image sector 0 asked after.image) is appends.torn);
  wear = appends.wear ∙ wear;
  runs = runs_on (one_run does) (one_run appends.operation);
  operations = omega (arith, does.operations, appends.operation.operations);
  cause = omega (arith, appends.operation.cause, does.counts);
}
