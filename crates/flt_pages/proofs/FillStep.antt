-- One page of plain bytes more, on a flash or an EEPROM.
use Rattle.std.proofs.Common.{◌≡◌, ◌⊎◌, ◌+◌, ◌*◌, ◌<◌, ◌≤◌, ℕ, List, set, drop, length, Result, Ok, Err, refl, sym, ◌∙◌, ap, subst, arith}
use Rattle.std.specs.Prelude.{IsErr, OnOk, OnErr, slice_range}
use Rattle.flt_flash.specs.Image.{sector_at, blank_page}
use Rattle.flt_flash.specs.State.{FlashState, HasRisenBy}
use Rattle.flt_flash.specs.declared.flash.FlashFailed.{FlashFailed}
use Rattle.flt_flash.proofs.Following.{one_run}
use Rattle.flt_flash.specs.Blocks.{byte_pages}
use Rattle.flt_pages.specs.Record.{KeptApart}
use Rattle.flt_pages.proofs.Steps.{set_apart, apart_on, wider}
use Rattle.flt_pages.proofs.Filling.{Filled, filled_more, ones_behind}
use Rattle.flt_pages.specs.Append.{AppendsPiece, padded_page}
use Rattle.flt_pages.specs.Recorded.{OnSector, Fills}
use Rattle.flt_pages.proofs.Recording.{on_sector, sector_given}

-- A page was laid: as asked, or torn.
pub record Lays {T : Type 0} (before after : FlashState) (sector page : ℕ) (asked : List ℕ) (result : Result T FlashFailed) : Type 0 where
  pub laid : List ℕ
  pub on : OnSector before after sector (set (sector_at before.image sector) page laid)
  pub holds_asked : OnOk result (laid ≡ asked)
  pub cause : OnErr result (HasRisenBy 1 before.faults after.faults)

pub lays : {T : Type 0} {before after : FlashState} {sector page : ℕ} {asked : List ℕ} {result : Result T FlashFailed} → AppendsPiece before after sector page asked result → Lays before after sector page asked result
lays {result = Ok x} is = record { laid = _; on = record { image = is.holds_asked; wear = is.wear; runs = one_run is.operation }; holds_asked = refl; cause = tt }
lays {result = Err e} is = record { laid = is.torn.torn; on = record { image = is.torn.only; wear = is.wear; runs = one_run is.operation }; holds_asked = tt; cause = is.operation.cause }

-- The pages of plain bytes so far.
pub record FillsUpTo (before now : FlashState) (sector first : ℕ) (bytes : List ℕ) (index : ℕ) : Type 0 where
  pub on : OnSector before now sector (sector_at now.image sector)
  pub apart : KeptApart (sector_at before.image sector) (sector_at now.image sector) first (first + index)
  pub filled : Filled (sector_at now.image sector) first bytes index

module _ {before now after : FlashState} {sector first : ℕ} (bytes : List ℕ) (index : ℕ) {asked : List ℕ} {result : Result (Unit {0}) FlashFailed} (within : sector < length before.image) (more : index < byte_pages (length bytes))
    (on : OnSector before now sector (sector_at now.image sector)) (apart : KeptApart (sector_at before.image sector) (sector_at now.image sector) first (first + index))
    (is : Lays now after sector (first + index) asked result) where
  abbrev pages : List (List ℕ)
  pages = sector_at now.image sector

  abbrev longer : List (List ℕ)
  longer = set pages (first + index) is.laid

  on_longer : OnSector before after sector longer
  on_longer = on_sector before now after sector pages longer on is.on

  apart_longer : KeptApart (sector_at before.image sector) longer first (first + (index + 1))
  apart_longer =
      let one : first + index + 1 ≡ first + (index + 1) = omega arith in
      apart_on (sector_at before.image sector) pages longer first (first + (index + 1)) (first + index) (first + index + 1) (omega arith) (omega arith)
      (wider (sector_at before.image sector) pages first (first + index) first (first + (index + 1)) (omega arith) (omega arith) apart) (set_apart pages (first + index) is.laid)

  pub piece_failed : HasRisenBy 1 now.faults after.faults → (told : Result (Unit {0}) FlashFailed) → IsErr told → Fills before after sector first bytes told
  piece_failed rose (Ok x) fails = absurd (cc fails)
  piece_failed rose (Err e) fails = record {
    pages = longer;
    on = on_longer;
    apart = wider (sector_at before.image sector) longer first (first + (index + 1)) first (first + byte_pages (length bytes)) (omega arith) (omega arith) apart_longer;
    holds_asked = tt;
    cause = omega (arith, rose, on.runs.counts);
  }

  pub piece_laid : (end : ℕ) → (end ≡ 32 * index + 32) ⊎ ((end ≡ length bytes) × (length bytes < 32 * index + 32)) → first + byte_pages (length bytes) ≤ length (sector_at before.image sector)
      → Filled (sector_at now.image sector) first bytes index → is.laid ≡ padded_page (slice_range bytes (32 * index) end) → FillsUpTo before after sector first bytes (index + 1)
  piece_laid end ends room fills laid =
      let there = sector_given before after sector longer within on_longer in
      record {
        on = subst (λ (p : List (List ℕ)). OnSector before after sector p) (sym there) on_longer;
        apart = subst (λ (p : List (List ℕ)). KeptApart (sector_at before.image sector) p first (first + (index + 1))) (sym there) apart_longer;
        filled = subst (λ (p : List (List ℕ)). Filled p first bytes (index + 1)) (sym (there ∙ ap (set pages (first + index)) laid))
            (filled_more pages first bytes index (drop (length (slice_range bytes (32 * index) end)) blank_page) end (omega (arith, apart.size, room)) more fills ends (ones_behind bytes index end more ends));
      }
