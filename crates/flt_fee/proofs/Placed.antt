-- The table of places of a driver.
use Rattle.std.proofs.Common.{◌≡◌, ◌≢◌, ◌+◌, ◌<◌, ◌≤◌, ℕ, Bool, true, false, List, ◌++◌, drop, get_or, length, Option, Some, None, Ok, refl, sym, ap, ◌∙◌, subst, arith}
use Rattle.std.specs.Prelude.{◌==◌, ◌&&◌, if◌then◌else◌, sum_by}
use Rattle.std.specs.List.{AllPairs}
use Rattle.flt_flash.specs.Image.{sector_at}
use Rattle.flt_flash.specs.Calls.{found_of, ReadsContent}
use Rattle.flt_flash.specs.declared.blocks.Found.TheVariants.{Bytes}
use Rattle.flt_flash.specs.Content.{Content, bytes, size_of}
use Rattle.flt_flash.specs.Blocks.{byte_pages, live_pages}
use Rattle.flt_flash.specs.State.{FlashState, HasShape}
use Rattle.flt_sector_model.specs.Blocks.{current, block_value, value_by}
use Rattle.flt_pages.specs.declared.current.CurrentSector.{CurrentSector}
use Rattle.flt_pages.specs.declared.place.RecordPlace.{RecordPlace}
use Rattle.flt_pages.specs.LogHolds.{record_content, given, StandsAt}
use Rattle.flt_pages.specs.Live.{held_in}
use Rattle.flt_pages.specs.RecordPlace.{IsAt, IsPlaceOf, TellsPlaces, record_bytes_at, pages_found, record_at}
use Rattle.flt_pages.specs.Recorded.{Records}
use Rattle.flt_pages.proofs.LogOn.{end_least}
use Rattle.flt_pages.proofs.PageBytes.{bytes_size}
use Rattle.flt_pages.proofs.Recording.{pages_on}
use Rattle.flt_pages.proofs.Telling.{farther_at, tells_more, told_place, live_told}
use Rattle.flt_fee.specs.Fee.{state_by}
use Rattle.flt_fee.specs.Mounted.{IsMounted}
use Rattle.flt_fee.proofs.Refusing.{end_within, live_end}
use Rattle.flt_fee.proofs.Standing.{Appending, stands_value, done_standing}

-- A table that gives what the current sector holds gives the blocks of the image.
pub tells_image : (used : ℕ) (numbers : List ℕ) (image : List (List (List ℕ))) (sector sequence end : ℕ) (value : ℕ → Content) → StandsAt used numbers image sector sequence end value
    → (places : List (Option RecordPlace)) → TellsPlaces numbers places (sector_at image sector) end value → TellsPlaces numbers places (sector_at image sector) end (block_value used numbers image)
tells_image used numbers image sector sequence end value stands places tells k within =
    subst (λ (c : Content). IsAt (sector_at image sector) end c (get_or places k None)) (sym (stands_value used numbers image sector sequence end value stands (get_or numbers k 0))) (tells k within)

-- And the other way round, and up to a later page.
pub tells_sector : (used : ℕ) (numbers : List ℕ) (image : List (List (List ℕ))) (sector sequence end bound : ℕ) → current used image ≡ Ok (Some record { sector = sector; sequence = sequence }) → end ≤ bound
    → (places : List (Option RecordPlace)) → TellsPlaces numbers places (sector_at image sector) end (block_value used numbers image) → TellsPlaces numbers places (sector_at image sector) bound (held_in used numbers (sector_at image sector))
tells_sector used numbers image sector sequence end bound is below places tells k within =
    farther_at (sector_at image sector) end bound below (held_in used numbers (sector_at image sector) (get_or numbers k 0)) (get_or places k None)
    (subst (λ (c : Content). IsAt (sector_at image sector) end c (get_or places k None)) (ap (value_by used numbers image (get_or numbers k 0)) is) (tells k within))

pub tells_current : (used : ℕ) (numbers : List ℕ) (image : List (List (List ℕ))) (sector sequence end : ℕ) → current used image ≡ Ok (Some record { sector = sector; sequence = sequence })
    → (places : List (Option RecordPlace)) → TellsPlaces numbers places (sector_at image sector) end (held_in used numbers (sector_at image sector)) → TellsPlaces numbers places (sector_at image sector) end (block_value used numbers image)
tells_current used numbers image sector sequence end is places tells k within =
    subst (λ (c : Content). IsAt (sector_at image sector) end c (get_or places k None)) (sym (ap (value_by used numbers image (get_or numbers k 0)) is)) (tells k within)

-- A driver that is not stale.
module _ (is_stale has_mounted : Bool) (settled : is_stale ≡ false) (at : CurrentSector) (numbers : List ℕ) (flash : FlashState) (shape : HasShape flash) (end : ℕ) (least : 4 ≤ at.used) (most : at.used ≤ flash.pages)
    (distinct : AllPairs (λ a b. a ≢ b) numbers) (is : IsMounted is_stale has_mounted at numbers flash.image end)
    (places : List (Option RecordPlace)) (sized : length places ≡ length numbers) (tells : TellsPlaces numbers places (sector_at flash.image at.sector) end (block_value at.used numbers flash.image)) where
  within : end ≤ at.used
  within = end_within is_stale has_mounted settled at numbers flash end least distinct is

  pub live_of_table : sum_by pages_found places ≡ live_pages (state_by at.used numbers is_stale has_mounted flash)
  live_of_table = live_told (sector_at flash.image at.sector) (shape.bytes at.sector at.one_of_two) end (omega (arith, within, most, shape.pages at.sector at.one_of_two)) (block_value at.used numbers flash.image) numbers places sized tells

  pub live_fits : sum_by pages_found places < 65536
  live_fits = omega (arith, live_of_table, live_end is_stale has_mounted settled at numbers flash end least distinct is, within, most, shape.most)

  pub placed : (block : ℕ) (found : Option RecordPlace) → IsPlaceOf numbers places block found → IsAt (sector_at flash.image at.sector) at.used (block_value at.used numbers flash.image block) found
  placed block found here = farther_at (sector_at flash.image at.sector) end at.used within (block_value at.used numbers flash.image block) found
      (told_place numbers places (sector_at flash.image at.sector) end (block_value at.used numbers flash.image) block found tells here)

  -- The table that a switch begins with.
  pub tells_old : TellsPlaces numbers places (sector_at flash.image at.sector) at.used (held_in at.used numbers (sector_at flash.image at.sector))
  tells_old = tells_sector at.used numbers flash.image at.sector at.sequence end at.used (is.current settled) within places tells

-- A record was appended, and its place was noted.
module _ {at : CurrentSector} {numbers : List ℕ} {before : FlashState} {end block : ℕ} {held : List ℕ} {valid : Bool} (goes : Appending at numbers before end block held valid)
    {after : FlashState} (is : Records {T = Unit {0}} before after at.sector end block held valid (Ok tt))
    (places then_places : List (Option RecordPlace)) (tells : TellsPlaces numbers places (sector_at before.image at.sector) end (block_value at.used numbers before.image))
    (place : RecordPlace) (here : place ≡ record { page = end; length = length held; valid = valid })
    (noted : (k : ℕ) → k < length numbers → get_or then_places k None ≡ (if true && (block == get_or numbers k 0) then Some place else get_or places k None)) where
  pub tells_appended : (last : ℕ) → end + (2 + byte_pages (length held)) ≡ last → TellsPlaces numbers then_places (sector_at after.image at.sector) last (block_value at.used numbers after.image)
  tells_appended last ends =
      let begun = end_least at.used numbers (sector_at before.image at.sector) (sector_at before.image at.sector) goes.stands.holds.entries end at.least goes.stands.holds.is (λ k low lt. refl) in
      subst (λ n. TellsPlaces numbers then_places (sector_at after.image at.sector) n (block_value at.used numbers after.image)) ends
      (tells_image at.used numbers after.image at.sector at.sequence (end + (2 + byte_pages (length held))) (given block (record_content valid held) (block_value at.used numbers before.image)) (done_standing goes is refl) then_places
      (subst (λ (p : List (List ℕ)). TellsPlaces numbers then_places p (end + (2 + byte_pages (length held))) (given block (record_content valid held) (block_value at.used numbers before.image)))
      (sym (pages_on before after at.sector is.pages goes.shape at.one_of_two is.on))
      (tells_more (sector_at before.image at.sector) is.pages end block held valid begun goes.proper.3 is.whole numbers places then_places (block_value at.used numbers before.image) tells place here noted)))

-- A valid record at its place has as many bytes as its head says.
module _ (at : CurrentSector) (numbers : List ℕ) (flash : FlashState) (shape : HasShape flash) (most : at.used ≤ flash.pages) (block : ℕ) (place : RecordPlace) (valid : place.valid ≡ true)
    (here : IsAt (sector_at flash.image at.sector) at.used (block_value at.used numbers flash.image block) (Some place)) where
  abbrev held : List ℕ
  held = record_bytes_at (sector_at flash.image at.sector) place

  valid_holds : block_value at.used numbers flash.image block ≡ bytes held
  valid_holds = here.holds ∙ ap (λ v. record_content v held) valid

  size : length held ≡ place.length
  size = bytes_size (sector_at flash.image at.sector) (shape.bytes at.sector at.one_of_two) (record_at 0 place) (omega (arith, here.inside.within.below, most, shape.pages at.sector at.one_of_two))

  pub valid_size : size_of (block_value at.used numbers flash.image block) ≡ place.length
  valid_size = ap size_of valid_holds ∙ size

  pub valid_found : Bytes place.length ≡ found_of (block_value at.used numbers flash.image block)
  valid_found = ap Bytes (sym size) ∙ sym (ap found_of valid_holds)

  pub valid_read : (before after : List ℕ) → after ≡ held ++ drop place.length before → ReadsContent (block_value at.used numbers flash.image block) (Bytes place.length) before after
  valid_read before after read = subst (λ (c : Content). ReadsContent c (Bytes place.length) before after) (sym valid_holds) (sym size, read)
