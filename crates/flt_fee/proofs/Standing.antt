-- What an image means whose current sector is known.
use Rattle.std.proofs.Common.{◌≡◌, ◌⊎◌, ⊎_elim, inl, inr, ◌+◌, ◌<◌, ◌≤◌, ℕ, Bool, true, false, List, [], get_or, set, length, get_or-set_same, get_or-set_other, None, Result, Ok, sym, ◌∙◌, ap, subst, arith}
use Rattle.std.specs.Prelude.{◌==◌, OnOk}
use Rattle.std.specs.List.{list_any}
use Rattle.std.proofs.lemmas.Bool.{cases_eq}
use Rattle.flt_flash.specs.Image.{sector_at}
use Rattle.flt_flash.specs.Content.{Content}
use Rattle.flt_sector_model.specs.Log.{LogFrom, log}
use Rattle.flt_sector_model.specs.Gates.{gate_by, started_by, activated_by, both_gates, gates_of}
use Rattle.flt_sector_model.specs.Blocks.{current, current_by, first_fault, fault_by, place_in, block_value, value_by, content_of, last_complete}
use Rattle.flt_pages.specs.declared.current.CurrentSector.{CurrentSector}
use Rattle.flt_pages.specs.Record.{KeptApart, IsWhole, RecordLeft}
use Rattle.flt_pages.specs.LogHolds.{StandsAt, LogHolds, record_content, given}
use Rattle.flt_fee.specs.Mounted.{IsMounted}
use Rattle.flt_pages.specs.Recorded.{Records}
use Rattle.flt_pages.proofs.Recording.{pages_on}
use Rattle.flt_pages.proofs.LogAppended.{left_record, whole_record}
use Rattle.flt_pages.proofs.LogOn.{end_least}
use Rattle.flt_flash.specs.Blocks.{byte_pages}
use Rattle.flt_flash.specs.State.{FlashState, HasShape}
use Rattle.flt_flash.specs.declared.flash.FlashFailed.{FlashFailed}
use Rattle.flt_code.specs.Word.{IsWord}
use Rattle.flt_code.specs.declared.words.Word.TheVariants.{Head}

module _ (used : ℕ) (numbers : List ℕ) (image : List (List (List ℕ))) (sector sequence end : ℕ) (value : ℕ → Content) (stands : StandsAt used numbers image sector sequence end value) where
  pub stands_value : (block : ℕ) → block_value used numbers image block ≡ value block
  stands_value block =
      ap (value_by used numbers image block) stands.current
      ∙ ap (λ (l : LogFrom). content_of (sector_at image sector) (last_complete block l.entries)) stands.holds.is
      ∙ stands.holds.gives block

  pub stands_sound : first_fault used numbers image ≡ None
  stands_sound = ap (fault_by used numbers image) stands.current ∙ ap (λ (l : LogFrom). place_in sector l.fault) stands.holds.is

-- The gates are in the first two pages.
pub same_gates : (used : ℕ) (pages after : List (List ℕ)) → get_or after 0 [] ≡ get_or pages 0 [] → get_or after 1 [] ≡ get_or pages 1 [] → gates_of used after ≡ gates_of used pages
same_gates used pages after start active = λ i. both_gates (gate_by (started_by used) 0 (start i)) (gate_by activated_by 1 (active i))

pub same_current : (used : ℕ) (image : List (List (List ℕ))) (sector : ℕ) (pages : List (List ℕ)) (from to : ℕ) → sector < length image → 2 ≤ from → KeptApart (sector_at image sector) pages from to
    → current used (set image sector pages) ≡ current used image
same_current used image sector pages from to within behind apart = λ i. current_by (gates 0 i) (gates 1 i)
  where
    page : (s k : ℕ) → k < 2 → get_or (get_or (set image sector pages) s []) k [] ≡ get_or (get_or image s []) k []
    page s k lt = elim (cases_eq s sector) [
      | inl same ↦ rw same (ap (λ (l : List (List ℕ)). get_or l k []) (get_or-set_same image sector pages [] within) ∙ apart.before k (omega arith))
      | inr other ↦ ap (λ (l : List (List ℕ)). get_or l k []) (get_or-set_other image sector s pages [] other)
    ]

    gates : (s : ℕ) → gates_of used (get_or (set image sector pages) s []) ≡ gates_of used (get_or image s [])
    gates s = same_gates used (get_or image s []) (get_or (set image sector pages) s []) (page s 0 (omega arith)) (page s 1 (omega arith))

-- What the image of a driver that is not stale means.
pub mounted_stands : (is_stale has_mounted : Bool) → is_stale ≡ false → (at : CurrentSector) (numbers : List ℕ) (image : List (List (List ℕ))) (end : ℕ) → IsMounted is_stale has_mounted at numbers image end
    → StandsAt at.used numbers image at.sector at.sequence end (block_value at.used numbers image)
mounted_stands is_stale has_mounted fresh at numbers image end is = record {
  current = is.current fresh;
  holds = record {
    entries = (log at.used numbers (sector_at image at.sector)).entries;
    is = λ i. record { entries = (log at.used numbers (sector_at image at.sector)).entries; end = is.ends fresh i; fault = is.sound fresh i };
    gives = λ block. sym (ap (value_by at.used numbers image block) (is.current fresh));
  };
}

pub stands_mounted : (has_mounted : Bool) → has_mounted ≡ true → (at : CurrentSector) (numbers : List ℕ) (image : List (List (List ℕ))) (end : ℕ) (value : ℕ → Content) → StandsAt at.used numbers image at.sector at.sequence end value
    → IsMounted false has_mounted at numbers image end
stands_mounted has_mounted is_mounted at numbers image end value stands = record {
  mounted = λ fresh. is_mounted;
  current = λ fresh. stands.current;
  sound = λ fresh. ap (λ (l : LogFrom). l.fault) stands.holds.is;
  undamaged = λ yes. stands_sound at.used numbers image at.sector at.sequence end value stands;
  ends = λ fresh. ap (λ (l : LogFrom). l.end) stands.holds.is;
}

-- A stale driver, of which only this is known.
pub stale_mounted : (has_mounted : Bool) (at : CurrentSector) (numbers : List ℕ) (image : List (List (List ℕ))) (end : ℕ) → (has_mounted ≡ true → first_fault at.used numbers image ≡ None)
    → IsMounted true has_mounted at numbers image end
stale_mounted has_mounted at numbers image end undamaged = record {
  mounted = λ fresh. absurd (cc fresh);
  current = λ fresh. absurd (cc fresh);
  sound = λ fresh. absurd (cc fresh);
  undamaged = undamaged;
  ends = λ fresh. absurd (cc fresh);
}

-- A record is appended to the log of an image whose current sector is known.
pub record Appending (at : CurrentSector) (numbers : List ℕ) (before : FlashState) (page block : ℕ) (held : List ℕ) (valid : Bool) : Type 0 where
  pub shape : HasShape before
  pub stands : StandsAt at.used numbers before.image at.sector at.sequence page (block_value at.used numbers before.image)
  pub proper : IsWord (Head block (length held) valid page)
  pub among : list_any (λ number. number == block) numbers ≡ true
  pub room : page + 2 + byte_pages (length held) ≤ at.used

module _ {at : CurrentSector} {numbers : List ℕ} {before : FlashState} {page block : ℕ} {held : List ℕ} {valid : Bool} (goes : Appending at numbers before page block held valid)
    {after : FlashState} {result : Result (Unit {0}) FlashFailed} (is : Records before after at.sector page block held valid result) where
  abbrev value : ℕ → Content
  value = block_value at.used numbers before.image

  same_pages : sector_at after.image at.sector ≡ is.pages
  same_pages = pages_on before after at.sector is.pages goes.shape at.one_of_two is.on

  apart_by : RecordLeft (sector_at before.image at.sector) is.pages page block held valid → (to : ℕ) × KeptApart (sector_at before.image at.sector) is.pages page to
  apart_by (inl torn) = (page + 1, torn.apart)
  apart_by (inr (inl stood)) = (page + 2 + byte_pages (length held), stood.apart)
  apart_by (inr (inr whole)) = (page + 2 + byte_pages (length held), whole.apart)

  pub current_stays : current at.used after.image ≡ current at.used before.image
  current_stays =
      let apart = apart_by is.one_of_forms in
      ap (current at.used) is.on.image ∙ same_current at.used before.image at.sector is.pages page apart.0 (omega (arith, goes.shape.sectors, at.one_of_two))
      (end_least at.used numbers (sector_at before.image at.sector) is.pages goes.stands.holds.entries page at.least goes.stands.holds.is (λ k low lt. apart.1.before k lt)) apart.1

  stands_by : (last : ℕ) (values : ℕ → Content) → LogHolds at.used numbers is.pages last values → StandsAt at.used numbers after.image at.sector at.sequence last values
  stands_by last values holds = record { current = current_stays ∙ goes.stands.current; holds = subst (λ (p : List (List ℕ)). LogHolds at.used numbers p last values) (sym same_pages) holds }

  pub left_standing : ((last : ℕ) × StandsAt at.used numbers after.image at.sector at.sequence last value) ⊎ ((last : ℕ) × StandsAt at.used numbers after.image at.sector at.sequence last (given block (record_content valid held) value))
  left_standing = ⊎_elim (λ old. inl (old.0, stands_by old.0 value old.1)) (λ new. inr (new.0, stands_by new.0 (given block (record_content valid held) value) new.1))
      (left_record at.used numbers (sector_at before.image at.sector) is.pages page value at.least goes.stands.holds block held valid goes.proper (goes.proper.0, goes.proper.2) goes.among goes.room is.one_of_forms)

  pub done_standing : (result ≡ Ok tt) → StandsAt at.used numbers after.image at.sector at.sequence (page + (2 + byte_pages (length held))) (given block (record_content valid held) value)
  done_standing ok = stands_by (page + (2 + byte_pages (length held))) (given block (record_content valid held) value)
      (whole_record at.used numbers (sector_at before.image at.sector) is.pages page value at.least goes.stands.holds block held valid goes.proper (goes.proper.0, goes.proper.2) goes.among goes.room
      (subst (λ (r : Result (Unit {0}) FlashFailed). OnOk r (IsWhole (sector_at before.image at.sector) is.pages page block held valid)) ok is.whole))
