-- A record that is copied from the other sector, step by step.
use Rattle.std.proofs.Common.{◌≡◌, ◌≢◌, ◌⊎◌, inl, inr, ◌+◌, ◌-◌, ◌*◌, ◌<◌, ◌≤◌, ℕ, List, [], get_or, set, take, length, get_or-set_other, Result, Ok, Err, sym, ◌∙◌, ap, subst, arith}
use Rattle.std.specs.Prelude.{min, slice_range, IsErr}
use Rattle.std.proofs.lemmas.Bool.{cases_lt}
use Rattle.flt_flash.specs.Image.{sector_at, page_at, blank_page}
use Rattle.flt_flash.specs.State.{FlashState, HasShape, OnlyReads, HasRisenBy}
use Rattle.flt_flash.specs.Blocks.{byte_pages, record_pages}
use Rattle.flt_flash.specs.declared.flash.FlashFailed.{FlashFailed}
use Rattle.flt_flash.proofs.Following.{runs_on, one_run}
use Rattle.flt_code.specs.Seal.{sealed}
use Rattle.flt_code.specs.Word.{word_bytes}
use Rattle.flt_code.specs.declared.words.Word.TheVariants.{Head, Gate}
use Rattle.flt_pages.specs.Append.{Appends, AppendsPiece, padded_page}
use Rattle.flt_pages.specs.declared.place.RecordPlace.{RecordPlace}
use Rattle.flt_pages.specs.Blank.{AreBlank}
use Rattle.flt_pages.specs.RecordPlace.{record_at, IsPlaceWithin, record_bytes_at}
use Rattle.flt_pages.specs.Record.{KeptApart}
use Rattle.flt_pages.specs.Recorded.{OnSector, Fills, Records}
use Rattle.flt_pages.proofs.Filling.{Filled}
use Rattle.flt_pages.proofs.FillStep.{FillsUpTo, lays, piece_failed, piece_laid}
use Rattle.flt_pages.proofs.PageBytes.{bytes_size, piece_behind}
use Rattle.flt_pages.proofs.Recording.{head_failed, fill_failed, bytes_blank, gate_blank as blank_at_gate, gate_laid}

-- The other sector stays as it was.
pub other_stays : (before after : FlashState) (sector other : ℕ) (pages : List (List ℕ)) → other ≢ sector → OnSector before after other pages → sector_at after.image sector ≡ sector_at before.image sector
other_stays before after sector other pages apart on =
    ap (λ (image : List (List (List ℕ))). sector_at image sector) on.image ∙ get_or-set_other before.image other sector pages [] (λ e. apart (sym e))

-- One page more.
module _ (before middle now : FlashState) (shape : HasShape before) (shape_now : HasShape now) (sector other first : ℕ) (place : RecordPlace) (index : ℕ)
    (in_sector : sector < 2) (in_other : other < 2) (apart : other ≢ sector) (within : IsPlaceWithin before.pages place) (room : first + byte_pages place.length ≤ before.pages) (more : index < byte_pages place.length)
    (reads : OnlyReads middle now) (on : OnSector before middle other (sector_at middle.image other))
    (kept : KeptApart (sector_at before.image other) (sector_at middle.image other) first (first + index)) where
  abbrev bytes : List ℕ
  bytes = record_bytes_at (sector_at before.image sector) place

  long : length (record_bytes_at (sector_at before.image sector) place) ≡ place.length
  long = bytes_size (sector_at before.image sector) (shape.bytes sector in_sector) (record_at 0 place) (omega (arith, within.below, shape.pages sector in_sector))

  on_read : OnSector before now other (sector_at now.image other)
  on_read = record {
    image = reads.image ∙ on.image ∙ (λ i. set before.image other (sector_at (sym reads.image i) other));
    wear = reads.wear ∙ on.wear;
    runs = runs_on on.runs reads.runs;
  }

  kept_read : KeptApart (sector_at before.image other) (sector_at now.image other) first (first + index)
  kept_read = subst (λ (image : List (List (List ℕ))). KeptApart (sector_at before.image other) (sector_at image other) first (first + index)) (sym reads.image) kept

  room_bytes : first + byte_pages (length (record_bytes_at (sector_at before.image sector) place)) ≤ before.pages
  room_bytes = omega (arith, room, long)

  more_bytes : index < byte_pages (length (record_bytes_at (sector_at before.image sector) place))
  more_bytes = omega (arith, more, long)

  pub copy_unread : (result : Result (Unit {0}) FlashFailed) → IsErr result → HasRisenBy 1 middle.faults now.faults → Fills before now other first bytes result
  copy_unread (Ok x) fails rose = absurd (cc fails)
  copy_unread (Err e) fails rose = record {
    pages = sector_at now.image other;
    on = on_read;
    apart = record { size = kept_read.size; before = kept_read.before; behind = λ k le. kept_read.behind k (omega (arith, room_bytes, more_bytes)) };
    holds_asked = tt;
    cause = omega (arith, rose, on.runs.counts);
  }

  pub copy_torn : (after : FlashState) (asked : List ℕ) (failed : FlashFailed) (result : Result (Unit {0}) FlashFailed) → IsErr result
      → AppendsPiece {T = Unit {0}} now after other (first + index) asked (Err failed) → Fills before after other first bytes result
  copy_torn after asked failed result fails is =
      piece_failed bytes index (omega (arith, shape.sectors, in_other)) more_bytes on_read kept_read (lays is) is.operation.cause result fails

  ends : (32 * index + min 32 (place.length - 32 * index) ≡ 32 * index + 32)
      ⊎ ((32 * index + min 32 (place.length - 32 * index) ≡ length (record_bytes_at (sector_at before.image sector) place)) × (length (record_bytes_at (sector_at before.image sector) place) < 32 * index + 32))
  ends = elim (cases_lt (place.length - 32 * index) 32) [ inl short ↦ inr (omega (arith, long), omega (arith, long)) | inr full ↦ inl (omega arith) ]

  -- The page that was read is the piece.
  piece : slice_range (record_bytes_at (sector_at before.image sector) place) (32 * index) (32 * index + min 32 (place.length - 32 * index)) ≡ take (min 32 (place.length - 32 * index)) (page_at before.image sector (place.page + 1 + index))
  piece = piece_behind (sector_at before.image sector) (shape.bytes sector in_sector) (record_at 0 place) (omega (arith, within.below, shape.pages sector in_sector)) index (min 32 (place.length - 32 * index)) (omega arith) more (omega arith)

  pub copied : (after : FlashState) (size : ℕ) (page : List ℕ) → Filled (sector_at middle.image other) first bytes index → size ≡ min 32 (place.length - 32 * index)
      → page ≡ page_at middle.image sector (place.page + 1 + index) → AppendsPiece {T = Unit {0}} now after other (first + index) (padded_page (take size page)) (Ok tt)
      → FillsUpTo before after other first (record_bytes_at (sector_at before.image sector) place) (index + 1)
  copied after size page fills sized found is =
      let source = other_stays before middle sector other (sector_at middle.image other) apart on in
      let from = found ∙ ap (λ (pages : List (List ℕ)). get_or pages (place.page + 1 + index) []) source in
      let asked : take size page ≡ slice_range bytes (32 * index) (32 * index + min 32 (place.length - 32 * index)) = (λ i. take (sized i) (from i)) ∙ sym piece in
      let fills_read = subst (λ (image : List (List (List ℕ))). Filled (sector_at image other) first bytes index) (sym reads.image) fills in
      piece_laid bytes index (omega (arith, shape.sectors, in_other)) more_bytes on_read kept_read (lays is) (32 * index + min 32 (place.length - 32 * index)) ends
      (omega (arith, room_bytes, shape.pages other in_other)) fills_read ((lays is).holds_asked ∙ ap padded_page asked)

-- Head, bytes and gate.
module _ (before : FlashState) (shape : HasShape before) (sector other page block : ℕ) (place : RecordPlace)
    (in_sector : sector < 2) (in_other : other < 2) (apart : other ≢ sector) (within : IsPlaceWithin before.pages place) (room : page + record_pages place.length ≤ before.pages)
    (blank : AreBlank (sector_at before.image other) page (page + record_pages place.length)) where
  abbrev source : List ℕ
  source = record_bytes_at (sector_at before.image sector) place

  abbrev head : List ℕ
  head = sealed (word_bytes (Head block place.length place.valid page))

  size : length (record_bytes_at (sector_at before.image sector) place) ≡ place.length
  size = bytes_size (sector_at before.image sector) (shape.bytes sector in_sector) (record_at 0 place) (omega (arith, within.below, shape.pages sector in_sector))

  room_source : page + 2 + byte_pages (length (record_bytes_at (sector_at before.image sector) place)) ≤ before.pages
  room_source = omega (arith, room, size)

  blank_source : AreBlank (sector_at before.image other) page (page + 2 + byte_pages (length (record_bytes_at (sector_at before.image sector) place)))
  blank_source k low high = blank k low (omega (arith, high, size))

  head_of : {T : Type 0} (after : FlashState) (result : Result T FlashFailed) → Appends before after other page head result
      → Appends before after other page (sealed (word_bytes (Head block (length (record_bytes_at (sector_at before.image sector) place)) place.valid page))) result
  head_of after result is = subst (λ n. Appends before after other page (sealed (word_bytes (Head block n place.valid page))) result) (sym size) is

  pub copy_head_failed : (after : FlashState) (failed : FlashFailed) (result : Result (Unit {0}) FlashFailed) → IsErr result → Appends {T = Unit {0}} before after other page head (Err failed)
      → Records before after other page block source place.valid result
  copy_head_failed after failed result fails is = head_failed before shape other page block source place.valid in_other room_source blank_source after failed result fails (head_of after (Err failed) is)

  -- The head is whole.
  module _ (middle : FlashState) (shape_middle : HasShape middle) (headed : Appends {T = Unit {0}} before middle other page head (Ok tt)) where
    same_source : record_bytes_at (sector_at middle.image sector) place ≡ record_bytes_at (sector_at before.image sector) place
    same_source = ap (λ (pages : List (List ℕ)). record_bytes_at pages place)
        (other_stays before middle sector other (set (sector_at before.image other) page head) apart (record { image = headed.holds_asked; wear = headed.wear; runs = one_run headed.operation }))

    fills_of : {T : Type 0} (after : FlashState) (result : Result T FlashFailed) → Fills middle after other (page + 1) (record_bytes_at (sector_at middle.image sector) place) result
        → Fills middle after other (page + 1) (record_bytes_at (sector_at before.image sector) place) result
    fills_of after result is = subst (λ (bytes : List ℕ). Fills middle after other (page + 1) bytes result) same_source is

    pub copy_fill_failed : (after : FlashState) (failed : FlashFailed) (result : Result (Unit {0}) FlashFailed) → IsErr result
        → Fills {T = Unit {0}} middle after other (page + 1) (record_bytes_at (sector_at middle.image sector) place) (Err failed) → Records before after other page block source place.valid result
    copy_fill_failed after failed result fails is =
        fill_failed before shape other page block source place.valid in_other room_source blank_source middle shape_middle (head_of middle (Ok tt) headed) after failed result fails (fills_of after (Err failed) is)

    -- The pages after the head are blank, and the page of the gate still is once the bytes are there.
    pub copy_blank : AreBlank (sector_at middle.image other) (page + 1) (page + 1 + byte_pages place.length)
    copy_blank =
        subst (λ n. AreBlank (sector_at middle.image other) (page + 1) (page + 1 + byte_pages n)) size
        (bytes_blank before shape other page block source place.valid in_other room_source blank_source middle shape_middle (head_of middle (Ok tt) headed))

    pub gate_blank : (full : FlashState) → Fills {T = Unit {0}} middle full other (page + 1) (record_bytes_at (sector_at middle.image sector) place) (Ok tt) → page_at full.image other (page + 1 + byte_pages place.length) ≡ blank_page
    gate_blank full is =
        subst (λ n. page_at full.image other (page + 1 + byte_pages n) ≡ blank_page) size
        (blank_at_gate before shape other page block source place.valid in_other room_source blank_source middle shape_middle (head_of middle (Ok tt) headed) full (fills_of full (Ok tt) is))

    pub copy_gated : (full after : FlashState) (result : Result (Unit {0}) FlashFailed) → Fills {T = Unit {0}} middle full other (page + 1) (record_bytes_at (sector_at middle.image sector) place) (Ok tt)
        → Appends full after other (page + 1 + byte_pages place.length) (sealed (word_bytes (Gate block page))) result → Records before after other page block source place.valid result
    copy_gated full after result is gated =
        gate_laid before shape other page block source place.valid in_other room_source blank_source middle shape_middle (head_of middle (Ok tt) headed) full after result (fills_of full (Ok tt) is)
        (subst (λ n. Appends full after other (page + 1 + byte_pages n) (sealed (word_bytes (Gate block page))) result) (sym size) gated)
