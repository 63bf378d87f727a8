-- The steps of appending a record, one after another.
use Rattle.std.proofs.Common.{◌≡◌, ◌⊎◌, inl, inr, ⊎_elim, ◌+◌, ◌<◌, ◌≤◌, ℕ, Bool, List, [], get_or, set, length, get_or-set_same, get_or-set_other, Result, Ok, Err, None, refl, sym, ◌∙◌, ap, subst, arith}
use Rattle.std.specs.Prelude.{IfOk, OnOk, OnErr, IsErr}
use Rattle.std.proofs.lemmas.List.{set-set}
use Rattle.flt_flash.specs.Image.{sector_at, page_at, blank_page}
use Rattle.flt_flash.specs.State.{FlashState, HasShape, HasRisenBy}
use Rattle.flt_flash.specs.declared.flash.FlashFailed.{FlashFailed}
use Rattle.flt_flash.proofs.Following.{one_run, runs_on}
use Rattle.flt_code.specs.Seal.{sealed, unsealed}
use Rattle.flt_code.specs.Word.{word_bytes}
use Rattle.flt_code.specs.declared.words.Word.TheVariants.{Head, Gate}
use Rattle.flt_pages.specs.Blank.{AreBlank}
use Rattle.flt_flash.specs.Blocks.{byte_pages}
use Rattle.flt_pages.specs.Record.{KeptApart, IsOpen, IsWhole, RecordLeft}
use Rattle.flt_pages.proofs.Steps.{head_torn, head_stands, pieces_between, gate_torn, gate_stands}
use Rattle.flt_pages.specs.Append.{Appends}
use Rattle.flt_pages.specs.Recorded.{OnSector, Fills, Records}

-- What holds whatever a call answered, and after an error.
pub on_any : {T E : Type 0} {P : Type 0} (result : Result T E) → P → OnOk result P
on_any (Ok x) p = p
on_any (Err e) p = tt

pub never_ok : {T E : Type 0} (P : Type 0) (result : Result T E) → IsErr result → OnOk result P
never_ok P (Ok x) fails = absurd (cc fails)
never_ok P (Err e) fails = tt

pub never_if : {T E : Type 0} (P : T → Type 0) (result : Result T E) → IsErr result → IfOk result P
never_if P (Ok x) fails = absurd (cc fails)
never_if P (Err e) fails = tt

pub on_fault : {T E : Type 0} {P : Type 0} (result : Result T E) → P → OnErr result P
on_fault (Ok x) p = tt
on_fault (Err e) p = p

pub on_sector : (before middle after : FlashState) (sector : ℕ) (first second : List (List ℕ)) → OnSector before middle sector first → OnSector middle after sector second → OnSector before after sector second
on_sector before middle after sector first second one two = record {
  image = two.image ∙ ap (λ (image : List (List (List ℕ))). set image sector second) one.image ∙ set-set before.image sector first second;
  wear = two.wear ∙ one.wear;
  runs = runs_on one.runs two.runs;
}

-- The pages of the sector after it was given them.
pub sector_given : (before after : FlashState) (sector : ℕ) (pages : List (List ℕ)) → sector < length before.image → OnSector before after sector pages → sector_at after.image sector ≡ pages
sector_given before after sector pages within on = ap (λ (image : List (List (List ℕ))). sector_at image sector) on.image ∙ get_or-set_same before.image sector pages [] within

pub pages_on : (before after : FlashState) (sector : ℕ) (pages : List (List ℕ)) → HasShape before → sector < 2 → OnSector before after sector pages → sector_at after.image sector ≡ pages
pages_on before after sector pages shape within = sector_given before after sector pages (omega (arith, shape.sectors))

-- An appended page, as asked or torn.
pub record Laid {T : Type 0} (before after : FlashState) (sector page : ℕ) (asked : List ℕ) (result : Result T FlashFailed) : Type 0 where
  pub laid : List ℕ
  pub on : OnSector before after sector (set (sector_at before.image sector) page laid)
  pub holds_asked : OnOk result (laid ≡ asked)
  pub word : (laid ≡ asked) ⊎ (unsealed laid ≡ None)
  pub cause : OnErr result (HasRisenBy 1 before.faults after.faults)

pub laid_by : {T : Type 0} (before after : FlashState) (sector page : ℕ) (asked : List ℕ) (result : Result T FlashFailed) → Appends before after sector page asked result → Laid before after sector page asked result
laid_by before after sector page asked (Ok x) is = record { laid = asked; on = record { image = is.holds_asked; wear = is.wear; runs = one_run is.operation }; holds_asked = refl; word = inl refl; cause = tt }
laid_by before after sector page asked (Err e) is = record { laid = is.torn.torn; on = record { image = is.torn.only; wear = is.wear; runs = one_run is.operation }; holds_asked = tt; word = is.torn.word; cause = is.operation.cause }

module _ (before : FlashState) (shape : HasShape before) (sector page block : ℕ) (bytes : List ℕ) (valid : Bool) (within : sector < 2) (room : page + 2 + byte_pages (length bytes) ≤ before.pages)
    (blank : AreBlank (sector_at before.image sector) page (page + 2 + byte_pages (length bytes))) where
  abbrev pages : List (List ℕ)
  pages = sector_at before.image sector

  abbrev head : List ℕ
  head = sealed (word_bytes (Head block (length bytes) valid page))

  abbrev gate : List ℕ
  gate = sealed (word_bytes (Gate block page))

  fits : page + 2 + byte_pages (length bytes) ≤ length pages
  fits = omega (arith, shape.pages sector within)

  head_left : (laid : List ℕ) → (laid ≡ head) ⊎ (unsealed laid ≡ None) → RecordLeft pages (set pages page laid) page block bytes valid
  head_left laid (inl is) = inr (inl (subst (λ (p : List ℕ). IsOpen pages (set pages page p) page block (length bytes) valid) (sym is) (head_stands pages page block bytes valid fits blank)))
  head_left laid (inr none) = inl (head_torn pages page block bytes valid fits laid none)

  pub head_failed : (after : FlashState) (failed : FlashFailed) (result : Result (Unit {0}) FlashFailed) → IsErr result → Appends {T = Unit {0}} before after sector page head (Err failed)
      → Records before after sector page block bytes valid result
  head_failed after failed (Ok x) fails is = absurd (cc fails)
  head_failed after failed (Err e) fails is =
      let laid = laid_by before after sector page head (Err failed) is in
      record { pages = set pages page laid.laid; on = laid.on; whole = tt; one_of_forms = head_left laid.laid laid.word; cause = is.operation.cause }

  -- The head is whole.
  module _ (middle : FlashState) (shape_middle : HasShape middle) (headed : Appends {T = Unit {0}} before middle sector page head (Ok tt)) where
    on_head : OnSector before middle sector (set pages page head)
    on_head = record { image = headed.holds_asked; wear = headed.wear; runs = one_run headed.operation }

    opened : IsOpen pages (sector_at middle.image sector) page block (length bytes) valid
    opened = subst (λ (p : List (List ℕ)). IsOpen pages p page block (length bytes) valid) (sym (pages_on before middle sector (set pages page head) shape within on_head)) (head_stands pages page block bytes valid fits blank)

    -- The pages after the head are blank, and the page of the gate still is once the bytes are there.
    head_kept : (k : ℕ) → page < k → k < page + 2 + byte_pages (length bytes) → get_or (sector_at middle.image sector) k [] ≡ blank_page
    head_kept k more less =
        ap (λ (p : List (List ℕ)). get_or p k []) (pages_on before middle sector (set pages page head) shape within on_head)
        ∙ get_or-set_other pages page k head [] (omega arith) ∙ blank k (omega arith) less

    pub bytes_blank : AreBlank (sector_at middle.image sector) (page + 1) (page + 1 + byte_pages (length bytes))
    bytes_blank k least most = head_kept k (omega arith) (omega arith)

    pub gate_blank : (full : FlashState) → Fills {T = Unit {0}} middle full sector (page + 1) bytes (Ok tt) → page_at full.image sector (page + 1 + byte_pages (length bytes)) ≡ blank_page
    gate_blank full is =
        ap (λ (p : List (List ℕ)). get_or p (page + 1 + byte_pages (length bytes)) []) (pages_on middle full sector is.pages shape_middle within is.on)
        ∙ is.apart.behind (page + 1 + byte_pages (length bytes)) (omega arith) ∙ head_kept (page + 1 + byte_pages (length bytes)) (omega arith) (omega arith)

    filled : (after : List (List ℕ)) → KeptApart (sector_at middle.image sector) after (page + 1) (page + 1 + byte_pages (length bytes)) → IsOpen pages after page block (length bytes) valid
    filled after apart = pieces_between pages page block bytes valid fits (sector_at middle.image sector) after opened apart

    pub fill_failed : (after : FlashState) (failed : FlashFailed) (result : Result (Unit {0}) FlashFailed) → IsErr result → Fills {T = Unit {0}} middle after sector (page + 1) bytes (Err failed)
        → Records before after sector page block bytes valid result
    fill_failed after failed (Ok x) fails is = absurd (cc fails)
    fill_failed after failed (Err e) fails is = record {
      pages = is.pages;
      on = on_sector before middle after sector (set pages page head) is.pages on_head is.on;
      whole = tt;
      one_of_forms = inr (inl (filled is.pages is.apart));
      cause = omega (arith, is.cause, headed.operation.counts);
    }

    pub gate_laid : (full after : FlashState) (result : Result (Unit {0}) FlashFailed) → Fills {T = Unit {0}} middle full sector (page + 1) bytes (Ok tt)
        → Appends full after sector (page + 1 + byte_pages (length bytes)) gate result → Records before after sector page block bytes valid result
    gate_laid full after result is appends =
        let on_full = on_sector before middle full sector (set pages page head) is.pages on_head is.on in
        let laid = laid_by full after sector (page + 1 + byte_pages (length bytes)) gate result appends in
        let same = pages_on before full sector is.pages shape within on_full in
        let on_gate = subst (λ (p : List (List ℕ)). OnSector full after sector (set p (page + 1 + byte_pages (length bytes)) laid.laid)) same laid.on in
        record {
          pages = set is.pages (page + 1 + byte_pages (length bytes)) laid.laid;
          on = on_sector before full after sector is.pages (set is.pages (page + 1 + byte_pages (length bytes)) laid.laid) on_full on_gate;
          whole = whole result laid.laid is laid.holds_asked;
          one_of_forms = ⊎_elim (λ stands. inr (inr (gate_stands pages page block bytes valid fits is.pages (filled is.pages is.apart) laid.laid stands is.holds_asked)))
              (λ none. inr (inl (gate_torn pages page block bytes valid fits is.pages (filled is.pages is.apart) laid.laid none))) laid.word;
          cause = rises result laid.cause on_full;
        }
      where
        whole : (result : Result (Unit {0}) FlashFailed) (laid : List ℕ) (is : Fills {T = Unit {0}} middle full sector (page + 1) bytes (Ok tt)) → OnOk result (laid ≡ gate)
            → OnOk result (IsWhole pages (set is.pages (page + 1 + byte_pages (length bytes)) laid) page block bytes valid)
        whole (Ok x) laid is stands = gate_stands pages page block bytes valid fits is.pages (filled is.pages is.apart) laid stands is.holds_asked
        whole (Err e) laid is stands = tt

        rises : (result : Result (Unit {0}) FlashFailed) → OnErr result (HasRisenBy 1 full.faults after.faults) → OnSector before full sector is.pages → OnErr result (HasRisenBy 1 before.faults after.faults)
        rises (Ok x) rose on = tt
        rises (Err e) rose on = omega (arith, rose, on.runs.counts)
