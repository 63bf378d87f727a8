-- The log from a page on, while it is looked at.
use Rattle.std.proofs.Common.{◌≡◌, ⊎_elim, inl, inr, ◌+◌, ◌-◌, ◌≤◌, ℕ, Bool, List, Option, Some, None, Result, Ok, Err, refl, sym, ◌∙◌, ap, subst, arith}
use Rattle.flt_flash.specs.Blocks.{byte_pages}
use Rattle.flt_sector_model.specs.Log.{LogFrom, item_at, first_written, log}
use Rattle.flt_sector_model.specs.declared.log.Item.{Item}
use Rattle.flt_sector_model.specs.declared.log.Item.TheVariants.{End, Torn, Kept}
use Rattle.flt_sector_model.proofs.Logged.{log_on, log_step}
use Rattle.flt_pages.proofs.ItemPages.{item_within}
use Rattle.flt_pages.specs.declared.fault.PageFault.{PageFault}
use Rattle.flt_pages.specs.declared.fault.PageFault.TheVariants.{Flash, Damaged}
use Rattle.std.specs.Prelude.{IsErrAnd, IsErrOf}
use Rattle.flt_pages.specs.Told.{told, told_fault, TellsOrFails, told_end}

-- The log ends, and has its fault, as it does from this page on.
pub record GoesOn (used : ℕ) (numbers : List ℕ) (pages : List (List ℕ)) (page : ℕ) : Type 0 where
  pub below : page ≤ used
  pub end : (log used numbers pages).end ≡ (log_on used numbers pages page).end
  pub fault : (log used numbers pages).fault ≡ (log_on used numbers pages page).fault

-- The item that was answered.
pub item_told : (sector : ℕ) (found : Item) (at : Result Item ℕ) → TellsOrFails (Ok found) (told sector at) → at ≡ Ok found
item_told sector found (Ok item) tells = ⊎_elim (λ no. absurd (cc no)) (λ same. sym (cc same)) tells
item_told sector found (Err page) tells = ⊎_elim (λ no. absurd (cc no)) (λ no. absurd (cc no)) tells

module _ (used : ℕ) (numbers : List ℕ) (pages : List (List ℕ)) where
  pub from_start : 2 ≤ used → GoesOn used numbers pages 2
  from_start least = record { below = least; end = refl; fault = refl }

  module _ (page : ℕ) (is : GoesOn used numbers pages page) where
    pub torn_on : item_at used numbers pages page ≡ Ok Torn → GoesOn used numbers pages (page + 1)
    torn_on found =
        let step = log_step used numbers pages page (Ok Torn) is.below found in
        record {
          below = item_within used numbers pages page Torn (λ e. cc e) is.below found;
          end = is.end ∙ ap (λ (l : LogFrom). l.end) step;
          fault = is.fault ∙ ap (λ (l : LogFrom). l.fault) step;
        }

    pub kept_on : (block length : ℕ) (valid complete : Bool) → item_at used numbers pages page ≡ Ok (Kept block length valid complete) → GoesOn used numbers pages (page + 2 + byte_pages length)
    kept_on block length valid complete found =
        let step = log_step used numbers pages page (Ok (Kept block length valid complete)) is.below found in
        record {
          below = omega (arith, item_within used numbers pages page (Kept block length valid complete) (λ e. cc e) is.below found);
          end = is.end ∙ ap (λ (l : LogFrom). l.end) step;
          fault = is.fault ∙ ap (λ (l : LogFrom). l.fault) step;
        }

    pub at_end : item_at used numbers pages page ≡ Ok End → ((log used numbers pages).end ≡ page) × ((log used numbers pages).fault ≡ first_written pages page (used - page))
    at_end found =
        let step = log_step used numbers pages page (Ok End) is.below found in
        (is.end ∙ ap (λ (l : LogFrom). l.end) step, is.fault ∙ ap (λ (l : LogFrom). l.fault) step)

    pub at_fault : (at : ℕ) → item_at used numbers pages page ≡ Err at → (log used numbers pages).fault ≡ Some at
    at_fault at found = is.fault ∙ ap (λ (l : LogFrom). l.fault) (log_step used numbers pages page (Err at) is.below found)

-- An error that was handed on.
pub handed_on : {T : Type 0} (P : Result T PageFault → Type 0) (result : Result T PageFault) (fault : PageFault) → IsErrAnd result (λ e. e ≡ fault) → P (Err fault) → P result
handed_on {T} P (Ok x) fault is holds = absurd is
handed_on {T} P (Err e) fault is holds = subst (λ (f : PageFault). P (Err f)) (sym is) holds

pub flash_handed : {T : Type 0} (result : Result T PageFault) (fault : PageFault) → IsErrAnd result (λ e. e ≡ fault) → IsErrOf result Flash → fault ≡ Flash
flash_handed (Ok x) fault is told = absurd is
flash_handed (Err e) fault is told = cc (is, told)

pub item_fault : (sector end : ℕ) (fault : Option ℕ) (found : PageFault) (at : Result Item ℕ) → TellsOrFails {T = Item} (Err found) (told sector at) → ((page : ℕ) → at ≡ Err page → fault ≡ Some page)
    → TellsOrFails {T = ℕ} (Err found) (told_end sector end fault)
item_fault sector end fault found (Ok item) tells is = ⊎_elim (λ same. inl (let e : found ≡ Flash = cc same in ap Err e)) (λ no. absurd (cc no)) tells
item_fault sector end fault found (Err page) tells is =
    ⊎_elim (λ same. inl (let e : found ≡ Flash = cc same in ap Err e))
    (λ same. inr (let e : found ≡ Damaged sector page = cc same in ap Err e ∙ sym (ap (told_end sector end) (is page refl)))) tells

pub blank_fault : (sector end : ℕ) (fault : Option ℕ) (found : PageFault) (written : Option ℕ) → TellsOrFails {T = Unit {0}} (Err found) (told_fault sector written) → fault ≡ written
    → TellsOrFails {T = ℕ} (Err found) (told_end sector end fault)
blank_fault sector end fault found None tells is = ⊎_elim (λ same. inl (let e : found ≡ Flash = cc same in ap Err e)) (λ no. absurd (cc no)) tells
blank_fault sector end fault found (Some page) tells is =
    ⊎_elim (λ same. inl (let e : found ≡ Flash = cc same in ap Err e))
    (λ same. inr (let e : found ≡ Damaged sector page = cc same in ap Err e ∙ sym (ap (told_end sector end) is))) tells

pub blank_end : (sector end page : ℕ) (fault : Option ℕ) (written : Option ℕ) → TellsOrFails {T = Unit {0}} (Ok tt) (told_fault sector written) → fault ≡ written → end ≡ page → TellsOrFails {T = ℕ} (Ok page) (told_end sector end fault)
blank_end sector end page fault None tells is ends = inr (sym (ap (told_end sector end) is ∙ ap Ok ends))
blank_end sector end page fault (Some p) tells is ends = ⊎_elim (λ no. absurd (cc no)) (λ no. absurd (cc no)) tells
