use Rattle.std.proofs.Common.{◌≡◌, ◌≤◌, ◌+◌, ◌-◌, ℕ, inl, inr, List, Ok, Err, Option, None, sym, ◌∙◌, ap, subst, arith, get_or}
use Rattle.std.proofs.lemmas.Bool.{cases_lt}
use Rattle.flt_flash.specs.Image.{sector_at}
use Rattle.flt_flash.proofs.Following.{no_reads, reads_on}
use Rattle.flt_flash.specs.Blocks.{byte_pages}
use Rattle.flt_sector_model.specs.Log.{item_at, log, first_written}
use Rattle.flt_sector_model.specs.declared.log.Item.{Item}
use Rattle.flt_pages.specs.First.{reads_of}
use Rattle.flt_pages.specs.Told.{TellsOrFails, told_end}
use Rattle.flt_pages.proofs.Scanning.{GoesOn, from_start, item_told, torn_on, kept_on, at_end, at_fault, handed_on, flash_handed, item_fault, blank_fault, blank_end}
use Rattle.flt_pages.specs.declared.place.RecordPlace.{RecordPlace}
use Rattle.flt_pages.proofs.Finding.{Seeks, seek, seek_on, seek_behind, found_at}
use Rattle.flt_pages.proofs.place.find_places.Goals.{In-Torn, In-Kept}
use Rattle.flt_pages.proofs.place.find_places.Goals as goal

torn : (g : _) (c : In-Torn g) → GoesOn c.args.at.used c.args.numbers.now (sector_at (g.F.Flash.state c.args.flash.now).image c.args.at.sector) (c.log.page + 1)
torn g c =
    let found = sym (ap (λ (image : List (List (List ℕ))). item_at c.args.at.used c.args.numbers.now (sector_at image c.args.at.sector) c.log.page) c.log.invariant.reads.image)
    ∙ item_told c.args.at.sector c.in_ok-item.field-0 (item_at c.args.at.used c.args.numbers.now (sector_at (g.F.Flash.state c.log.flash).image c.args.at.sector) c.log.page) c.in_ok-item.ensures.item
    ∙ (λ i. Ok (c.in-Torn.is i)) in
    torn_on c.args.at.used c.args.numbers.now (sector_at (g.F.Flash.state c.args.flash.now).image c.args.at.sector) c.log.page c.log.invariant.goes_on found

kept : (g : _) (c : In-Kept g) → GoesOn c.args.at.used c.args.numbers.now (sector_at (g.F.Flash.state c.args.flash.now).image c.args.at.sector) (c.log.page + 2 + byte_pages c.in-Kept.length)
kept g c =
    let found = sym (ap (λ (image : List (List (List ℕ))). item_at c.args.at.used c.args.numbers.now (sector_at image c.args.at.sector) c.log.page) c.log.invariant.reads.image)
    ∙ item_told c.args.at.sector c.in_ok-item.field-0 (item_at c.args.at.used c.args.numbers.now (sector_at (g.F.Flash.state c.log.flash).image c.args.at.sector) c.log.page) c.in_ok-item.ensures.item
    ∙ (λ i. Ok (c.in-Kept.is i)) in
    kept_on c.args.at.used c.args.numbers.now (sector_at (g.F.Flash.state c.args.flash.now).image c.args.at.sector) c.log.page c.log.invariant.goes_on c.in-Kept.block c.in-Kept.length c.in-Kept.valid c.in-Kept.complete found

pub item-requires-clause-used : goal.item-requires-clause-used
item-requires-clause-used g c = omega (arith, c.log.invariant.reads.runs.pages, c.requires.most)

pub item-requires-clause-page : goal.item-requires-clause-page
item-requires-clause-page g c = c.log.invariant.goes_on.below

pub blank_from-requires-clause-used : goal.blank_from-requires-clause-used
blank_from-requires-clause-used g c = omega (arith, c.in_ok-item.ensures.reads.runs.pages, c.log.invariant.reads.runs.pages, c.requires.most)

pub blank_from-requires-clause-page : goal.blank_from-requires-clause-page
blank_from-requires-clause-page g c = c.log.invariant.goes_on.below

pub overflow_add-page : goal.overflow_add-page
overflow_add-page g c = omega (arith, (torn g (goal.at.overflow_add-page g c).In-Torn).below, c.requires.most, (g.met.F.Flash.shape c.args.flash.now).most)

pub log-smaller-in-Torn : goal.log-smaller-in-Torn
log-smaller-in-Torn g c = omega (arith, (torn g (goal.at.log-smaller-in-Torn g c).In-Torn).below)

pub overflow_add-page-in-Kept : goal.overflow_add-page-in-Kept
overflow_add-page-in-Kept g c = omega (arith, c.from.ensures, c.log.invariant.goes_on.below, c.requires.most, (g.met.F.Flash.shape c.args.flash.now).most)

pub overflow_add-page-in-Kept-2 : goal.overflow_add-page-in-Kept-2
overflow_add-page-in-Kept-2 g c =
    omega (
      arith,
      (kept g (goal.at.overflow_add-page-in-Kept-2 g c).In-Kept).below,
      c.from.ensures,
      c.byte_pages.ensures,
      c.from-in-Kept.ensures,
      c.requires.most,
      (g.met.F.Flash.shape c.args.flash.now).most,
    )

pub overflow_cast-page : goal.overflow_cast-page
overflow_cast-page g c =
    omega (
      arith,
      (kept g (goal.at.overflow_cast-page g c).In-Kept).below,
      c.from.ensures,
      c.byte_pages.ensures,
      c.from-in-Kept.ensures,
      c.requires.most,
      (g.met.F.Flash.shape c.args.flash.now).most,
    )

pub log-smaller : goal.log-smaller
log-smaller g c = omega (arith, (kept g (goal.at.log-smaller g c).In-Kept).below, c.from.ensures, c.byte_pages.ensures, c.from-in-Kept.ensures)

pub returns-in_err-item-clause-reads : goal.returns-in_err-item-clause-reads
returns-in_err-item-clause-reads g c = reads_on c.log.invariant.reads c.in_err-item.ensures.reads

pub returns-in_err-blank_from-in-End-clause-reads : goal.returns-in_err-blank_from-in-End-clause-reads
returns-in_err-blank_from-in-End-clause-reads g c = reads_on (reads_on c.log.invariant.reads c.in_ok-item.ensures.reads) c.in_err-blank_from-in-End.ensures.reads

pub returns-in-End-clause-reads : goal.returns-in-End-clause-reads
returns-in-End-clause-reads g c = reads_on (reads_on c.log.invariant.reads c.in_ok-item.ensures.reads) c.in_ok-blank_from-in-End.ensures.reads

pub returns-in_err-item-clause-cause : goal.returns-in_err-item-clause-cause
returns-in_err-item-clause-cause g c = λ told.
    omega (arith, c.in_err-item.ensures.cause (ap Err (flash_handed c.from_residual.result c.in_err-item.field-0.0 c.from_residual.ensures.1 told)), c.log.invariant.reads.runs.counts)

pub returns-in_err-blank_from-in-End-clause-cause : goal.returns-in_err-blank_from-in-End-clause-cause
returns-in_err-blank_from-in-End-clause-cause g c = λ told.
    omega (
      arith,
      c.in_err-blank_from-in-End.ensures.cause (ap Err (flash_handed c.from_residual-in_err-blank_from-in-End.result c.in_err-blank_from-in-End.field-0.0 c.from_residual-in_err-blank_from-in-End.ensures.1 told)),
      c.in_ok-item.ensures.reads.runs.counts,
      c.log.invariant.reads.runs.counts,
    )

pub log-init : goal.log-init
log-init g c = record {
  reads = no_reads (g.F.Flash.state c.args.flash.now);
  goes_on = from_start c.args.at.used c.args.numbers.now (sector_at (g.F.Flash.state c.args.flash.now).image c.args.at.sector) c.args.at.least;
  operations = omega arith;
  size = c.forget.ensures.size ∙ c.requires.table.size;
  seeks = λ k within. subst (λ (found : Option RecordPlace). Seeks c.args.at.used c.args.numbers.now (sector_at (g.F.Flash.state c.args.flash.now).image c.args.at.sector) (get_or c.args.numbers.now k 0) 2 found)
      (sym (c.forget.ensures.none k (omega (arith, within, c.requires.table.size))))
      (seek c.args.at.used c.args.numbers.now (sector_at (g.F.Flash.state c.args.flash.now).image c.args.at.sector) (get_or c.args.numbers.now k 0) c.args.at.least);
}

pub returns-in_err-item-clause-end : goal.returns-in_err-item-clause-end
returns-in_err-item-clause-end g c =
    let pages = sector_at (g.F.Flash.state c.args.flash.now).image c.args.at.sector in
    let whole = log c.args.at.used c.args.numbers.now pages in
    let same = ap (λ (image : List (List (List ℕ))). item_at c.args.at.used c.args.numbers.now (sector_at image c.args.at.sector) c.log.page) c.log.invariant.reads.image in
    handed_on (λ r. TellsOrFails r (told_end c.args.at.sector whole.end whole.fault)) c.from_residual.result c.in_err-item.field-0.0 c.from_residual.ensures.1
    (item_fault c.args.at.sector whole.end whole.fault c.in_err-item.field-0.0 _ c.in_err-item.ensures.item
    (λ page found. at_fault c.args.at.used c.args.numbers.now pages c.log.page c.log.invariant.goes_on page (sym same ∙ found)))

pub returns-in_err-blank_from-in-End-clause-end : goal.returns-in_err-blank_from-in-End-clause-end
returns-in_err-blank_from-in-End-clause-end g c =
    let pages = sector_at (g.F.Flash.state c.args.flash.now).image c.args.at.sector in
    let whole = log c.args.at.used c.args.numbers.now pages in
    let found = sym (ap (λ (image : List (List (List ℕ))). item_at c.args.at.used c.args.numbers.now (sector_at image c.args.at.sector) c.log.page) c.log.invariant.reads.image)
    ∙ item_told c.args.at.sector c.in_ok-item.field-0 (item_at c.args.at.used c.args.numbers.now (sector_at (g.F.Flash.state c.log.flash).image c.args.at.sector) c.log.page) c.in_ok-item.ensures.item
    ∙ (λ i. Ok (c.in-End.is i)) in
    let ends = at_end c.args.at.used c.args.numbers.now pages c.log.page c.log.invariant.goes_on found in
    let same = c.in_ok-item.ensures.reads.image ∙ c.log.invariant.reads.image in
    handed_on (λ r. TellsOrFails r (told_end c.args.at.sector whole.end whole.fault)) c.from_residual-in_err-blank_from-in-End.result c.in_err-blank_from-in-End.field-0.0 c.from_residual-in_err-blank_from-in-End.ensures.1
    (blank_fault c.args.at.sector whole.end whole.fault c.in_err-blank_from-in-End.field-0.0 _ c.in_err-blank_from-in-End.ensures.blank
    (ends.1 ∙ sym (ap (λ (image : List (List (List ℕ))). first_written (sector_at image c.args.at.sector) c.log.page (c.args.at.used - c.log.page)) same)))

pub log-preserved-in-Torn : goal.log-preserved-in-Torn
log-preserved-in-Torn g c =
    let pages = sector_at (g.F.Flash.state c.args.flash.now).image c.args.at.sector in
    let found = sym (ap (λ (image : List (List (List ℕ))). item_at c.args.at.used c.args.numbers.now (sector_at image c.args.at.sector) c.log.page) c.log.invariant.reads.image)
    ∙ item_told c.args.at.sector c.in_ok-item.field-0 (item_at c.args.at.used c.args.numbers.now (sector_at (g.F.Flash.state c.log.flash).image c.args.at.sector) c.log.page) c.in_ok-item.ensures.item
    ∙ (λ i. Ok (c.in-Torn.is i)) in
    record {
      reads = reads_on c.log.invariant.reads c.in_ok-item.ensures.reads;
      goes_on = torn_on c.args.at.used c.args.numbers.now pages c.log.page c.log.invariant.goes_on found;
      operations = (let cost = subst (λ (item : Item). (g.F.Flash.state c.item.new.flash).operations ≤ (g.F.Flash.state c.log.flash).operations + reads_of item) c.in-Torn.is c.in_ok-item.ensures.costs in
          omega (arith, cost, c.log.invariant.operations));
      size = c.log.invariant.size;
      seeks = λ k within. seek_on c.args.at.used c.args.numbers.now pages (get_or c.args.numbers.now k 0) c.log.page (get_or c.log.places k None) (c.log.invariant.seeks k within) found;
    }

pub log-preserved : goal.log-preserved
log-preserved g c =
    let pages = sector_at (g.F.Flash.state c.args.flash.now).image c.args.at.sector in
    let found = sym (ap (λ (image : List (List (List ℕ))). item_at c.args.at.used c.args.numbers.now (sector_at image c.args.at.sector) c.log.page) c.log.invariant.reads.image)
    ∙ item_told c.args.at.sector c.in_ok-item.field-0 (item_at c.args.at.used c.args.numbers.now (sector_at (g.F.Flash.state c.log.flash).image c.args.at.sector) c.log.page) c.in_ok-item.ensures.item
    ∙ (λ i. Ok (c.in-Kept.is i)) in
    let next : c.log.page + 2 + byte_pages c.in-Kept.length ≡ c.from.result + 2 + c.from-in-Kept.result
    = (λ i. sym c.from.ensures i + 2 + (sym c.byte_pages.ensures ∙ sym c.from-in-Kept.ensures) i) in
    record {
      reads = reads_on c.log.invariant.reads c.in_ok-item.ensures.reads;
      goes_on = subst (GoesOn c.args.at.used c.args.numbers.now pages) next (kept_on c.args.at.used c.args.numbers.now pages c.log.page c.log.invariant.goes_on c.in-Kept.block c.in-Kept.length c.in-Kept.valid c.in-Kept.complete found);
      operations = omega (arith, c.in_ok-item.ensures.operations, c.log.invariant.operations, next);
      size = c.note.ensures.size ∙ c.log.invariant.size;
      seeks = λ k within. subst (λ n. Seeks c.args.at.used c.args.numbers.now pages (get_or c.args.numbers.now k 0) n (get_or c.note.new.places k None)) next
          (subst (λ (place : Option RecordPlace). Seeks c.args.at.used c.args.numbers.now pages (get_or c.args.numbers.now k 0) (c.log.page + 2 + byte_pages c.in-Kept.length) place) (sym (c.note.ensures.noted k within))
          (seek_behind c.args.at.used c.args.numbers.now pages (get_or c.args.numbers.now k 0) c.log.page (get_or c.log.places k None) (c.log.invariant.seeks k within) c.in-Kept.block c.in-Kept.length c.in-Kept.valid c.in-Kept.complete found));
    }

pub returns-in-End-clause-end : goal.returns-in-End-clause-end
returns-in-End-clause-end g c =
    let pages = sector_at (g.F.Flash.state c.args.flash.now).image c.args.at.sector in
    let whole = log c.args.at.used c.args.numbers.now pages in
    let found = sym (ap (λ (image : List (List (List ℕ))). item_at c.args.at.used c.args.numbers.now (sector_at image c.args.at.sector) c.log.page) c.log.invariant.reads.image)
    ∙ item_told c.args.at.sector c.in_ok-item.field-0 (item_at c.args.at.used c.args.numbers.now (sector_at (g.F.Flash.state c.log.flash).image c.args.at.sector) c.log.page) c.in_ok-item.ensures.item
    ∙ (λ i. Ok (c.in-End.is i)) in
    let ends = at_end c.args.at.used c.args.numbers.now pages c.log.page c.log.invariant.goes_on found in
    let same = c.in_ok-item.ensures.reads.image ∙ c.log.invariant.reads.image in
    blank_end c.args.at.sector whole.end c.log.page whole.fault _ c.in_ok-blank_from-in-End.ensures.blank
    (ends.1 ∙ sym (ap (λ (image : List (List (List ℕ))). first_written (sector_at image c.args.at.sector) c.log.page (c.args.at.used - c.log.page)) same)) ends.0

pub returns-in-End-clause-places : goal.returns-in-End-clause-places
returns-in-End-clause-places g c =
    let pages = sector_at (g.F.Flash.state c.args.flash.now).image c.args.at.sector in
    let found = sym (ap (λ (image : List (List (List ℕ))). item_at c.args.at.used c.args.numbers.now (sector_at image c.args.at.sector) c.log.page) c.log.invariant.reads.image)
    ∙ item_told c.args.at.sector c.in_ok-item.field-0 (item_at c.args.at.used c.args.numbers.now (sector_at (g.F.Flash.state c.log.flash).image c.args.at.sector) c.log.page) c.in_ok-item.ensures.item
    ∙ (λ i. Ok (c.in-End.is i)) in
    λ k within. found_at c.args.at.used c.args.numbers.now pages (get_or c.args.numbers.now k 0) c.log.page (get_or c.log.places k None) (c.log.invariant.seeks k within) found

-- An item that is damaged is one before the end of the sector, where two pages at most were read of it.
pub returns-in_err-item-clause-operations : goal.returns-in_err-item-clause-operations
returns-in_err-item-clause-operations g c = elim (cases_lt c.log.page c.args.at.used) [
  | inl below ↦ omega (arith, below, c.in_err-item.ensures.operations, c.log.invariant.operations)
  | inr past ↦ (let last : c.log.page ≡ c.args.at.used = omega (arith, past, c.log.invariant.goes_on.below) in omega (arith, last, c.in_err-item.ensures.nothing last, c.log.invariant.operations))
]

pub returns-in_err-blank_from-in-End-clause-operations : goal.returns-in_err-blank_from-in-End-clause-operations
returns-in_err-blank_from-in-End-clause-operations g c =
    let cost = subst (λ (item : Item). (g.F.Flash.state c.item.new.flash).operations ≤ (g.F.Flash.state c.log.flash).operations + reads_of item) c.in-End.is c.in_ok-item.ensures.costs in
    omega (arith, cost, c.in_err-blank_from-in-End.ensures.operations, c.log.invariant.operations, c.log.invariant.goes_on.below)

pub returns-in-End-clause-operations : goal.returns-in-End-clause-operations
returns-in-End-clause-operations g c =
    let cost = subst (λ (item : Item). (g.F.Flash.state c.item.new.flash).operations ≤ (g.F.Flash.state c.log.flash).operations + reads_of item) c.in-End.is c.in_ok-item.ensures.costs in
    omega (arith, cost, c.in_ok-blank_from-in-End.ensures.operations, c.log.invariant.operations, c.log.invariant.goes_on.below)
