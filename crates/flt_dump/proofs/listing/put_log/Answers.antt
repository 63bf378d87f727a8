use Rattle.std.proofs.Common.{◌≡◌, ◌∙◌, ◌+◌, ◌-◌, ℕ, List, refl, sym, ap, subst, arith, Ok, Err}
use Rattle.flt_flash.specs.Blocks.{byte_pages}
use Rattle.flt_flash.specs.Image.{sector_at}
use Rattle.flt_sector_model.specs.Log.{item_at, first_written}
use Rattle.flt_pages.proofs.Scanning.{item_told}
use Rattle.flt_dump.specs.Copy.{copy_state}
use Rattle.flt_dump.proofs.Putting.{Puts, puts_none, puts_torn, puts_record, puts_all, puts_fault, fault_told, blank_told}
use Rattle.flt_dump.proofs.listing.put_log.Goals as goal

pub log-init : goal.log-init
log-init c = record {
  image = refl;
  pages = refl;
  puts = puts_none c.args.at.used c.args.numbers.now (sector_at (copy_state c.args.copy.now).image c.args.at.sector) c.args.out.now.items c.args.at.least;
}

pub returns-in-Err-clause-listed : goal.returns-in-Err-clause-listed
returns-in-Err-clause-listed c =
    let pages = sector_at (copy_state c.args.copy.now).image c.args.at.sector in
    let same = ap (λ (image : List (List (List ℕ))). item_at c.args.at.used c.args.numbers.now (sector_at image c.args.at.sector) c.log.page) c.log.invariant.image in
    let found = fault_told c.args.at.sector (item_at c.args.at.used c.args.numbers.now (sector_at (copy_state c.log.copy).image c.args.at.sector) c.log.page) c.in-Err.field-0 c.in-Err.ensures.item
    (λ flash. let rose = c.in-Err.ensures.cause (ap Err flash) in omega (arith, rose)) in
    puts_fault c.args.at.used c.args.numbers.now pages c.args.out.now.items c.log.out.items c.log.page c.log.invariant.puts found.0 (sym same ∙ found.1)

pub returns-in-Ok-End-clause-listed : goal.returns-in-Ok-End-clause-listed
returns-in-Ok-End-clause-listed c =
    let pages = sector_at (copy_state c.args.copy.now).image c.args.at.sector in
    let same = ap (λ (image : List (List (List ℕ))). item_at c.args.at.used c.args.numbers.now (sector_at image c.args.at.sector) c.log.page) c.log.invariant.image in
    let found = sym same ∙ item_told c.args.at.sector c.in-Ok-End.field-0 (item_at c.args.at.used c.args.numbers.now (sector_at (copy_state c.log.copy).image c.args.at.sector) c.log.page) c.in-Ok-End.ensures.item
    ∙ ap Ok c.in-Ok-End.field-0-is in
    let after = c.in-Ok-End.ensures.reads.image ∙ c.log.invariant.image in
    let written = ap (λ (image : List (List (List ℕ))). first_written (sector_at image c.args.at.sector) c.log.page (c.args.at.used - c.log.page)) after in
    let blank = blank_told c.args.at.sector _ c.blank_from.result c.blank_from.ensures.blank (λ flash. let rose = c.blank_from.ensures.cause flash in omega (arith, rose)) c.is_ok.result c.is_ok.ensures.value in
    puts_all c.args.at.used c.args.numbers.now pages c.args.out.now.items c.log.out.items c.log.page c.log.invariant.puts c.is_ok.result found
    (λ is. sym written ∙ blank.0 is) (λ is none. blank.1 is (written ∙ none))

pub log-preserved-in-Ok-Torn : goal.log-preserved-in-Ok-Torn
log-preserved-in-Ok-Torn c =
    let pages = sector_at (copy_state c.args.copy.now).image c.args.at.sector in
    let same = ap (λ (image : List (List (List ℕ))). item_at c.args.at.used c.args.numbers.now (sector_at image c.args.at.sector) c.log.page) c.log.invariant.image in
    let found = sym same ∙ item_told c.args.at.sector c.in-Ok-Torn.field-0 (item_at c.args.at.used c.args.numbers.now (sector_at (copy_state c.log.copy).image c.args.at.sector) c.log.page) c.in-Ok-Torn.ensures.item
    ∙ ap Ok c.in-Ok-Torn.field-0-is in
    record {
      image = c.in-Ok-Torn.ensures.reads.image ∙ c.log.invariant.image;
      pages = c.in-Ok-Torn.ensures.reads.runs.pages ∙ c.log.invariant.pages;
      puts = subst (λ (text : List ℕ). Puts c.args.at.used c.args.numbers.now pages c.args.out.now.items text (c.log.page + 1)) (sym c.in_ok-put_torn-in-Ok-Torn.ensures)
          (puts_torn c.args.at.used c.args.numbers.now pages c.args.out.now.items c.log.out.items c.log.page c.log.invariant.puts found);
    }

pub log-preserved : goal.log-preserved
log-preserved c =
    let pages = sector_at (copy_state c.args.copy.now).image c.args.at.sector in
    let same = ap (λ (image : List (List (List ℕ))). item_at c.args.at.used c.args.numbers.now (sector_at image c.args.at.sector) c.log.page) c.log.invariant.image in
    let found = sym same ∙ item_told c.args.at.sector c.in-Ok-Kept.field-0 (item_at c.args.at.used c.args.numbers.now (sector_at (copy_state c.log.copy).image c.args.at.sector) c.log.page) c.in-Ok-Kept.ensures.item
    ∙ ap Ok c.in-Ok-Kept.field-0-is in
    let next : c.log.page + 2 + byte_pages c.in-Ok-Kept.length ≡ c.from.result + 2 + c.from-in-Ok-Kept.result
    = (λ i. sym c.from.ensures i + 2 + (sym c.byte_pages.ensures ∙ sym c.from-in-Ok-Kept.ensures) i) in
    record {
      image = c.in-Ok-Kept.ensures.reads.image ∙ c.log.invariant.image;
      pages = c.in-Ok-Kept.ensures.reads.runs.pages ∙ c.log.invariant.pages;
      puts = subst (Puts c.args.at.used c.args.numbers.now pages c.args.out.now.items c.put_record.new.out.items) next
          (subst (λ (text : List ℕ). Puts c.args.at.used c.args.numbers.now pages c.args.out.now.items text (c.log.page + 2 + byte_pages c.in-Ok-Kept.length)) (sym c.in_ok-put_record-in-Ok-Kept.ensures)
          (puts_record c.args.at.used c.args.numbers.now pages c.args.out.now.items c.log.out.items c.log.page c.log.invariant.puts c.in-Ok-Kept.block c.in-Ok-Kept.length c.in-Ok-Kept.valid c.in-Ok-Kept.complete found));
    }
