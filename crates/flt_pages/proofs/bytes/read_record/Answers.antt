use Rattle.std.proofs.Common.{◌≡◌, ◌+◌, ◌*◌, ◌<◌, ◌≤◌, ◌++◌, ℕ, List, length, sym, ◌∙◌, ap, arith}
use Rattle.std.proofs.lemmas.Slice.{take-put_mid}
use Rattle.flt_flash.specs.Image.{sector_at, page_at}
use Rattle.flt_flash.proofs.Following.{one_read, reads_on}
use Rattle.flt_pages.proofs.Finding.{length_most}
use Rattle.flt_pages.proofs.Reading.{flat_more}
use Rattle.flt_pages.proofs.Recording.{never_ok, on_fault}
use Rattle.flt_pages.proofs.bytes.read_record.Goals as goal

pub loop-index-preserved : goal.loop-index-preserved
loop-index-preserved g c =
    let before = g.F.Flash.state c.args.flash.now in
    let pages = sector_at before.image c.args.sector in
    let shape = g.met.F.Flash.shape c.args.flash.now in
    let bytes = c.copy_from_slice.new.self in
    let most = length_most c.args.place.valid c.args.place.length c.requires.within.kind in
    let is : bytes ≡ page_at before.image c.args.sector (c.args.place.page + 1 + c.loop-index.index) =
    c.copy_from_slice.ensures.after ∙ c.in_ok-read_page.ensures.read
    ∙ ap (λ (image : List (List (List ℕ))). page_at image c.args.sector (c.args.place.page + 1 + c.loop-index.index)) c.loop-index.invariant.reads.image in
    let within : c.args.place.page + 1 + c.loop-index.index < length pages = omega (arith, shape.pages c.args.sector c.requires.sector, c.requires.within.below) in
    let size : length bytes ≡ 32 = ap length is ∙ shape.bytes c.args.sector c.requires.sector (c.args.place.page + 1 + c.loop-index.index) within in
    let long : 32 * (c.loop-index.index + 1) ≡ 32 * c.loop-index.index + length bytes = omega (arith, size) in
    let room : 32 * c.loop-index.index ≤ length c.loop-index.held = omega (arith, most) in
    record {
      reads = reads_on c.loop-index.invariant.reads (one_read c.in_ok-read_page.ensures.operation c.in_ok-read_page.ensures.image c.in_ok-read_page.ensures.wear);
      front =
          take-put_mid (32 * c.loop-index.index) _ c.loop-index.held bytes (32 * (c.loop-index.index + 1)) long room
          ∙ (λ i. c.loop-index.invariant.front i ++ is i)
          ∙ sym (flat_more pages (c.args.place.page + 1) c.loop-index.index within);
      operations = omega (arith, c.in_ok-read_page.ensures.operation.operations, c.loop-index.invariant.operations);
    }

pub overflow_add-place : goal.overflow_add-place
overflow_add-place g c = omega (arith, (g.met.F.Flash.shape c.args.flash.now).most, c.requires.within.below)

pub overflow_add-place-in-loop-index : goal.overflow_add-place-in-loop-index
overflow_add-place-in-loop-index g c = omega (arith, (g.met.F.Flash.shape c.args.flash.now).most, c.byte_pages-index-end.ensures, c.requires.within.below)

pub read_page-requires-clause-page : goal.read_page-requires-clause-page
read_page-requires-clause-page g c = omega (arith, c.byte_pages-index-end.ensures, c.loop-index.invariant.reads.runs.pages, c.requires.within.below)

pub returns-in_err-read_page-clause-read : goal.returns-in_err-read_page-clause-read
returns-in_err-read_page-clause-read g c = never_ok _ c.from_residual.result c.from_residual.ensures.0

pub returns-in_err-read_page-clause-operations : goal.returns-in_err-read_page-clause-operations
returns-in_err-read_page-clause-operations g c = never_ok _ c.from_residual.result c.from_residual.ensures.0

pub returns-in_err-read_page-clause-reads : goal.returns-in_err-read_page-clause-reads
returns-in_err-read_page-clause-reads g c =
    reads_on c.loop-index.invariant.reads (one_read c.in_err-read_page.ensures.operation c.in_err-read_page.ensures.image c.in_err-read_page.ensures.wear)

pub returns-in_err-read_page-clause-cause : goal.returns-in_err-read_page-clause-cause
returns-in_err-read_page-clause-cause g c =
    on_fault c.from_residual.result (omega (arith, c.in_err-read_page.ensures.operation.cause, c.loop-index.invariant.reads.runs.counts))

pub returns-clause-operations : goal.returns-clause-operations
returns-clause-operations g c = omega (arith, c.byte_pages-index-end.ensures, c.loop-index.invariant.operations)
