use Rattle.std.proofs.Common.{◌≡◌, ◌+◌, ◌<◌, ℕ, List, [], get_or, length, ◌∙◌, ap, arith}
use Rattle.flt_flash.specs.Image.{sector_at}
use Rattle.flt_flash.specs.Blocks.{byte_pages}
use Rattle.flt_flash.proofs.Following.{one_read}
use Rattle.flt_pages.specs.RecordPlace.{record_at, record_bytes_at}
use Rattle.flt_pages.proofs.Filling.{filled_all}
use Rattle.flt_pages.proofs.PageBytes.{bytes_size}
use Rattle.flt_pages.proofs.Copying.{copy_unread, copy_torn, copied}
use Rattle.flt_pages.proofs.Recording.{never_ok}
use Rattle.flt_pages.proofs.bytes.copy_bytes.Goals as goal

pub returns-in_err-read_page-clause-fills : goal.returns-in_err-read_page-clause-fills
returns-in_err-read_page-clause-fills g c =
    let more : c.loop-index.index < byte_pages c.args.place.length = omega (arith, c.byte_pages-index-end.ensures) in
    copy_unread (g.F.Flash.state c.args.flash.now) (g.F.Flash.state c.loop-index.flash) (g.F.Flash.state c.read_page.new.self) (g.met.F.Flash.shape c.args.flash.now) (g.met.F.Flash.shape c.read_page.new.self)
    c.args.sector c.args.other c.args.first c.args.place c.loop-index.index c.requires.sector c.requires.other c.requires.apart c.requires.within c.requires.room more
    (one_read c.in_err-read_page.ensures.operation c.in_err-read_page.ensures.image c.in_err-read_page.ensures.wear) c.loop-index.invariant.on c.loop-index.invariant.apart
    c.from_residual.result c.from_residual.ensures.0 c.in_err-read_page.ensures.operation.cause

pub returns-in_err-append_piece-clause-fills : goal.returns-in_err-append_piece-clause-fills
returns-in_err-append_piece-clause-fills g c =
    let more : c.loop-index.index < byte_pages c.args.place.length = omega (arith, c.byte_pages-index-end.ensures) in
    copy_torn (g.F.Flash.state c.args.flash.now) (g.F.Flash.state c.loop-index.flash) (g.F.Flash.state c.read_page.new.self) (g.met.F.Flash.shape c.args.flash.now) (g.met.F.Flash.shape c.read_page.new.self)
    c.args.sector c.args.other c.args.first c.args.place c.loop-index.index c.requires.sector c.requires.other c.requires.apart c.requires.within c.requires.room more
    (one_read c.in_ok-read_page.ensures.operation c.in_ok-read_page.ensures.image c.in_ok-read_page.ensures.wear) c.loop-index.invariant.on c.loop-index.invariant.apart
    (g.F.Flash.state c.append_piece.new.flash) _ c.in_err-append_piece.field-0.0 c.from_residual-in_err-append_piece.result c.from_residual-in_err-append_piece.ensures.0 c.in_err-append_piece.ensures.appends

pub loop-index-preserved : goal.loop-index-preserved
loop-index-preserved g c =
    let more : c.loop-index.index < byte_pages c.args.place.length = omega (arith, c.byte_pages-index-end.ensures) in
    let done = copied (g.F.Flash.state c.args.flash.now) (g.F.Flash.state c.loop-index.flash) (g.F.Flash.state c.read_page.new.self) (g.met.F.Flash.shape c.args.flash.now) (g.met.F.Flash.shape c.read_page.new.self)
    c.args.sector c.args.other c.args.first c.args.place c.loop-index.index c.requires.sector c.requires.other c.requires.apart c.requires.within c.requires.room more
    (one_read c.in_ok-read_page.ensures.operation c.in_ok-read_page.ensures.image c.in_ok-read_page.ensures.wear) c.loop-index.invariant.on c.loop-index.invariant.apart
    (g.F.Flash.state c.append_piece.new.flash) c.piece_size-size.result c.read_page.new.out c.loop-index.invariant.filled c.piece_size-size.ensures c.in_ok-read_page.ensures.read c.in_ok-append_piece.ensures.appends in
    record { on = done.on; apart = done.apart; filled = done.filled; operations = omega (arith, c.in_ok-read_page.ensures.operation.operations, c.in_ok-append_piece.ensures.appends.operation.operations, c.loop-index.invariant.operations) }

pub returns-clause-fills : goal.returns-clause-fills
returns-clause-fills g c =
    let before = g.F.Flash.state c.args.flash.now in
    let shape = g.met.F.Flash.shape c.args.flash.now in
    let now = g.F.Flash.state c.loop-index.flash in
    let bytes = record_bytes_at (sector_at before.image c.args.sector) c.args.place in
    let size = bytes_size (sector_at before.image c.args.sector) (shape.bytes c.args.sector c.requires.sector) (record_at 0 c.args.place) (omega (arith, c.requires.within.below, shape.pages c.args.sector c.requires.sector)) in
    let last : c.loop-index.index ≡ byte_pages (length bytes) = omega (arith, c.byte_pages-index-end.ensures, size) in
    let kept = c.loop-index.invariant.apart in
    record {
      pages = sector_at now.image c.args.other;
      on = c.loop-index.invariant.on;
      apart = record { size = kept.size; before = kept.before; behind = λ k le. kept.behind k (omega (arith, le, last)) };
      holds_asked = filled_all (sector_at now.image c.args.other) c.args.first bytes c.loop-index.index last c.loop-index.invariant.filled;
      cause = tt;
    }

pub overflow_add-place : goal.overflow_add-place
overflow_add-place g c = omega (arith, (g.met.F.Flash.shape c.args.flash.now).most, c.requires.within.below)

pub overflow_add-place-in-loop-index : goal.overflow_add-place-in-loop-index
overflow_add-place-in-loop-index g c = omega (arith, (g.met.F.Flash.shape c.args.flash.now).most, c.byte_pages-index-end.ensures, c.requires.within.below)

pub read_page-requires-clause-page : goal.read_page-requires-clause-page
read_page-requires-clause-page g c = omega (arith, c.byte_pages-index-end.ensures, c.loop-index.invariant.on.runs.pages, c.requires.within.below)

pub overflow_add-first : goal.overflow_add-first
overflow_add-first g c = omega (arith, (g.met.F.Flash.shape c.args.flash.now).most, c.byte_pages-index-end.ensures, c.requires.room)

pub append_piece-requires-clause-page : goal.append_piece-requires-clause-page
append_piece-requires-clause-page g c =
    omega (arith, c.byte_pages-index-end.ensures, c.loop-index.invariant.on.runs.pages, c.in_ok-read_page.ensures.operation.pages, c.requires.room)

pub append_piece-requires-clause-blank : goal.append_piece-requires-clause-blank
append_piece-requires-clause-blank g c =
    ap (λ (image : List (List (List ℕ))). get_or (sector_at image c.args.other) (c.args.first + c.loop-index.index) []) c.in_ok-read_page.ensures.image
    ∙ c.loop-index.invariant.apart.behind (c.args.first + c.loop-index.index) (omega arith)
    ∙ c.requires.blank (c.args.first + c.loop-index.index) (omega arith) (omega (arith, c.byte_pages-index-end.ensures))

pub returns-in_err-read_page-clause-operations : goal.returns-in_err-read_page-clause-operations
returns-in_err-read_page-clause-operations g c = never_ok _ c.from_residual.result c.from_residual.ensures.0

pub returns-in_err-append_piece-clause-operations : goal.returns-in_err-append_piece-clause-operations
returns-in_err-append_piece-clause-operations g c = never_ok _ c.from_residual-in_err-append_piece.result c.from_residual-in_err-append_piece.ensures.0

pub returns-clause-operations : goal.returns-clause-operations
returns-clause-operations g c = omega (arith, c.byte_pages-index-end.ensures, c.loop-index.invariant.operations)
