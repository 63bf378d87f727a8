use Rattle.std.proofs.Common.{◌≡◌, ◌⊎◌, ◌+◌, ◌*◌, ◌<◌, ◌∙◌, inl, inr, length, arith}
use Rattle.flt_flash.specs.Image.{sector_at}
use Rattle.flt_flash.specs.Blocks.{byte_pages}
use Rattle.flt_pages.proofs.FillStep.{lays, piece_failed, piece_laid}
use Rattle.flt_pages.proofs.Filling.{filled_all}
use Rattle.flt_pages.proofs.Recording.{never_ok}
use Rattle.flt_pages.proofs.record.fill.Goals as goal
use Rattle.flt_pages.proofs.record.fill.Goals.{then-start-bytes, else-start-bytes}

pub returns-in_err-append_piece-clause-fills : goal.returns-in_err-append_piece-clause-fills
returns-in_err-append_piece-clause-fills g c =
    let shape = g.met.F.Flash.shape c.args.flash.now in
    let more : c.loop-index.index < byte_pages (length c.args.bytes.now) = omega (arith, c.byte_pages-index-end.ensures) in
    let appends = c.in_err-append_piece.ensures.appends in
    piece_failed c.args.bytes.now c.loop-index.index (omega (arith, shape.sectors, c.requires.sector)) more c.loop-index.invariant.on c.loop-index.invariant.apart (lays appends) appends.operation.cause c.from_residual.result c.from_residual.ensures.0

pub loop-index-preserved : goal.loop-index-preserved
loop-index-preserved g c =
    let shape = g.met.F.Flash.shape c.args.flash.now in
    let more : c.loop-index.index < byte_pages (length c.args.bytes.now) = omega (arith, c.byte_pages-index-end.ensures) in
    let ends : (c.if-start-bytes.end ≡ 32 * c.loop-index.index + 32) ⊎ ((c.if-start-bytes.end ≡ length c.args.bytes.now) × (length c.args.bytes.now < 32 * c.loop-index.index + 32)) =
    elim c.if-start-bytes.branch [ then-start-bytes w ↦ inl (omega arith) | else-start-bytes w ↦ inr (omega arith, omega arith) ] in
    let appends = c.in_ok-append_piece.ensures.appends in
    let step = piece_laid c.args.bytes.now c.loop-index.index (omega (arith, shape.sectors, c.requires.sector)) more c.loop-index.invariant.on c.loop-index.invariant.apart (lays appends)
    c.if-start-bytes.end ends (omega (arith, shape.pages c.args.sector c.requires.sector, c.requires.room)) c.loop-index.invariant.filled (lays appends).holds_asked in
    record { on = step.on; apart = step.apart; filled = step.filled; operations = omega (arith, appends.operation.operations, c.loop-index.invariant.operations) }

pub overflow_add-first : goal.overflow_add-first
overflow_add-first g c = omega (arith, (g.met.F.Flash.shape c.args.flash.now).most, c.byte_pages-index-end.ensures, c.requires.room)

pub append_piece-requires-clause-page : goal.append_piece-requires-clause-page
append_piece-requires-clause-page g c = omega (arith, c.byte_pages-index-end.ensures, c.loop-index.invariant.on.runs.pages, c.requires.room)

pub append_piece-requires-clause-blank : goal.append_piece-requires-clause-blank
append_piece-requires-clause-blank g c =
    c.loop-index.invariant.apart.behind (c.args.first + c.loop-index.index) (omega arith)
    ∙ c.requires.blank (c.args.first + c.loop-index.index) (omega arith) (omega (arith, c.byte_pages-index-end.ensures))

pub returns-in_err-append_piece-clause-operations : goal.returns-in_err-append_piece-clause-operations
returns-in_err-append_piece-clause-operations g c = never_ok _ c.from_residual.result c.from_residual.ensures.0

pub returns-clause-fills : goal.returns-clause-fills
returns-clause-fills g c =
    let pages = sector_at (g.F.Flash.state c.loop-index.flash).image c.args.sector in
    let last : c.loop-index.index ≡ byte_pages (length c.args.bytes.now) = omega (arith, c.byte_pages-index-end.ensures) in
    let kept = c.loop-index.invariant.apart in
    record {
      pages = pages;
      on = c.loop-index.invariant.on;
      apart = record { size = kept.size; before = kept.before; behind = λ k le. kept.behind k (omega (arith, le, last)) };
      holds_asked = filled_all pages c.args.first c.args.bytes.now c.loop-index.index last c.loop-index.invariant.filled;
      cause = tt;
    }

pub returns-clause-operations : goal.returns-clause-operations
returns-clause-operations g c = omega (arith, c.byte_pages-index-end.ensures, c.loop-index.invariant.operations)
