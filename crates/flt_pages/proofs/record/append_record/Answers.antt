use Rattle.std.proofs.Common.{◌+◌, ◌∙◌, ap, subst, arith}
use Rattle.flt_flash.specs.Image.{page_at}
use Rattle.flt_code.specs.Seal.{sealed}
use Rattle.flt_code.specs.Word.{word_bytes}
use Rattle.flt_code.specs.declared.words.Word.TheVariants.{Gate}
use Rattle.flt_pages.specs.Append.{Appends}
use Rattle.flt_pages.proofs.Recording.{on_any, never_ok, head_failed, fill_failed, bytes_blank, gate_blank, gate_laid}
use Rattle.flt_pages.proofs.record.append_record.Goals as goal

pub returns-in_err-append_head-clause-records : goal.returns-in_err-append_head-clause-records
returns-in_err-append_head-clause-records g c = head_failed (g.F.Flash.state c.args.flash.now) (g.met.F.Flash.shape c.args.flash.now) c.args.sector c.args.page c.args.block c.args.bytes.now c.args.valid c.requires.sector c.requires.room c.requires.blank
    (g.F.Flash.state c.append_head.new.flash) c.in_err-append_head.field-0.0 c.from_residual.result c.from_residual.ensures.0 c.in_err-append_head.ensures.appends

pub returns-in_err-fill-clause-records : goal.returns-in_err-fill-clause-records
returns-in_err-fill-clause-records g c = fill_failed (g.F.Flash.state c.args.flash.now) (g.met.F.Flash.shape c.args.flash.now) c.args.sector c.args.page c.args.block c.args.bytes.now c.args.valid c.requires.sector c.requires.room c.requires.blank
    (g.F.Flash.state c.append_head.new.flash) (g.met.F.Flash.shape c.append_head.new.flash) c.in_ok-append_head.ensures.appends
    (g.F.Flash.state c.fill.new.flash) c.in_err-fill.field-0.0 c.from_residual-in_err-fill.result c.from_residual-in_err-fill.ensures.0 c.in_err-fill.ensures.fills

pub returns-clause-records : goal.returns-clause-records
returns-clause-records g c =
    let gate = subst (λ n. Appends (g.F.Flash.state c.fill.new.flash) (g.F.Flash.state c.append_gate.new.flash) c.args.sector (c.args.page + 1 + n) (sealed (word_bytes (Gate c.args.block c.args.page))) c.append_gate.result)
    c.byte_pages.ensures c.append_gate.ensures.appends in
    gate_laid (g.F.Flash.state c.args.flash.now) (g.met.F.Flash.shape c.args.flash.now) c.args.sector c.args.page c.args.block c.args.bytes.now c.args.valid c.requires.sector c.requires.room c.requires.blank
    (g.F.Flash.state c.append_head.new.flash) (g.met.F.Flash.shape c.append_head.new.flash) c.in_ok-append_head.ensures.appends
    (g.F.Flash.state c.fill.new.flash) (g.F.Flash.state c.append_gate.new.flash) c.append_gate.result c.in_ok-fill.ensures.fills gate

pub overflow_add-page : goal.overflow_add-page
overflow_add-page g c = omega (arith, (g.met.F.Flash.shape c.args.flash.now).most, c.requires.room)

pub overflow_add-page-2 : goal.overflow_add-page-2
overflow_add-page-2 g c = omega (arith, (g.met.F.Flash.shape c.args.flash.now).most, c.requires.room)

pub overflow_add-page-3 : goal.overflow_add-page-3
overflow_add-page-3 g c = omega (arith, (g.met.F.Flash.shape c.args.flash.now).most, c.byte_pages.ensures, c.requires.room)

pub append_head-requires-clause-page : goal.append_head-requires-clause-page
append_head-requires-clause-page g c = omega (arith, c.requires.room)

pub append_head-requires-clause-blank : goal.append_head-requires-clause-blank
append_head-requires-clause-blank g c = c.requires.blank c.args.page (omega arith) (omega arith)

pub returns-in_err-append_head-clause-operations : goal.returns-in_err-append_head-clause-operations
returns-in_err-append_head-clause-operations g c = never_ok _ c.from_residual.result c.from_residual.ensures.0

pub fill-requires-clause-room : goal.fill-requires-clause-room
fill-requires-clause-room g c = omega (arith, c.in_ok-append_head.ensures.appends.operation.pages, c.requires.room)

pub fill-requires-clause-blank : goal.fill-requires-clause-blank
fill-requires-clause-blank g c = bytes_blank (g.F.Flash.state c.args.flash.now) (g.met.F.Flash.shape c.args.flash.now) c.args.sector c.args.page c.args.block c.args.bytes.now c.args.valid c.requires.sector c.requires.room c.requires.blank
    (g.F.Flash.state c.append_head.new.flash) (g.met.F.Flash.shape c.append_head.new.flash) c.in_ok-append_head.ensures.appends

pub returns-in_err-fill-clause-operations : goal.returns-in_err-fill-clause-operations
returns-in_err-fill-clause-operations g c = never_ok _ c.from_residual-in_err-fill.result c.from_residual-in_err-fill.ensures.0

pub append_gate-requires-clause-page : goal.append_gate-requires-clause-page
append_gate-requires-clause-page g c =
    omega (arith, c.byte_pages.ensures, c.in_ok-append_head.ensures.appends.operation.pages, c.in_ok-fill.ensures.fills.on.runs.pages, c.requires.room)

pub returns-clause-operations : goal.returns-clause-operations
returns-clause-operations g c =
    on_any c.append_gate.result
    (omega (arith, c.in_ok-append_head.ensures.appends.operation.operations, c.in_ok-fill.ensures.operations, c.append_gate.ensures.appends.operation.operations))

pub append_gate-requires-clause-blank : goal.append_gate-requires-clause-blank
append_gate-requires-clause-blank g c =
    ap (λ n. page_at (g.F.Flash.state c.fill.new.flash).image c.args.sector (c.args.page + 1 + n)) c.byte_pages.ensures
    ∙ gate_blank (g.F.Flash.state c.args.flash.now) (g.met.F.Flash.shape c.args.flash.now) c.args.sector c.args.page c.args.block c.args.bytes.now c.args.valid c.requires.sector c.requires.room c.requires.blank
    (g.F.Flash.state c.append_head.new.flash) (g.met.F.Flash.shape c.append_head.new.flash) c.in_ok-append_head.ensures.appends
    (g.F.Flash.state c.fill.new.flash) c.in_ok-fill.ensures.fills
