use Rattle.std.proofs.Common.{◌<◌, ℕ, List, ◌∙◌, ap, subst, arith, length}
use Rattle.flt_code.specs.Seal.{sealed}
use Rattle.flt_flash.specs.Image.{page_at, sector_at}
use Rattle.flt_pages.specs.Append.{BeginsSector}
use Rattle.flt_pages.proofs.Appended.{appended, failed_to_begin, begun_on, erased_page}
use Rattle.flt_pages.proofs.append.begin.Goals as goal

pub returns-in_err-erase : goal.returns-in_err-erase
returns-in_err-erase g c =
    record {
      begins = failed_to_begin (g.F.Flash.state c.args.flash.now) (g.F.Flash.state c.erase.new.self) c.args.sector _ c.in_err-erase.field-0.0 c.from_residual.result c.from_residual.ensures.0
          (g.met.F.Flash.shape c.args.flash.now) c.requires.sector c.in_err-erase.ensures.torn c.in_err-erase.ensures.wear c.in_err-erase.ensures.operation;
    }

pub returns : goal.returns
returns g c =
    let before = g.F.Flash.state c.args.flash.now in
    let middle = g.F.Flash.state c.erase.new.self in
    let after = g.F.Flash.state c.program.new.self in
    let shape = g.met.F.Flash.shape c.args.flash.now in
    let page = c.seal.ensures.page ∙ ap sealed c.put_word.ensures.bytes in
    let size : c.args.sector < length before.image = omega (arith, shape.sectors, c.requires.sector) in
    let room : 0 < length (sector_at before.image c.args.sector) = omega (arith, shape.pages c.args.sector c.requires.sector, c.requires.least, c.requires.most) in
    let blank = ap (λ (image : List (List (List ℕ))). page_at image c.args.sector 0) c.in_ok-erase.ensures.erased ∙ erased_page before.image c.args.sector 0 size room in
    let done = appended middle after c.args.sector 0 c.put_word.result c.seal.result c.program.result (g.met.F.Flash.shape c.erase.new.self)
    c.requires.sector (omega (arith, c.in_ok-erase.ensures.operation.pages)) blank c.seal.ensures.code_word c.program.ensures.programmed c.program.ensures.torn c.program.ensures.wear c.program.ensures.operation in
    let begins = begun_on before middle after c.args.sector c.seal.result c.program.result c.in_ok-erase.ensures.erased c.in_ok-erase.ensures.wear c.in_ok-erase.ensures.operation done in
    record { begins = subst (λ (p : List ℕ). BeginsSector before after c.args.sector p c.program.result) page begins }

pub program-requires-clause-page : goal.program-requires-clause-page
program-requires-clause-page g c = omega (arith, c.in_ok-erase.ensures.operation.pages, c.requires.least, c.requires.most)

pub program-requires-clause-blank : goal.program-requires-clause-blank
program-requires-clause-blank g c =
    let before = g.F.Flash.state c.args.flash.now in
    let shape = g.met.F.Flash.shape c.args.flash.now in
    let size : c.args.sector < length before.image = omega (arith, shape.sectors, c.requires.sector) in
    let room : 0 < length (sector_at before.image c.args.sector) = omega (arith, shape.pages c.args.sector c.requires.sector, c.requires.least, c.requires.most) in
    ap (λ (image : List (List (List ℕ))). page_at image c.args.sector 0) c.in_ok-erase.ensures.erased ∙ erased_page before.image c.args.sector 0 size room
