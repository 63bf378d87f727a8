use Rattle.std.proofs.Common.{ℕ, List, ◌∙◌, ap, subst}
use Rattle.flt_code.specs.Seal.{sealed}
use Rattle.flt_pages.specs.Append.{Appends}
use Rattle.flt_pages.proofs.Appended.{appended}
use Rattle.flt_pages.proofs.append.append_head.Goals as goal

pub returns : goal.returns
returns g c =
    let before = g.F.Flash.state c.args.flash.now in
    let after = g.F.Flash.state c.program.new.self in
    let page = c.seal.ensures.page ∙ ap sealed c.put_word.ensures.bytes in
    let done = appended before after c.args.sector c.args.page c.put_word.result c.seal.result c.program.result (g.met.F.Flash.shape c.args.flash.now)
    c.requires.sector c.requires.page c.requires.blank c.seal.ensures.code_word c.program.ensures.programmed c.program.ensures.torn c.program.ensures.wear c.program.ensures.operation in
    record { appends = subst (λ (p : List ℕ). Appends before after c.args.sector c.args.page p c.program.result) page done }
