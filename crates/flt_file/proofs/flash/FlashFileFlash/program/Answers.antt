use Rattle.std.proofs.Common.{◌∙◌, ap}
use Rattle.std.proofs.lemmas.Result.{on_ok_weaker, on_err_weaker}
use Rattle.flt_file.specs.Layout.{image_in}
use Rattle.flt_file.proofs.Paging.{image_programmed, torn_image}
use Rattle.flt_file.proofs.flash.FlashFileFlash.program.Goals as goal

pub returns-clause-programmed : goal.returns-clause-programmed
returns-clause-programmed g c =
    let pages = c.args.self.now.pages in
    on_ok_weaker c.write.result (λ is. ap (image_in pages) is
    ∙ image_programmed pages _ c.args.self.now.size c.args.sector c.args.page c.args.bytes.now c.requires.sector c.requires.page c.told-bytes)
    c.write.ensures.written

pub returns-clause-torn : goal.returns-clause-torn
returns-clause-torn g c =
    let pages = c.args.self.now.pages in
    on_err_weaker c.write.result (λ torn. torn_image torn pages c.args.self.now.size
    (image_programmed pages _ c.args.self.now.size c.args.sector c.args.page c.args.bytes.now c.requires.sector c.requires.page c.told-bytes))
    c.write.ensures.torn
