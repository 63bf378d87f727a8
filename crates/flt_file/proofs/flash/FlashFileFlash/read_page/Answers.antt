use Rattle.std.proofs.Common.{◌∙◌}
use Rattle.std.proofs.lemmas.Result.{on_ok_weaker}
use Rattle.flt_file.proofs.Paging.{image_page}
use Rattle.flt_file.proofs.flash.FlashFileFlash.read_page.Goals as goal

pub returns-clause-read : goal.returns-clause-read
returns-clause-read g c =
    on_ok_weaker c.read.result (λ is. is ∙ image_page c.args.self.now.pages _ c.args.sector c.args.page c.requires.sector c.requires.page) c.read.ensures.read
