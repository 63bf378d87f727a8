use Rattle.std.proofs.Common.{arith}
use Rattle.flt_flash.specs.Image.{blank_page}
use Rattle.flt_flash.proofs.PageArrays.{page_behind}
use Rattle.flt_flash.proofs.array.PageArray.page.Goals as goal

pub returns-else-page-len : goal.returns-else-page-len
unfolding blank_page
returns-else-page-len c = page_behind c.args.self.now.front.items c.args.self.now.count c.args.page (omega (arith, c.if-page-len.false, c.len.ensures)) c.requires
