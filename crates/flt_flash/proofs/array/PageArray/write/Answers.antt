use Rattle.std.proofs.Common.{◌<◌, length, arith}
use Rattle.flt_flash.proofs.PageArrays.{whole_page, page_by_pattern, torn_array}
use Rattle.flt_flash.proofs.array.PageArray.write.Goals as goal

pub returns-clause-whole : goal.returns-clause-whole
returns-clause-whole c =
    let within : c.args.page < length c.reach.new.self.front.items = omega (arith, c.reach.ensures.reached) in
    whole_page c.reach.new.self.front.items _ c.write_page.new.pages.items c.reach.new.self.count c.args.page c.args.bytes.now within c.reach.ensures.pages c.args.failing c.write_page.ensures.whole

pub returns-clause-torn : goal.returns-clause-torn
returns-clause-torn c =
    let within : c.args.page < length c.reach.new.self.front.items = omega (arith, c.reach.ensures.reached) in
    torn_array c.reach.new.self.front.items _ c.write_page.new.pages.items c.reach.new.self.count c.args.page c.args.bytes.now within c.reach.ensures.pages c.args.failing c.write_page.ensures.by_pattern

pub returns-clause-by_pattern : goal.returns-clause-by_pattern
returns-clause-by_pattern c =
    let within : c.args.page < length c.reach.new.self.front.items = omega (arith, c.reach.ensures.reached) in
    page_by_pattern c.reach.new.self.front.items _ c.write_page.new.pages.items c.reach.new.self.count c.args.page c.args.bytes.now within c.reach.ensures.pages c.args.failing c.write_page.ensures.by_pattern
