use Rattle.std.proofs.Common.{◌≡◌, ◌<◌, length, sym, ◌∙◌, ap, arith}
use Rattle.std.proofs.lemmas.List.{length-map}
use Rattle.flt_flash.specs.Image.{page_at}
use Rattle.flt_flash.specs.Boots.{two_sectors, power_up_of, boots_of, boot_at}
use Rattle.flt_flash.proofs.Saved.{no_mark, first_page, second_page}
use Rattle.flt_flash.proofs.memory.FlashMem.boot_page.Goals as goal

pub returns-then-sector-eq0 : goal.returns-then-sector-eq0
returns-then-sector-eq0 c =
    let flash = c.args.self.now in
    let saved : c.args.boot < length flash.boots.marks.items =
    omega (arith, c.requires.boot, length-map flash.boots.marks.items (power_up_of (two_sectors flash.pages) flash.boots)) in
    c.page.ensures no_mark
    ∙ first_page flash.pages c.args.boot c.args.page flash.boots saved c.requires.page
    ∙ ap (λ sector. page_at (boot_at (boots_of (two_sectors flash.pages) flash.boots) c.args.boot).image sector c.args.page) (sym c.if-sector-eq0.true)

pub returns-else-sector-eq0 : goal.returns-else-sector-eq0
returns-else-sector-eq0 c =
    let flash = c.args.self.now in
    let saved : c.args.boot < length flash.boots.marks.items =
    omega (arith, c.requires.boot, length-map flash.boots.marks.items (power_up_of (two_sectors flash.pages) flash.boots)) in
    let one : 1 ≡ c.args.sector = omega (arith, c.requires.sector, c.if-sector-eq0.false) in
    c.page-else-sector-eq0.ensures no_mark
    ∙ second_page flash.pages c.args.boot c.args.page flash.boots saved
    ∙ ap (λ sector. page_at (boot_at (boots_of (two_sectors flash.pages) flash.boots) c.args.boot).image sector c.args.page) one
