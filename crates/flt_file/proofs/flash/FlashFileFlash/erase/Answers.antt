use Rattle.std.proofs.Common.{◌≡◌, ◌<◌, ◌*◌, ◌∙◌, ℕ, List, length, replicate, ap}
use Rattle.std.proofs.lemmas.Result.{on_ok_weaker, on_err_weaker}
use Rattle.flt_flash.specs.Image.{erased}
use Rattle.flt_file.specs.Bytes.{spliced}
use Rattle.flt_file.specs.Layout.{image_in}
use Rattle.flt_file.proofs.Paging.{image_erased, torn_image}
use Rattle.flt_file.proofs.flash.FlashFileFlash.erase.Goals as goal

erases : (pages sector : ℕ) (new held : List ℕ) → new ≡ replicate (32 * pages) 255 → length held ≡ 64 * pages → sector < 2
    → image_in pages (spliced (32 * (sector * pages)) new held) ≡ erased (image_in pages held) sector
erases pages sector new held is size lt =
    ap (λ bytes. image_in pages (spliced (32 * (sector * pages)) bytes held)) is ∙ image_erased pages held size sector lt

pub returns-clause-erased : goal.returns-clause-erased
returns-clause-erased g c =
    let pages = c.args.self.now.pages in let blank = c.deref.ensures.value ∙ c.args.self.now.all_blank in
    on_ok_weaker c.write.result (λ is. ap (image_in pages) is ∙ erases pages c.args.sector c.deref.result.now _ blank c.args.self.now.size c.requires)
    c.write.ensures.written

pub returns-clause-torn : goal.returns-clause-torn
returns-clause-torn g c =
    let pages = c.args.self.now.pages in let blank = c.deref.ensures.value ∙ c.args.self.now.all_blank in
    on_err_weaker c.write.result (λ torn. torn_image torn pages c.args.self.now.size
    (erases pages c.args.sector c.deref.result.now _ blank c.args.self.now.size c.requires)) c.write.ensures.torn
