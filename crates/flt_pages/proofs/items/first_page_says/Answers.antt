use Rattle.std.proofs.Common.{sym, ◌∙◌, ap}
use Rattle.flt_flash.specs.Image.{blank_page}
use Rattle.flt_sector_model.specs.Log.{item_by_code, item_by_head}
use Rattle.flt_pages.proofs.ItemCases.{item_by}
use Rattle.flt_pages.proofs.items.first_page_says.Goals as goal

pub returns-then-eq-clause-means : goal.returns-then-eq-clause-means
unfolding blank_page
returns-then-eq-clause-means c = λ pages is. item_by c.args.used c.args.numbers.now pages c.args.page c.args.bytes.now _ c.requires is c.if-eq.ensures

pub returns-in-None-clause-means : goal.returns-in-None-clause-means
unfolding blank_page
returns-in-None-clause-means c = λ pages is. item_by c.args.used c.args.numbers.now pages c.args.page c.args.bytes.now _ c.requires is c.if-eq.ensures ∙ ap (item_by_code c.args.used c.args.numbers.now pages c.args.page) (sym c.unseal.ensures.unsealed ∙ c.in-None.is)

pub returns-in-Some-clause-means : goal.returns-in-Some-clause-means
unfolding blank_page
returns-in-Some-clause-means c = λ pages is. item_by c.args.used c.args.numbers.now pages c.args.page c.args.bytes.now _ c.requires is c.if-eq.ensures
    ∙ ap (item_by_code c.args.used c.args.numbers.now pages c.args.page) (sym c.unseal.ensures.unsealed ∙ c.in-Some.is)
    ∙ ap (item_by_head c.args.used c.args.numbers.now pages c.args.page) (sym c.get_word.ensures.read)
    ∙ c.begin_by_head.ensures.means pages
