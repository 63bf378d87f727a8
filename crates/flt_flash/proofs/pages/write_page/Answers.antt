use Rattle.std.proofs.Common.{◌≡◌, [], get_or, ◌∙◌, ap, subst, set}
use Rattle.std.proofs.lemmas.List.{set-get_or, get_or_read}
use Rattle.flt_flash.specs.declared.arm.Pattern.TheVariants.{Nothing}
use Rattle.flt_flash.specs.Arms.{IsTornPageBy}
use Rattle.flt_flash.proofs.TornBy.{untouched_page}
use Rattle.flt_flash.proofs.pages.write_page.Goals as goal

pub returns-in-Some-clause-untouched : goal.returns-in-Some-clause-untouched
returns-in-Some-clause-untouched c = λ same.
    let read : IsTornPageBy c.in-Some.pattern 16 (get_or c.args.pages.now.items c.args.page []) c.args.bytes.now c.tear_page.new.page =
    subst (λ p. IsTornPageBy c.in-Some.pattern 16 p c.args.bytes.now c.tear_page.new.page) (get_or_read c.args.pages.now.items c.args.page _ c.requires c.index_mut-in-Some.ensures.value []) c.tear_page.ensures in
    let nothing : c.in-Some.pattern ≡ Nothing = cc in
    ap (set c.args.pages.now.items c.args.page) (untouched_page 16 (get_or c.args.pages.now.items c.args.page []) c.args.bytes.now c.tear_page.new.page (subst (λ p. IsTornPageBy p 16 (get_or c.args.pages.now.items c.args.page []) c.args.bytes.now c.tear_page.new.page) nothing read))
    ∙ set-get_or c.args.pages.now.items c.args.page []
