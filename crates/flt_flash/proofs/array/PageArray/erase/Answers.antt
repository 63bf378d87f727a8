use Rattle.std.proofs.Common.{◌≡◌, List, ℕ, ◌++◌, ◌-◌, length, replicate, ◌∙◌, ap, subst, arith}
use Rattle.std.proofs.lemmas.List.{with_items_is}
use Rattle.flt_flash.specs.declared.arm.Pattern.TheVariants.{Nothing}
use Rattle.flt_flash.specs.Arms.{IsErasedBy}
use Rattle.flt_flash.specs.Image.{blank_page}
use Rattle.flt_flash.proofs.TornBy.{untouched_sector}
use Rattle.flt_flash.proofs.array.PageArray.erase.Goals as goal

pub returns-in-Some-clause-untouched : goal.returns-in-Some-clause-untouched
returns-in-Some-clause-untouched c = λ same.
    let front = c.reach.new.self.front in
    let nothing : c.in-Some.pattern ≡ Nothing = cc in
    let kept = with_items_is front c.tear_sector.new.pages (omega (arith, front.ok.0))
    ∙ untouched_sector _ _ (subst (λ p. IsErasedBy p front.items c.tear_sector.new.pages) nothing (rw c.deref_mut.ensures.value at c.tear_sector.ensures)) in
    ap (λ (l : List (List ℕ)). l ++ replicate (c.reach.new.self.count - length l) blank_page) kept ∙ c.reach.ensures.pages
