use Rattle.std.proofs.Common.{◌≡◌, List, ℕ, sym, subst}
use Rattle.std.proofs.lemmas.Slice.Eq.{bytes_eq-Decides}
use Rattle.flt_code.specs.Seal.{IsCodeWordOf}
use Rattle.flt_code.proofs.Unsealed.{unsealed_by, no_code}
use Rattle.flt_code.proofs.code.unseal.Goals as goal

pub returns-then-eq-clause-bytes : goal.returns-then-eq-clause-bytes
returns-then-eq-clause-bytes c =
    let same : c.args.page.now ≡ c.seal.result = (bytes_eq-Decides c.args.page.now c.seal.result).0 (sym c.if-eq.ensures) in
    subst (λ (page : List ℕ). IsCodeWordOf c.copy_from_slice.new.self page) (sym same) c.seal.ensures.code_word

pub returns-then-eq-clause-unsealed : goal.returns-then-eq-clause-unsealed
returns-then-eq-clause-unsealed c = sym (unsealed_by c.args.page.now c.copy_from_slice.new.self c.seal.result _ c.told-page c.copy_from_slice.ensures.after c.seal.ensures.page c.if-eq.ensures)

pub returns-else-eq-clause-none : goal.returns-else-eq-clause-none
returns-else-eq-clause-none c = no_code c.args.page.now (unsealed_by c.args.page.now c.copy_from_slice.new.self c.seal.result _ c.told-page c.copy_from_slice.ensures.after c.seal.ensures.page c.if-eq.ensures)

pub returns-else-eq-clause-unsealed : goal.returns-else-eq-clause-unsealed
returns-else-eq-clause-unsealed c = sym (unsealed_by c.args.page.now c.copy_from_slice.new.self c.seal.result _ c.told-page c.copy_from_slice.ensures.after c.seal.ensures.page c.if-eq.ensures)
