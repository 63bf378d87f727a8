use Rattle.std.proofs.Common.{ℕ, List, IsTrue, refl, sym, subst, ◌∙◌, lit<}
use Rattle.std.specs.Prelude.{Contains}
use Rattle.flt_nvm.specs.declared.table.BlockCfg.{BlockCfg}
use Rattle.flt_nvm.specs.Table.{serves}
use Rattle.flt_store_model.specs.Layout.{numbers}
use Rattle.flt_store_tests.proofs.tests.kinds.blocks_are_kept_by_their_kind.Goals as goal

seventeen : Contains numbers 17
unfolding numbers
seventeen = (2, lit< tt, refl)

pub write-requires-clause-number : goal.write-requires-clause-number
write-requires-clause-number g c = subst (λ (ns : List ℕ). Contains ns 17) (sym c.in_ok-driver.ensures.0) seventeen

pub make-nvm-requires : goal.make-nvm-requires
unfolding numbers
make-nvm-requires g c =
    subst (λ (ns : List ℕ). IsTrue (serves ns c.in_ok-from_array.field-0.items)) (sym (c.write.ensures.calls.keeps_driver.numbers ∙ c.in_ok-driver.ensures.0))
    (subst (λ (table : List BlockCfg). IsTrue (serves numbers table)) (sym c.in_ok-from_array.ensures.items) refl)
