use Rattle.std.proofs.Common.{ℕ, List, IsTrue, refl, sym, subst}
use Rattle.flt_nvm.specs.declared.table.BlockCfg.{BlockCfg}
use Rattle.flt_nvm.specs.Table.{serves}
use Rattle.flt_store_model.specs.Layout.{numbers}
use Rattle.flt_store_tests.proofs.tests.kinds.copies_outlive_the_power.Goals as goal

pub make-nvm-requires : goal.make-nvm-requires
unfolding numbers
make-nvm-requires g c =
    subst (λ (ns : List ℕ). IsTrue (serves ns c.in_ok-from_array.field-0.items)) (sym c.in_ok-driver.ensures.0)
    (subst (λ (table : List BlockCfg). IsTrue (serves numbers table)) (sym c.in_ok-from_array.ensures.items) refl)
