use Rattle.std.proofs.Common.{◌↔◌, List, IsTrue, subst, take}
use Rattle.flt_nvm.specs.declared.table.BlockCfg.{BlockCfg}
use Rattle.flt_nvm.specs.Table.{IsRedundant}
use Rattle.flt_nvm.proofs.Rows.{front_tells}
use Rattle.flt_nvm.proofs.nvm.Nvm.is_redundant.Goals as goal

pub returns : goal.returns
returns g c =
    let rows = c.args.self.now.redundant_rows in
    let front = front_tells c.args.self.now.table.items rows c.args.id c.args.self.now.none in
    let told = subst (λ (table : List BlockCfg). IsTrue c.is_redundant.result ↔ IsRedundant (take rows table) c.args.id) c.deref.ensures.value c.is_redundant.ensures in
    (λ yes. front.1 (told.0 yes), λ redundant. told.1 (front.0 redundant))
