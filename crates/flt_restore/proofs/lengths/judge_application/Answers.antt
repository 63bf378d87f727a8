use Rattle.std.proofs.Common.{◌+◌, List, sym, subst}
use Rattle.flt_nvm.specs.declared.table.BlockCfg.{BlockCfg}
use Rattle.flt_nvm.specs.Table.{HasPlace}
use Rattle.flt_restore.proofs.Rows.{application_is_single, single_has_place}
use Rattle.flt_restore.proofs.lengths.judge_application.Goals as goal

pub look_up-requires-clause-place : goal.look_up-requires-clause-place
look_up-requires-clause-place g c = subst (λ (table : List BlockCfg). HasPlace table (64 + c.args.block) 0) (sym c.requires.table) (single_has_place (64 + c.args.block) 0 (application_is_single c.args.block c.requires.within))
