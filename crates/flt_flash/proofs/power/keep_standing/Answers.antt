use Rattle.std.proofs.Common.{rules}
use Rattle.arrayvec.proofs.ArrayVecLemmas.{filter-from_retain}
use Rattle.flt_flash.specs.Arms.{stands}
use Rattle.flt_flash.proofs.power.keep_standing.Goals as goal

pub returns-clause-items : goal.returns-clause-items
returns-clause-items c = filter-from_retain _ stands _ (λ x b f' y k. search rules) _ _ c.retain.ensures.filtered
