use Rattle.std.proofs.Common.{◌≡◌, List, ℕ, set, arith}
use Rattle.flt_flash.specs.Memory.{flash_state}
use Rattle.flt_flash.specs.PageArrays.{all_pages}
use Rattle.flt_flash.proofs.TornImages.{torn_in}
use Rattle.flt_flash.proofs.memory.FlashMemFlash.program.Goals as goal
use Rattle.flt_flash.proofs.memory.FlashMemFlash.program.Goals.{then-sector-eq0, else-sector-eq0}

pub returns-clause-torn : goal.returns-clause-torn
returns-clause-torn c =
    let torn = torn_in (λ (pages : List (List ℕ)). set pages c.args.page c.args.bytes.now) (flash_state c.args.self.now).image c.count_write-failing.result c.outcome.result c.outcome.ensures in
    elim c.if-sector-eq0.branch [
      | then-sector-eq0 w ↦ rw (w.self-is, w.if-sector-eq0.true) (torn 0 (omega arith) (all_pages w.write.new.self) w.write.ensures.torn)
      | else-sector-eq0 w ↦
          let one : c.args.sector ≡ 1 = omega (arith, c.requires.sector, w.if-sector-eq0.false) in
          rw (w.self-is, one) (torn 1 (omega arith) (all_pages w.write-else-sector-eq0.new.self) w.write-else-sector-eq0.ensures.torn)
    ]
