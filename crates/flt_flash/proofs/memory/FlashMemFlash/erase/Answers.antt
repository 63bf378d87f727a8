use Rattle.std.proofs.Common.{◌≡◌, List, ℕ, length, replicate, arith}
use Rattle.flt_flash.specs.Image.{blank_page}
use Rattle.flt_flash.specs.Memory.{flash_state}
use Rattle.flt_flash.specs.PageArrays.{all_pages}
use Rattle.flt_flash.proofs.TornImages.{torn_in}
use Rattle.flt_flash.proofs.memory.FlashMemFlash.erase.Goals as goal
use Rattle.flt_flash.proofs.memory.FlashMemFlash.erase.Goals.{then-sector-eq0, else-sector-eq0}

pub returns-clause-torn : goal.returns-clause-torn
returns-clause-torn c =
    let torn = torn_in (λ (pages : List (List ℕ)). replicate (length pages) blank_page) (flash_state c.args.self.now).image c.count_write-failing.result c.outcome.result c.outcome.ensures in
    elim c.if-sector-eq0.branch [
      | then-sector-eq0 w ↦ rw (w.self-is, w.if-sector-eq0.true) (torn 0 (omega arith) (all_pages w.erase.new.self) w.erase.ensures.torn)
      | else-sector-eq0 w ↦
          let one : c.args.sector ≡ 1 = omega (arith, c.requires, w.if-sector-eq0.false) in
          rw (w.self-is, one) (torn 1 (omega arith) (all_pages w.erase-else-sector-eq0.new.self) w.erase-else-sector-eq0.ensures.torn)
    ]
