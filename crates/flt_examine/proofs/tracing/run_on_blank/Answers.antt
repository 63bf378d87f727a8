use Rattle.std.proofs.Common.{◌≡◌, ◌∙◌, Some, arith, sym}
use Rattle.flt_flash.specs.Memory.{flash_state}
use Rattle.flt_flash.specs.declared.memory.FlashMem.{FlashMem}
use Rattle.flt_did.specs.Table.{dids_of}
use Rattle.flt_examine.specs.Source.{bytes_left_in}
use Rattle.flt_examine.specs.Traced.{blank_flash}
use Rattle.flt_examine.proofs.Blank.{runs_on_blank}
use Rattle.flt_examine.proofs.Made.{of_ok}
use Rattle.flt_examine.proofs.tracing.run_on_blank.Goals as goal

pub returns : goal.returns
returns g c =
    let blank = of_ok (λ (flash : FlashMem). flash_state flash ≡ blank_flash) c.blank.result c.in_ok-flash.flash (sym c.ok.ensures.value ∙ c.in_ok-flash.was) c.blank.ensures.state in
    runs_on_blank (dids_of c.args.dids) (Some (bytes_left_in c.run-outcome.new.source)) c.run-outcome.result (bytes_left_in c.new-source.result) c.args.bytes.now (flash_state c.in_ok-flash.flash)
    c.new-source.ensures blank c.run-outcome.ensures (λ seven. absurd (omega (arith, c.if-outcome-number.false, c.number.ensures, seven)))
