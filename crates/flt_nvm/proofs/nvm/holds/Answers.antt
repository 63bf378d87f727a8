use Rattle.std.proofs.Common.{subst}
use Rattle.flt_nvm.specs.declared.got.Got.{Got}
use Rattle.flt_nvm.specs.Leaves.{GotOf}
use Rattle.flt_nvm.proofs.Found.{is_held}
use Rattle.flt_nvm.proofs.nvm.holds.Goals as goal

pub returns-in-Bytes : goal.returns-in-Bytes
returns-in-Bytes c = λ copy content before got.
    is_held copy content c.in-Bytes.length c.in-Bytes.copy before c.args.out.now c.args.bytes.now c.eq.result c.eq.ensures (subst (λ (g : Got). GotOf copy content g before c.args.out.now) c.in-Bytes.is got)
