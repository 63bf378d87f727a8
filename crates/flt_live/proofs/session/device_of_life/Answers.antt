use Rattle.std.proofs.Common.{◌≡◌, ◌∙◌, sym, ap, subst}
use Rattle.flt_flash.specs.Blocks.{BlocksState}
use Rattle.flt_store.specs.Cause.{HasRoom}
use Rattle.flt_store.specs.Store.{driver_of}
use Rattle.flt_life_model.specs.Moment.{IsOn}
use Rattle.flt_live.proofs.session.device_of_life.Goals as goal

pub returns-clause-on : goal.returns-clause-on
returns-clause-on g c =
    let config = c.args.config.now in
    let is : g.D.Blocks.state c.retire.result ≡ driver_of c.args.store = c.retire.ensures in
    subst (IsOn (g.D.Driver.medium config)) is (g.met.D.Driver.keeps config c.retire.result (ap (λ (driver : BlocksState). driver.numbers) is ∙ c.requires.numbers)
    (subst (λ (driver : BlocksState). HasRoom config driver.room) (sym is) c.requires.room))
