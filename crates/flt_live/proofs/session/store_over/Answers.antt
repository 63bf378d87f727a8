use Rattle.std.proofs.Common.{◌≡◌, ◌∙◌, ◌<◌, sym, ap, subst}
use Rattle.flt_flash.specs.Blocks.{BlocksState, DeviceState}
use Rattle.flt_store.specs.Cause.{HasRoom}
use Rattle.flt_life_model.specs.Moment.{IsOn}
use Rattle.flt_store.specs.Store.{driver_of}
use Rattle.flt_live.proofs.session.store_over.Goals as goal

pub returns-in-Ok-clause-room : goal.returns-in-Ok-clause-room
returns-in-Ok-clause-room g c =
    let made : driver_of c.make-in-Ok.result ≡ g.D.Blocks.state c.in-Ok.driver = c.make-in-Ok.ensures ∙ c.make.ensures.driver in
    subst (λ (driver : BlocksState). HasRoom c.args.config.now driver.room) (sym made) c.in-Ok.ensures.room

pub returns-in-Ok-clause-boots : goal.returns-in-Ok-clause-boots
returns-in-Ok-clause-boots g c =
    let made : driver_of c.make-in-Ok.result ≡ g.D.Blocks.state c.in-Ok.driver = c.make-in-Ok.ensures ∙ c.make.ensures.driver in
    subst (λ (device : DeviceState). 0 < device.bench.boots_left) (sym (ap (λ (driver : BlocksState). driver.device) made ∙ c.in-Ok.ensures.device)) c.requires.boots

pub returns-in-Ok-clause-numbers : goal.returns-in-Ok-clause-numbers
returns-in-Ok-clause-numbers g c =
    let made : driver_of c.make-in-Ok.result ≡ g.D.Blocks.state c.in-Ok.driver = c.make-in-Ok.ensures ∙ c.make.ensures.driver in
    ap (λ (driver : BlocksState). driver.numbers) made ∙ c.in-Ok.ensures.numbers

pub returns-in-Ok-clause-device : goal.returns-in-Ok-clause-device
returns-in-Ok-clause-device g c =
    let made : driver_of c.make-in-Ok.result ≡ g.D.Blocks.state c.in-Ok.driver = c.make-in-Ok.ensures ∙ c.make.ensures.driver in
    ap (λ (driver : BlocksState). driver.device) made ∙ c.in-Ok.ensures.device

pub returns-in-Ok-clause-on : goal.returns-in-Ok-clause-on
returns-in-Ok-clause-on g c =
    let made : driver_of c.make-in-Ok.result ≡ g.D.Blocks.state c.in-Ok.driver = c.make-in-Ok.ensures ∙ c.make.ensures.driver in
    subst (IsOn (g.D.Driver.medium c.args.config.now)) (sym made) (g.met.D.Driver.keeps c.args.config.now c.in-Ok.driver c.in-Ok.ensures.numbers c.in-Ok.ensures.room)
