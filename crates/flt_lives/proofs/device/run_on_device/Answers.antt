use Rattle.std.proofs.Common.{◌≡◌, ◌∙◌, sym, ap, subst}
use Rattle.flt_flash.specs.Blocks.{BlocksState, device_of}
use Rattle.flt_store.specs.Cause.{HasRoom}
use Rattle.flt_store.specs.Store.{driver_of}
use Rattle.flt_lives.specs.Devices.{CanLiveOn}
use Rattle.flt_lives.proofs.Bridge.{left_on_device}
use Rattle.flt_lives.proofs.device.run_on_device.Goals as goal

pub run_lives-requires-clause-room : goal.run_lives-requires-clause-room
run_lives-requires-clause-room g c =
    let made : driver_of c.make-store.result ≡ g.D.Blocks.state c.in-Ok-open.driver = c.make-store.ensures ∙ c.make.ensures.driver in
    subst (λ (driver : BlocksState). HasRoom c.args.config.now driver.room) (sym made) c.in-Ok-open.ensures.room

pub run_lives-requires-clause-ready : goal.run_lives-requires-clause-ready
run_lives-requires-clause-ready g c =
    let made : driver_of c.make-store.result ≡ g.D.Blocks.state c.in-Ok-open.driver = c.make-store.ensures ∙ c.make.ensures.driver in
    subst (λ device. CanLiveOn c.args.config.now device c.args.lives.now) (sym (ap (λ (driver : BlocksState). driver.device) made ∙ c.in-Ok-open.ensures.device)) c.requires.ready

pub returns-in-Ok-open : goal.returns-in-Ok-open
returns-in-Ok-open g c =
    let made : driver_of c.make-store.result ≡ g.D.Blocks.state c.in-Ok-open.driver = c.make-store.ensures ∙ c.make.ensures.driver in
    let left = c.run_lives.ensures in
    let medium = g.D.Driver.medium c.args.config.now in
    let keeps = g.met.D.Driver.keeps c.args.config.now in
    rw c.ok-lives.ensures.value
    (left_on_device c.args.config.now medium c.args.lives.now c.run_lives.result g.D.Blocks c.make-store.result c.run_lives.new.store keeps
    (subst (λ (driver : BlocksState). HasRoom c.args.config.now driver.room) (sym made) c.in-Ok-open.ensures.room) left.lived left.stays_sound
    (device_of (g.D.Driver.device_state c.args.device)) (device_of (g.D.Driver.device_state c.close.result))
    (ap (λ (driver : BlocksState). driver.device) made ∙ c.in-Ok-open.ensures.device)
    (sym (c.close.ensures ∙ ap (λ (driver : BlocksState). driver.device) c.retire.ensures)))
