use Rattle.std.specs.Prelude.{IsErrOf}
use Rattle.std.proofs.Common.{◌<◌, Err, refl, ap, arith}
use Rattle.flt_config.specs.declared.config.Config.{Config}
use Rattle.flt_nvm.specs.Driver.{driver_of as driver_beneath}
use Rattle.flt_store.specs.declared.fault.PutFault.TheVariants.{Flash, SequenceSpent as Spent}
use Rattle.flt_store.specs.Store.{driver_of}
use Rattle.flt_store.proofs.Causes.{resolved}
use Rattle.flt_store.proofs.Running.{failed_ok, told_by}
use Rattle.flt_store.proofs.Applying.{Puts, below_limit, put_runs, borne_on}
use Rattle.flt_store.proofs.Completing.{put_met_none}
use Rattle.flt_store.proofs.store.Store.put_block.Goals.{After-write_application}
use Rattle.flt_store.proofs.store.Store.put_block.Goals as goal

puts : (g : _) (c : After-write_application g) (config : Config) → c.args.block < config.blocks → Puts config c.args.block c.args.bytes.now (driver_of c.args.self.now) (driver_beneath c.write_application.new.nvm)
puts g c config below = let gives = rw c.new.ensures at c.write_application.ensures.gives in record { own = below; within = below_limit c.requires.alive; short = c.requires.can.most; either = gives.either; others = gives.others }

pub new-requires : goal.new-requires
new-requires g c = (omega arith, below_limit c.requires.alive)

pub returns-clause-puts : goal.returns-clause-puts
returns-clause-puts g c =
    let gives = rw c.new.ensures at c.in_ok-write_application.ensures.gives in
    record { put = gives.holds_asked; either = gives.either; others = gives.others; sequence = λ told. absurd (cc told) }

pub returns-in_err-write_application-clause-puts : goal.returns-in_err-write_application-clause-puts
returns-in_err-write_application-clause-puts g c =
    let gives = rw c.new.ensures at c.in_err-write_application.ensures.gives in
    record {
      put = failed_ok _ _ c.from_residual.result c.from_residual.ensures.1;
      either = gives.either;
      others = gives.others;
      sequence = λ told. gives.spent (ap Err (told_by _ c.from_residual.result Spent c.from_residual.ensures.1 told));
    }

pub returns-clause-running : goal.returns-clause-running
returns-clause-running g c = λ config below h s running. record {
  running = put_runs c.args.self.now _ (puts g (goal.at.returns-clause-running g c).After-write_application config below) c.write_application.ensures.writes.keeps_driver (refl, refl, refl) h s running;
  flash = λ told. absurd (cc told);
  completed = λ unhindered. refl;
}

pub returns-in_err-write_application-clause-running : goal.returns-in_err-write_application-clause-running
returns-in_err-write_application-clause-running g c = λ config below h s running.
    let answer = c.from_residual.result in
    let made = c.from_residual.ensures.1 in
    let put = puts g (goal.at.returns-in_err-write_application-clause-running g c).After-write_application config below in
    let flash = λ (told : IsErrOf answer Flash). resolved config running.served.valid_config (driver_of c.args.self.now) (driver_beneath c.write_application.new.nvm) _ c.in_err-write_application.ensures.writes c.args.self.now.numbers
    running.served.room running.served.mounted (borne_on put running.sound.holds.excess) (told_by _ answer Flash made told) in
    record {
      running = put_runs c.args.self.now _ put c.write_application.ensures.writes.keeps_driver (refl, refl, refl) h s running;
      flash = flash;
      completed = λ unhindered. put_met_none {T = Unit {0}} answer
          (λ told. unhindered.tries (flash told))
          (λ told. (let stuck = c.in_err-write_application.ensures.gives.spent (ap Err (told_by _ answer Spent made told)) in
          let spent = g.met.B.Blocks.stuck_is_spent c.write_application.new.nvm.blocks _ _ stuck in
          let left = unhindered.numbers in absurd (cc (spent, left))));
    }
