use Rattle.std.proofs.Common.{◌∷◌, List}
use Rattle.flt_config.specs.declared.config.Config.{Config}
use Rattle.flt_dcm.specs.Unit.{UnitView}
use Rattle.flt_flash.specs.declared.blocks.Blocks.{Ghosts}
use Rattle.flt_store.specs.declared.store.Store.{Store}
use Rattle.flt_store.specs.Store.{IsRunning}
use Rattle.flt_store_model.specs.Holding.{Generation}
use Rattle.flt_life_model.specs.Answers.{Told}
use Rattle.flt_life_model.specs.Journal.{Journal}
use Rattle.flt_life_model.specs.declared.answer.StepAnswer.TheVariants as answers
use Rattle.flt_life_model.proofs.Causing.{caused_read, caused_unread}
use Rattle.flt_life_model.proofs.HeldBlocks.{gets_bytes, gets_none}
use Rattle.flt_life_model.proofs.Keeping.{IsNoSave, kept_other}
use Rattle.flt_lives.specs.Living.{IsLiving}
use Rattle.flt_lives.proofs.reading.get.Goals as goal

-- A read leaves the generations as they are.
read_on : {B : Type 0} {b : Ghosts B} (c : Config) (first : Generation) (journal : Journal) (told : List Told) (unit : UnitView) (store next : Store B b) (answer : Told) → IsNoSave answer
    → ((held spare : Generation) → IsRunning c held spare store → IsRunning c held spare next) → IsLiving c first journal told unit store → IsLiving c first journal (answer ∷ told) unit next
read_on c first journal told unit store next answer none running living = record {
  stands = living.stands;
  held = living.held;
  spare = living.spare;
  running = running living.held living.spare living.running;
  kept = kept_other c first journal told living.held living.spare living.kept answer none;
}

pub get_block-requires : goal.get_block-requires
get_block-requires g c = record { alive = (c.args.config.now, c.requires.block, c.requires.alive) }

pub returns-in-Ok-true-clause-alive : goal.returns-in-Ok-true-clause-alive
returns-in-Ok-true-clause-alive g c = record { held = _; spare = _; running = (c.get_block.ensures.running c.args.config.now c.requires.alive.held c.requires.alive.spare c.requires.alive.running).running }

pub returns-in-Ok-false-clause-alive : goal.returns-in-Ok-false-clause-alive
returns-in-Ok-false-clause-alive g c = record { held = _; spare = _; running = (c.get_block.ensures.running c.args.config.now c.requires.alive.held c.requires.alive.spare c.requires.alive.running).running }

pub returns-in-Err-clause-alive : goal.returns-in-Err-clause-alive
returns-in-Err-clause-alive g c = record { held = _; spare = _; running = (c.get_block.ensures.running c.args.config.now c.requires.alive.held c.requires.alive.spare c.requires.alive.running).running }

pub returns-in-Ok-true-clause-reads : goal.returns-in-Ok-true-clause-reads
returns-in-Ok-true-clause-reads g c = λ response. record {
  is = tt;
  living = λ first journal told unit living. read_on c.args.config.now first journal told unit c.args.store.now c.get_block.new.self (answers.Bytes c.get_block.new.out) tt (λ held spare running. (c.get_block.ensures.running c.args.config.now held spare running).running) living;
  caused = λ begun told caused.
      caused_read c.args.config.now begun told c.args.store.now c.get_block.new.self caused (answers.Bytes c.get_block.new.out) tt c.get_block.ensures.calls (c.get_block.ensures.running c.args.config.now caused.held_now caused.spare_now caused.running).running;
  found = gets_bytes _ c.in-Ok-true.field-0 _ (c.in-Ok-true.ensures.running c.args.config.now c.requires.alive.held c.requires.alive.spare c.requires.alive.running).got c.in-Ok-true.field-0-test;
  values = c.get_block.ensures.values;
  keeps_driver = c.get_block.ensures.calls;
}

pub returns-in-Ok-false-clause-reads : goal.returns-in-Ok-false-clause-reads
returns-in-Ok-false-clause-reads g c = λ response. record {
  is = tt;
  living = λ first journal told unit living. read_on c.args.config.now first journal told unit c.args.store.now c.get_block.new.self (answers.NoBlock) tt (λ held spare running. (c.get_block.ensures.running c.args.config.now held spare running).running) living;
  caused = λ begun told caused.
      caused_read c.args.config.now begun told c.args.store.now c.get_block.new.self caused (answers.NoBlock) tt c.get_block.ensures.calls (c.get_block.ensures.running c.args.config.now caused.held_now caused.spare_now caused.running).running;
  found = gets_none _ c.in-Ok-false.field-0 _ (c.in-Ok-false.ensures.running c.args.config.now c.requires.alive.held c.requires.alive.spare c.requires.alive.running).got c.in-Ok-false.field-0-test;
  values = c.get_block.ensures.values;
  keeps_driver = c.get_block.ensures.calls;
}

pub returns-in-Err-clause-reads : goal.returns-in-Err-clause-reads
returns-in-Err-clause-reads g c = λ response. record {
  is = tt;
  living = λ first journal told unit living. read_on c.args.config.now first journal told unit c.args.store.now c.get_block.new.self (answers.BlockFlash) tt (λ held spare running. (c.get_block.ensures.running c.args.config.now held spare running).running) living;
  caused = λ begun told caused.
      caused_unread c.args.config.now begun told c.args.store.now c.get_block.new.self caused c.get_block.ensures.calls
      (c.in-Err.ensures.running c.args.config.now caused.held_now caused.spare_now caused.running).flash (c.get_block.ensures.running c.args.config.now caused.held_now caused.spare_now caused.running).running;
  found = tt;
  values = c.get_block.ensures.values;
  keeps_driver = c.get_block.ensures.calls;
}
