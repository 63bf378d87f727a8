use Rattle.std.proofs.Common.{◌∙◌, ◌+◌, ◌-◌, inl, length, refl, arith}
use Rattle.flt_flash.proofs.CallsInARow.{no_call, more_calls}
use Rattle.flt_nvm.specs.Driver.{driver_of}
use Rattle.flt_image.specs.Blocks.{bytes_at}
use Rattle.flt_flash.specs.Blocks.{record_pages}
use Rattle.flt_store.proofs.Causes.{calls_done, none_written, within_on, writes_handed, writes_on}
use Rattle.flt_store.proofs.Costs.{spends_start, spends_through, spends_to_the_end}
use Rattle.flt_store.proofs.Running.{failed_ok}
use Rattle.flt_store.proofs.Successors.{used_of}
use Rattle.flt_store_model.proofs.Pages.{used_range}
use Rattle.flt_store.proofs.Writing.{written_more, only_more}
use Rattle.flt_store.proofs.generation.write_blocks.Goals as goal

pub loop-id-preserved : goal.loop-id-preserved
loop-id-preserved g c =
    let before = driver_of c.args.nvm.now in
    let middle = driver_of c.loop-id.nvm in
    let after = driver_of c.write_moved.new.nvm in
    record {
      written = written_more c.args.config.now c.args.current.now c.args.next.now (bytes_at c.args.blocks.now) c.requires.writable.indices c.loop-id.id middle.value after.value c.write_moved.ensures.only c.in_ok-write_moved.ensures.written c.loop-id.invariant.written;
      only = only_more c.args.config.now c.args.current.now c.args.next.now (bytes_at c.args.blocks.now) c.loop-id.id before.value middle.value after.value c.loop-id.invariant.only c.write_moved.ensures.only;
      within = within_on c.args.config.now before.value middle.value after.value c.loop-id.invariant.within c.write_moved.ensures.own.within;
      spends = λ most settled. spends_through most before middle after c.loop-id.invariant.keeps_driver c.write_moved.ensures.own.writes.keeps_driver c.args.config.now c.args.current.now c.args.next.now
          (λ id. record_pages (length (bytes_at c.args.blocks.now id))) c.loop-id.id c.loop-id.auto.id (c.loop-id.invariant.fresh settled) (c.loop-id.invariant.spends most settled) (c.write_moved.ensures.spends most);
      fresh = λ settled. c.in_ok-write_moved.ensures.own.not_stale (c.loop-id.invariant.fresh settled);
      keeps_driver = more_calls before middle after c.loop-id.invariant.keeps_driver c.write_moved.ensures.own.writes.keeps_driver;
      table = c.write_moved.ensures.table ∙ c.loop-id.invariant.table;
    }

pub loop-id-init : goal.loop-id-init
loop-id-init g c =
    let state = driver_of c.args.nvm.now in
    record {
      written = λ id below written. (let range = used_range c.args.config.now id (used_of c.args.config.now c.args.current.now c.args.next.now id written) in absurd (omega (arith, below, range.0)));
      only = λ number. inl refl;
      within = none_written c.args.config.now state.value;
      spends = λ most settled. spends_start most state c.args.config.now c.args.current.now c.args.next.now (λ id. record_pages (length (bytes_at c.args.blocks.now id)));
      fresh = λ settled. settled;
      keeps_driver = no_call state;
      table = refl;
    }

pub returns-in_err-write_moved-clause-spends : goal.returns-in_err-write_moved-clause-spends
returns-in_err-write_moved-clause-spends g c = λ most settled.
    let before = driver_of c.args.nvm.now in
    let middle = driver_of c.loop-id.nvm in
    let after = driver_of c.write_moved.new.nvm in
    spends_to_the_end most before after c.args.config.now c.args.current.now c.args.next.now (λ id. record_pages (length (bytes_at c.args.blocks.now id))) (c.loop-id.id + 1 - 3) (let below = c.loop-id-test.true in omega (arith, below))
    (spends_through most before middle after c.loop-id.invariant.keeps_driver c.write_moved.ensures.own.writes.keeps_driver c.args.config.now c.args.current.now c.args.next.now
    (λ id. record_pages (length (bytes_at c.args.blocks.now id))) c.loop-id.id c.loop-id.auto.id (c.loop-id.invariant.fresh settled) (c.loop-id.invariant.spends most settled) (c.write_moved.ensures.spends most))

pub returns-in_err-write_moved-clause-own : goal.returns-in_err-write_moved-clause-own
returns-in_err-write_moved-clause-own g c =
    let before = driver_of c.args.nvm.now in
    let middle = driver_of c.loop-id.nvm in
    let after = driver_of c.write_moved.new.nvm in
    record {
      within = within_on c.args.config.now before.value middle.value after.value c.loop-id.invariant.within c.write_moved.ensures.own.within;
      not_stale = λ fresh. failed_ok _ _ c.from_residual.result c.from_residual.ensures.1;
      writes = writes_handed before after c.write_moved.result c.from_residual.result _ c.in_err-write_moved.was c.from_residual.ensures.1
          (writes_on before middle after c.write_moved.result c.loop-id.invariant.keeps_driver c.write_moved.ensures.own.writes);
    }

pub returns-clause-own : goal.returns-clause-own
returns-clause-own g c = record {
  within = c.loop-id.invariant.within;
  not_stale = c.loop-id.invariant.fresh;
  writes = calls_done (driver_of c.args.nvm.now) (driver_of c.loop-id.nvm) tt c.loop-id.invariant.keeps_driver;
}

pub returns-clause-spends : goal.returns-clause-spends
returns-clause-spends g c = λ most settled.
    let end = c.loop-id.auto.id-end in
    spends_to_the_end most (driver_of c.args.nvm.now) (driver_of c.loop-id.nvm) c.args.config.now c.args.current.now c.args.next.now (λ id. record_pages (length (bytes_at c.args.blocks.now id)))
    (c.loop-id.id - 3) (omega (arith, end)) (c.loop-id.invariant.spends most settled)
