use Rattle.std.proofs.Common.{◌≡◌, ◌<◌, ◌∙◌, true, Ok, Err, subst, sym}
use Rattle.std.specs.Prelude.{OnOk, is_ok}
use Rattle.std.specs.declared.result.Result.{Result}
use Rattle.std.proofs.lemmas.Bool.{false≢true}
use Rattle.flt_flash.specs.Content.{bytes as holding}
use Rattle.flt_queue.specs.Call.{whole}
use Rattle.flt_store_model.specs.Layout.{application_number}
use Rattle.flt_nvm.specs.Leaves.{IsEither}
use Rattle.flt_store.specs.Store.{driver_of}
use Rattle.flt_life_model.specs.Draining.{WritesJob}
use Rattle.flt_life_model.proofs.Causing.{rose_by}
use Rattle.flt_lane.proofs.drain.write_job.Goals as goal

-- What was put, where that was answered.
on_ok : {T E : Type 0} (result : Result T E) (P : Type 0) → OnOk result P → is_ok result ≡ true → P
on_ok (Ok value) P holds is = holds
on_ok (Err fault) P holds is = absurd (false≢true is)

pub put_block-requires-clause-alive : goal.put_block-requires-clause-alive
put_block-requires-clause-alive g c =
    let alive = c.requires.alive in
    (alive.0, subst (λ n. c.args.job.now.block < n) (sym alive.1) c.requires.job.0, alive.2)

pub returns-clause-wrote : goal.returns-clause-wrote
returns-clause-wrote g c = λ config same.
    let job = c.args.job.now in
    let number = application_number job.block in
    let before = driver_of c.args.store.now in
    let after = driver_of c.put_block.new.self in
    let result = c.put_block.result in
    let within : job.block < config.blocks = subst (λ n. job.block < n) (sym same) c.requires.job.0 in
    let counts = c.put_block.ensures.calls.counts in
    let put : WritesJob config job (is_ok result) c.args.store.now c.put_block.new.self = record {
      all = on_ok result (after.value number ≡ holding job.bytes.items) (subst (λ l. OnOk result (after.value number ≡ holding l)) c.deref.ensures.0 c.put_block.ensures.puts.put);
      either = subst (λ l. IsEither before after number (holding l)) c.deref.ensures.0 c.put_block.ensures.puts.either;
      others = c.put_block.ensures.puts.others;
      running = λ held spare running. (c.put_block.ensures.running config within held spare running).running;
      rose = λ held spare running unspent. rose_by result before.device.faults after.device.faults after.is_spent (c.put_block.ensures.running config within held spare running).flash
          (λ is. g.met.B.Blocks.stuck_is_spent c.put_block.new.self.nvm.blocks _ _ (c.put_block.ensures.puts.sequence is)) counts unspent;
      keeps_driver = c.put_block.ensures.calls;
    } in
    subst (λ w. WritesJob config job w c.args.store.now c.put_block.new.self) (sym c.is_ok-written.ensures.value) put

pub returns-clause-noted : goal.returns-clause-noted
returns-clause-noted g c = (whole c.in-Ok._noted c.args.job.now, c.in-Ok.ensures.call c.args.job.now)

pub returns-clause-lock : goal.returns-clause-lock
returns-clause-lock g c = (c.in-Ok.ensures.call c.args.job.now).place.lock ∙ c.requires.lock
