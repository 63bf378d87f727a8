use Rattle.std.proofs.Common.{◌∙◌, ◌≤◌, ◌++◌, ℕ, List, length, length-take, take, refl, ap, arith}
use Rattle.flt_store_model.specs.Layout.{application_number}
use Rattle.flt_store.specs.Store.{driver_of}
use Rattle.flt_store.proofs.Applying.{below_limit, gets_nothing, gets_bytes, gets_short}
use Rattle.flt_store.proofs.Running.{reads_run}
use Rattle.flt_store.proofs.store.Store.get_block.Goals.{In-Ok-Bytes}
use Rattle.flt_store.proofs.store.Store.get_block.Goals as goal

short : (g : _) (c : In-Ok-Bytes g) → c.in-Ok-Bytes.length ≤ 32
short g c =
    gets_short ((driver_of c.args.self.now).value (application_number c.args.block)) c.in-Ok-Bytes.length _ _ _
    (c.requires.alive.2.running.sound.holds.applications c.args.block (below_limit c.requires.alive)) (rw (c.in-Ok-Bytes.field-0-is, c.new.ensures) at c.in-Ok-Bytes.ensures.got)

pub new-requires : goal.new-requires
new-requires g c = (omega arith, below_limit c.requires.alive)

pub slice_bounds-bytes-end : goal.slice_bounds-bytes-end
slice_bounds-bytes-end g c = omega (arith, short g (goal.at.slice_bounds-bytes-end g c).In-Ok-Bytes, c.type_inv.bytes)

pub push_all-requires : goal.push_all-requires
push_all-requires g c =
    omega (arith, short g (goal.at.push_all-requires g c).In-Ok-Bytes, ap length c.clear.ensures, length-take c.in-Ok-Bytes.length c.read_application.new.out)

pub returns-in-Ok-Missing-clause-running : goal.returns-in-Ok-Missing-clause-running
returns-in-Ok-Missing-clause-running g c = λ config h s running. record {
  got = gets_nothing _ _ _ _ (rw (c.in-Ok-Missing.field-0-is, c.new.ensures) at c.in-Ok-Missing.ensures.got) c.clear.ensures;
  running = reads_run c.args.self.now _ c.read_application.ensures.reads.values c.read_application.ensures.reads.calls.keeps_driver (refl, refl, refl) h s running;
  flash = tt;
  completed = λ never. refl;
}

pub returns-in-Ok-Bytes-clause-running : goal.returns-in-Ok-Bytes-clause-running
returns-in-Ok-Bytes-clause-running g c = λ config h s running. record {
  got = gets_bytes _ _ _ _ _ _ (rw (c.in-Ok-Bytes.field-0-is, c.new.ensures) at c.in-Ok-Bytes.ensures.got)
      (c.push_all.ensures ∙ ap (λ (held : List ℕ). held ++ take c.in-Ok-Bytes.length c.read_application.new.out) c.clear.ensures);
  running = reads_run c.args.self.now _ c.read_application.ensures.reads.values c.read_application.ensures.reads.calls.keeps_driver (refl, refl, refl) h s running;
  flash = tt;
  completed = λ never. refl;
}

pub returns-in-Err-Flash-clause-running : goal.returns-in-Err-Flash-clause-running
returns-in-Err-Flash-clause-running g c = λ config h s running.
    let flash = (rw c.in-Err-Flash.field-0-is at c.in-Err-Flash.ensures.three) refl in
    record {
      got = tt;
      running = reads_run c.args.self.now _ c.read_application.ensures.reads.values c.read_application.ensures.reads.calls.keeps_driver (refl, refl, refl) h s running;
      flash = flash;
      completed = λ never. absurd (never flash);
    }
