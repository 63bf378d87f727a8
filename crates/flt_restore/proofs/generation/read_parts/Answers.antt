use Rattle.std.proofs.Common.{◌≡◌, Result, arith, refl, ap, ◌∙◌, sym, Ok}
use Rattle.flt_config.specs.declared.persist.Persist.{Persist}
use Rattle.flt_nvm.specs.Driver.{driver_of}
use Rattle.flt_store_model.specs.Layout.{parts}
use Rattle.flt_store_model.specs.Holding.{Fault, parts_read}
use Rattle.flt_restore.specs.Judging.{HasFaultCause}
use Rattle.flt_restore.proofs.Telling.{handed_on, no_reads, more_reads}
use Rattle.flt_restore.proofs.Failing.{part_unread_from, was_flash}
use Rattle.flt_restore.proofs.TakingParts.{part_taken, part_refused}
use Rattle.flt_restore.proofs.generation.read_parts.Goals as goal

abbrev the_ok : Persist → Result Persist Fault
the_ok p = Ok p

is_ok : {p q : Persist} → p ≡ q → the_ok p ≡ the_ok q
is_ok same = ap the_ok same

pub loop-id-init : goal.loop-id-init
unfolding parts_read
loop-id-init g c = record {
  told = is_ok (sym c.put_initial.ensures.value);
  states = c.put_initial.ensures.fits.states.one_each;
  reads = no_reads (driver_of c.args.nvm.now);
  table = refl;
}

pub returns-in_err-read_part-clause-refused : goal.returns-in_err-read_part-clause-refused
returns-in_err-read_part-clause-refused g c =
    handed_on (HasFaultCause c.args.config.now (driver_of c.args.nvm.now) (driver_of c.read_part.new.nvm) (parts_read c.args.config.now (driver_of c.args.nvm.now).value c.args.commit.now parts))
    c.from_residual.result c.in_err-read_part.field-0.0 c.from_residual.ensures.1
    (part_refused c.args.config.now (driver_of c.args.nvm.now) (driver_of c.loop-id.nvm) c.loop-id.invariant.reads c.args.commit.now c.loop-id.id (omega (arith, c.loop-id.auto.id)) (omega (arith, c.loop-id-test.true))
    c.loop-id.out c.loop-id.invariant.told (driver_of c.read_part.new.nvm) c.in_err-read_part.field-0.0 c.in_err-read_part.ensures.refused)

pub loop-id-preserved : goal.loop-id-preserved
loop-id-preserved g c = record {
  told = part_taken c.args.config.now (driver_of c.args.nvm.now) (driver_of c.loop-id.nvm) c.loop-id.invariant.reads c.args.commit.now c.loop-id.id (omega (arith, c.loop-id.auto.id)) (omega (arith, c.loop-id-test.true))
      c.loop-id.out c.loop-id.invariant.told c.read_part.new.out c.in_ok-read_part.ensures.told;
  states = c.in_ok-read_part.ensures.states;
  reads = more_reads (driver_of c.args.nvm.now) (driver_of c.loop-id.nvm) (driver_of c.read_part.new.nvm) c.loop-id.invariant.reads c.in_ok-read_part.ensures.reads;
  table = c.in_ok-read_part.ensures.table ∙ c.loop-id.invariant.table;
}

pub returns-in_err-read_part-clause-unread : goal.returns-in_err-read_part-clause-unread
returns-in_err-read_part-clause-unread g c =
    λ flash.
    part_unread_from c.args.config.now c.args.commit.now (driver_of c.args.nvm.now) (driver_of c.loop-id.nvm) (driver_of c.read_part.new.nvm) c.loop-id.invariant.reads.calls
    (c.in_err-read_part.ensures.unread (was_flash c.from_residual.result _ c.from_residual.ensures.1 flash))

pub returns-in_err-read_part-clause-reads : goal.returns-in_err-read_part-clause-reads
returns-in_err-read_part-clause-reads g c =
    more_reads (driver_of c.args.nvm.now) (driver_of c.loop-id.nvm) (driver_of c.read_part.new.nvm) c.loop-id.invariant.reads c.in_err-read_part.ensures.reads
