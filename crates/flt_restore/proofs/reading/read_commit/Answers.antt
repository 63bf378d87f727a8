use Rattle.std.proofs.Common.{List, sym, subst, arith, inl}
use Rattle.flt_nvm.specs.declared.table.BlockCfg.{BlockCfg}
use Rattle.flt_nvm.specs.Driver.{driver_of}
use Rattle.flt_nvm.specs.Table.{HasPlace}
use Rattle.flt_restore.proofs.Rows.{commit_has_place}
use Rattle.flt_restore.proofs.Failing.{if_err}
use Rattle.flt_restore.proofs.reading.read_commit.Goals as goal

pub look_up-second-requires-clause-place : goal.look_up-second-requires-clause-place
look_up-second-requires-clause-place g c = subst (λ (table : List BlockCfg). HasPlace table 2 1) (sym c.requires.readable.table) (commit_has_place 1 (omega arith))

pub look_up-requires-clause-place : goal.look_up-requires-clause-place
look_up-requires-clause-place g c = subst (λ (table : List BlockCfg). HasPlace table 2 0) (sym c.requires.readable.table) (commit_has_place 0 (omega arith))

pub returns-in-Err-Flash-clause-fails : goal.returns-in-Err-Flash-clause-fails
returns-in-Err-Flash-clause-fails g c =
    let earlier = c.read_source.ensures.reads.calls.counts in
    if_err c.read_source-in-Err-Flash.result (λ fault second. record {
      fault_is = second.fault_is;
      unread = inl (driver_of c.read_source.new.nvm, c.in-Err-Flash.ensures.fails.unread, second.unread);
      flash = let rose = second.flash in omega (arith, earlier, rose);
    }) c.read_source-in-Err-Flash.ensures.fails
