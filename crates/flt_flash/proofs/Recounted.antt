-- What is said of calls of a driver does not depend on what it keeps of them.
use Rattle.std.proofs.Common.{ℕ, Option, Result}
use Rattle.flt_flash.specs.Content.{Content}
use Rattle.flt_flash.specs.Blocks.{BlocksState, IsFull, recounted}
use Rattle.flt_flash.specs.Calls.{Follows, BlockCalls, Changes, Costs, ReadsAlone}
use Rattle.flt_flash.specs.declared.blocks.BlockFault.{BlockFault}

module _ (earlier : ℕ) (failed : Option ℕ) (later : ℕ) (failed_later : Option ℕ) (before after : BlocksState) where
  pub follows_recounted : Follows before after → Follows (recounted earlier failed before) (recounted later failed_later after)
  follows_recounted follows = record {
    numbers = follows.numbers;
    room = follows.room;
    once_mounted = follows.once_mounted;
    stays_spent = follows.stays_spent;
    damage_stays = follows.damage_stays;
    no_new_damage = follows.no_new_damage;
    counts = follows.counts;
    operations = follows.operations;
    erases = follows.erases;
    bench = follows.bench;
  }

  pub calls_recounted : {T : Type 0} {result : Result T BlockFault} → BlockCalls before after result → BlockCalls (recounted earlier failed before) (recounted later failed_later after) result
  calls_recounted calls = record {
    keeps_driver = follows_recounted calls.keeps_driver;
    flash = calls.flash;
    damaged = calls.damaged;
    refuses_damage = calls.refuses_damage;
  }

  pub reads_recounted : {T : Type 0} {result : Result T BlockFault} → ReadsAlone before after result → ReadsAlone (recounted earlier failed before) (recounted later failed_later after) result
  reads_recounted reads = record {
    values = reads.values;
    calls = calls_recounted reads.calls;
    never_full = reads.never_full;
    spent = reads.spent;
    settled = reads.settled;
    stale = reads.stale;
    image = reads.image;
  }

  full_recounted : {size live needed : ℕ} → IsFull after size live needed → IsFull (recounted later failed_later after) size live needed
  full_recounted full = record { live_is = full.live_is; needed_is = full.needed_is; past = full.past }

  pub changes_recounted : {block : ℕ} {asked : Content} {size : ℕ} {result : Result (Unit {0}) BlockFault} → Changes before after block asked size result
      → Changes (recounted earlier failed before) (recounted later failed_later after) block asked size result
  changes_recounted changes = record {
    holds_asked = changes.holds_asked;
    failed = changes.failed;
    others = changes.others;
    full = λ live needed told. (full_recounted (changes.full live needed told).0, (changes.full live needed told).1);
    spent = changes.spent;
    damaged = changes.damaged;
  }

  pub costs_recounted : {size : ℕ} → Costs before after size → Costs (recounted earlier failed before) (recounted later failed_later after) size
  costs_recounted costs = record { at_the_end = costs.at_the_end; at_most = costs.at_most }
