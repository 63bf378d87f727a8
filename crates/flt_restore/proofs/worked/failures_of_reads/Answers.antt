use Rattle.std.proofs.Common.{◌≡◌, ℕ, ◌+◌, ◌<◌, [], Some, None, Option, Err, inl, inr, refl, arith}
use Rattle.flt_flash.specs.Blocks.{BlocksState}
use Rattle.flt_flash.specs.declared.blocks.BlockFault.TheVariants.{Flash}
use Rattle.flt_flash.proofs.CallsInARow.{no_call}
use Rattle.flt_flash.proofs.Following.{bench_kept}
use Rattle.flt_nvm.specs.declared.got.Got.{Got}
use Rattle.flt_nvm.specs.Tries.{Tries, Looks}
use Rattle.flt_nvm.specs.Reads.{LooksInAJob}
use Rattle.flt_nvm.proofs.Looking.{reads_number}
use Rattle.flt_config.specs.declared.config.Config.{Config}
use Rattle.flt_store_model.specs.Layout.{mark_number, first_commit, second_commit}
use Rattle.flt_restore.specs.Examples.{after_calls, mounted, thrice}
use Rattle.flt_restore.specs.Judging.{IsSource}
use Rattle.flt_restore.specs.Unread.{FailsToRead, IsImageUnread, IsNamedUnread, IsStateUnread}
use Rattle.flt_restore.proofs.worked.failures_of_reads.Goals as goal

-- One read of the mark that failed.
fails_once : (calls faults : ℕ) (last : Option ℕ) → calls < 10 → faults < 10 → Looks {T = Got} 8 (after_calls calls faults last) (after_calls (calls + 1) (faults + 1) (Some 8)) (Err Flash)
fails_once calls faults last few rare = record {
  reads = record {
    values = λ block. refl;
    calls = record {
      keeps_driver = record {
        numbers = refl;
        room = refl;
        once_mounted = λ is. is;
        stays_spent = λ is. is;
        damage_stays = λ place is. absurd (cc is);
        no_new_damage = λ none. none;
        counts = omega arith;
        operations = omega arith;
        erases = omega arith;
        bench = bench_kept _;
      };
      flash = λ told. omega arith;
      damaged = λ sector page told. absurd (cc told);
      refuses_damage = tt;
    };
    never_full = record { full = λ live needed told. absurd (cc told); spent = λ told. absurd (cc told) };
    spent = refl;
    settled = tt;
    stale = λ fresh. fresh;
    image = λ fresh. refl;
  };
  once = record { calls = omega (arith, few); named = refl };
  costs = λ fresh none. absurd (none (omega arith));
}

job : LooksInAJob {T = Got} 8 mounted (thrice 8) (Err Flash)
unfolding Tries
job = inr (
  after_calls 2 1 (Some 8),
  fails_once 1 0 None (omega arith) (omega arith),
  inr (after_calls 3 2 (Some 8), fails_once 2 1 (Some 8) (omega arith) (omega arith), fails_once 3 2 (Some 8) (omega arith) (omega arith)),
)

fails : FailsToRead mark_number mounted (thrice 8)
fails = record { first = mounted; last = thrice 8; earlier = no_call mounted; fails = job; later = no_call (thrice 8); named = refl }

-- A job that failed raised the count of faults by three.
two_alone : FailsToRead mark_number mounted (after_calls 3 2 (Some 8)) → ⊥
two_alone fails =
    let rose = (reads_number 1 8 fails.first fails.last [] [] (Err Flash) fails.fails tt refl).three refl in
    omega (arith, rose, fails.earlier.counts, fails.later.counts)

-- Nothing is the commit of an image without one.
no_state : (c : Config) (after : BlocksState) → IsStateUnread c mounted after → ⊥
no_state c after unread = by_source unread.source unread.unread
  where
    by_source : IsSource mounted unread.middle unread.content unread.copy → IsNamedUnread c unread.content unread.middle after → ⊥
    by_source (inl either) named = absurd (cc (either.0, named.holds))
    by_source (inr second) named = absurd (cc (second.0, named.holds))

same_number : (one two : ℕ) (failed : Option ℕ) → failed ≡ Some one → failed ≡ Some two → one ≡ two
same_number one two failed is also = cc

-- The summary is neither the mark nor a copy of the commit.
of_no_other : (c : Config) (before after : BlocksState) → after.last_failed ≡ Some 24 → (IsStateUnread c before after → ⊥) → IsImageUnread c before after → ⊥
of_no_other c before after last none (inl mark) = let same = same_number 24 mark_number after.last_failed last mark.named in absurd (omega (arith, same))
of_no_other c before after last none (inr (inl (inl (middle, first, second)))) = let same = same_number 24 second_commit after.last_failed last second.named in absurd (omega (arith, same))
of_no_other c before after last none (inr (inl (inr (inl (first, empty))))) = let same = same_number 24 first_commit after.last_failed last first.named in absurd (omega (arith, same))
of_no_other c before after last none (inr (inl (inr (inr (second, empty))))) = let same = same_number 24 second_commit after.last_failed last second.named in absurd (omega (arith, same))
of_no_other c before after last none (inr (inr state)) = none state

pub returns : goal.returns
returns c = record {
  mark = fails;
  two = two_alone;
  another = λ fails. absurd (cc fails.named);
  unnamed = λ fails. absurd (cc fails.named);
  other_way = λ fails. absurd (cc fails.named);
  needed = λ config. inl fails;
  not_needed = λ config. of_no_other config mounted (thrice 24) refl (no_state config (thrice 24));
}
