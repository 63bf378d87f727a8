-- Worked calls of a start-up: which reads that failed are those of a block that it needs.
use Rattle.std.specs.Prelude.{ℕ, false, true, [], ◌∷◌, Option, Some, None}
use Rattle.flt_flash.specs.Content.{missing}
use Rattle.flt_flash.specs.Blocks.{BlocksState}
use Rattle.flt_config.specs.declared.config.Config.{Config}
use Rattle.flt_store_model.specs.Layout.{mark_number, first_commit}
use Rattle.flt_restore.specs.Unread.{FailsToRead, IsImageUnread}

-- A driver of the mark, the commit and the summary, none ever written, after this many calls, of which the flash failed this many,
-- and this number last.
abbrev pub after_calls : ℕ → ℕ → Option ℕ → BlocksState
after_calls calls faults last_failed = record {
  numbers = 8 ∷ 16 ∷ 17 ∷ 24 ∷ 25 ∷ [];
  is_stale = false;
  has_mounted = true;
  calls = calls;
  last_failed = last_failed;
  value = λ block. missing;
  damage = None;
  room = Some 10;
  is_spent = false;
  is_stuck = λ block size. false;
  device = record {
    faults = faults;
    image = [];
    operations = Some calls;
    erases = Some 0;
    bench = record { boots = []; boots_left = 0; arms = None; armed = 0 };
  };
}

-- A driver that mounted.
abbrev pub mounted : BlocksState
mounted = after_calls 1 0 None

-- Three reads of this number that failed followed.
abbrev pub thrice : ℕ → BlocksState
thrice number = after_calls 4 3 (Some number)

-- Three reads of the mark that failed are those of the mark alone, and two are not enough. Nor are any three enough where none is of a
-- block that is read: without a commit the summary, 24, is not read.
pub record FailuresOfReads : Type 0 where
  pub mark : FailsToRead mark_number mounted (thrice 8)
  pub two : FailsToRead mark_number mounted (after_calls 3 2 (Some 8)) → ⊥
  pub another : FailsToRead mark_number mounted (thrice 16) → ⊥
  pub unnamed : FailsToRead mark_number mounted (after_calls 4 3 None) → ⊥
  pub other_way : FailsToRead first_commit mounted (thrice 8) → ⊥
  pub needed : (c : Config) → IsImageUnread c mounted (thrice 8)
  pub not_needed : (c : Config) → IsImageUnread c mounted (thrice 24) → ⊥
