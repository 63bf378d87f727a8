-- An image after a start-up or a save that answered Ok: both copies of the commit name one generation.
use Rattle.std.specs.Prelude.{◌≡◌, ◌≢◌, ◌⊎◌, ℕ, ◌<◌, ◌+◌, Option, Some, None, IsTrue}
use Rattle.flt_flash.specs.Content.{Content, bytes}
use Rattle.flt_flash.specs.Blocks.{BlocksState}
use Rattle.flt_config.specs.declared.config.Config.{Config}
use Rattle.flt_config.specs.declared.persist.Persist.{Persist}
use Rattle.flt_store_model.specs.declared.commit.Commit.{Commit}
use Rattle.flt_store_model.specs.Layout.{applications, mark_number, first_commit, second_commit, application_number}
use Rattle.flt_store_model.specs.Form.{mark_of, mark_bytes}
use Rattle.flt_store_model.specs.Excess.{IsBorne}
use Rattle.flt_store_model.specs.Holding.{Generation, first_generation, CommitNames, only_bytes, is_application}
use Rattle.flt_store_model.specs.Successor.{IsContentOf, number_in}
use Rattle.flt_store.specs.Cause.{FailsThrice}
use Rattle.flt_restore.specs.Restored.{IsMarkDue}

-- The mark of the configuration is in the image, in the version that is written.
abbrev pub HasMark : Config → (ℕ → Content) → Type 0
HasMark c value = value mark_number ≡ bytes (mark_bytes (mark_of c))

-- The generation that a commit names; none names the first.
abbrev pub NamesOf : Config → (ℕ → Content) → Option Commit → Generation → Type 0
NamesOf c value None g = g ≡ first_generation c
NamesOf c value (Some commit) g = CommitNames c value commit g

-- The mark is there, and both copies of the commit, or neither before the first save, name the generation, by the same bytes.
pub record IsStarted (c : Config) (value : ℕ → Content) (commit : Option Commit) (g : Generation) : Type 0 where
  -- The mark of the configuration is there.
  pub mark : HasMark c value
  -- The first copy holds the commit.
  pub first : IsContentOf commit (value first_commit)
  -- The second copy holds the same bytes.
  pub equal : only_bytes (value second_commit) ≡ value first_commit
  -- The blocks that the commit names hold the generation.
  pub names : NamesOf c value commit g
  -- Each application block holds what such a block may hold.
  pub applications : (block : ℕ) → block < applications → IsTrue (is_application (value (application_number block)))
  -- No block is longer than the configuration allows.
  pub excess : IsBorne c value

-- The generation that a save of this state makes.
abbrev pub next_generation : Option Commit → Persist → Generation
next_generation commit state = record { number = number_in commit + 1; state = state }

-- The two agree but for the copies of the commit.
abbrev pub AgreeButForCommit : (ℕ → Content) → (ℕ → Content) → Type 0
AgreeButForCommit before after = (number : ℕ) → number ≢ first_commit → number ≢ second_commit → after number ≡ before number

-- The held generation was started, or the spare one, where the flash failed three times.
abbrev pub StartsEither : Config → BlocksState → BlocksState → Option Commit → Generation → Generation → Type 0
StartsEither c before after commit held spare =
    IsStarted c after.value commit held ⊎ (IsStarted c after.value commit spare × FailsThrice before after)

-- The mark is as it was, or was written anew where it had to be written.
abbrev pub IsMarkTried : Config → (ℕ → Content) → (ℕ → Content) → Type 0
IsMarkTried c before after = (after mark_number ≡ before mark_number) ⊎ (IsMarkDue (mark_of c) (before mark_number) × HasMark c after)
