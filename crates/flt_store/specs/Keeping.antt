-- What a save leaves where it was.
use Rattle.std.specs.Prelude.{◌≡◌, ◌⊎◌, ℕ, List, Option, Some, IsTrue}
use Rattle.flt_flash.specs.Content.{Content, bytes}
use Rattle.flt_flash.specs.Blocks.{BlocksState}
use Rattle.flt_config.specs.declared.config.Config.{Config}
use Rattle.flt_config.specs.declared.persist.Persist.{Persist}
use Rattle.flt_store_model.specs.declared.commit.Commit.{Commit}
use Rattle.flt_store_model.specs.Layout.{first_commit, is_used, index_in}
use Rattle.flt_store_model.specs.Reading.{commit_in}
use Rattle.flt_store_model.specs.Successor.{KeepsIndices}
use Rattle.flt_store.specs.Cause.{FailsThrice}
use Rattle.flt_store.specs.Writing.{AreCopiesOf}

-- The commit that is read from the first copy.
abbrev pub HasCommit : Config → (ℕ → Content) → Commit → Type 0
HasCommit c value commit = (raw : List ℕ) × (value first_commit ≡ bytes raw) × (commit_in c raw ≡ Some commit)

-- This is the commit that is read from the first copy, if one is, or the flash failed three times.
abbrev pub IsOfFirst : Config → BlocksState → BlocksState → Option Commit → Type 0
IsOfFirst c before after found = (commit : Commit) → HasCommit c before.value commit → (found ≡ Some commit) ⊎ FailsThrice before after

-- The commit after a save names each used block whose bytes stayed at the index at which this commit did.
abbrev pub KeepsFrom : Config → Persist → Persist → Option Commit → (ℕ → Content) → Type 0
KeepsFrom c old new from after = (current next : Commit) → from ≡ Some current → HasCommit c after next → KeepsIndices c old new current next

-- The commit after a save names each used block whose bytes stayed at the index at which the commit before it did.
abbrev pub KeepsPlaces : Config → Persist → Persist → (ℕ → Content) → (ℕ → Content) → Type 0
KeepsPlaces c old new before after = (current next : Commit) → HasCommit c before current → HasCommit c after next → KeepsIndices c old new current next

-- Both copies have the commit after a save in the version that is written.
abbrev pub AreRewritten : Config → (ℕ → Content) → Type 0
AreRewritten c after = (commit : Commit) → HasCommit c after commit → AreCopiesOf commit after

-- The commit after a save names each used block at index 0.
abbrev pub StandAtZero : Config → (ℕ → Content) → Type 0
StandAtZero c after = (next : Commit) → HasCommit c after next → (id : ℕ) → IsTrue (is_used c id) → index_in next id ≡ 0
