-- What is written of a generation's blocks.
use Rattle.std.specs.Prelude.{◌≡◌, ℕ, List, length, Option, IsTrue}
use Rattle.flt_flash.specs.Content.{Content, bytes}
use Rattle.flt_config.specs.declared.config.Config.{Config}
use Rattle.flt_store_model.specs.declared.commit.Commit.{Commit}
use Rattle.flt_store_model.specs.Layout.{first_commit, second_commit, number_of, index_in, is_used, part_of_block}
use Rattle.flt_store_model.specs.Form.{commit_bytes, part_length}
use Rattle.flt_store_model.specs.Successor.{is_written}

-- Both copies have the bytes of this commit in the version that is written.
abbrev pub AreCopiesOf : Commit → (ℕ → Content) → Type 0
AreCopiesOf commit value = (value first_commit ≡ bytes (commit_bytes commit)) × (value second_commit ≡ bytes (commit_bytes commit))

-- Each used block has as many bytes as its part.
abbrev pub AreSized : Config → (ℕ → List ℕ) → Type 0
AreSized c bytes_of = (id : ℕ) → IsTrue (is_used c id) → length (bytes_of id) ≡ part_length (part_of_block id)

-- This block has these bytes where the next commit names it.
abbrev pub IsBlockWritten : Commit → (ℕ → List ℕ) → (ℕ → Content) → ℕ → Type 0
IsBlockWritten next bytes_of value id = value (number_of id (index_in next id)) ≡ bytes (bytes_of id)

-- The blocks that are written for the next commit are where it names them.
abbrev pub AreWritten : Config → Option Commit → Commit → (ℕ → List ℕ) → (ℕ → Content) → Type 0
AreWritten c current next bytes_of value = (id : ℕ) → IsTrue (is_written c current next id) → IsBlockWritten next bytes_of value id
