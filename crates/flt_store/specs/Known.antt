-- What a store keeps of the generation that it restored or saved last.
use Rattle.std.specs.Prelude.{◌≡◌, ◌⊎◌, ℕ, List, [], Option, Some, None, IsTrue}
use Rattle.flt_config.specs.declared.config.Config.{Config}
use Rattle.flt_config.specs.declared.persist.Persist.{Persist}
use Rattle.flt_store_model.specs.declared.commit.Commit.{Commit}
use Rattle.flt_store_model.specs.Layout.{is_used}
use Rattle.flt_store_model.specs.Form.{block_bytes}

-- The bytes of each used block of the state.
abbrev pub Knows : Config → (ℕ → List ℕ) → Persist → Type 0
Knows c kept state = (id : ℕ) → IsTrue (is_used c id) → kept id ≡ block_bytes state id

-- The same of a generation that a commit names; before the first save nothing is asked.
abbrev pub KnowsNamed : Config → Option Commit → (ℕ → List ℕ) → Persist → Type 0
KnowsNamed c None kept state = Unit {0}
KnowsNamed c (Some commit) kept state = Knows c kept state

-- The same, but for blocks that could not be read.
abbrev pub MayKnow : Config → Option Commit → (ℕ → List ℕ) → Persist → Type 0
MayKnow c None kept state = Unit {0}
MayKnow c (Some commit) kept state = (id : ℕ) → IsTrue (is_used c id) → (kept id ≡ []) ⊎ (kept id ≡ block_bytes state id)
