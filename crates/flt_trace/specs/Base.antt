-- The state with which a life began, as texts.
use Rattle.std.specs.Prelude.{◌≡◌, ℕ, List, map, IsTrue}
use Rattle.hex.specs.Hex.{IsBytes, encode_upper}
use Rattle.flt_config.specs.declared.config.Config.{Config}
use Rattle.flt_config.specs.declared.persist.Persist.{Persist}
use Rattle.flt_config.specs.Durable.{Fits}
use Rattle.flt_store_model.specs.Form.{block_bytes}
use Rattle.flt_store_model.specs.Layout.{is_used, used_ids}

-- A block of a state as its bytes in hexadecimal digits, in upper case.
abbrev pub base_block_text : Persist → ℕ → List ℕ
base_block_text state id = encode_upper (block_bytes state id)

-- The used blocks of a state in ascending order.
abbrev pub base_texts : Config → Persist → List (List ℕ)
base_texts c state = map (base_block_text state) (used_ids c)

-- These are the texts of a state that fits, whose blocks are bytes.
pub record IsBaseOf (c : Config) (texts : List (List ℕ)) (state : Persist) : Type 0 where
  pub fits : Fits c state
  pub bytes : (id : ℕ) → IsTrue (is_used c id) → IsBytes (block_bytes state id)
  pub printed : texts ≡ base_texts c state
