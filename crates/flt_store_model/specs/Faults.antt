-- Why an image holds no generation: each fault on its own, and the order in which they are judged.
use Rattle.std.specs.Prelude.{◌≡◌, ◌≢◌, ◌⊎◌, ℕ, zero, suc, ◌+◌, ◌*◌, ◌<◌, List, length, IsTrue, IsFalse}
use Rattle.flt_flash.specs.Content.{Content, missing, invalid, bytes}
use Rattle.flt_config.specs.declared.config.Config.{Config}
use Rattle.flt_config.specs.declared.persist.Persist.{Persist}
use Rattle.flt_store_model.specs.declared.mark.Mark.{Mark}
use Rattle.flt_store_model.specs.declared.commit.Commit.{Commit}
use Rattle.flt_store_model.specs.declared.place.Place.TheVariants.{Page, Block}
use Rattle.flt_store_model.specs.Layout.{mark_id, commit_id, first_application, applications, number_of, mark_number, application_number, part_of_block, is_used, index_in}
use Rattle.flt_store_model.specs.Form.{mark_of, block_bytes, IsMark, IsCommit, IsBytesOfMark, IsBytesOfCommit}
use Rattle.flt_store_model.specs.Fit.{part_fits}
use Rattle.flt_store_model.specs.Excess.{IsBorne}
use Rattle.flt_store_model.specs.Holding.{Fault, damaged, other, is_application}

-- The mark is missing while there is a commit, or invalid, or of bytes that are not a mark.
pub data IsMarkDamaged (mark commit : Content) : Type 0 where
  mark_missing : mark ≡ missing → commit ≢ missing → IsMarkDamaged mark commit
  mark_invalid : mark ≡ invalid → IsMarkDamaged mark commit
  no_mark : (held : List ℕ) → mark ≡ bytes held → ((form : Mark) → IsMark form → IsBytesOfMark form held → ⊥) → IsMarkDamaged mark commit

-- The mark is this one, and not the configuration's.
pub record IsOthers (c : Config) (mark : Content) (found : Mark) : Type 0 where
  pub held : List ℕ
  pub is : mark ≡ bytes held
  pub form : IsMark found
  pub reads : IsBytesOfMark found held
  pub differs : found ≢ mark_of c

-- The commit is invalid, or of bytes that are not a commit of the configuration.
pub data IsCommitDamaged (c : Config) (commit : Content) : Type 0 where
  commit_invalid : commit ≡ invalid → IsCommitDamaged c commit
  no_commit : (held : List ℕ) → commit ≡ bytes held → ((form : Commit) → IsCommit c form → IsBytesOfCommit form held → ⊥) → IsCommitDamaged c commit

-- The used blocks below an identifier, each at the index at which the commit names it, hold the parts of this state, which fit.
pub record HoldBelow (c : Config) (value : ℕ → Content) (commit : Commit) (bound : ℕ) (state : Persist) : Type 0 where
  pub one_each : length state.events.items ≡ length c.events.items
  pub blocks : (id : ℕ) → IsTrue (is_used c id) → id < bound → value (number_of id (index_in commit id)) ≡ bytes (block_bytes state id)
  pub fits : (id : ℕ) → IsTrue (is_used c id) → id < bound → IsTrue (part_fits c state (part_of_block id))

-- There is a commit, and the blocks up to this used one do not hold the parts of any state.
pub record IsPartDamaged (c : Config) (value : ℕ → Content) (commit : Content) (id : ℕ) : Type 0 where
  pub held : List ℕ
  pub is : commit ≡ bytes held
  pub named : Commit
  pub form : IsCommit c named
  pub reads : IsBytesOfCommit named held
  pub used : IsTrue (is_used c id)
  pub none : (state : Persist) → HoldBelow c value named (id + 1) state → ⊥

-- This application block is invalid, or longer than such a block.
pub record IsApplicationDamaged (value : ℕ → Content) (id : ℕ) : Type 0 where
  pub block : ℕ
  pub at : id ≡ first_application + block
  pub within : block < applications
  pub damaged_there : IsFalse (is_application (value (application_number block)))

-- What may be reported about an image with this commit: a fault of it.
abbrev pub HasFault : Config → (ℕ → Content) → Content → Fault → Type 0
HasFault c value commit (other mark) = IsOthers c (value mark_number) mark
HasFault c value commit (damaged (Page sector page)) = ⊥
HasFault c value commit (damaged (Block id)) =
    ((id ≡ mark_id) × IsMarkDamaged (value mark_number) commit)
    ⊎ ((id ≡ commit_id) × IsCommitDamaged c commit)
    ⊎ IsPartDamaged c value commit id
    ⊎ IsApplicationDamaged value id
    ⊎ ((id ≡ 0) × (IsBorne c value → ⊥))

-- The place of a fault in the order of judging: the pages, then the blocks by their identifiers, another configuration's mark after the
-- block of the mark, and the excess, which is reported at 0, after all others.
abbrev pub judging_order : Fault → ℕ
judging_order (damaged (Page sector page)) = 0
judging_order (damaged (Block zero)) = 2 * (first_application + applications)
judging_order (damaged (Block (suc before))) = 2 * (before + 1)
judging_order (other mark) = 2 * mark_id + 1

-- An image has this fault, and none that is judged before it.
pub record HasFirstFault (c : Config) (value : ℕ → Content) (commit : Content) (fault : Fault) : Type 0 where
  pub is : HasFault c value commit fault
  pub first : (earlier : Fault) → judging_order earlier < judging_order fault → HasFault c value commit earlier → ⊥
