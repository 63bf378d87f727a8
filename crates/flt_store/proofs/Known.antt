-- What a store knows of the generation that both copies name.
use Rattle.std.proofs.Common.{◌≡◌, ◌⊎◌, inl, inr, ⊎_elim, ℕ, ◌≤◌, List, [], length, Option, Some, None, ◌∙◌, ap, arith}
use Rattle.std.specs.Prelude.{IfSome, IsTrue, nat_le}
use Rattle.std.proofs.lemmas.Bool.{le-leb}
use Rattle.flt_flash.specs.Blocks.{BlocksState}
use Rattle.flt_config.specs.declared.config.Config.{Config}
use Rattle.flt_config.specs.declared.persist.Persist.{Persist}
use Rattle.flt_store_model.specs.declared.commit.Commit.{Commit}
use Rattle.flt_store_model.specs.Layout.{is_used, part_of_block}
use Rattle.flt_store_model.specs.Form.{block_bytes}
use Rattle.flt_store_model.specs.Laws.{IsGiven}
use Rattle.flt_store_model.specs.Holding.{Generation, CommitNames}
use Rattle.flt_store_model.proofs.Choices.{chosen}
use Rattle.flt_image.specs.Blocks.{longest}
use Rattle.flt_image.proofs.Sizing.{part_short, part_sized}
use Rattle.flt_restore.specs.Learning.{part_in, AreLearned}
use Rattle.flt_store.specs.Cause.{FailsThrice}
use Rattle.flt_store.specs.Known.{Knows, KnowsNamed, MayKnow}
use Rattle.flt_store.specs.Started.{NamesOf}

pub knows_may : (c : Config) (commit : Option Commit) (kept : ℕ → List ℕ) (state : Persist) → Knows c kept state → MayKnow c commit kept state
knows_may c None kept state knows = tt
knows_may c (Some commit) kept state knows = λ id used. inr (knows id used)

pub knows_named : (c : Config) (commit : Option Commit) (kept : ℕ → List ℕ) (state : Persist) → Knows c kept state → KnowsNamed c commit kept state
knows_named c None kept state knows = tt
knows_named c (Some commit) kept state knows = knows

-- What was read of the blocks that the commit names.
module _ (c : Config) (given : IsGiven c) (before after : BlocksState) (g : Generation) (found : ℕ → List ℕ) where
  learned : (commit : Commit) → CommitNames c before.value commit g → AreLearned c before after commit found → (id : ℕ) → IsTrue (is_used c id)
      → (found id ≡ block_bytes g.state id) ⊎ ((found id ≡ []) × FailsThrice before after)
  learned commit names learns id used =
      ⊎_elim (λ read. inl (read ∙ ap part_in (names.blocks id used) ∙ chosen (nat_le (length own) longest) own [] (le-leb (length own) longest short))) (λ failed. inr failed) (learns id used)
    where
      own : List ℕ
      own = block_bytes g.state id

      short : length own ≤ longest
      short = let size = part_sized c given g.state names.fits (part_of_block id) in let most = part_short (part_of_block id) in omega (arith, size, most)

  pub learned_may : (commit : Option Commit) → NamesOf c before.value commit g → IfSome commit (λ commit. AreLearned c before after commit found) → MayKnow c commit found g.state
  learned_may None names learns = tt
  learned_may (Some commit) names learns = λ id used. ⊎_elim (λ read. inr read) (λ failed. inl failed.0) (learned commit names learns id used)

  pub learned_all : (FailsThrice before after → ⊥) → (commit : Option Commit) → NamesOf c before.value commit g → IfSome commit (λ commit. AreLearned c before after commit found) → KnowsNamed c commit found g.state
  learned_all unfailed None names learns = tt
  learned_all unfailed (Some commit) names learns = λ id used. ⊎_elim (λ read. read) (λ failed. absurd (unfailed failed.1)) (learned commit names learns id used)
