-- One block more of a generation was written, and then the copies of its commit.
use Rattle.std.proofs.Common.{◌≡◌, inl, inr, ⊎_elim, ℕ, ◌+◌, ◌<◌, ◌≤◌, ◌^◌, List, length, Option, Some, None, Result, Ok, Err, refl, sym, ◌∙◌, ap, subst, arith}
use Rattle.std.specs.Prelude.{IsTrue, IfSome, OnOk}
use Rattle.std.proofs.lemmas.Bool.{cases_eq}
use Rattle.flt_flash.specs.Content.{Content, bytes}
use Rattle.flt_flash.specs.Blocks.{BlocksState}
use Rattle.flt_flash.specs.declared.blocks.BlockFault.{BlockFault}
use Rattle.flt_config.specs.declared.config.Config.{Config}
use Rattle.flt_config.specs.declared.persist.Persist.{Persist}
use Rattle.flt_config.specs.Durable.{Fits}
use Rattle.flt_nvm.specs.Leaves.{Gives, GivesBoth}
use Rattle.flt_store_model.specs.declared.commit.Commit.{Commit}
use Rattle.flt_store_model.specs.Layout.{commit_id, number_of, mark_number, application_number, index_in}
use Rattle.flt_store_model.specs.Form.{commit_bytes, IsCommit, commit_length_2}
use Rattle.flt_store_model.specs.Excess.{IsBorne}
use Rattle.flt_store_model.specs.Holding.{Generation, OldOrNew, SameApplications}
use Rattle.flt_store_model.specs.Successor.{IsNext, IsNewBlock, OnlyNewBlock, OnlyNewBlocks, WritesWithin, is_written, number_in}
use Rattle.flt_store_model.proofs.Commits.{commit_size}
use Rattle.flt_image.specs.Blocks.{AreBlocksOf}
use Rattle.flt_store.specs.Cause.{IsWithinOwn}
use Rattle.flt_store.specs.Known.{MayKnow}
use Rattle.flt_store.specs.Writing.{AreWritten}
use Rattle.flt_store.specs.Started.{NamesOf, IsStarted, AgreeButForCommit, next_generation}
use Rattle.flt_store.proofs.Successors.{next_form}
use Rattle.flt_store.proofs.Causes.{both_within, borne_stays}
use Rattle.flt_store.proofs.Saving.{settled, blocks_hold, committed, interrupted, kept_low, kept_application}

module _ (c : Config) (current : Option Commit) (next : Commit) (bytes_of : ℕ → List ℕ) where
  abbrev StandsNamed : (ℕ → Content) → ℕ → Type 0
  StandsNamed value id = value (number_of id (index_in next id)) ≡ bytes (bytes_of id)

  pub written_more : WritesWithin c current next → (now : ℕ) (before after : ℕ → Content) → OnlyNewBlock c current next bytes_of now before after
      → (IsTrue (is_written c current next now) → after (number_of now (index_in next now)) ≡ bytes (bytes_of now))
      → ((id : ℕ) → id < now → IsTrue (is_written c current next id) → before (number_of id (index_in next id)) ≡ bytes (bytes_of id))
      → (id : ℕ) → id < now + 1 → IsTrue (is_written c current next id) → after (number_of id (index_in next id)) ≡ bytes (bytes_of id)
  written_more within now before after only here earlier id below written = elim (cases_eq id now) [
    | inl same ↦ subst (StandsNamed after) (sym same) (here (subst (λ (n : ℕ). IsTrue (is_written c current next n)) same written))
    | inr apart ↦ ⊎_elim
        (λ kept. kept ∙ earlier id (omega (arith, below, apart)) written)
        (λ new.
        let index = within id written in
        let later = new.small in
        let place = new.place in
        absurd (apart (omega (arith, index, later, place))))
        (only (number_of id (index_in next id)))
  ]

  pub only_more : (now : ℕ) (first before after : ℕ → Content) → OnlyNewBlocks c current next bytes_of first before → OnlyNewBlock c current next bytes_of now before after
      → OnlyNewBlocks c current next bytes_of first after
  only_more now first before after earlier only number =
      ⊎_elim
      (λ kept. ⊎_elim
      (λ stood. inl (kept ∙ stood))
      (λ block. inr (block.0, subst (λ (content : Content). IsNewBlock c current next bytes_of block.0 number content) (sym kept) block.1))
      (earlier number))
      (λ new. inr (now, new))
      (only number)

  -- The block was written at the index at which the next commit names it.
  pub only_written : (id : ℕ) → IsTrue (is_written c current next id) → index_in next id ≤ 1 → (before after : BlocksState) (index : ℕ) (raw : List ℕ) (size : ℕ) (result : Result (Unit {0}) BlockFault)
      → index ≡ index_in next id → raw ≡ bytes_of id → Gives before after (number_of id index) (bytes raw) size result → OnlyNewBlock c current next bytes_of id before.value after.value
  only_written id written small before after index raw size result place held gives number = elim (cases_eq number (number_of id index)) [
    | inl same ↦
        ⊎_elim
        (λ kept. inl (subst (λ (n : ℕ). after.value n ≡ before.value n) (sym same) kept))
        (λ is. inr (record { written = written; small = small; place = same ∙ ap (number_of id) place; is = ap after.value same ∙ is ∙ ap bytes held }))
        gives.either
    | inr apart ↦ inl (gives.others number apart)
  ]

form_of : (c : Config) (value : ℕ → Content) (current : Option Commit) (g : Generation) → NamesOf c value current g → IfSome current (IsCommit c)
form_of c value None g names = tt
form_of c value (Some commit) g names = names.form

-- The blocks of a generation were written, and then the copies of its commit were tried.
pub record TriesCommit (c : Config) (state : Persist) (current : Option Commit) (kept_bytes bytes_of : ℕ → List ℕ) (next : Commit) (before middle after : BlocksState) (raw : List ℕ) (result : Result (Unit {0}) BlockFault) : Type 0 where
  pub is_next : IsNext c current kept_bytes bytes_of next
  pub most : number_in current + 1 < 2 ^ 32
  pub fits : Fits c state
  pub told : AreBlocksOf c state bytes_of
  pub only : OnlyNewBlocks c current next bytes_of before.value middle.value
  pub within : IsWithinOwn c before.value middle.value
  pub stand : AreWritten c current next bytes_of middle.value
  pub is : raw ≡ commit_bytes next
  pub gives : GivesBoth middle after commit_id (bytes raw) (length raw) result

module _ {c : Config} {state : Persist} {current : Option Commit} {kept_bytes bytes_of : ℕ → List ℕ} {next : Commit} {before middle after : BlocksState} {raw : List ℕ} {result : Result (Unit {0}) BlockFault}
    (tries : TriesCommit c state current kept_bytes bytes_of next before middle after raw result) where
  pub size_tried : length raw ≡ commit_length_2
  size_tried = ap (λ (held : List ℕ). length held) tries.is ∙ commit_size next

  within_commit : IsWithinOwn c middle.value after.value
  within_commit = both_within c middle after raw result (let size = size_tried in omega (arith, size)) tries.gives

  given : GivesBoth middle after commit_id (bytes (commit_bytes next)) (length raw) result
  given = subst (λ (held : List ℕ). GivesBoth middle after commit_id (bytes held) (length raw) result) tries.is tries.gives

  agree : AgreeButForCommit middle.value after.value
  agree = tries.gives.others

  pub same_applications : SameApplications before.value after.value
  same_applications block below =
      agree (application_number block) (λ same. omega (arith, same)) (λ same. omega (arith, same)) ∙ kept_application c current next bytes_of before.value middle.value tries.only block

  pub same_mark : after.value mark_number ≡ before.value mark_number
  same_mark = agree mark_number (λ same. omega (arith, same)) (λ same. omega (arith, same)) ∙ kept_low c current next bytes_of before.value middle.value tries.only mark_number (omega arith)

  module _ (g : Generation) (started : IsStarted c before.value current g) (known : MayKnow c current kept_bytes g.state) where
    names : NamesOf c middle.value (Some next) (next_generation current state)
    names = record {
      form = next_form c current kept_bytes bytes_of next tries.is_next tries.most (form_of c before.value current g started.names);
      number = tries.is_next.number;
      blocks = blocks_hold c current next bytes_of before.value middle.value tries.only kept_bytes g state tries.is_next tries.told tries.stand started.names known;
      fits = tries.fits;
    }

    middle_started : IsStarted c middle.value current g
    middle_started = settled c current next bytes_of before.value middle.value tries.only g tries.within started

    excess : IsBorne c after.value
    excess = borne_stays c middle.value after.value within_commit middle_started.excess

    pub commit_written : OnOk result (IsStarted c after.value (Some next) (next_generation current state))
    commit_written = by_result result given
      where
        by_result : (result : Result (Unit {0}) BlockFault) → GivesBoth middle after commit_id (bytes (commit_bytes next)) (length raw) result → OnOk result (IsStarted c after.value (Some next) (next_generation current state))
        by_result (Ok x) both = committed c middle.value after.value agree excess current next g (next_generation current state) middle_started refl names both.first both.second
        by_result (Err fault) both = tt

    pub commit_tried : OldOrNew c after.value g g (next_generation current state)
    commit_tried = interrupted c middle.value after.value agree excess current next g (next_generation current state) middle_started refl names given.either
