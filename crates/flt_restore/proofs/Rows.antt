-- Which blocks of the table have one copy, and that the commit has two.
use Rattle.std.proofs.Common.{ℕ, ◌+◌, ◌<◌, ◌≤◌, ◌≡◌, Option, Some, None, refl, sym, subst, arith}
use Rattle.std.specs.Prelude.{IsSomeAnd, IsTrue}
use Rattle.flt_nvm.specs.declared.table.BlockCfg.{BlockCfg}
use Rattle.flt_nvm.specs.declared.table.Kind.TheVariants.{Native, Redundant, Dataset}
use Rattle.flt_nvm.specs.declared.table.Kind.{Kind}
use Rattle.flt_nvm.specs.Table.{block_in, numbers_taken, HasPlace, IsRedundant}
use Rattle.flt_config.specs.declared.config.Config.{Config}
use Rattle.flt_store_model.specs.declared.commit.Commit.{Commit}
use Rattle.flt_store_model.specs.Layout.{mark_id, commit_id, first_part, end_part, first_application, applications, is_used, index_in}
use Rattle.flt_store_model.specs.Form.{IsCommit}
use Rattle.flt_image.specs.Table.{block_table}
use Rattle.flt_image.proofs.TableRows.{mark_row, commit_row, part_row, application_row}
use Rattle.flt_restore.specs.Found.{IsIndexOf, IsSingle}

pub commit_is_redundant : IsRedundant block_table commit_id
commit_is_redundant = subst (λ (row : Option BlockCfg). IsSomeAnd row (λ block. block.kind ≡ Redundant)) (sym commit_row) refl

pub mark_is_single : IsSingle mark_id 0
mark_is_single = subst (λ (row : Option BlockCfg). IsSomeAnd row (λ block. IsIndexOf block.kind 0)) (sym mark_row) (omega arith)

pub part_is_single : (id index : ℕ) → first_part ≤ id → id < end_part → index ≤ 1 → IsSingle id index
part_is_single id index low high small = subst (λ (row : Option BlockCfg). IsSomeAnd row (λ block. IsIndexOf block.kind index)) (sym (part_row id low high)) (omega (arith, small))

-- An index at which a commit names a used block.
pub named_is_single : (c : Config) (commit : Commit) → IsCommit c commit → (id : ℕ) → first_part ≤ id → id < end_part → IsTrue (is_used c id) → IsSingle id (index_in commit id)
named_is_single c commit form id low high used = part_is_single id (index_in commit id) low high ((form.indices id low high).used used)

pub application_is_single : (block : ℕ) → block < applications → IsSingle (first_application + block) 0
application_is_single block within = subst (λ (row : Option BlockCfg). IsSomeAnd row (λ block. IsIndexOf block.kind 0)) (sym (application_row block within)) (omega arith)

-- A block of one copy has the place of each of its indices.
pub single_has_place : (id index : ℕ) → IsSingle id index → HasPlace block_table id index
single_has_place id index single = by_found (block_in block_table id) single
  where
    by_kind : (kind : Kind) → IsIndexOf kind index → index < numbers_taken kind
    by_kind Native is = is
    by_kind Redundant is = absurd is
    by_kind (Dataset indices) is = is

    by_found : (found : Option BlockCfg) → IsSomeAnd found (λ block. IsIndexOf block.kind index) → IsSomeAnd found (λ block. index < numbers_taken block.kind)
    by_found None is = is
    by_found (Some block) is = by_kind block.kind is

-- The commit has the places of both copies.
pub commit_has_place : (place : ℕ) → place ≤ 1 → HasPlace block_table commit_id place
commit_has_place place small = subst (λ (row : Option BlockCfg). IsSomeAnd row (λ block. place < numbers_taken block.kind)) (sym commit_row) (omega (arith, small))
