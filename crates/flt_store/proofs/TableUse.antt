-- What the table of blocks says of the calls on the mark, the commit, a part and an application block.
use Rattle.std.proofs.Common.{◌≡◌, ℕ, ◌+◌, ◌≤◌, ◌<◌, List, Option, Some, sym, ◌∙◌, ap, subst, refl, arith}
use Rattle.std.specs.Prelude.{IfSome, IsSomeAnd}
use Rattle.flt_nvm.specs.declared.table.Kind.{Kind}
use Rattle.flt_nvm.specs.declared.table.Kind.TheVariants.{Native, Redundant, Dataset}
use Rattle.flt_nvm.specs.declared.table.BlockCfg.{BlockCfg}
use Rattle.flt_nvm.specs.Table.{block_in, indices_of, ByKind, AsKept, HasIndex, FitsBlock, IsRedundant}
use Rattle.flt_store_model.specs.Layout.{mark_id, commit_id, first_part, end_part, first_application, applications, part_of_block}
use Rattle.flt_store_model.specs.Form.{part_length, commit_length}
use Rattle.flt_image.specs.Table.{block_row, block_table}
use Rattle.flt_image.proofs.TableRows.{mark_row, commit_row, part_row, application_row}

module _ (table : List BlockCfg) (is : table ≡ block_table) where
  row_in : (id : ℕ) (found : Option BlockCfg) → block_in block_table id ≡ found → found ≡ block_in table id
  row_in id found at = sym at ∙ ap (λ (rows : List BlockCfg). block_in rows id) (sym is)

  has_index : (id index length : ℕ) (kind : Kind) → block_in block_table id ≡ Some (block_row kind length id) → index < indices_of kind → HasIndex table id index
  has_index id index length kind at within = subst (λ (found : Option BlockCfg). IsSomeAnd found (λ block. index < indices_of block.kind)) (row_in id (Some (block_row kind length id)) at) within

  holds : (id size length : ℕ) (kind : Kind) → block_in block_table id ≡ Some (block_row kind length id) → size ≤ length → FitsBlock table id size
  holds id size length kind at within = subst (λ (found : Option BlockCfg). IsSomeAnd found (λ block. size ≤ block.length)) (row_in id (Some (block_row kind length id)) at) within

  kept_as : (id length : ℕ) (kind : Kind) (Single Both : Type 0) → block_in block_table id ≡ Some (block_row kind length id) → AsKept table id Single Both → ByKind kind Single Both
  kept_as id length kind Single Both at fact = subst (λ (found : Option BlockCfg). IfSome found (λ block. ByKind block.kind Single Both)) (sym (row_in id (Some (block_row kind length id)) at)) fact

  pub mark_index : HasIndex table mark_id 0
  mark_index = has_index mark_id 0 8 Native mark_row (omega arith)

  pub mark_fits : (size : ℕ) → size ≤ 8 → FitsBlock table mark_id size
  mark_fits size within = holds mark_id size 8 Native mark_row within

  pub mark_alone : (Single Both : Type 0) → AsKept table mark_id Single Both → Single
  mark_alone Single Both fact = kept_as mark_id 8 Native Single Both mark_row fact

  pub commit_index : HasIndex table commit_id 0
  commit_index = has_index commit_id 0 commit_length Redundant commit_row (omega arith)

  pub commit_twice : IsRedundant table commit_id
  commit_twice = subst (λ (found : Option BlockCfg). IsSomeAnd found (λ block. block.kind ≡ Redundant)) (row_in commit_id (Some (block_row Redundant commit_length commit_id)) commit_row) refl

  pub commit_fits : (size : ℕ) → size ≤ commit_length → FitsBlock table commit_id size
  commit_fits size within = holds commit_id size commit_length Redundant commit_row within

  pub commit_both : (Single Both : Type 0) → AsKept table commit_id Single Both → Both
  commit_both Single Both fact = kept_as commit_id commit_length Redundant Single Both commit_row fact

  module _ (id : ℕ) (low : first_part ≤ id) (high : id < end_part) where
    pub part_index : (index : ℕ) → index ≤ 1 → HasIndex table id index
    part_index index small = has_index id index (part_length (part_of_block id)) (Dataset 2) (part_row id low high) (omega (arith, small))

    pub part_fits : (size : ℕ) → size ≤ part_length (part_of_block id) → FitsBlock table id size
    part_fits size within = holds id size (part_length (part_of_block id)) (Dataset 2) (part_row id low high) within

    pub part_alone : (Single Both : Type 0) → AsKept table id Single Both → Single
    part_alone Single Both fact = kept_as id (part_length (part_of_block id)) (Dataset 2) Single Both (part_row id low high) fact

  module _ (block : ℕ) (within : block < applications) where
    pub application_index : HasIndex table (first_application + block) 0
    application_index = has_index (first_application + block) 0 32 Native (application_row block within) (omega arith)

    pub application_fits : (size : ℕ) → size ≤ 32 → FitsBlock table (first_application + block) size
    application_fits size short = holds (first_application + block) size 32 Native (application_row block within) short

    pub application_alone : (Single Both : Type 0) → AsKept table (first_application + block) Single Both → Single
    application_alone Single Both fact = kept_as (first_application + block) 32 Native Single Both (application_row block within) fact
