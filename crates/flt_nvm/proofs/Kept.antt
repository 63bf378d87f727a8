-- A fact of a block by its kind.
use Rattle.std.proofs.Common.{◌≡◌, ℕ, List, Option, Some, None, refl}
use Rattle.std.specs.Prelude.{IfSome, IsSomeAnd}
use Rattle.flt_nvm.specs.declared.table.Kind.{Kind}
use Rattle.flt_nvm.specs.declared.table.Kind.TheVariants.{Native, Redundant, Dataset}
use Rattle.flt_nvm.specs.declared.table.BlockCfg.{BlockCfg}
use Rattle.flt_nvm.specs.Table.{block_in, ByKind, AsKept, IsRedundant}

of_kind : {Single : Type 0} (Both : Type 0) (kind : Kind) → (kind ≡ Redundant → ⊥) → Single → ByKind kind Single Both
of_kind Both Native other fact = fact
of_kind Both Redundant other fact = absurd (other refl)
of_kind Both (Dataset indices) other fact = fact

of_found : {Single : Type 0} (Both : Type 0) (found : Option BlockCfg) → (IsSomeAnd found (λ block. block.kind ≡ Redundant) → ⊥) → Single → IfSome found (λ block. ByKind block.kind Single Both)
of_found Both None other fact = tt
of_found Both (Some block) other fact = of_kind Both block.kind other fact

-- Of a block that is not redundant.
pub single : {Single : Type 0} (Both : Type 0) (table : List BlockCfg) (id : ℕ) → (IsRedundant table id → ⊥) → Single → AsKept table id Single Both
single Both table id other fact = of_found Both (block_in table id) other fact

by_kind : {Both : Type 0} (Single : Type 0) (kind : Kind) → kind ≡ Redundant → Both → ByKind kind Single Both
by_kind Single Native is fact = absurd (cc is)
by_kind Single Redundant is fact = fact
by_kind Single (Dataset indices) is fact = absurd (cc is)

by_found : {Both : Type 0} (Single : Type 0) (found : Option BlockCfg) → IsSomeAnd found (λ block. block.kind ≡ Redundant) → Both → IfSome found (λ block. ByKind block.kind Single Both)
by_found Single None is fact = tt
by_found Single (Some block) is fact = by_kind Single block.kind is fact

-- Of a redundant block.
pub both : {Both : Type 0} (Single : Type 0) (table : List BlockCfg) (id : ℕ) → IsRedundant table id → Both → AsKept table id Single Both
both Single table id is fact = by_found Single (block_in table id) is fact
