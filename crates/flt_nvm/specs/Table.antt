-- The table of blocks, and the numbers under which a driver keeps them.
use Rattle.std.specs.Prelude.{◌≡◌, ◌≢◌, ◌<◌, ◌≤◌, ◌+◌, ◌*◌, ◌==◌, ◌&&◌, ℕ, Bool, true, List, find, Option, IfSome, IsSomeAnd, nat_lt, length, slice_index_or}
use Rattle.std.specs.List.{list_any, list_all, range_with_len}
use Rattle.flt_nvm.specs.declared.table.Kind.{Kind}
use Rattle.flt_nvm.specs.declared.table.Kind.TheVariants.{Native, Redundant, Dataset}
use Rattle.flt_nvm.specs.declared.table.BlockCfg.{BlockCfg}

-- The number under which the driver keeps this index, or this copy from 0, of a block.
abbrev pub driver_number : ℕ → ℕ → ℕ
driver_number id index = id * 8 + index

-- The block of this identifier: the first of the table.
abbrev pub block_in : List BlockCfg → ℕ → Option BlockCfg
block_in table id = find (λ block. block.id == id) table

-- The indices of a block; a redundant one has one.
abbrev pub indices_of : Kind → ℕ
indices_of Native = 1
indices_of Redundant = 1
indices_of (Dataset indices) = indices

-- The numbers of the driver that a block takes.
abbrev pub numbers_taken : Kind → ℕ
numbers_taken Native = 1
numbers_taken Redundant = 2
numbers_taken (Dataset indices) = indices

-- The driver was made with this number.
abbrev pub has_number : List ℕ → ℕ → Bool
has_number numbers number = list_any (λ other. number == other) numbers

-- A dataset has 1 to 8 indices.
abbrev pub is_kind : Kind → Bool
is_kind Native = true
is_kind Redundant = true
is_kind (Dataset indices) = nat_lt 0 indices && nat_lt indices 9

-- The settings of a block are in range, and the driver was made with its numbers.
abbrev pub is_served : List ℕ → BlockCfg → Bool
is_served numbers block =
    nat_lt 0 block.id && nat_lt block.id 8192 && nat_lt 0 block.length && nat_lt block.length 129 && is_kind block.kind
    && list_all (λ index. has_number numbers (driver_number block.id index)) (range_with_len 0 (numbers_taken block.kind))

-- Each block of the table is in range, and the driver was made with its numbers.
abbrev pub serves : List ℕ → List BlockCfg → Bool
serves numbers table = list_all (is_served numbers) table

-- The table has a block of this identifier with this index.
abbrev pub HasIndex : List BlockCfg → ℕ → ℕ → Type 0
HasIndex table id index = IsSomeAnd (block_in table id) (λ block. index < indices_of block.kind)

-- The table has a block of this identifier that holds this many bytes.
abbrev pub FitsBlock : List BlockCfg → ℕ → ℕ → Type 0
FitsBlock table id size = IsSomeAnd (block_in table id) (λ block. size ≤ block.length)

-- The table has a redundant block of this identifier.
abbrev pub IsRedundant : List BlockCfg → ℕ → Type 0
IsRedundant table id = IsSomeAnd (block_in table id) (λ block. block.kind ≡ Redundant)

-- No row is redundant from this one on, counted from 0.
abbrev pub NoneFrom : ℕ → List BlockCfg → Type 0
NoneFrom from table = (place : ℕ) (d : BlockCfg) → from ≤ place → place < length table → (slice_index_or table place d).kind ≢ Redundant

-- The table has a block of this identifier that takes this number, counted from 0.
abbrev pub HasPlace : List BlockCfg → ℕ → ℕ → Type 0
HasPlace table id place = IsSomeAnd (block_in table id) (λ block. place < numbers_taken block.kind)

-- The one fact of a native block and of a dataset, the other of a redundant block.
abbrev pub ByKind : Kind → Type 0 → Type 0 → Type 0
ByKind Native single both = single
ByKind Redundant single both = both
ByKind (Dataset indices) single both = single

-- The one or the other, as the kind is that the table gives this identifier.
abbrev pub AsKept : List BlockCfg → ℕ → Type 0 → Type 0 → Type 0
AsKept table id single both = IfSome (block_in table id) (λ block. ByKind block.kind single both)
