-- The driver was made with the numbers of each block of a table that it serves.
use Rattle.std.proofs.Common.{◌≡◌, ℕ, ◌<◌, ◌≤◌, ◌==◌, nat_lt, Bool, true, false, if◌then◌else◌, List, [], ◌∷◌, length, get_or, Option, Some, None, refl, subst, arith, eqb-true}
use Rattle.std.specs.Prelude.{Contains, IsSomeAnd}
use Rattle.std.specs.List.{list_all, range_with_len}
use Rattle.std.proofs.lemmas.Bool.{and_parts, ltb-true}
use Rattle.std.proofs.lemmas.List.FromFn.{get_or-range_with_len, length-range_with_len}
use Rattle.std.proofs.lemmas.List.Sums.{AllPass-from_list_all}
use Rattle.std.proofs.lemmas.Map.Views.{Contains-from_any}
use Rattle.flt_nvm.specs.declared.table.Kind.{Kind}
use Rattle.flt_nvm.specs.declared.table.Kind.TheVariants.{Native, Redundant, Dataset}
use Rattle.flt_nvm.specs.declared.table.BlockCfg.{BlockCfg}
use Rattle.flt_nvm.specs.Table.{driver_number, block_in, numbers_taken, has_number, is_kind, is_served, serves, HasPlace, FitsBlock}

-- A block that is found is in the table, under this identifier.
found_is_served : (numbers : List ℕ) (table : List BlockCfg) (id : ℕ) (block : BlockCfg) → serves numbers table ≡ true → block_in table id ≡ Some block → (is_served numbers block ≡ true) × (block.id ≡ id)
found_is_served numbers [] id block all found = absurd (cc found)
found_is_served numbers (first ∷ rest) id block all found =
    let parts = and_parts (is_served numbers first) (serves numbers rest) all in
    by_test (found_is_served numbers rest id block parts.1) parts.0 (first.id == id) refl found
  where
    by_test : (block_in rest id ≡ Some block → (is_served numbers block ≡ true) × (block.id ≡ id)) → is_served numbers first ≡ true
        → (test : Bool) → (first.id == id) ≡ test → (if test then Some first else block_in rest id) ≡ Some block → (is_served numbers block ≡ true) × (block.id ≡ id)
    by_test further own true same found =
        let is : first ≡ block = cc found in
        subst (λ (b : BlockCfg). (is_served numbers b ≡ true) × (b.id ≡ id)) is (own, eqb-true first.id id same)
    by_test further own false same found = further found

taken_in_range : (kind : Kind) (place : ℕ) → is_kind kind ≡ true → place < numbers_taken kind → place < 8
taken_in_range Native place fits within = omega arith
taken_in_range Redundant place fits within = omega arith
taken_in_range (Dataset indices) place fits within =
    let parts = and_parts (nat_lt 0 indices) (nat_lt indices 9) fits in
    let most : indices < 9 = ltb-true indices 9 parts.1 in
    omega arith

-- What a table that is served says of one of its blocks.
record IsServed (numbers : List ℕ) (block : BlockCfg) : Type 0 where
  id : block.id < 8192
  length_is : block.length < 129
  kind : is_kind block.kind ≡ true
  numbers_are : list_all (λ index. has_number numbers (driver_number block.id index)) (range_with_len 0 (numbers_taken block.kind)) ≡ true

served : (numbers : List ℕ) (block : BlockCfg) → is_served numbers block ≡ true → IsServed numbers block
served numbers block all =
    let last = and_parts _ (list_all (λ index. has_number numbers (driver_number block.id index)) (range_with_len 0 (numbers_taken block.kind))) all in
    let kind = and_parts _ (is_kind block.kind) last.0 in
    let most = and_parts _ (nat_lt block.length 129) kind.0 in
    let least = and_parts _ (nat_lt 0 block.length) most.0 in
    let ids = and_parts _ (nat_lt block.id 8192) least.0 in
    record { id = ltb-true block.id 8192 ids.1; length_is = ltb-true block.length 129 most.1; kind = kind.1; numbers_are = last.1 }

module _ (numbers : List ℕ) (block : BlockCfg) (is : IsServed numbers block) (place : ℕ) (taken : place < numbers_taken block.kind) where
  places : List ℕ
  places = range_with_len 0 (numbers_taken block.kind)

  number_is_given : Contains numbers (driver_number block.id place)
  unfolding places
  number_is_given =
      let here : place < length places = omega (arith, taken, length-range_with_len 0 (numbers_taken block.kind)) in
      let at = AllPass-from_list_all (λ (index : ℕ). has_number numbers (driver_number block.id index)) places is.numbers_are place 0 here in
      let same : get_or places place 0 ≡ place = omega (arith, taken, get_or-range_with_len 0 (numbers_taken block.kind) place 0 taken) in
      Contains-from_any (λ (x y : ℕ) e. eqb-true x y e) (driver_number block.id place) numbers (subst (λ (p : ℕ). has_number numbers (driver_number block.id p) ≡ true) same at)

-- The numbers of a block.
pub record IsGiven (numbers : List ℕ) (id place : ℕ) : Type 0 where
  pub id_is : id < 8192
  pub place_is : place < 8
  pub number : Contains numbers (driver_number id place)

module _ (numbers : List ℕ) (table : List BlockCfg) (id : ℕ) (all : serves numbers table ≡ true) where
  pub given : (place : ℕ) → HasPlace table id place → IsGiven numbers id place
  given place has = by_block (block_in table id) refl has
    where
      by_block : (found : Option BlockCfg) → block_in table id ≡ found → IsSomeAnd found (λ block. place < numbers_taken block.kind) → IsGiven numbers id place
      by_block None same has = absurd has
      by_block (Some block) same taken =
          let found = found_is_served numbers table id block all same in
          let is = served numbers block found.0 in
          subst (λ (n : ℕ). IsGiven numbers n place) found.1 (record { id_is = is.id; place_is = taken_in_range block.kind place is.kind taken; number = number_is_given numbers block is place taken })

  -- A block holds 128 bytes at most.
  pub size_in_range : (size : ℕ) → FitsBlock table id size → size ≤ 128
  size_in_range size holds = by_block (block_in table id) refl holds
    where
      by_block : (found : Option BlockCfg) → block_in table id ≡ found → IsSomeAnd found (λ block. size ≤ block.length) → size ≤ 128
      by_block None same holds = absurd holds
      by_block (Some block) same holds =
          let is = served numbers block (found_is_served numbers table id block all same).0 in
          omega (arith, is.length_is, holds)
