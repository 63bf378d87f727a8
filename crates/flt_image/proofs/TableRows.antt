-- Which row of the table a block has.
use Rattle.std.proofs.Common.{◌≡◌, ℕ, ◌+◌, ◌-◌, ◌<◌, ◌≤◌, ◌==◌, ◌&&◌, Bool, true, false, Option, Some, None, refl, ◌∙◌, ap, subst, arith, eqb-true}
use Rattle.std.specs.List.{list_all, range_with_len}
use Rattle.std.proofs.lemmas.Bool.{and_parts}
use Rattle.flt_nvm.specs.declared.table.Kind.{Kind}
use Rattle.flt_nvm.specs.declared.table.Kind.TheVariants.{Native, Redundant, Dataset}
use Rattle.flt_nvm.specs.declared.table.BlockCfg.{BlockCfg}
use Rattle.flt_nvm.specs.Table.{block_in}
use Rattle.flt_store_model.specs.Layout.{mark_id, commit_id, first_part, end_part, parts, first_application, applications, part_of_block}
use Rattle.flt_store_model.specs.Form.{part_length}
use Rattle.flt_store_model.proofs.Choices.{all_at}
use Rattle.flt_image.specs.Table.{block_row, rows, block_table}

abbrev is_dataset : Kind → Bool
is_dataset Native = false
is_dataset Redundant = false
is_dataset (Dataset indices) = indices == 2

abbrev is_native : Kind → Bool
is_native Native = true
is_native Redundant = false
is_native (Dataset indices) = false

-- The block was found, under this identifier, with this length.
abbrev is_found : (Kind → Bool) → ℕ → ℕ → Option BlockCfg → Bool
is_found test id length None = false
is_found test id length (Some block) = test block.kind && ((block.id == id) && (block.length == length))

two_indices : (kind : Kind) → is_dataset kind ≡ true → kind ≡ Dataset 2
two_indices Native is = absurd (cc is)
two_indices Redundant is = absurd (cc is)
two_indices (Dataset indices) is = let two : indices ≡ 2 = eqb-true indices 2 is in subst (λ (n : ℕ). Dataset indices ≡ Dataset n) two refl

one_copy : (kind : Kind) → is_native kind ≡ true → kind ≡ Native
one_copy Native is = refl
one_copy Redundant is = absurd (cc is)
one_copy (Dataset indices) is = absurd (cc is)

found_row : (test : Kind → Bool) (kind : Kind) → ((other : Kind) → test other ≡ true → other ≡ kind) → (id length : ℕ) (found : Option BlockCfg) → is_found test id length found ≡ true
    → found ≡ Some (block_row kind length id)
found_row test kind only id length None is = absurd (cc is)
found_row test kind only id length (Some block) is =
    let parts = and_parts (test block.kind) ((block.id == id) && (block.length == length)) is in
    let numbers = and_parts (block.id == id) (block.length == length) parts.1 in
    let same_kind : block.kind ≡ kind = only block.kind parts.0 in
    let same_id : block.id ≡ id = eqb-true block.id id numbers.0 in
    let same_length : block.length ≡ length = eqb-true block.length length numbers.1 in
    ap (λ (k : Kind). Some (block_row k block.length block.id)) same_kind
    ∙ ap (λ (n : ℕ). Some (block_row kind n block.id)) same_length
    ∙ ap (λ (n : ℕ). Some (block_row kind length n)) same_id

all_parts : list_all (λ id. is_found is_dataset id (part_length (part_of_block id)) (block_in block_table id)) (range_with_len first_part parts) ≡ true
unfolding block_table rows
all_parts = refl

all_applications : list_all (λ id. is_found is_native id 32 (block_in block_table id)) (range_with_len first_application applications) ≡ true
unfolding block_table rows
all_applications = refl

pub mark_row : block_in block_table mark_id ≡ Some (block_row Native 8 mark_id)
unfolding block_table rows
mark_row = refl

pub commit_row : block_in block_table commit_id ≡ Some (block_row Redundant 26 commit_id)
unfolding block_table rows
commit_row = refl

-- A part is kept under two indices.
pub part_row : (id : ℕ) → first_part ≤ id → id < end_part → block_in block_table id ≡ Some (block_row (Dataset 2) (part_length (part_of_block id)) id)
part_row id low high =
    let at : first_part + (id - first_part) ≡ id = omega (arith, low) in
    found_row is_dataset (Dataset 2) two_indices id (part_length (part_of_block id)) (block_in block_table id)
    (subst (λ (n : ℕ). is_found is_dataset n (part_length (part_of_block n)) (block_in block_table n) ≡ true) at
    (all_at (λ n. is_found is_dataset n (part_length (part_of_block n)) (block_in block_table n)) first_part parts all_parts (id - first_part) (omega (arith, low, high))))

-- An application block has one copy.
pub application_row : (block : ℕ) → block < applications → block_in block_table (first_application + block) ≡ Some (block_row Native 32 (first_application + block))
application_row block within =
    found_row is_native Native one_copy (first_application + block) 32 (block_in block_table (first_application + block))
    (all_at (λ n. is_found is_native n 32 (block_in block_table n)) first_application applications all_applications block within)
