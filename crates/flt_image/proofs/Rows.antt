-- Rows of the table of blocks.
use Rattle.std.proofs.Common.{◌≡◌, ◌≢◌, ℕ, ◌+◌, ◌++◌, [], ◌∷◌, List, true, refl, sym, ◌∙◌, ap}
use Rattle.std.specs.Prelude.{map}
use Rattle.std.specs.List.{range_with_len, AllPairs}
use Rattle.std.specs.Cmp.{nat_eq_equiv}
use Rattle.std.proofs.lemmas.Bool.Decides.{Decides-eqb}
use Rattle.std.proofs.lemmas.Map.Made.{AllPairs-from_IsDistinct, IsDistinct-from_count}
use Rattle.std.proofs.lemmas.List.{append-nil, append_assoc}
use Rattle.std.proofs.lemmas.List.FromFn.{map-range_with_len_more}
use Rattle.flt_nvm.specs.declared.table.Kind.{Kind}
use Rattle.flt_nvm.specs.declared.table.BlockCfg.{BlockCfg}
use Rattle.flt_nvm.specs.Table.{serves}
use Rattle.flt_store_model.specs.Layout.{numbers}
use Rattle.flt_image.specs.Table.{block_row, rows, block_table}

-- No row, and one row more.
pub no_rows : (before : List BlockCfg) (kind : Kind) (length first : ℕ) → before ≡ before ++ rows kind length first 0
unfolding rows
no_rows before kind length first = sym (append-nil before)

pub rows_more : (before made : List BlockCfg) (kind : Kind) (length first count : ℕ) → made ≡ before ++ rows kind length first count
    → made ++ block_row kind length (first + count) ∷ [] ≡ before ++ rows kind length first (count + 1)
unfolding rows
rows_more before made kind length first count is =
    ap (λ (all : List BlockCfg). all ++ block_row kind length (first + count) ∷ []) is
    ∙ append_assoc before (map (block_row kind length) (range_with_len first count)) (block_row kind length (first + count) ∷ [])
    ∙ ap (λ (all : List BlockCfg). before ++ all) (sym (map-range_with_len_more (block_row kind length) first count (first + count) refl))

-- The table is one that a driver with these numbers serves.
pub table_serves : serves numbers block_table ≡ true
unfolding numbers block_table rows
table_serves = refl

-- The numbers are distinct.
pub numbers_differ : AllPairs (λ (first second : ℕ). first ≢ second) numbers
unfolding numbers
numbers_differ = AllPairs-from_IsDistinct Decides-eqb numbers (IsDistinct-from_count nat_eq_equiv numbers refl)
