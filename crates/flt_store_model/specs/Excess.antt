-- How many pages the records of an image take beyond what the configuration's own would.
use Rattle.std.specs.Prelude.{ℕ, ◌+◌, ◌-◌, ◌≤◌, Bool, ◌==◌, ◌&&◌, ◌||◌, nat_le, nat_lt, if◌then◌else◌, sum_by}
use Rattle.flt_config.specs.declared.config.Config.{Config}
use Rattle.flt_config.specs.Validity.{needed_pages}
use Rattle.flt_flash.specs.Content.{Content}
use Rattle.flt_flash.specs.Blocks.{pages_of, record_pages}
use Rattle.flt_store_model.specs.Layout.{numbers, id_of, index_of, mark_number, first_commit, second_commit, first_application, is_used, part_of_block}
use Rattle.flt_store_model.specs.Form.{part_length, mark_length, commit_length, application_length}

-- A number of a block of this configuration: an index of a used one, or an application block.
abbrev pub is_own_part : Config → ℕ → Bool
is_own_part c number = is_used c (id_of number) && nat_le (index_of number) 1

abbrev pub is_own_application : Config → ℕ → Bool
is_own_application c number = (index_of number == 0) && nat_le first_application (id_of number) && nat_lt (id_of number) (first_application + c.blocks)

-- The pages of the longest record that this configuration keeps under a number, or 0 if it keeps none.
unfoldable pub own_pages : Config → ℕ → ℕ
own_pages c number =
    if number == mark_number then record_pages mark_length
    else if (number == first_commit) || (number == second_commit) then record_pages commit_length
    else if is_own_part c number then record_pages (part_length (part_of_block (id_of number)))
    else if is_own_application c number then record_pages application_length
    else 0

-- The pages of the records beyond those, over all numbers.
abbrev pub excess : Config → (ℕ → Content) → ℕ
excess c value = sum_by (λ number. pages_of (value number) - own_pages c number) numbers

-- They fit into the pages that the configuration leaves.
abbrev pub IsBorne : Config → (ℕ → Content) → Type 0
IsBorne c value = excess c value + needed_pages c ≤ c.pages
