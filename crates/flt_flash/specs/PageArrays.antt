-- What an array of pages in memory holds.
use Rattle.std.proofs.Common.{◌≡◌, inl, inr, ◌-◌, ℕ, List, [], ◌++◌, length, length-append, refl, ◌∙◌, ap, arith}
use Rattle.std.specs.Prelude.{replicate}
use Rattle.std.proofs.lemmas.Bool.{cases_lt}
use Rattle.std.proofs.lemmas.List.{length-replicate, get_or_append_left, get_or-append_right, get_or-replicate}
use Rattle.flt_flash.specs.Image.{blank_page, ArePages}
use Rattle.flt_flash.specs.declared.array.PageArray.{PageArray}

-- The pages as far as one was written, and after them blank ones.
abbrev pub all_pages : PageArray → List (List ℕ)
all_pages array = array.front.items ++ replicate (array.count - length array.front.items) blank_page

-- They are as many as the array says.
pub page_count : (array : PageArray) → length (all_pages array) ≡ array.count
page_count array = length-append array.front.items (replicate (array.count - length array.front.items) blank_page)
    ∙ omega (arith, array.fits, length-replicate (array.count - length array.front.items) blank_page)

-- Each has 32 bytes.
pub page_sizes : (array : PageArray) → ArePages (all_pages array)
unfolding blank_page
page_sizes array page lt =
    let front = array.front.items in
    let rest = replicate (array.count - length front) blank_page in
    elim (cases_lt page (length front)) [
      | inl less ↦ ap length (get_or_append_left front rest [] page less) ∙ array.bytes page less
      | inr le ↦
          ap length (get_or-append_right front rest (length front) page [] refl le)
          ∙ ap length (get_or-replicate (array.count - length front) (page - length front) blank_page [] (omega (arith, lt, le, page_count array)))
    ]
