-- Pages of 32 bytes stay pages of 32 bytes.
use Rattle.std.proofs.Common.{◌≡◌, ◌<◌, ℕ, List, [], length, replicate, refl, ◌∙◌, ap, arith}
use Rattle.std.proofs.lemmas.List.{get_or-replicate, length-replicate}
use Rattle.flt_flash.specs.Image.{blank_page, ArePages}
use Rattle.flt_flash.specs.Tearing.{IsTornSector}

pub blank_size : length blank_page ≡ 32
unfolding blank_page
blank_size = refl

pub blank_pages_size : (number : ℕ) → ArePages (replicate number blank_page)
blank_pages_size number page lt = ap length (get_or-replicate number page blank_page [] (omega (arith, lt, length-replicate number blank_page))) ∙ blank_size

pub torn_pages_size : (before after torn : List (List ℕ)) → IsTornSector before after torn → ArePages before → ArePages torn
torn_pages_size before after torn is sizes page lt =
    let within : page < length before = omega (arith, lt, is.size) in
    (is.pages page within).size ∙ sizes page within
