-- The item at a page, by what the page says.
use Rattle.std.proofs.Common.{◌≡◌, ◌<◌, ℕ, Bool, List, [], get_or, Ok, sym, ◌∙◌, ap, arith}
use Rattle.std.specs.Prelude.{if◌then◌else◌}
use Rattle.std.specs.Str.{bytes_eq}
use Rattle.std.proofs.lemmas.Bool.{ne_eqb}
use Rattle.flt_flash.specs.Image.{blank_page}
use Rattle.flt_code.specs.Seal.{unsealed}
use Rattle.flt_sector_model.specs.Page.{is_blank}
use Rattle.flt_sector_model.specs.Log.{item_at, item_by_code}
use Rattle.flt_sector_model.specs.declared.log.Item.TheVariants.{End}

pub item_by : (used : ℕ) (numbers : List ℕ) (pages : List (List ℕ)) (page : ℕ) (bytes : List ℕ) (blank : Bool) → page < used → get_or pages page [] ≡ bytes → blank ≡ bytes_eq bytes blank_page
    → item_at used numbers pages page ≡ (if blank then Ok End else item_by_code used numbers pages page (unsealed bytes))
item_by used numbers pages page bytes blank within is tested =
    ap (λ b. if b then Ok End else if is_blank (get_or pages page []) then Ok End else item_by_code used numbers pages page (unsealed (get_or pages page []))) (ne_eqb page used (λ e. omega (arith, e)))
    ∙ ap (λ (l : List ℕ). if is_blank l then Ok End else item_by_code used numbers pages page (unsealed l)) is
    ∙ ap (λ b. if b then Ok End else item_by_code used numbers pages page (unsealed bytes)) (sym tested)
