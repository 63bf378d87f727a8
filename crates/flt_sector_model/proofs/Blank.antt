-- A blank image.
use Rattle.std.proofs.Common.{◌≡◌, ◌<◌, ℕ, List, [], get_or, None, Ok, refl, ◌∙◌, ap, arith}
use Rattle.flt_flash.specs.Image.{sector_at, blank_page}
use Rattle.flt_code.specs.Seal.{sealed, unsealed}
use Rattle.flt_code.specs.Spoiled.{is_spoiled}
use Rattle.flt_sector_model.specs.Gates.{started_by, activated_by, gate_by, both_gates, gates_of}
use Rattle.flt_sector_model.specs.Blocks.{current_by, current, fault_by, value_by}
use Rattle.flt_sector_model.specs.Laws.{BlankHoldsNothing}

blank_start : (used : ℕ) → gate_by (started_by used) 0 blank_page ≡ Ok None
unfolding blank_page sealed unsealed is_spoiled
blank_start used = refl

blank_active : gate_by activated_by 1 blank_page ≡ Ok None
unfolding blank_page sealed unsealed is_spoiled
blank_active = refl

blank_gates : (used : ℕ) (pages : List (List ℕ)) → get_or pages 0 [] ≡ blank_page → get_or pages 1 [] ≡ blank_page → gates_of used pages ≡ Ok None
blank_gates used pages start active =
    (λ i. both_gates (gate_by (started_by used) 0 (start i)) (gate_by activated_by 1 (active i))) ∙ (λ i. both_gates (blank_start used i) (blank_active i))

pub blank_holds_nothing : BlankHoldsNothing
blank_holds_nothing used numbers image least blank = (ap (fault_by used numbers image) none, λ block. ap (value_by used numbers image block) none)
  where
    none : current used image ≡ Ok None
    none = λ i. current_by (gates 0 (omega arith) i) (gates 1 (omega arith) i)
      where
        gates : (sector : ℕ) → sector < 2 → gates_of used (sector_at image sector) ≡ Ok None
        gates sector within = blank_gates used (sector_at image sector) (blank sector 0 within (omega (arith, least))) (blank sector 1 within (omega (arith, least)))
