-- A sector as it is begun and made valid.
use Rattle.std.proofs.Common.{◌≡◌, ◌⊎◌, inl, inr, ◌+◌, ◌^◌, ◌<◌, ◌≤◌, ℕ, false, List, [], get_or, Option, Some, None, Result, Ok, Err, refl, ◌∙◌, ap, arith}
use Rattle.std.specs.Prelude.{if◌then◌else◌}
use Rattle.std.proofs.lemmas.Bool.{eq-eqb}
use Rattle.flt_flash.specs.Image.{blank_page}
use Rattle.flt_flash.specs.Content.{missing}
use Rattle.flt_code.specs.Seal.{sealed, unsealed}
use Rattle.flt_code.specs.Spoiled.{is_spoiled}
use Rattle.flt_code.specs.Word.{word_bytes}
use Rattle.flt_code.specs.declared.words.Word.{Word}
use Rattle.flt_code.specs.declared.words.Word.TheVariants.{Start, Active}
use Rattle.flt_pages.specs.Blank.{AreBlank}
use Rattle.flt_sector_model.specs.Gates.{gate_by_code, gate_by, started_by, activated_by, both_gates, gates_of}
use Rattle.flt_pages.specs.LogHolds.{LogHolds}
use Rattle.flt_pages.proofs.WordPages.{gate_says}
use Rattle.flt_pages.proofs.LogOn.{ended}

pub unspoiled_blank : is_spoiled blank_page ≡ false
unfolding is_spoiled blank_page
unspoiled_blank = refl

-- A gate page that is no code word, and one that is blank.
gone : (says : Option Word → Result (Option ℕ) ℕ) (fault : ℕ) (page : List ℕ) → is_spoiled page ≡ false → unsealed page ≡ None → gate_by says fault page ≡ Ok None
gone says fault page fresh none = λ i. if fresh i then Err fault else gate_by_code says (none i)

-- An empty log.
pub holds_nothing : (used : ℕ) (numbers : List ℕ) (pages : List (List ℕ)) → 2 ≤ used → AreBlank pages 2 used → LogHolds used numbers pages 2 (λ block. missing)
holds_nothing used numbers pages least blank = record { entries = []; is = ended used numbers pages (used + 1) 2 (omega arith) least blank; gives = λ block. refl }

module _ (used sequence : ℕ) (fits : used < 2 ^ 16) (counts : sequence < 2 ^ 32) where
  -- A start gate alone, torn or not.
  pub not_valid : (pages : List (List ℕ)) → is_spoiled (get_or pages 0 []) ≡ false → (get_or pages 0 [] ≡ sealed (word_bytes (Start sequence used))) ⊎ (unsealed (get_or pages 0 []) ≡ None)
      → is_spoiled (get_or pages 1 []) ≡ false → unsealed (get_or pages 1 []) ≡ None → gates_of used pages ≡ Ok None
  not_valid pages fresh (inr none) other_fresh other =
      λ i. both_gates (gone (started_by used) 0 (get_or pages 0 []) fresh none i) (gone activated_by 1 (get_or pages 1 []) other_fresh other i)
  not_valid pages fresh (inl is) other_fresh other =
      (λ i. both_gates ((ap (gate_by (started_by used) 0) is ∙ gate_says (started_by used) 0 (Start sequence used) (counts, fits)
      ∙ ap (λ b. if b then Ok (Some sequence) else Err 0) (eq-eqb used used refl)) i) (gone activated_by 1 (get_or pages 1 []) other_fresh other i))

  pub valid : (pages : List (List ℕ)) → get_or pages 0 [] ≡ sealed (word_bytes (Start sequence used)) → get_or pages 1 [] ≡ sealed (word_bytes (Active sequence)) → gates_of used pages ≡ Ok (Some sequence)
  valid pages start active =
      (λ i. both_gates ((ap (gate_by (started_by used) 0) start ∙ gate_says (started_by used) 0 (Start sequence used) (counts, fits)
      ∙ ap (λ b. if b then Ok (Some sequence) else Err 0) (eq-eqb used used refl)) i) ((ap (gate_by activated_by 1) active ∙ gate_says activated_by 1 (Active sequence) counts) i))
      ∙ ap (λ b. if b then Ok (Some sequence) else Err 1) (eq-eqb sequence sequence refl)
