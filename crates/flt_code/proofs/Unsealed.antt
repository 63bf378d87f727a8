-- What is unsealed.
use Rattle.std.proofs.Common.{◌≡◌, ℕ, Bool, true, List, take, length, Some, None, refl, sym, ◌∙◌, ap}
use Rattle.std.specs.Prelude.{if◌then◌else◌, ◌&&◌}
use Rattle.std.specs.Str.{bytes_eq}
use Rattle.std.proofs.lemmas.Bool.{eq-eqb}
use Rattle.std.proofs.lemmas.Slice.Eq.{bytes_eq-Decides}
use Rattle.flt_code.specs.Seal.{sealed, unsealed, IsCodeWordOf}
use Rattle.flt_code.proofs.Sealed.{length-sealed, take-sealed}

pub unsealed_by : (page bytes again : List ℕ) (same : Bool) → length page ≡ 32 → bytes ≡ take 16 page → again ≡ sealed bytes → same ≡ bytes_eq page again → unsealed page ≡ (if same then Some bytes else None)
unfolding unsealed
unsealed_by page bytes again same size front by eq =
    ap (λ b. if b && bytes_eq page (sealed (take 16 page)) then Some (take 16 page) else None) (eq-eqb (length page) 32 size)
    ∙ ap (λ (l : List ℕ). if bytes_eq page (sealed l) then Some l else None) (sym front)
    ∙ ap (λ (l : List ℕ). if bytes_eq page l then Some bytes else None) (sym by)
    ∙ ap (λ b. if b then Some bytes else None) (sym eq)

-- A code word is read as its bytes.
pub unsealed_code : (bytes page : List ℕ) → IsCodeWordOf bytes page → unsealed page ≡ Some bytes
unsealed_code bytes page word =
    unsealed_by page bytes page true (ap length word.is ∙ length-sealed bytes word.size)
    (sym (ap (take 16) word.is ∙ take-sealed bytes word.size)) word.is (sym ((bytes_eq-Decides page page).1 refl))

-- Where nothing is read there is no code word.
pub no_code : (page : List ℕ) → unsealed page ≡ None → (bytes : List ℕ) → IsCodeWordOf bytes page → ⊥
no_code page none bytes word = let read : unsealed page ≡ Some bytes = unsealed_code bytes page word in cc (none, read)
