-- A call of which at most one event takes a part.
use Rattle.std.proofs.Common.{◌≡◌, ◌≢◌, ◌∙◌, ℕ, zero, suc, ◌<◌, ap, refl, arith, subst, sym, ⊎_elim}
use Rattle.std.proofs.lemmas.Bool.{cases_eq}
use Rattle.flt_model.specs.Mark.{Trace}
use Rattle.flt_model.specs.Trace.{in_order}

pub in_order-none : (part : ℕ → Trace → Trace) (n : ℕ) (marks : Trace) → ((event : ℕ) (before : Trace) → event < n → part event before ≡ before) →
    in_order part n marks ≡ marks
in_order-none part zero marks none = refl
in_order-none part (suc n) marks none =
    none n (in_order part n marks) (omega arith) ∙ in_order-none part n marks (λ event before h. none event before (omega arith))

pub in_order-one : (part : ℕ → Trace → Trace) (own n : ℕ) (marks : Trace) → own < n → ((event : ℕ) (before : Trace) → event ≢ own → part event before ≡ before) →
    in_order part n marks ≡ part own marks
in_order-one part own zero marks within others = absurd (omega arith)
in_order-one part own (suc n) marks within others =
    ⊎_elim
    (λ same. subst (λ x. part x (in_order part n marks) ≡ part own marks) same
    (ap (λ before. part own before) (in_order-none part n marks (λ event before h. others event before (omega (arith, same))))))
    (λ ne. others n (in_order part n marks) (λ d. ne (sym d)) ∙ in_order-one part own n marks (omega arith) others)
    (cases_eq own n)
