-- Bytes that were taken from a source.
use Rattle.std.proofs.Common.{◌≡◌, ℕ, ◌≤◌, List, [], length, Option, Some, None, sym, ap, refl, ◌∙◌, ◌++◌, take}
use Rattle.std.specs.Prelude.{IfSome}
use Rattle.std.proofs.lemmas.List.{append-nil, take_at, take_all}
use Rattle.std.specs.Io.KnownBytes.{Consumes, IsAtEnd}

-- All that was left.
pub took_all : (most : ℕ) (a b c : Option (List ℕ)) (bytes more : List ℕ) → Consumes a b bytes → Consumes b c more → more ≡ [] → IsAtEnd c → length bytes ≤ most → IfSome a (λ left. bytes ≡ take most left)
took_all most None b c bytes more p q none end short = tt
took_all most (Some x) None c bytes more p q none end short = absurd p
took_all most (Some x) (Some y) None bytes more p q none end short = absurd q
took_all most (Some x) (Some y) (Some z) bytes more p q none end short =
    let rest : y ≡ [] = q ∙ rw (none, end) refl in
    let whole : x ≡ bytes = p ∙ rw rest (append-nil bytes) in
    sym (rw whole (take_all most bytes short))

-- Nothing more was taken.
pub lost_all : (a b c : Option (List ℕ)) (bytes more : List ℕ) → Consumes a b bytes → Consumes b c more → more ≡ [] → Consumes a c bytes
lost_all None b c bytes more p q none = tt
lost_all (Some x) None c bytes more p q none = absurd p
lost_all (Some x) (Some y) None bytes more p q none = absurd q
lost_all (Some x) (Some y) (Some z) bytes more p q none = p ∙ ap (λ l. bytes ++ l) (q ∙ rw none refl)

-- As much as is read.
pub took_enough : (most : ℕ) (a b : Option (List ℕ)) (bytes : List ℕ) → Consumes a b bytes → length bytes ≡ most → IfSome a (λ left. bytes ≡ take most left)
took_enough most None b bytes p enough = tt
took_enough most (Some x) None bytes p enough = absurd p
took_enough most (Some x) (Some y) bytes p enough = sym (rw p (take_at bytes y most enough))
