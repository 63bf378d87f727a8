-- Bytes that are taken one after the other.
use Rattle.std.proofs.Common.{◌≡◌, ◌≢◌, zero, suc, ◌≤◌, ◌<◌, ◌++◌, ◌∷◌, [], ℕ, List, Option, Some, None, length, take, sym, ◌∙◌, ap, arith}
use Rattle.std.proofs.lemmas.List.{append_assoc, length-append, length-take, take_all, take-append-le}
use Rattle.std.specs.Prelude.{All}
use Rattle.std.specs.Io.KnownBytes.{Consumes}

pub then_takes : (a b c : Option (List ℕ)) (xs ys : List ℕ) → Consumes a b xs → Consumes b c ys → Consumes a c (xs ++ ys)
then_takes None b c xs ys first second = tt
then_takes (Some a) None c xs ys first second = absurd first
then_takes (Some a) (Some b) None xs ys first second = absurd second
then_takes (Some a) (Some b) (Some c) xs ys first second = first ∙ ap (λ l. xs ++ l) second ∙ sym (append_assoc xs ys c)

pub short_more : (whole kept : List ℕ) (byte : ℕ) → kept ≡ take 514 whole → length kept < 514 → kept ++ byte ∷ [] ≡ take 514 (whole ++ byte ∷ [])
short_more whole kept byte is short =
    let size = ap length is ∙ length-take 514 whole in
    let few : length whole < 514 = omega (arith, size) in
    let more = length-append whole (byte ∷ []) in
    ap (λ l. l ++ byte ∷ []) (is ∙ take_all 514 whole (omega arith)) ∙ sym (take_all 514 (whole ++ byte ∷ []) (omega (arith, more)))

pub long_more : (whole kept : List ℕ) (byte : ℕ) → kept ≡ take 514 whole → 514 ≤ length kept → kept ≡ take 514 (whole ++ byte ∷ [])
long_more whole kept byte is long =
    let size = ap length is ∙ length-take 514 whole in
    is ∙ sym (take-append-le 514 whole (byte ∷ []) (omega (arith, size)))

pub no_feed : (byte : ℕ) → byte ≢ 10 → All (λ b. b ≢ 10) (byte ∷ [])
no_feed byte differs zero d lt = differs
no_feed byte differs (suc k) d lt = absurd (omega arith)
