-- Bytes that were read are those of the content exactly where they are equal.
use Rattle.std.proofs.Common.{◌≡◌, ◌∙◌, ℕ, Bool, List, take, drop, length, sym, ap}
use Rattle.std.proofs.Math.Seq.{take-append_seam}
use Rattle.std.specs.Prelude.{IsTrue}
use Rattle.std.specs.Str.{bytes_eq}
use Rattle.std.proofs.lemmas.Slice.Eq.{bytes_eq-Decides}
use Rattle.flt_flash.specs.Content.{Content, missing, invalid, bytes as holding}
use Rattle.flt_nvm.specs.declared.got.Got.TheVariants.{Bytes}
use Rattle.flt_nvm.specs.Leaves.{GotOf}

pub is_held : (copy : ℕ) (content : Content) (size from : ℕ) (before out bytes : List ℕ) (result : Bool) → result ≡ bytes_eq (take size out) bytes
    → GotOf copy content (Bytes size from) before out → (IsTrue result → content ≡ holding bytes) × (content ≡ holding bytes → IsTrue result)
is_held copy missing size from before out bytes result is got = absurd got.1
is_held copy invalid size from before out bytes result is got = absurd got.1
is_held copy (holding held) size from before out bytes result is got =
    let seam : take size out ≡ held = ap (λ (n : ℕ). take n out) got.1.0 ∙ ap (take (length held)) got.1.1 ∙ take-append_seam held (drop size before) in
    let decided = bytes_eq-Decides (take size out) bytes in
    (λ yes. ap holding (sym seam ∙ decided.0 (sym is ∙ yes)), λ same. is ∙ decided.1 (seam ∙ content_is held bytes same))
  where
    content_is : (held bytes : List ℕ) → holding held ≡ holding bytes → held ≡ bytes
    content_is held bytes same = cc same
