-- Pieces of a text that lie in memory, and what is seen of them.
use Rattle.std.proofs.Common.{◌≡◌, ℕ, ◌+◌, List, [], ◌∷◌, take, drop, Bool, refl, sym, ap, cond}
use Rattle.std.specs.Prelude.{not}
use Rattle.std.specs.List.{position, prefix_len}
use Rattle.std.proofs.lemmas.List.{length-map, take-map, drop-map}
use denote.Ref.{Bor}
use Rattle.flt_script.specs.Text.{seen}

prefix_len-seen : (test : List ℕ → Bool) (words : List (Bor (List ℕ))) → prefix_len test (seen words) ≡ prefix_len (λ word. test word.now) words
prefix_len-seen test [] = refl
prefix_len-seen test (word ∷ words) = ap (λ more. cond (test word.now) (1 + more) 0) (prefix_len-seen test words)

pub position-seen : (test : List ℕ → Bool) (words : List (Bor (List ℕ))) → position (λ word. test word.now) words ≡ position test (seen words)
position-seen test words = rw (prefix_len-seen (λ word. not (test word)) words, length-map words (λ (word : Bor (List ℕ)). word.now)) refl

pub take-seen : (end : ℕ) (words : List (Bor (List ℕ))) → seen (take end words) ≡ take end (seen words)
take-seen end words = sym (take-map (λ (word : Bor (List ℕ)). word.now) end words)

pub drop-seen : (start : ℕ) (words : List (Bor (List ℕ))) → seen (drop start words) ≡ drop start (seen words)
drop-seen start words = sym (drop-map (λ (word : Bor (List ℕ)). word.now) start words)
