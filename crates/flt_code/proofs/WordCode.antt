-- The page of a word.
use Rattle.std.proofs.Common.{◌≡◌, ◌<◌, ◌++◌, ℕ, zero, suc, true, false, List, [], ◌∷◌, length, replicate, Some, None, refl, arith}
use Rattle.std.specs.Int.{to_be_bytes, w16, w32}
use Rattle.flt_flash.specs.Image.{blank_page}
use Rattle.flt_code.specs.Seal.{sealed, unsealed, AreBytes, IsCodeWordOf}
use Rattle.flt_code.specs.Word.{word_bytes}
use Rattle.flt_code.specs.declared.words.Word.{Word}
use Rattle.flt_code.specs.declared.words.Word.TheVariants.{Start, Active, Head, Gate}
use Rattle.flt_code.proofs.Unsealed.{unsealed_code}

pub unsealed_blank : unsealed blank_page ≡ None
unfolding unsealed sealed blank_page
unsealed_blank = refl

-- Every number of the list is a byte.
record AreAll (bytes : List ℕ) : Type 0 where
  pub all : AreBytes bytes

first : {bytes : List ℕ} (byte : ℕ) → byte < 256 → AreAll bytes → AreAll (byte ∷ bytes)
first {bytes} byte fits rest = record { all = at }
  where
    at : AreBytes (byte ∷ bytes)
    at zero = fits
    at (suc k) = rest.all k

no_bytes : AreAll []
no_bytes = record { all = λ k. at k }
  where
    at : AreBytes []
    at zero = omega arith
    at (suc k) = omega arith

joined : (front bytes : List ℕ) → AreBytes front → AreAll bytes → AreAll (front ++ bytes)
joined [] bytes fits rest = rest
joined (x ∷ xs) bytes fits rest = first x (fits zero) (joined xs bytes (λ k. fits (suc k)) rest)

zeros : (n : ℕ) → AreAll (replicate n 0)
zeros zero = no_bytes
zeros (suc n) = first 0 (omega arith) (zeros n)

two_bytes : (n : ℕ) → AreBytes (to_be_bytes w16 n)
two_bytes n zero = omega arith
two_bytes n (suc zero) = omega arith
two_bytes n (suc (suc k)) = omega arith

four_bytes : (n : ℕ) → AreBytes (to_be_bytes w32 n)
four_bytes n zero = omega arith
four_bytes n (suc zero) = omega arith
four_bytes n (suc (suc zero)) = omega arith
four_bytes n (suc (suc (suc zero))) = omega arith
four_bytes n (suc (suc (suc (suc k)))) = omega arith

two : {bytes : List ℕ} (n : ℕ) → AreAll bytes → AreAll (to_be_bytes w16 n ++ bytes)
two {bytes} n rest = joined (to_be_bytes w16 n) bytes (two_bytes n) rest

four : {bytes : List ℕ} (n : ℕ) → AreAll bytes → AreAll (to_be_bytes w32 n ++ bytes)
four {bytes} n rest = joined (to_be_bytes w32 n) bytes (four_bytes n) rest

range : (word : Word) → AreAll (word_bytes word)
unfolding word_bytes
range (Start sequence pages) = first 0x53 (omega arith) (first 0x01 (omega arith) (four sequence (two pages (zeros 8))))
range (Active sequence) = first 0x41 (omega arith) (first 0x01 (omega arith) (four sequence (zeros 10)))
range (Head block size true page) = first 0x48 (omega arith) (first 1 (omega arith) (two block (two size (two page (zeros 8)))))
range (Head block size false page) = first 0x48 (omega arith) (first 2 (omega arith) (two block (two size (two page (zeros 8)))))
range (Gate block page) = first 0x47 (omega arith) (first 0x01 (omega arith) (two block (two page (zeros 10))))

size : (word : Word) → length (word_bytes word) ≡ 16
unfolding word_bytes
size (Start sequence pages) = refl
size (Active sequence) = refl
size (Head block held true page) = refl
size (Head block held false page) = refl
size (Gate block page) = refl

pub word_code : (word : Word) → IsCodeWordOf (word_bytes word) (sealed (word_bytes word))
word_code word = record { size = size word; range = (range word).all; is = refl }

-- What the page of a word says.
pub word_page : (word : Word) → unsealed (sealed (word_bytes word)) ≡ Some (word_bytes word)
word_page word = unsealed_code (word_bytes word) (sealed (word_bytes word)) (word_code word)
