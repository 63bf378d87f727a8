-- No tearing between a blank page and a code word is another code word.
use Rattle.std.proofs.Common.{◌≡◌, ◌⊎◌, ⊎_elim, List, ℕ, None}
use Rattle.flt_flash.specs.Image.{blank_page}
use Rattle.flt_flash.specs.Tearing.{IsTornPage}
use Rattle.flt_code.specs.Seal.{unsealed, IsCodeWordOf}
use Rattle.flt_code.proofs.Unsealed.{no_code}
use Rattle.flt_code.proofs.Unspoiled.{programmed_or_none, erased_or_none, unspoiled_word}

same_word : (page found torn : List ℕ) → IsCodeWordOf found torn → (torn ≡ page) ⊎ (unsealed torn ≡ None) → torn ≡ page
same_word page found torn word = ⊎_elim (λ same. same) (λ none. absurd (no_code torn none found word))

pub programmed_word : (asked page found torn : List ℕ) → IsCodeWordOf asked page → IsTornPage blank_page page torn → IsCodeWordOf found torn → torn ≡ page
programmed_word asked page found torn word tears other = same_word page found torn other (programmed_or_none asked page torn word tears)

pub erased_word : (stood page found torn : List ℕ) → IsCodeWordOf stood page → IsTornPage page blank_page torn → IsCodeWordOf found torn → torn ≡ page
erased_word stood page found torn word tears other = same_word page found torn other (erased_or_none page torn (unspoiled_word stood page word) tears)
