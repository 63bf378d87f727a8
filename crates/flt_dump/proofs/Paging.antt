-- The pages that lines spell, while they are read.
use Rattle.std.proofs.Common.{◌≡◌, ℕ, suc, ◌+◌, List, [], ◌∷◌, ◌++◌, Option, Some, None, Result, Ok, Err, refl, sym, ◌∙◌, ap, append_assoc}
use Rattle.std.proofs.lemmas.List.{append-nil}
use Rattle.flt_dump.specs.Dump.{page_spelled, pages_spelled, with_page}

-- Pages before those that are read later.
abbrev pub before_pages : List (List ℕ) → Result (List (List ℕ)) ℕ → Result (List (List ℕ)) ℕ
before_pages pages (Ok rest) = Ok (pages ++ rest)
before_pages pages (Err number) = Err number

before_more : (pages : List (List ℕ)) (number : ℕ) (page : List ℕ) (r : Result (List (List ℕ)) ℕ) → before_pages pages (with_page number (Some page) r) ≡ before_pages (pages ++ page ∷ []) r
before_more pages number page (Ok rest) = ap Ok (sym (append_assoc pages (page ∷ []) rest))
before_more pages number page (Err wrong) = refl

module _ (pages : List (List ℕ)) (number : ℕ) (lines : List (List ℕ)) where
  pub one_page : (left : ℕ) (line : List ℕ) (others : List (List ℕ)) (page : List ℕ) → lines ≡ line ∷ others → page_spelled line ≡ Some page
      → before_pages pages (pages_spelled number (suc left) lines) ≡ before_pages (pages ++ page ∷ []) (pages_spelled (number + 1) left others)
  unfolding pages_spelled
  one_page left line others page first is =
      ap (λ l. before_pages pages (pages_spelled number (suc left) l)) first
      ∙ ap (λ (o : Option (List ℕ)). before_pages pages (with_page number o (pages_spelled (number + 1) left others))) is
      ∙ before_more pages number page (pages_spelled (number + 1) left others)

  pub no_line : (left : ℕ) → lines ≡ [] → before_pages pages (pages_spelled number (suc left) lines) ≡ Err number
  unfolding pages_spelled
  no_line left none = ap (λ l. before_pages pages (pages_spelled number (suc left) l)) none

  pub wrong_page : (left : ℕ) (line : List ℕ) (others : List (List ℕ)) → lines ≡ line ∷ others → page_spelled line ≡ None → before_pages pages (pages_spelled number (suc left) lines) ≡ Err number
  unfolding pages_spelled
  wrong_page left line others first none =
      ap (λ l. before_pages pages (pages_spelled number (suc left) l)) first
      ∙ ap (λ (o : Option (List ℕ)). before_pages pages (with_page number o (pages_spelled (number + 1) left others))) none

  pub all_pages : lines ≡ [] → before_pages pages (pages_spelled number 0 lines) ≡ Ok pages
  unfolding pages_spelled
  all_pages none = ap (λ l. before_pages pages (pages_spelled number 0 l)) none ∙ ap Ok (append-nil pages)

  pub line_more : (line : List ℕ) (others : List (List ℕ)) → lines ≡ line ∷ others → before_pages pages (pages_spelled number 0 lines) ≡ Err number
  unfolding pages_spelled
  line_more line others first = ap (λ l. before_pages pages (pages_spelled number 0 l)) first
