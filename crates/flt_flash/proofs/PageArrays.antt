-- An array of pages by its front: pages after it are blank.
use Rattle.std.proofs.Common.{◌≡◌, inl, inr, ℕ, ◌<◌, ◌≤◌, ◌-◌, List, [], ◌∷◌, ◌++◌, length, get_or, set, length-set, subst, length-append, get_or-set_same, get_or-set_other, refl, sym, ◌∙◌, ap, arith}
use Rattle.std.specs.Prelude.{replicate, Option, None, Some, IfNone, IfSome, OnSome}
use Rattle.std.proofs.lemmas.Bool.{cases_eq}
use Rattle.std.proofs.lemmas.List.{append_assoc, length_push, replicate-append-replicate, set-append_left, get_or_append_left, get_or-append_right, get_or-replicate}
use Rattle.flt_flash.specs.Image.{blank_page}
use Rattle.flt_flash.specs.Tearing.{IsTornPage, IsTornSector}
use Rattle.flt_flash.specs.declared.arm.Pattern.{Pattern}
use Rattle.flt_flash.specs.Arms.{IsProgrammedBy, IsTornPageBy}
use Rattle.flt_flash.proofs.TornBy.{torn_page_by}

module _ (front : List (List ℕ)) (count : ℕ) where
  -- The front may be longer by a blank page.
  pub one_blank_more : length front < count
      → (front ++ blank_page ∷ []) ++ replicate (count - length (front ++ blank_page ∷ [])) blank_page ≡ front ++ replicate (count - length front) blank_page
  one_blank_more less =
      append_assoc front (blank_page ∷ []) (replicate (count - length (front ++ blank_page ∷ [])) blank_page)
      ∙ ap (λ (tail : List (List ℕ)). front ++ tail)
      (replicate-append-replicate 1 (count - length (front ++ blank_page ∷ [])) blank_page ∙ ap (λ (n : ℕ). replicate n blank_page) (omega (arith, less, length_push front blank_page)))

  pub set_in_front : (page : ℕ) (bytes : List ℕ) → page < length front
      → set front page bytes ++ replicate (count - length (set front page bytes)) blank_page ≡ set (front ++ replicate (count - length front) blank_page) page bytes
  set_in_front page bytes within =
      ap (λ (n : ℕ). set front page bytes ++ replicate (count - n) blank_page) (length-set front page bytes)
      ∙ sym (set-append_left front (replicate (count - length front) blank_page) page bytes within)

  pub page_behind : (page : ℕ) → length front ≤ page → page < count → blank_page ≡ get_or (front ++ replicate (count - length front) blank_page) page []
  page_behind page behind within =
      sym (get_or-replicate (count - length front) (page - length front) blank_page [] (omega (arith, behind, within)))
      ∙ sym (get_or-append_right front (replicate (count - length front) blank_page) (length front) page [] refl behind)

-- A program that is torn by a pattern leaves each bit as before or as after.
pub torn_program : (pattern : Pattern) (pages : List (List ℕ)) (page : ℕ) (bytes : List ℕ) (after : List (List ℕ)) → page < length pages
    → IsProgrammedBy pattern pages page bytes after → IsTornSector pages (set pages page bytes) after
torn_program pattern pages page bytes after within is = rw is.only (record { size = length-set pages page is.torn; pages = each })
  where
    here : IsTornPage (get_or pages page []) bytes is.torn
    here = torn_page_by pattern 16 (get_or pages page []) bytes is.torn is.by_pattern

    each : (k : ℕ) → k < length pages → IsTornPage (get_or pages k []) (get_or (set pages page bytes) k []) (get_or (set pages page is.torn) k [])
    each k lt = elim (cases_eq k page) [
      | inl same ↦ rw (same, get_or-set_same pages page bytes [] within, get_or-set_same pages page is.torn [] within) here
      | inr other ↦ rw (get_or-set_other pages page k bytes [] other, get_or-set_other pages page k is.torn [] other) (record { size = refl; bytes = λ byte lt bit. inl refl })
    ]

-- A page in the front of an array of pages is written, or its write is torn.
module _ (front pages now : List (List ℕ)) (count page : ℕ) (bytes : List ℕ) (within : page < length front)
    (is : front ++ replicate (count - length front) blank_page ≡ pages) where
  same : get_or front page [] ≡ get_or pages page []
  same = sym (get_or_append_left front (replicate (count - length front) blank_page) [] page within) ∙ ap (λ (l : List (List ℕ)). get_or l page []) is

  with_page : (held : List ℕ) → now ≡ set front page held → now ++ replicate (count - length now) blank_page ≡ set pages page held
  with_page held done =
      ap (λ (l : List (List ℕ)). l ++ replicate (count - length l) blank_page) done
      ∙ set_in_front front count page held within
      ∙ ap (λ (l : List (List ℕ)). set l page held) is

  pub whole_page : (failing : Option Pattern) → IfNone failing (now ≡ set front page bytes)
      → IfNone failing (now ++ replicate (count - length now) blank_page ≡ set pages page bytes)
  whole_page None done = with_page bytes done
  whole_page (Some pattern) done = tt

  pub page_by_pattern : (failing : Option Pattern) → IfSome failing (λ pattern. IsProgrammedBy pattern front page bytes now)
      → IfSome failing (λ pattern. IsProgrammedBy pattern pages page bytes (now ++ replicate (count - length now) blank_page))
  page_by_pattern None done = tt
  page_by_pattern (Some pattern) done = record {
    torn = done.torn;
    by_pattern = subst (λ (before : List ℕ). IsTornPageBy pattern 16 before bytes done.torn) same done.by_pattern;
    only = with_page done.torn done.only;
  }

  pub torn_array : (failing : Option Pattern) → IfSome failing (λ pattern. IsProgrammedBy pattern front page bytes now)
      → OnSome failing (IsTornSector pages (set pages page bytes) (now ++ replicate (count - length now) blank_page))
  torn_array None done = tt
  torn_array (Some pattern) done = torn_program pattern pages page bytes (now ++ replicate (count - length now) blank_page)
      (omega (arith, within, sym (ap length is), length-append front (replicate (count - length front) blank_page))) (page_by_pattern (Some pattern) done)
