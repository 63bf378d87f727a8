-- The pages of a sector as a record grows on them.
use Rattle.std.proofs.Common.{◌≡◌, ◌+◌, ◌≤◌, ℕ, Bool, List, [], get_or, set, take, length, length-set, get_or-set_same, get_or-set_other, None, ◌∙◌, ap, arith}
use Rattle.std.specs.Prelude.{slice_range}
use Rattle.std.specs.List.{flat_map}
use Rattle.flt_code.specs.Seal.{sealed, unsealed}
use Rattle.flt_code.specs.Word.{word_bytes}
use Rattle.flt_code.specs.declared.words.Word.TheVariants.{Head, Gate}
use Rattle.flt_code.proofs.WordCode.{unsealed_blank}
use Rattle.flt_pages.specs.Blank.{AreBlank}
use Rattle.flt_flash.specs.Blocks.{byte_pages}
use Rattle.flt_pages.specs.Record.{KeptApart, IsTornAtHead, IsOpen, IsWhole, on_pages}
use Rattle.flt_pages.proofs.Filling.{bytes_on_pages}
use Rattle.flt_pages.proofs.Values.{same_range}

pub set_apart : (pages : List (List ℕ)) (page : ℕ) (bytes : List ℕ) → KeptApart pages (set pages page bytes) page (page + 1)
set_apart pages page bytes = record {
  size = length-set pages page bytes;
  before = λ k lt. get_or-set_other pages page k bytes [] (omega arith);
  behind = λ k le. get_or-set_other pages page k bytes [] (omega arith);
}

-- One change after or within another.
pub apart_on : (first second third : List (List ℕ)) (from to low high : ℕ) → from ≤ low → high ≤ to → KeptApart first second from to → KeptApart second third low high → KeptApart first third from to
apart_on first second third from to low high le_low le_high one two = record {
  size = two.size ∙ one.size;
  before = λ k lt. two.before k (omega arith) ∙ one.before k lt;
  behind = λ k le. two.behind k (omega arith) ∙ one.behind k le;
}

pub wider : (first second : List (List ℕ)) (from to low high : ℕ) → low ≤ from → to ≤ high → KeptApart first second from to → KeptApart first second low high
wider first second from to low high le_low le_high one = record { size = one.size; before = λ k lt. one.before k (omega arith); behind = λ k le. one.behind k (omega arith) }

module _ (pages : List (List ℕ)) (page block : ℕ) (held : List ℕ) (valid : Bool) (room : page + 2 + byte_pages (length held) ≤ length pages) where
  pub head_torn : (torn : List ℕ) → unsealed torn ≡ None → IsTornAtHead pages (set pages page torn) page
  head_torn torn none = record { apart = set_apart pages page torn; torn = ap unsealed (get_or-set_same pages page torn [] (omega arith)) ∙ none }

  pub head_stands : AreBlank pages page (page + 2 + byte_pages (length held)) → IsOpen pages (set pages page (sealed (word_bytes (Head block (length held) valid page)))) page block (length held) valid
  head_stands blank = record {
    apart = wider pages _ page (page + 1) page (page + 2 + byte_pages (length held)) (omega arith) (omega arith) (set_apart pages page _);
    head = get_or-set_same pages page _ [] (omega arith);
    gate = ap unsealed (get_or-set_other pages page (page + 1 + byte_pages (length held)) _ [] (omega arith) ∙ blank (page + 1 + byte_pages (length held)) (omega arith) (omega arith)) ∙ unsealed_blank;
  }

  pub pieces_between : (opened after : List (List ℕ)) → IsOpen pages opened page block (length held) valid → KeptApart opened after (page + 1) (page + 1 + byte_pages (length held)) → IsOpen pages after page block (length held) valid
  pieces_between opened after is apart = record {
    apart = apart_on pages opened after page (page + 2 + byte_pages (length held)) (page + 1) (page + 1 + byte_pages (length held)) (omega arith) (omega arith) is.apart apart;
    head = apart.before page (omega arith) ∙ is.head;
    gate = ap unsealed (apart.behind (page + 1 + byte_pages (length held)) (omega arith)) ∙ is.gate;
  }

  module _ (opened : List (List ℕ)) (is : IsOpen pages opened page block (length held) valid) (last : List ℕ) where
    gated_apart : KeptApart pages (set opened (page + 1 + byte_pages (length held)) last) page (page + 2 + byte_pages (length held))
    gated_apart = apart_on pages opened _ page (page + 2 + byte_pages (length held)) (page + 1 + byte_pages (length held)) (page + 1 + byte_pages (length held) + 1) (omega arith) (omega arith) is.apart
        (set_apart opened (page + 1 + byte_pages (length held)) last)

    gated_head : get_or (set opened (page + 1 + byte_pages (length held)) last) page [] ≡ sealed (word_bytes (Head block (length held) valid page))
    gated_head = get_or-set_other opened (page + 1 + byte_pages (length held)) page last [] (omega arith) ∙ is.head

    at_gate : get_or (set opened (page + 1 + byte_pages (length held)) last) (page + 1 + byte_pages (length held)) [] ≡ last
    at_gate = get_or-set_same opened (page + 1 + byte_pages (length held)) last [] (omega (arith, is.apart.size))

    pub gate_torn : unsealed last ≡ None → IsOpen pages (set opened (page + 1 + byte_pages (length held)) last) page block (length held) valid
    gate_torn none = record { apart = gated_apart; head = gated_head; gate = ap unsealed at_gate ∙ none }

    pub gate_stands : last ≡ sealed (word_bytes (Gate block page)) → flat_map (λ p. p) (slice_range opened (page + 1) (page + 1 + byte_pages (length held))) ≡ on_pages held
        → IsWhole pages (set opened (page + 1 + byte_pages (length held)) last) page block held valid
    gate_stands gate filled = record {
      apart = gated_apart;
      head = gated_head;
      gate = at_gate ∙ gate;
      holds = ap (take (length held)) filled_behind ∙ bytes_on_pages held;
      filled = filled_behind;
    }
      where
        filled_behind : flat_map (λ p. p) (slice_range (set opened (page + 1 + byte_pages (length held)) last) (page + 1) (page + 1 + byte_pages (length held))) ≡ on_pages held
        filled_behind =
            ap (λ (l : List (List ℕ)). flat_map (λ p. p) l)
            (same_range opened (set opened (page + 1 + byte_pages (length held)) last) 0 (page + 1 + byte_pages (length held)) (length-set opened (page + 1 + byte_pages (length held)) last)
            (λ k low lt. get_or-set_other opened (page + 1 + byte_pages (length held)) k last [] (omega arith)) (page + 1) (page + 1 + byte_pages (length held)) (omega arith) (omega arith))
            ∙ filled
