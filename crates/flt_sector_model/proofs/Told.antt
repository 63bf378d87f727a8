-- The facts about a page give its item.
use Rattle.std.proofs.Common.{◌≡◌, ◌⊎◌, ◌+◌, ◌<◌, ◌≤◌, ℕ, Bool, true, false, List, [], get_or, Some, Ok, Err, inl, inr, refl, sym, ◌∙◌, ap, arith}
use Rattle.flt_flash.specs.Blocks.{byte_pages}
use Rattle.flt_code.specs.Seal.{unsealed}
use Rattle.flt_code.specs.Word.{word_of}
use Rattle.flt_code.specs.declared.words.Word.TheVariants.{Head, Gate}
use Rattle.flt_sector_model.specs.Page.{is_blank}
use Rattle.flt_sector_model.specs.Log.{item_at}
use Rattle.flt_sector_model.specs.declared.log.Item.TheVariants.{End, Torn, Kept}
use Rattle.flt_sector_model.specs.Says.{SaysOther}
use Rattle.flt_sector_model.specs.Reached.{IsTornHead, IsHead, IsGated, IsRecord, gate_page}
use Rattle.flt_sector_model.specs.Damage.{BeginsNothing, HasOtherGate}
use Rattle.flt_sector_model.proofs.Items.{ends, torn, kept, nothing, other, stands, says_one, blank_no_code}

module _ (used : ℕ) (numbers : List ℕ) (pages : List (List ℕ)) (page : ℕ) where
  -- A code word within the used pages is not the end.
  not_end : (code : List ℕ) → page < used → unsealed (get_or pages page []) ≡ Some code → (page ≡ used) ⊎ (is_blank (get_or pages page []) ≡ true) → ⊥
  not_end code below is (inl last) = omega (arith, below, last)
  not_end code below is (inr blank) = let none = blank_no_code (get_or pages page []) blank in cc

  pub at_torn : IsTornHead used numbers pages page → item_at used numbers pages page ≡ Ok Torn
  at_torn is = elim (stands used numbers pages page (omega (arith, is.within))) [
    | ends how told ↦ absurd (elim how [ inl last ↦ omega (arith, is.within, last) | inr blank ↦ let written = is.written in cc ])
    | torn _ told ↦ told
    | kept block size valid complete also told ↦ absurd (let none = is.no_code in let some = also.head.says.is_code in cc)
    | nothing begins told ↦ absurd (let none = is.no_code in let some = begins.is_code in cc)
    | other block size valid gate told ↦ absurd (let none = is.no_code in let some = gate.head.says.is_code in cc)
  ]

  -- A head begins a record of this block, length and kind alone.
  same_head : (block size : ℕ) (valid : Bool) (b s : ℕ) (v : Bool) → IsHead used numbers pages page block size valid → IsHead used numbers pages page b s v
      → (b ≡ block) × (s ≡ size) × (v ≡ valid)
  same_head block size valid b s v first second =
      let same : Head block size valid page ≡ Head b s v page = says_one first.says second.says in
      (cc, cc, cc)

  head_within : (block size : ℕ) (valid : Bool) → IsHead used numbers pages page block size valid → page < used
  head_within block size valid head = let fits = head.within in omega (arith, fits)

  -- What is in the place of its gate decides whether it is complete.
  same_gate : (block size b s : ℕ) (complete c : Bool) → b ≡ block → s ≡ size → IsGated used numbers pages page block size complete → IsGated used numbers pages page b s c → c ≡ complete
  same_gate block size b s true true same_block same_size first second = refl
  same_gate block size b s false false same_block same_size first second = refl
  same_gate block size b s true false same_block same_size first second = absurd (let some = first.is_code in cc)
  same_gate block size b s false true same_block same_size first second = absurd (let some = second.is_code in cc)

  -- A record has no other gate.
  no_other : (block size b s : ℕ) (complete : Bool) → b ≡ block → s ≡ size → IsGated used numbers pages page block size complete → SaysOther (λ word. word ≡ Gate b page) (gate_page pages page s) → ⊥
  no_other block size b s true same_block same_size gate differ =
      let some = gate.is_code in
      let also = differ.is_code in
      let says = gate.says in
      let same : word_of differ.code ≡ Some (Gate block page) = cc in
      differ.other (Gate block page) same (ap (λ (n : ℕ). Gate n page) (sym same_block))
  no_other block size b s false same_block same_size gate differ = let some = differ.is_code in cc

  pub at_record : (block size : ℕ) (valid complete : Bool) → IsRecord used numbers pages page block size valid complete → item_at used numbers pages page ≡ Ok (Kept block size valid complete)
  at_record block size valid complete is = elim (stands used numbers pages page (omega (arith, head_within block size valid is.head))) [
    | ends how told ↦ absurd (not_end is.head.says.code (head_within block size valid is.head) is.head.says.is_code how)
    | torn none told ↦ absurd (let no = none.no_code in let some = is.head.says.is_code in cc)
    | kept b s v c also told ↦
        let same = same_head block size valid b s v is.head also.head in
        let as_complete = same_gate block size b s complete c same.0 same.1 is.gate also.gate in
        told ∙ (λ i. Ok (Kept (same.0 i) (same.1 i) (same.2 i) (as_complete i)))
    | nothing begins told ↦ absurd (begins.no_head block size valid is.head)
    | other b s v gate told ↦
        let same = same_head block size valid b s v is.head gate.head in
        absurd (no_other block size b s complete same.0 same.1 is.gate gate.other)
  ]

  pub at_nothing : BeginsNothing used numbers pages page → item_at used numbers pages page ≡ Err page
  at_nothing is = elim (stands used numbers pages page (omega (arith, is.within))) [
    | ends how told ↦ absurd (not_end is.code is.within is.is_code how)
    | torn none told ↦ absurd (let no = none.no_code in let some = is.is_code in cc)
    | kept b s v c also told ↦ absurd (is.no_head b s v also.head)
    | nothing begins told ↦ told
    | other b s v gate told ↦ absurd (is.no_head b s v gate.head)
  ]

  pub at_other : (block size : ℕ) (valid : Bool) → HasOtherGate used numbers pages page block size valid → item_at used numbers pages page ≡ Err (page + 1 + byte_pages size)
  at_other block size valid is = elim (stands used numbers pages page (omega (arith, head_within block size valid is.head))) [
    | ends how told ↦ absurd (not_end is.head.says.code (head_within block size valid is.head) is.head.says.is_code how)
    | torn none told ↦ absurd (let no = none.no_code in let some = is.head.says.is_code in cc)
    | kept b s v c also told ↦
        let same = same_head b s v block size valid also.head is.head in
        absurd (no_other b s block size c same.0 same.1 also.gate is.other)
    | nothing begins told ↦ absurd (begins.no_head block size valid is.head)
    | other b s v gate told ↦
        let same = same_head block size valid b s v is.head gate.head in
        told ∙ ap (λ (n : ℕ). Err (page + 1 + byte_pages n)) same.1
  ]

  pub at_blank : page ≤ used → is_blank (get_or pages page []) ≡ true → item_at used numbers pages page ≡ Ok End
  at_blank below blank = elim (stands used numbers pages page below) [
    | ends how told ↦ told
    | torn none told ↦ absurd (let written = none.written in cc)
    | kept b s v c also told ↦ absurd (let none = blank_no_code (get_or pages page []) blank in let some = also.head.says.is_code in cc)
    | nothing begins told ↦ absurd (let none = blank_no_code (get_or pages page []) blank in let some = begins.is_code in cc)
    | other b s v gate told ↦ absurd (let none = blank_no_code (get_or pages page []) blank in let some = gate.head.says.is_code in cc)
  ]
