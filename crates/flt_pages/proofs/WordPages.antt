-- Pages that have a word.
use Rattle.std.proofs.Common.{◌≡◌, ◌+◌, ◌^◌, ◌<◌, ◌≤◌, ℕ, Bool, true, false, List, [], get_or, set, get_or-set_same, get_or-set_other, Option, Some, None, Result, Ok, Err, refl, sym, ◌∙◌, ap, arith}
use Rattle.std.specs.Prelude.{◌==◌, ◌&&◌, if◌then◌else◌, nat_le, Contains}
use Rattle.std.specs.List.{list_any}
use Rattle.std.specs.Str.{bytes_eq}
use Rattle.std.proofs.lemmas.Bool.{eq-eqb, le-leb}
use Rattle.std.proofs.lemmas.Slice.Eq.{bytes_eq-Decides}
use Rattle.flt_flash.specs.Image.{blank_page}
use Rattle.flt_flash.specs.Blocks.{byte_pages}
use Rattle.flt_code.specs.Seal.{sealed, unsealed}
use Rattle.flt_code.specs.Word.{IsWord, word_bytes}
use Rattle.flt_code.specs.declared.words.Word.{Word}
use Rattle.flt_code.specs.declared.words.Word.TheVariants.{Start, Active, Head, Gate}
use Rattle.flt_code.proofs.Unspoiled.{unspoiled_word}
use Rattle.flt_code.proofs.WordBytes.{word_of-word_bytes}
use Rattle.flt_code.proofs.WordCode.{word_code, word_page, unsealed_blank}
use Rattle.flt_sector_model.specs.declared.log.Item.TheVariants.{Kept}
use Rattle.flt_sector_model.specs.Log.{item_at, item_by_code, item_by_head, item_by_gate, is_gate_of}
use Rattle.flt_sector_model.specs.Gates.{gate_by, gate_by_code, both_gates, started_by, activated_by, gates_of}
use Rattle.flt_sector_model.proofs.Items.{is_among}
use Rattle.flt_pages.specs.Place.{IsPlace}
use Rattle.flt_pages.proofs.ItemCases.{item_by}

both_true : (a b : Bool) → a ≡ true → b ≡ true → (a && b) ≡ true
both_true a b first second = ap (λ x. x && b) first ∙ second

-- The page of a word is not blank.
written : (word : Word) → false ≡ bytes_eq (sealed (word_bytes word)) blank_page
written word = by_test (bytes_eq (sealed (word_bytes word)) blank_page) refl
  where
    by_test : (test : Bool) → test ≡ bytes_eq (sealed (word_bytes word)) blank_page → false ≡ bytes_eq (sealed (word_bytes word)) blank_page
    by_test false is = is
    by_test true is =
        let same : sealed (word_bytes word) ≡ blank_page = (bytes_eq-Decides (sealed (word_bytes word)) blank_page).0 (sym is) in
        let none : unsealed (sealed (word_bytes word)) ≡ None = ap unsealed same ∙ unsealed_blank in
        absurd (cc (none, word_page word))

-- What a gate page says by its word.
pub gate_says : (says : Option Word → Result (Option ℕ) ℕ) (fault : ℕ) (word : Word) → IsWord word → gate_by says fault (sealed (word_bytes word)) ≡ says (Some word)
gate_says says fault word proper =
    ap (λ b. if b then Err fault else gate_by_code says (unsealed (sealed (word_bytes word)))) (unspoiled_word (word_bytes word) (sealed (word_bytes word)) (word_code word))
    ∙ ap (gate_by_code says) (word_page word)
    ∙ ap says (word_of-word_bytes word proper)

pub valid_gates : (used sequence : ℕ) (pages : List (List ℕ)) → used < 2 ^ 16 → sequence < 2 ^ 32 → get_or pages 0 [] ≡ sealed (word_bytes (Start sequence used)) → get_or pages 1 [] ≡ sealed (word_bytes (Active sequence))
    → gates_of used pages ≡ Ok (Some sequence)
valid_gates used sequence pages fits number first second =
    ap (λ (page : List ℕ). both_gates (gate_by (started_by used) 0 page) (gate_by activated_by 1 (get_or pages 1 []))) first
    ∙ ap (λ (page : List ℕ). both_gates (gate_by (started_by used) 0 (sealed (word_bytes (Start sequence used)))) (gate_by activated_by 1 page)) second
    ∙ ap (λ r. both_gates r (gate_by activated_by 1 (sealed (word_bytes (Active sequence))))) start
    ∙ ap (both_gates (Ok (Some sequence))) active
    ∙ ap (λ b. if b then Ok (Some sequence) else Err 1) (eq-eqb sequence sequence refl)
  where
    start : gate_by (started_by used) 0 (sealed (word_bytes (Start sequence used))) ≡ Ok (Some sequence)
    start = gate_says (started_by used) 0 (Start sequence used) (number, fits) ∙ ap (λ b. if b then Ok (Some sequence) else Err 0) (eq-eqb used used refl)

    active : gate_by activated_by 1 (sealed (word_bytes (Active sequence))) ≡ Ok (Some sequence)
    active = gate_says activated_by 1 (Active sequence) number

-- The item of a whole head, by the page in the place of its gate.
module _ (used : ℕ) (numbers : List ℕ) (page block size : ℕ) (valid : Bool) (word : IsWord (Head block size valid page)) (number : Contains numbers block) (room : page + 2 + byte_pages size ≤ used) where
  pub item_of_head : (pages : List (List ℕ)) → get_or pages page [] ≡ sealed (word_bytes (Head block size valid page))
      → item_at used numbers pages page ≡ item_by_gate block size valid page (page + 1 + byte_pages size) (unsealed (get_or pages (page + 1 + byte_pages size) []))
  item_of_head pages is =
      item_by used numbers pages page (sealed (word_bytes (Head block size valid page))) false (omega arith) is (written (Head block size valid page))
      ∙ ap (item_by_code used numbers pages page) (word_page (Head block size valid page))
      ∙ ap (item_by_head used numbers pages page) (word_of-word_bytes (Head block size valid page) word)
      ∙ ap (λ b. if b then item_by_gate block size valid page (page + 1 + byte_pages size) (unsealed (get_or pages (page + 1 + byte_pages size) [])) else Err page)
      (both_true (page == page && list_any (λ n. n == block) numbers) (nat_le (page + 2 + byte_pages size) used)
      (both_true (page == page) (list_any (λ n. n == block) numbers) (eq-eqb page page refl) (is_among numbers block number)) (le-leb (page + 2 + byte_pages size) used room))

pub opened : (used page block size : ℕ) (valid : Bool) (numbers : List ℕ) (pages : List (List ℕ)) → IsPlace used numbers pages page block size valid
    → item_at used numbers (set pages page (sealed (word_bytes (Head block size valid page)))) page ≡ Ok (Kept block size valid false)
opened used page block size valid numbers pages place =
    let head = sealed (word_bytes (Head block size valid page)) in
    let room : page + 2 + byte_pages size ≤ used = omega (arith, place.room) in
    item_of_head used numbers page block size valid place.word place.number room (set pages page head) (get_or-set_same pages page head [] (omega (arith, place.within)))
    ∙ ap (λ (gate : List ℕ). item_by_gate block size valid page (page + 1 + byte_pages size) (unsealed gate)) (get_or-set_other pages page (page + 1 + byte_pages size) head [] (omega arith) ∙ place.blank)
    ∙ ap (item_by_gate block size valid page (page + 1 + byte_pages size)) unsealed_blank

pub completed : (used page block size : ℕ) (valid : Bool) (numbers : List ℕ) (pages : List (List ℕ)) → IsPlace used numbers pages page block size valid
    → get_or pages page [] ≡ sealed (word_bytes (Head block size valid page))
    → item_at used numbers (set pages (page + 1 + byte_pages size) (sealed (word_bytes (Gate block page)))) page ≡ Ok (Kept block size valid true)
completed used page block size valid numbers pages place is =
    let gate = sealed (word_bytes (Gate block page)) in
    let at = page + 1 + byte_pages size in
    let room : page + 2 + byte_pages size ≤ used = omega (arith, place.room) in
    item_of_head used numbers page block size valid place.word place.number room (set pages at gate) (get_or-set_other pages at page gate [] (omega arith) ∙ is)
    ∙ ap (λ (found : List ℕ). item_by_gate block size valid page at (unsealed found)) (get_or-set_same pages at gate [] (omega (arith, place.within)))
    ∙ ap (item_by_gate block size valid page at) (word_page (Gate block page))
    ∙ ap (λ w. if is_gate_of block page w then Ok (Kept block size valid true) else Err at) (word_of-word_bytes (Gate block page) (place.word.0, place.word.2))
    ∙ ap (λ b. if b then Ok (Kept block size valid true) else Err at) (both_true (block == block) (page == page) (eq-eqb block block refl) (eq-eqb page page refl))
