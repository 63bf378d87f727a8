-- The blocks of a state, taken one after the other, and their texts.
use Rattle.std.proofs.Common.{◌≡◌, ℕ, suc, ◌+◌, ◌-◌, ◌<◌, ◌≤◌, List, [], ◌∷◌, ◌++◌, true, false, None, Result, Ok, refl, sym, ap, subst, ◌∙◌, arith, get_or, drop, length, inl, inr}
use Rattle.std.proofs.Math.Seq.{drop-cons}
use Rattle.std.proofs.lemmas.List.{append-nil, drop_all, map-append}
use Rattle.std.proofs.lemmas.Bool.{and_parts, ltb-true, cases_eq}
use Rattle.std.specs.Prelude.{IsTrue, map, filter}
use Rattle.std.specs.List.{range_with_len}
use Rattle.flt_config.specs.declared.config.Config.{Config}
use Rattle.flt_config.specs.declared.persist.Persist.{Persist}
use Rattle.flt_config.specs.Durable.{Fits, initial_state}
use Rattle.flt_store_model.specs.Faults.{HoldBelow}
use Rattle.flt_store_model.specs.Form.{block_bytes}
use Rattle.flt_store_model.specs.Holding.{Fault, ◌>>=◌, or_damaged, with_content, with_named, parts_read, BlocksHold}
use Rattle.hex.specs.Hex.{IsBytes}
use Rattle.flt_store_model.specs.Layout.{number_of, index_in, part_of_block, is_used, used_ids, parts, end_part}
use Rattle.flt_store_model.specs.Reading.{taken}
use Rattle.flt_store_model.proofs.Choices.{chosen, not_chosen}
use Rattle.flt_store_model.proofs.ImageLaws.{zeros, blocks_of, stands}
use Rattle.flt_store_model.proofs.Short.{HasSizes}
use Rattle.flt_image.proofs.Ranges.{one_more}
use Rattle.flt_store_model.proofs.Parts.{part_of_fitting}
use Rattle.flt_store_model.proofs.Whole.{blocks_read, whole_read}
use Rattle.flt_trace.specs.Base.{base_texts, base_block_text}

module _ (c : Config) (p : Persist) where
  -- What this many first blocks are read as.
  abbrev pub so_far : ℕ → Result Persist Fault
  so_far count = parts_read c (blocks_of p) zeros count

  holds : BlocksHold c (blocks_of p) zeros p
  holds = stands c p p (λ id used. refl)

  pub begun : so_far 0 ≡ Ok (initial_state c)
  unfolding parts_read
  begun = refl

  next : (count : ℕ) → so_far (count + 1) ≡ (so_far count >>= with_named c (blocks_of p) zeros (3 + count))
  unfolding parts_read
  next count =
      let more : count + 1 ≡ suc count = omega arith in
      ap (λ (n : ℕ). parts_read c (blocks_of p) zeros n) more

  after : (count id : ℕ) → 3 + count ≡ id → (q : Persist) → so_far count ≡ Ok q → so_far (count + 1) ≡ with_named c (blocks_of p) zeros id q
  after count id at q so =
      next count ∙ ap (λ (r : Result Persist Fault). r >>= with_named c (blocks_of p) zeros (3 + count)) so ∙ ap (λ (n : ℕ). with_named c (blocks_of p) zeros n q) at

  -- A block that is not used.
  pub passed : (count id : ℕ) → 3 + count ≡ id → (q : Persist) → is_used c id ≡ false → so_far count ≡ Ok q → so_far (count + 1) ≡ Ok q
  passed count id at q unused so =
      after count id at q so ∙ not_chosen (is_used c id) (with_content c id (blocks_of p (number_of id (index_in zeros id))) q) (Ok q) unused

  -- A used one.
  pub taken_by : (count id : ℕ) → 3 + count ≡ id → (q : Persist) → is_used c id ≡ true → so_far count ≡ Ok q
      → so_far (count + 1) ≡ or_damaged id (taken c (part_of_block id) (block_bytes p id) q)
  taken_by count id at q used so =
      after count id at q so ∙ chosen (is_used c id) (with_content c id (blocks_of p (number_of id (index_in zeros id))) q) (Ok q) used
      ∙ ap (λ content. with_content c id content q) (holds id used)

  module _ (sizes : HasSizes c) (fits : Fits c p) where
    below : HoldBelow c (blocks_of p) zeros end_part p
    below = record {
      one_each = fits.states.one_each;
      blocks = λ id used within. holds id used;
      fits = λ id used within. part_of_fitting c p fits (part_of_block id);
    }

    -- No used block is refused.
    pub never_refused : (count id : ℕ) → 3 + count ≡ id → id < end_part → (q : Persist) → is_used c id ≡ true → so_far count ≡ Ok q
        → taken c (part_of_block id) (block_bytes p id) q ≡ None → ⊥
    never_refused count id at within q used so none =
        let read = blocks_read c sizes p fits.states.one_each (blocks_of p) zeros end_part (omega arith) below (count + 1) (omega (arith, at, within)) in
        let no : Ok read.0 ≡ or_damaged id None = sym read.1 ∙ taken_by count id at q used so ∙ ap (or_damaged id) none in
        absurd (cc no)

    -- In the end they are the state.
    pub all_taken : (q : Persist) → so_far parts ≡ Ok q → q ≡ p
    all_taken q so =
        let same : Ok q ≡ Ok p = sym so ∙ whole_read c sizes (blocks_of p) zeros p fits holds in
        cc same

  -- ---- the texts of the blocks from one on
  abbrev pub texts_from : ℕ → List (List ℕ)
  texts_from id = map (base_block_text p) (filter (is_used c) (range_with_len id (end_part - id)))

  pub texts_from_first : texts_from 3 ≡ base_texts c p
  unfolding used_ids
  texts_from_first = refl

  from_next : (id : ℕ) → id < end_part → range_with_len id (end_part - id) ≡ id ∷ range_with_len (id + 1) (end_part - (id + 1))
  from_next id within =
      let one : end_part - id ≡ suc (end_part - (id + 1)) = omega (arith, within) in
      ap (range_with_len id) one

  pub texts_with : (id : ℕ) → id < end_part → is_used c id ≡ true → texts_from id ≡ base_block_text p id ∷ texts_from (id + 1)
  texts_with id within used = rw (from_next id within, used) refl

  pub texts_without : (id : ℕ) → id < end_part → is_used c id ≡ false → texts_from id ≡ texts_from (id + 1)
  texts_without id within unused = rw (from_next id within, unused) refl

  -- The text at a place, and those after it.
  pub text_at : (texts : List (List ℕ)) (place id : ℕ) (d : List ℕ) → place < length texts → id < end_part → is_used c id ≡ true → drop place texts ≡ texts_from id
      → (get_or texts place d ≡ base_block_text p id) × (drop (place + 1) texts ≡ texts_from (id + 1))
  text_at texts place id d among within used from =
      let both : get_or texts place d ∷ drop (suc place) texts ≡ base_block_text p id ∷ texts_from (id + 1) = sym (drop-cons texts place d among) ∙ from ∙ texts_with id within used in
      let one : place + 1 ≡ suc place = omega arith in
      (cc both, ap (λ (n : ℕ). drop n texts) one ∙ cc both)

  pub text_missing : (texts : List (List ℕ)) (place id : ℕ) → length texts ≤ place → id < end_part → is_used c id ≡ true → drop place texts ≡ texts_from id → ⊥
  text_missing texts place id past within used from =
      let no : [] ≡ base_block_text p id ∷ texts_from (id + 1) = sym (drop_all place texts past) ∙ from ∙ texts_with id within used in
      absurd (cc no)

  -- ---- the texts of the blocks up to one
  abbrev pub texts_to : ℕ → List (List ℕ)
  texts_to id = map (base_block_text p) (filter (is_used c) (range_with_len 3 (id - 3)))

  pub all_texts : (id : ℕ) → id ≡ end_part → texts_to id ≡ base_texts c p
  unfolding used_ids
  all_texts id is = ap texts_to is

  ids_more : (id : ℕ) → 3 ≤ id → filter (is_used c) (range_with_len 3 (id - 3)) ++ filter (is_used c) (id ∷ []) ≡ filter (is_used c) (range_with_len 3 (id + 1 - 3))
  ids_more id low =
      let next : id - 3 + 1 ≡ id + 1 - 3 = omega (arith, low) in
      one_more (is_used c) 3 (id - 3) id (omega (arith, low)) ∙ ap (λ (n : ℕ). filter (is_used c) (range_with_len 3 n)) next

  pub one_text_more : (id : ℕ) → 3 ≤ id → is_used c id ≡ true → (before : List (List ℕ)) (text : List ℕ) → before ≡ texts_to id → text ≡ base_block_text p id
      → before ++ text ∷ [] ≡ texts_to (id + 1)
  one_text_more id low used before text so_far_is text_is =
      let ids = filter (is_used c) (range_with_len 3 (id - 3)) in
      let one : id ∷ [] ≡ filter (is_used c) (id ∷ []) = rw used refl in
      (λ i. so_far_is i ++ text_is i ∷ []) ∙ sym (map-append (base_block_text p) ids (id ∷ []))
      ∙ ap (λ (more : List ℕ). map (base_block_text p) (ids ++ more)) one ∙ ap (map (base_block_text p)) (ids_more id low)

  pub no_text_more : (id : ℕ) → 3 ≤ id → is_used c id ≡ false → texts_to id ≡ texts_to (id + 1)
  no_text_more id low unused =
      let ids = filter (is_used c) (range_with_len 3 (id - 3)) in
      let none : [] ≡ filter (is_used c) (id ∷ []) = rw unused refl in
      ap (map (base_block_text p)) (sym (append-nil ids) ∙ ap (λ (more : List ℕ). ids ++ more) none ∙ ids_more id low)

  -- Each block so far is of bytes.
  abbrev pub AreBytesTo : ℕ → Type 0
  AreBytesTo id = (k : ℕ) → IsTrue (is_used c k) → k < id → IsBytes (block_bytes p k)

  pub bytes_more : (id : ℕ) → AreBytesTo id → (IsTrue (is_used c id) → IsBytes (block_bytes p id)) → AreBytesTo (id + 1)
  bytes_more id before here k used within = elim (cases_eq k id) [
    | inl same ↦ subst (λ (n : ℕ). IsTrue (is_used c n) → IsBytes (block_bytes p n)) (sym same) here used
    | inr other ↦ before k used (omega (arith, within, other))
  ]

  pub used_below : (id : ℕ) → IsTrue (is_used c id) → id < end_part
  used_below id used = ltb-true id end_part (and_parts _ _ (and_parts _ _ used).0).1
