-- The bytes of a part are read back as what it was.
use Rattle.std.proofs.Common.{◌≡◌, ℕ, zero, suc, ◌+◌, ◌-◌, ◌*◌, ◌%◌, ◌<◌, ◌≤◌, ◌++◌, ◌==◌, [], ◌∷◌, Bool, true, false, List, length, refl, sym, ◌∙◌, ap, subst, arith, inl, inr, min, take, drop, replicate}
use Rattle.std.specs.Prelude.{slice_index_or, slice_index, nat_le, Option, Some, None, IfSome}
use Rattle.std.specs.Int.{from_be_bytes, w16}
use Rattle.std.proofs.lemmas.Nat.{from_be_bytes-to_be_bytes_2}
use Rattle.std.proofs.lemmas.Bool.{cases_lt, eq-eqb, ne_eqb, le-leb, lt-leb}
use Rattle.std.proofs.lemmas.List.{get_or_append_left, get_or-append_right, take_at, drop_at, take-append-le}
use Rattle.flt_config.specs.declared.persist.Persist.{Persist}
use Rattle.flt_config.specs.declared.persist.EventState.{EventState}
use Rattle.flt_config.specs.declared.persist.EntryState.{EntryState}
use Rattle.flt_config.specs.Durable.{start_state}
use Rattle.flt_store_model.specs.Form.{be16, note_word, flag, summary_bytes, state_bytes, first_states, padded, entry_bytes}
use Rattle.flt_store_model.specs.Reading.{word_at, note_at, untaken_entry, with_summary, state_from, entry_from}
use Rattle.flt_store_model.proofs.Choices.{chosen, not_chosen}
use Rattle.flt_store_model.proofs.States.{first_states_more}
use Rattle.flt_store_model.proofs.Sizes.{states_size, padded_size}

-- Two bytes that are those of a number hold it.
pub word_of : (n : ℕ) (held : List ℕ) (at : ℕ) → n < 65536 → slice_index held at ≡ slice_index (be16 n) 0 → slice_index held (at + 1) ≡ slice_index (be16 n) 1 → word_at held at ≡ n
word_of n held at below high low =
    let both : word_at held at ≡ from_be_bytes w16 (be16 n) = λ i. from_be_bytes w16 (high i ∷ low i ∷ []) in
    both ∙ from_be_bytes-to_be_bytes_2 n (omega (arith, below))

-- ---- the summary
flag_read : (b : Bool) → (flag b == 1) ≡ b
flag_read true = refl
flag_read false = refl

note_read : (held : List ℕ) (at : ℕ) (note : Option ℕ) → IfSome note (λ event. event < 65535) → word_at held at ≡ note_word note → note_at held at ≡ note
note_read held at None below is = chosen (word_at held at == 65535) None (Some (word_at held at)) (eq-eqb (word_at held at) 65535 is)
note_read held at (Some event) below is =
    not_chosen (word_at held at == 65535) None (Some (word_at held at)) (ne_eqb (word_at held at) 65535 (λ none. omega (arith, below, none, is))) ∙ ap Some is

note_below : (note : Option ℕ) → IfSome note (λ event. event < 65535) → note_word note < 65536
note_below None below = omega arith
note_below (Some event) below = omega (arith, below)

-- The numbers and notes of a summary are within their bytes.
pub record HasShortSummary (p : Persist) : Type 0 where
  pub entries : length p.entries.items ≤ 16
  pub first_failed : IfSome p.first_failed (λ event. event < 65535)
  pub first_confirmed : IfSome p.first_confirmed (λ event. event < 65535)
  pub recent_failed : IfSome p.recent_failed (λ event. event < 65535)
  pub recent_confirmed : IfSome p.recent_confirmed (λ event. event < 65535)

-- A state with the summary of another.
abbrev pub summary_of : Persist → Persist → Persist
summary_of p q =
    record q {
      overflow = p.overflow;
      entries = record { items = replicate (length p.entries.items) untaken_entry };
      first_failed = p.first_failed;
      first_confirmed = p.first_confirmed;
      recent_failed = p.recent_failed;
      recent_confirmed = p.recent_confirmed;
    }

pub summary_read : (p q : Persist) → HasShortSummary p → with_summary (summary_bytes p) q ≡ summary_of p q
unfolding with_summary summary_bytes
summary_read p q short =
    let count : min (length p.entries.items) 16 ≡ length p.entries.items = omega (arith, short.entries) in
    let held : List ℕ = summary_bytes p in
    let a = note_read held 4 p.first_failed short.first_failed (word_of (note_word p.first_failed) held 4 (note_below p.first_failed short.first_failed) refl refl) in
    let b = note_read held 6 p.first_confirmed short.first_confirmed (word_of (note_word p.first_confirmed) held 6 (note_below p.first_confirmed short.first_confirmed) refl refl) in
    let d = note_read held 8 p.recent_failed short.recent_failed (word_of (note_word p.recent_failed) held 8 (note_below p.recent_failed short.recent_failed) refl refl) in
    let e = note_read held 10 p.recent_confirmed short.recent_confirmed (word_of (note_word p.recent_confirmed) held 10 (note_below p.recent_confirmed short.recent_confirmed) refl refl) in
    λ i. record q {
      overflow = flag_read p.overflow i;
      entries = record { items = replicate (count i) untaken_entry };
      first_failed = a i;
      first_confirmed = b i;
      recent_failed = d i;
      recent_confirmed = e i;
    }

-- ---- the states
clean_read : (lit : Bool) (clean word : ℕ) → clean < 0x8000 → word ≡ clean + 0x8000 * flag lit → word % 0x8000 ≡ clean
clean_read true clean word below is = omega (arith, below, is)
clean_read false clean word below is = omega (arith, below, is)

lit_read : (lit : Bool) (clean word : ℕ) → clean < 0x8000 → word ≡ clean + 0x8000 * flag lit → nat_le 0x8000 word ≡ lit
lit_read true clean word below is = le-leb 0x8000 word (omega (arith, is))
lit_read false clean word below is = lt-leb 0x8000 word (omega (arith, below, is))

word_short : (lit : Bool) (clean : ℕ) → clean < 0x8000 → clean + 0x8000 * flag lit < 65536
word_short true clean below = omega (arith, below)
word_short false clean below = omega (arith, below)

-- Each byte of a block of states is that of a state.
byte_of_state : (states : List EventState) (first count place j at : ℕ) → place < count → j < 4 → at ≡ 4 * place + j
    → slice_index (first_states states first count) at ≡ slice_index (state_bytes (slice_index_or states (first + place) start_state)) j
byte_of_state states first zero place j at below small is = absurd (omega (arith, below))
byte_of_state states first (suc count) place j at below small is =
    let front = first_states states first count in
    let last = state_bytes (slice_index_or states (first + count) start_state) in
    let more : first_states states first (suc count) ≡ front ++ last =
    subst (λ (n : ℕ). first_states states first n ≡ front ++ last) (omega arith) (first_states_more states first count) in
    ap (λ (bytes : List ℕ). slice_index bytes at) more
    ∙ elim (cases_lt place count) [
      | inl before ↦
          get_or_append_left front last 0 at (omega (arith, states_size states first count, before, small, is))
          ∙ byte_of_state states first count place j at before small is
      | inr past ↦
          let here : place ≡ count = omega (arith, below, past) in
          let rest : at - 4 * count ≡ j = omega (arith, is, here) in
          get_or-append_right front last (4 * count) at 0 (states_size states first count) (omega (arith, is, here))
          ∙ ap (slice_index last) rest
          ∙ ap (λ (n : ℕ). slice_index (state_bytes (slice_index_or states (first + n) start_state)) j) (sym here)
    ]

pub state_read : (states : List EventState) (first count place : ℕ) → place < count → (slice_index_or states (first + place) start_state).clean < 0x8000
    → state_from (first_states states first count) place ≡ slice_index_or states (first + place) start_state
unfolding state_from state_bytes
state_read states first count place below short =
    let state = slice_index_or states (first + place) start_state in
    let held = first_states states first count in
    let n = state.clean + 0x8000 * flag state.lit in
    let high : slice_index held (4 * place + 2) ≡ slice_index (be16 n) 0 = byte_of_state states first count place 2 (4 * place + 2) below (omega arith) (omega arith) in
    let low : slice_index held (4 * place + 2 + 1) ≡ slice_index (be16 n) 1 = byte_of_state states first count place 3 (4 * place + 2 + 1) below (omega arith) (omega arith) in
    let word : word_at held (4 * place + 2) ≡ n = word_of n held (4 * place + 2) (word_short state.lit state.clean short) high low in
    let status : slice_index held (4 * place) ≡ state.status = byte_of_state states first count place 0 (4 * place) below (omega arith) (omega arith) in
    let failed : slice_index held (4 * place + 1) ≡ state.failed = byte_of_state states first count place 1 (4 * place + 1) below (omega arith) (omega arith) in
    let clean = clean_read state.lit state.clean (word_at held (4 * place + 2)) short word in
    let lit = lit_read state.lit state.clean (word_at held (4 * place + 2)) short word in
    λ i. record { status = status i; failed = failed i; clean = clean i; lit = lit i }

-- ---- the entries
pub entry_read : (entry : EntryState) → entry.event < 65536 → length entry.first.items ≤ 32 → length entry.recent.items ≡ length entry.first.items → entry_from (entry_bytes entry) ≡ entry
unfolding entry_from entry_bytes
entry_read entry event short same =
    let first = entry.first.items in
    let recent = entry.recent.items in
    let count : min (length first) 32 ≡ length first = omega (arith, short) in
    let size : length (padded first) ≡ 32 = padded_size first short in
    let one : take (min (length first) 32) (padded first ++ padded recent) ≡ first =
    ap (λ (n : ℕ). take n (padded first ++ padded recent)) count
    ∙ take-append-le (length first) (padded first) (padded recent) (omega (arith, size, short))
    ∙ take_at first (replicate (32 - length first) 0) (length first) refl in
    let two : take (min (length first) 32) (drop 32 (padded first ++ padded recent)) ≡ recent =
    ap (take (min (length first) 32)) (drop_at (padded first) (padded recent) 32 size)
    ∙ ap (λ (n : ℕ). take n (padded recent)) (count ∙ sym same)
    ∙ take_at recent (replicate (32 - length recent) 0) (length recent) refl in
    λ i. record {
      event = from_be_bytes-to_be_bytes_2 entry.event (omega (arith, event)) i;
      occurrence = entry.occurrence;
      first = record { items = one i };
      recent = record { items = two i };
    }
