-- The bytes of a commit are read as that commit, in either version, and no others are read.
use Rattle.std.proofs.Common.{inl, inr, ◌≡◌, ◌≢◌, ℕ, zero, suc, ◌+◌, ◌-◌, ◌*◌, ◌/◌, ◌%◌, ◌&&◌, ◌<◌, ◌≤◌, ◌^◌, ◌++◌, List, length, take, drop, replicate, map, refl, sym, ◌∙◌, ap, subst, Some, None, arith, true, false, Bool, length-take, length-append}
use Rattle.std.specs.Prelude.{bytes_eq, nat_le, slice_index, ◌==◌}
use Rattle.std.specs.Int.{from_be_bytes, to_be_bytes, w32}
use Rattle.std.specs.List.{range_with_len}
use Rattle.std.proofs.lemmas.Nat.{from_be_bytes-to_be_bytes_4}
use Rattle.std.proofs.lemmas.Bool.{cases_Bool, cases_eq, cases_lt, and_parts, and_from, and_left, and_right, leb-true, le-leb, lt-ltb, eqb-true, eq-eqb, ne_eqb, false_from_ne_true}
use Rattle.std.proofs.lemmas.List.{take-append-drop, drop_at, length-replicate, same_lists, get_or_default, get_or-drop}
use Rattle.std.proofs.lemmas.List.FromFn.{get_or-map-range_with_len, length-map-range_with_len}
use Rattle.std.proofs.lemmas.Slice.Eq.{bytes_eq-Decides}
use Rattle.flt_config.specs.declared.config.Config.{Config}
use Rattle.flt_store_model.specs.declared.commit.Commit.{Commit}
use Rattle.flt_store_model.specs.Layout.{is_used, index_in, parts, later_states_blocks, later_states_id, first_later_event}
use Rattle.flt_store_model.specs.Form.{flag, index_bit, packed, commit_bytes, commit_bytes_1, HasNoLater, IsBytesOfCommit, IsCommit, IsBlockIndex, parts_1, commit_length, commit_length_2}
use Rattle.flt_store_model.specs.Reading.{commit_from, commit_from_1, commit_in, if_commit, bit_in, index_by_bit, is_index, is_commit}
use Rattle.flt_store_model.proofs.Choices.{chosen, not_chosen, some_chosen, all_at, all_from}

pub commit_size : (commit : Commit) → length (commit_bytes commit) ≡ commit_length_2
unfolding commit_bytes
commit_size commit = refl

pub commit_size_1 : (commit : Commit) → length commit.index ≡ parts → length (commit_bytes_1 commit) ≡ commit_length
unfolding commit_bytes_1
commit_size_1 commit size = omega (arith, size, length-take parts_1 commit.index)

-- What four bytes hold is below 2 ^ 32.
long_below : (n : ℕ) → from_be_bytes w32 (to_be_bytes w32 n) < 4294967296
long_below n = omega arith

generation_below : (c : Config) (commit : Commit) → (commit_from c (commit_bytes commit)).generation < 4294967296
unfolding commit_from commit_bytes
generation_below c commit = long_below commit.generation

generation_below_1 : (commit : Commit) → (commit_from_1 (commit_bytes_1 commit)).generation < 4294967296
unfolding commit_from_1 commit_bytes_1
generation_below_1 commit = long_below commit.generation

-- An index, and its test.
index_is : (c : Config) (id index : ℕ) → is_index c id index ≡ true → IsBlockIndex c id index
index_is c id index is = by (is_used c id) refl
  where
    by : (used : Bool) → is_used c id ≡ used → IsBlockIndex c id index
    by true used = record {
      used = λ _. leb-true index 1 (sym (chosen (is_used c id) (nat_le index 1) (index == 255) used) ∙ is);
      unused = λ not. absurd (cc);
    }
    by false unused = record {
      used = λ yes. absurd (cc);
      unused = λ _. eqb-true index 255 (sym (not_chosen (is_used c id) (nat_le index 1) (index == 255) unused) ∙ is);
    }

is_index_of : (c : Config) (id index : ℕ) → IsBlockIndex c id index → is_index c id index ≡ true
is_index_of c id index is = by (is_used c id) refl
  where
    by : (used : Bool) → is_used c id ≡ used → is_index c id index ≡ true
    by true used = chosen (is_used c id) (nat_le index 1) (index == 255) used ∙ le-leb index 1 (is.used used)
    by false unused = not_chosen (is_used c id) (nat_le index 1) (index == 255) unused ∙ eq-eqb index 255 (is.unused unused)

-- A commit of a configuration, and its test.
pub tested_commit : (c : Config) (commit : Commit) → commit.generation < 4294967296 → is_commit c commit ≡ true → IsCommit c commit
unfolding is_commit
tested_commit c commit most is =
    let first = and_parts _ _ is in
    let second = and_parts _ _ first.0 in
    record {
      least = leb-true 1 commit.generation second.0;
      most = omega (arith, most);
      size = eqb-true (length commit.index) parts second.1;
      indices = λ id low high. subst (λ (n : ℕ). IsBlockIndex c n (index_in commit n)) (omega (arith, low))
          (index_is c (3 + (id - 3)) (index_in commit (3 + (id - 3))) (all_at (λ n. is_index c n (index_in commit n)) 3 parts first.1 (id - 3) (omega (arith, low, high))));
    }

pub commit_test : (c : Config) (commit : Commit) → IsCommit c commit → is_commit c commit ≡ true
unfolding is_commit
commit_test c commit is =
    and_from _ _ (and_from _ _ (le-leb 1 commit.generation is.least) (eq-eqb (length commit.index) parts is.size))
    (all_from (λ n. is_index c n (index_in commit n)) 3 parts (λ k below. is_index_of c (3 + k) (index_in commit (3 + k)) (is.indices (3 + k) (omega arith) (omega (arith, below)))))

-- ---- the bits of eight blocks
-- Each bit of a byte is that of its block.
module _ (a b d e f g h k : ℕ) (a1 : a ≤ 1) (b1 : b ≤ 1) (d1 : d ≤ 1) (e1 : e ≤ 1) (f1 : f ≤ 1) (g1 : g ≤ 1) (h1 : h ≤ 1) (k1 : k ≤ 1) where
  abbrev the_byte : ℕ
  the_byte = a + 2 * b + 4 * d + 8 * e + 16 * f + 32 * g + 64 * h + 128 * k

  bit_0 : the_byte / 1 % 2 ≡ a
  bit_0 = omega (arith, a1, b1, d1, e1, f1, g1, h1, k1)

  bit_1 : the_byte / 2 % 2 ≡ b
  bit_1 = omega (arith, a1, b1, d1, e1, f1, g1, h1, k1)

  bit_2 : the_byte / 4 % 2 ≡ d
  bit_2 = omega (arith, a1, b1, d1, e1, f1, g1, h1, k1)

  bit_3 : the_byte / 8 % 2 ≡ e
  bit_3 = omega (arith, a1, b1, d1, e1, f1, g1, h1, k1)

  bit_4 : the_byte / 16 % 2 ≡ f
  bit_4 = omega (arith, a1, b1, d1, e1, f1, g1, h1, k1)

  bit_5 : the_byte / 32 % 2 ≡ g
  bit_5 = omega (arith, a1, b1, d1, e1, f1, g1, h1, k1)

  bit_6 : the_byte / 64 % 2 ≡ h
  bit_6 = omega (arith, a1, b1, d1, e1, f1, g1, h1, k1)

  bit_7 : the_byte / 128 % 2 ≡ k
  bit_7 = omega (arith, a1, b1, d1, e1, f1, g1, h1, k1)

flag_small : (b : Bool) → flag b ≤ 1
flag_small true = omega arith
flag_small false = omega arith

module _ (index : List ℕ) (place : ℕ) where
  abbrev at : ℕ → ℕ
  at j = index_bit index (place + j)

  small : (j : ℕ) → at j ≤ 1
  small j = flag_small (slice_index index (place + j) == 1)

  abbrev Reads : ℕ → Type 0
  Reads j = packed index place / 2 ^ j % 2 ≡ index_bit index (place + j)

  first_at : index_bit index place ≤ 1
  first_at = flag_small (slice_index index place == 1)

  bit_of : (j : ℕ) → j < 8 → Reads j
  bit_of zero below = bit_0 (index_bit index place) (at 1) (at 2) (at 3) (at 4) (at 5) (at 6) (at 7) first_at (small 1) (small 2) (small 3) (small 4) (small 5) (small 6) (small 7) ∙ (let here : place ≡ place + 0 = omega arith in ap (index_bit index) here)
  bit_of (suc zero) below = bit_1 (index_bit index place) (at 1) (at 2) (at 3) (at 4) (at 5) (at 6) (at 7) first_at (small 1) (small 2) (small 3) (small 4) (small 5) (small 6) (small 7)
  bit_of (suc (suc zero)) below = bit_2 (index_bit index place) (at 1) (at 2) (at 3) (at 4) (at 5) (at 6) (at 7) first_at (small 1) (small 2) (small 3) (small 4) (small 5) (small 6) (small 7)
  bit_of (suc (suc (suc zero))) below = bit_3 (index_bit index place) (at 1) (at 2) (at 3) (at 4) (at 5) (at 6) (at 7) first_at (small 1) (small 2) (small 3) (small 4) (small 5) (small 6) (small 7)
  bit_of (suc (suc (suc (suc zero)))) below = bit_4 (index_bit index place) (at 1) (at 2) (at 3) (at 4) (at 5) (at 6) (at 7) first_at (small 1) (small 2) (small 3) (small 4) (small 5) (small 6) (small 7)
  bit_of (suc (suc (suc (suc (suc zero))))) below = bit_5 (index_bit index place) (at 1) (at 2) (at 3) (at 4) (at 5) (at 6) (at 7) first_at (small 1) (small 2) (small 3) (small 4) (small 5) (small 6) (small 7)
  bit_of (suc (suc (suc (suc (suc (suc zero)))))) below = bit_6 (index_bit index place) (at 1) (at 2) (at 3) (at 4) (at 5) (at 6) (at 7) first_at (small 1) (small 2) (small 3) (small 4) (small 5) (small 6) (small 7)
  bit_of (suc (suc (suc (suc (suc (suc (suc zero))))))) below = bit_7 (index_bit index place) (at 1) (at 2) (at 3) (at 4) (at 5) (at 6) (at 7) first_at (small 1) (small 2) (small 3) (small 4) (small 5) (small 6) (small 7)
  bit_of (suc (suc (suc (suc (suc (suc (suc (suc j)))))))) below = absurd (omega (arith, below))

-- The byte of a block.
byte_of : (commit : Commit) (b : ℕ) → b < 5 → slice_index (commit_bytes commit) (5 + b) ≡ packed commit.index (8 * b)
unfolding commit_bytes
byte_of commit zero below = refl
byte_of commit (suc zero) below = refl
byte_of commit (suc (suc zero)) below = refl
byte_of commit (suc (suc (suc zero))) below = refl
byte_of commit (suc (suc (suc (suc zero)))) below = refl
byte_of commit (suc (suc (suc (suc (suc b))))) below = absurd (omega (arith, below))

bit_is : (commit : Commit) (k : ℕ) → k < parts → bit_in (commit_bytes commit) k ≡ index_bit commit.index k
bit_is commit k below =
    let whole : 8 * (k / 8) + k % 8 ≡ k = omega arith in
    ap (λ (n : ℕ). n / 2 ^ (k % 8) % 2) (byte_of commit (k / 8) (omega (arith, below)))
    ∙ bit_of commit.index (8 * (k / 8)) (k % 8) (omega arith)
    ∙ ap (index_bit commit.index) whole

bit_of_index : (index : ℕ) → index ≤ 1 → flag (index == 1) ≡ index
bit_of_index zero small = refl
bit_of_index (suc zero) small = refl
bit_of_index (suc (suc index)) small = absurd (omega (arith, small))

-- The index of each block is read by its bit.
index_is_read : (c : Config) (commit : Commit) → IsCommit c commit → (k : ℕ) → k < parts → index_by_bit c (commit_bytes commit) (3 + k) ≡ slice_index commit.index k
index_is_read c commit is k below = by (is_used c (3 + k)) refl
  where
    same : 3 + k - 3 ≡ k
    same = omega arith

    index : IsBlockIndex c (3 + k) (index_in commit (3 + k))
    index = is.indices (3 + k) (omega arith) (omega (arith, below))

    here : index_in commit (3 + k) ≡ slice_index commit.index k
    here = ap (slice_index commit.index) same

    by : (used : Bool) → is_used c (3 + k) ≡ used → index_by_bit c (commit_bytes commit) (3 + k) ≡ slice_index commit.index k
    by true used =
        chosen (is_used c (3 + k)) (bit_in (commit_bytes commit) (3 + k - 3)) 0xFF used
        ∙ ap (bit_in (commit_bytes commit)) same
        ∙ bit_is commit k below
        ∙ bit_of_index (slice_index commit.index k) (let small = index.used used in omega (arith, small, here))
    by false unused = not_chosen (is_used c (3 + k)) (bit_in (commit_bytes commit) (3 + k - 3)) 0xFF unused ∙ sym (index.unused unused) ∙ here

same_indices : (c : Config) (commit : Commit) → IsCommit c commit → map (index_by_bit c (commit_bytes commit)) (range_with_len 3 parts) ≡ commit.index
same_indices c commit is =
    let size = length-map-range_with_len (index_by_bit c (commit_bytes commit)) 3 parts in
    same_lists (map (index_by_bit c (commit_bytes commit)) (range_with_len 3 parts)) commit.index (size ∙ sym is.size) (λ k d below.
    let within : k < parts = omega (arith, below, size) in
    get_or-map-range_with_len (index_by_bit c (commit_bytes commit)) 3 parts k (3 + k) d within (omega arith)
    ∙ index_is_read c commit is k within
    ∙ get_or_default commit.index k 0 d (let most = is.size in omega (arith, within, most)))

number_is_read : (c : Config) (commit : Commit) → commit.generation < 2 ^ 32 → (commit_from c (commit_bytes commit)).generation ≡ commit.generation
unfolding commit_from commit_bytes
number_is_read c commit most = from_be_bytes-to_be_bytes_4 commit.generation most

indices_are_read : (c : Config) (commit : Commit) → (commit_from c (commit_bytes commit)).index ≡ map (index_by_bit c (commit_bytes commit)) (range_with_len 3 parts)
unfolding commit_from
indices_are_read c commit = refl

commit_from-commit_bytes : (c : Config) (commit : Commit) → IsCommit c commit → commit_from c (commit_bytes commit) ≡ commit
commit_from-commit_bytes c commit is =
    let number = number_is_read c commit is.most in
    let index = indices_are_read c commit ∙ same_indices c commit is in
    λ i. record { generation = number i; index = index i }

commit_from_1-commit_bytes_1 : (commit : Commit) → commit.generation < 2 ^ 32 → HasNoLater commit → commit_from_1 (commit_bytes_1 commit) ≡ commit
unfolding commit_from_1 commit_bytes_1
commit_from_1-commit_bytes_1 commit most none =
    let index : take parts_1 commit.index ++ replicate later_states_blocks 0xFF ≡ commit.index = ap (λ (rest : List ℕ). take parts_1 commit.index ++ rest) (sym none) ∙ take-append-drop parts_1 commit.index in
    λ i. record { generation = from_be_bytes-to_be_bytes_4 commit.generation most i; index = index i }

-- What is read in version 1 names no later block of states, where it has an index for each block.
no_later : (held : List ℕ) → length (commit_from_1 held).index ≡ parts → HasNoLater (commit_from_1 held)
unfolding commit_from_1
no_later held size =
    let front : length (drop 5 held) ≡ parts_1 = omega (arith, size, length-append (drop 5 held) (replicate later_states_blocks 0xFF), length-replicate {A = ℕ} later_states_blocks 0xFF) in
    drop_at (drop 5 held) (replicate later_states_blocks 0xFF) parts_1 front

-- ---- what is read
sized : (c : Config) (commit : Commit) → is_commit c commit ≡ true → length commit.index ≡ parts
unfolding is_commit
sized c commit is = eqb-true (length commit.index) parts (and_parts _ _ (and_parts _ _ is).0).1

-- The first byte gives the version.
in_version_1 : (c : Config) (held : List ℕ) → slice_index held 0 ≡ 1 → commit_in c held ≡ if_commit c held (commit_bytes_1 (commit_from_1 held)) (commit_from_1 held)
unfolding commit_in
in_version_1 c held is = chosen (slice_index held 0 == 1) _ _ (eq-eqb (slice_index held 0) 1 is)

in_version_2 : (c : Config) (held : List ℕ) → slice_index held 0 ≢ 1 → commit_in c held ≡ if_commit c held (commit_bytes (commit_from c held)) (commit_from c held)
unfolding commit_in
in_version_2 c held other = not_chosen (slice_index held 0 == 1) _ _ (ne_eqb (slice_index held 0) 1 other)

first_byte : (commit : Commit) → slice_index (commit_bytes commit) 0 ≡ 2
unfolding commit_bytes
first_byte commit = refl

first_byte_1 : (commit : Commit) → slice_index (commit_bytes_1 commit) 0 ≡ 1
unfolding commit_bytes_1
first_byte_1 commit = refl

-- A commit that is one of the configuration and has these bytes, and none.
if_is : (c : Config) (held own : List ℕ) (commit found : Commit) → if_commit c held own commit ≡ Some found → (held ≡ own) × (is_commit c commit ≡ true) × (commit ≡ found)
if_is c held own commit found is =
    let by = some_chosen (bytes_eq held own && is_commit c commit) commit found is in
    let parts = and_parts (bytes_eq held own) (is_commit c commit) by.0 in
    ((bytes_eq-Decides held own).0 parts.0, parts.1, by.1)

pub is_if : (c : Config) (held own : List ℕ) (commit : Commit) → held ≡ own → is_commit c commit ≡ true → if_commit c held own commit ≡ Some commit
is_if c held own commit same is = chosen (bytes_eq held own && is_commit c commit) (Some commit) None (and_from (bytes_eq held own) (is_commit c commit) ((bytes_eq-Decides held own).1 same) is)

-- What is read is a commit of these bytes.
pub read_commit : (c : Config) (held : List ℕ) (commit : Commit) → commit_in c held ≡ Some commit → IsCommit c commit × IsBytesOfCommit commit held
read_commit c held commit is = elim (cases_eq (slice_index held 0) 1) [
  | inl old ↦
      let from = commit_from_1 held in
      let found = if_is c held (commit_bytes_1 from) from commit (sym (in_version_1 c held old) ∙ is) in
      let below = subst (λ (h : List ℕ). (commit_from_1 h).generation < 4294967296) (sym found.0) (generation_below_1 from) in
      subst (λ (m : Commit). IsCommit c m × IsBytesOfCommit m held) found.2
      (tested_commit c from below found.1, inr (no_later held (sized c from found.1), found.0))
  | inr new ↦
      let from = commit_from c held in
      let found = if_is c held (commit_bytes from) from commit (sym (in_version_2 c held new) ∙ is) in
      let below = subst (λ (h : List ℕ). (commit_from c h).generation < 4294967296) (sym found.0) (generation_below c from) in
      subst (λ (m : Commit). IsCommit c m × IsBytesOfCommit m held) found.2 (tested_commit c from below found.1, inl found.0)
]

-- The bytes of a commit are read.
pub commit_read : (c : Config) (held : List ℕ) (commit : Commit) → IsCommit c commit → IsBytesOfCommit commit held → commit_in c held ≡ Some commit
commit_read c held commit is (inl new) =
    let found : commit_from c held ≡ commit = ap (commit_from c) new ∙ commit_from-commit_bytes c commit is in
    let first : slice_index held 0 ≡ 2 = ap (λ (h : List ℕ). slice_index h 0) new ∙ first_byte commit in
    in_version_2 c held (λ old. omega (arith, first, old))
    ∙ is_if c held (commit_bytes (commit_from c held)) (commit_from c held) (new ∙ sym (ap commit_bytes found)) (subst (λ (m : Commit). is_commit c m ≡ true) (sym found) (commit_test c commit is))
    ∙ ap Some found
commit_read c held commit is (inr (none, old)) =
    let found : commit_from_1 held ≡ commit = ap commit_from_1 old ∙ commit_from_1-commit_bytes_1 commit is.most none in
    in_version_1 c held (ap (λ (h : List ℕ). slice_index h 0) old ∙ first_byte_1 commit)
    ∙ is_if c held (commit_bytes_1 (commit_from_1 held)) (commit_from_1 held) (old ∙ sym (ap commit_bytes_1 found)) (subst (λ (m : Commit). is_commit c m ≡ true) (sym found) (commit_test c commit is))
    ∙ ap Some found

-- The first later block of states would be used where there are more events, and have an index.
pub few_events : (c : Config) (commit : Commit) → IsCommit c commit → HasNoLater commit → length c.events.items ≤ first_later_event
few_events c commit is none = elim (cases_lt first_later_event (length c.events.items)) [
  | inl more ↦
      let used : is_used c later_states_id ≡ true = lt-ltb first_later_event (length c.events.items) more in
      let named = (is.indices later_states_id (omega arith) (omega arith)).used used in
      let unnamed : index_in commit later_states_id ≡ 0xFF = sym (get_or-drop parts_1 commit.index 0 0) ∙ ap (λ (rest : List ℕ). slice_index rest 0) none in
      absurd (omega (arith, named, unnamed))
  | inr few ↦ few
]

-- Bytes of a commit are 10 in version 2 and 26 in version 1.
pub bytes_of_commit_size : (c : Config) (held : List ℕ) (commit : Commit) → IsCommit c commit → IsBytesOfCommit commit held → (1 ≤ length held) × (length held ≤ commit_length)
bytes_of_commit_size c held commit is (inl new) = let size = ap (λ (h : List ℕ). length h) new in (omega (arith, size, commit_size commit), omega (arith, size, commit_size commit))
bytes_of_commit_size c held commit is (inr (none, old)) =
    let size = ap (λ (h : List ℕ). length h) old in (omega (arith, size, commit_size_1 commit is.size), omega (arith, size, commit_size_1 commit is.size))

-- Bytes of another length are not those of a commit, nor are others that a test refuses.
pub none_by_bytes : (c : Config) (held own : List ℕ) (commit : Commit) → bytes_eq held own ≡ false → if_commit c held own commit ≡ None
none_by_bytes c held own commit differ = not_chosen (bytes_eq held own && is_commit c commit) (Some commit) None (and_left (bytes_eq held own) (is_commit c commit) differ)

pub none_by_test : (c : Config) (held own : List ℕ) (commit : Commit) → is_commit c commit ≡ false → if_commit c held own commit ≡ None
none_by_test c held own commit fails = not_chosen (bytes_eq held own && is_commit c commit) (Some commit) None (and_right (bytes_eq held own) (is_commit c commit) fails)

pub none_by_size : (c : Config) (held : List ℕ) → length held ≢ commit_length_2 → if_commit c held (commit_bytes (commit_from c held)) (commit_from c held) ≡ None
none_by_size c held other =
    let own = commit_bytes (commit_from c held) in
    none_by_bytes c held own (commit_from c held) (false_from_ne_true (bytes_eq held own)
    (λ yes. other (ap length ((bytes_eq-Decides held own).0 yes) ∙ commit_size (commit_from c held))))

pub none_by_size_1 : (c : Config) (held : List ℕ) → length held ≢ commit_length → if_commit c held (commit_bytes_1 (commit_from_1 held)) (commit_from_1 held) ≡ None
none_by_size_1 c held other = elim (cases_Bool (is_commit c (commit_from_1 held))) [
  | inl passes ↦
      let own = commit_bytes_1 (commit_from_1 held) in
      none_by_bytes c held own (commit_from_1 held) (false_from_ne_true (bytes_eq held own)
      (λ yes. other (ap length ((bytes_eq-Decides held own).0 yes) ∙ commit_size_1 (commit_from_1 held) (sized c (commit_from_1 held) passes))))
  | inr fails ↦ none_by_test c held (commit_bytes_1 (commit_from_1 held)) (commit_from_1 held) fails
]
