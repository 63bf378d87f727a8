-- The laws of stored generations.
use Rattle.std.proofs.Common.{◌≡◌, ℕ, ◌+◌, ◌-◌, ◌*◌, ◌/◌, ◌<◌, ◌≤◌, List, [], ◌∷◌, refl, sym, ◌∙◌, ap, subst, arith, replicate, ◌⊎◌, inl, inr}
use Rattle.std.specs.Prelude.{Ok, IsTrue, slice_index, sum_by}
use Rattle.std.proofs.lemmas.Bool.{and_parts, leb-true, ltb-true, cases_eq}
use Rattle.std.proofs.lemmas.List.{get_or-replicate}
use Rattle.flt_flash.specs.Content.{Content, missing, bytes, invalid}
use Rattle.flt_config.specs.declared.config.Config.{Config}
use Rattle.flt_config.specs.declared.persist.Persist.{Persist}
use Rattle.flt_store_model.specs.declared.commit.Commit.{Commit}
use Rattle.flt_store_model.specs.Layout.{numbers, is_used, first_commit, second_commit, parts, end_part}
use Rattle.flt_store_model.specs.Form.{IsMark, mark_of, block_bytes}
use Rattle.flt_store_model.specs.Excess.{own_pages}
use Rattle.flt_store_model.specs.Holding.{first_generation, parts_read, BlocksHold, Holds, IsSound, either_copy, only_bytes, Generation, held_by, IsHeld, IsSpare}
use Rattle.flt_store_model.specs.Laws.{IsGiven, MarksAreRead, CommitsAreRead, PartsAreTaken, BlocksDetermineState, HeldStands, SpareStands, BlankIsSound, TellsFirstFault, HoldsWithoutFault, CopyCounts, EitherCopyCounts, OnlyBytesCount, SoundIsOneOrNext, IsBytes}
use Rattle.flt_store_model.proofs.Marks.{read_mark, mark_read}
use Rattle.flt_store_model.proofs.Commits.{read_commit, commit_read}
use Rattle.flt_store_model.proofs.Exactly.{taken_as, as_taken}
use Rattle.flt_store_model.proofs.Short.{HasSizes}
use Rattle.flt_store_model.proofs.Whole.{whole_read}
use Rattle.flt_store_model.proofs.Pages.{sum_more}
use Rattle.flt_store_model.proofs.Bridge.{held_holds, holds_held}
use Rattle.flt_store_model.proofs.FirstFault.{fault_is_first, holds_without_fault}

pub marks_are_read : MarksAreRead
marks_are_read held mark = (read_mark held mark, λ both. mark_read held mark both.0 both.1)

pub commits_are_read : CommitsAreRead
commits_are_read c held commit = (read_commit c held commit, λ both. commit_read c held commit both.0 both.1)

pub sizes_of : (c : Config) → IsGiven c → HasSizes c
sizes_of c given = record {
  memory = given.valid.memory.1;
  events = given.events;
  frames = λ k event below. (given.valid.events k event below).frame;
}

own_mark : (c : Config) → IsGiven c → IsMark (mark_of c)
own_mark c given = record {
  id = given.id;
  events = omega (arith, given.events);
  entries = omega (arith, given.valid.memory.1);
}

pub parts_are_taken : PartsAreTaken
parts_are_taken c given part held before after one_each = (taken_as c part held before after, as_taken c (sizes_of c given) before after one_each part held)

-- ---- an image made of the blocks of a state
abbrev pub zeros : Commit
zeros = record { generation = 1; index = replicate parts 0 }

abbrev pub blocks_of : Persist → ℕ → Content
blocks_of p number = bytes (block_bytes p (number / 8))

pub stands : (c : Config) (p q : Persist) → ((id : ℕ) → IsTrue (is_used c id) → block_bytes p id ≡ block_bytes q id) → BlocksHold c (blocks_of p) zeros q
stands c p q same = λ id used.
    let range = and_parts _ _ (and_parts _ _ used).0 in
    let low : 3 ≤ id = leb-true 3 id range.0 in
    let high : id < end_part = ltb-true id end_part range.1 in
    let index : slice_index (replicate parts 0) (id - 3) ≡ 0 = get_or-replicate parts (id - 3) 0 0 (omega (arith, low, high)) in
    let back : (id * 8 + 0) / 8 ≡ id = omega arith in
    ap (λ (n : ℕ). bytes (block_bytes p ((id * 8 + n) / 8))) index ∙ ap (λ (n : ℕ). bytes (block_bytes p n)) back ∙ ap bytes (same id used)

pub blocks_determine_state : BlocksDetermineState
blocks_determine_state c given first second fits_first fits_second same =
    let one : parts_read c (blocks_of first) zeros parts ≡ Ok first = whole_read c (sizes_of c given) (blocks_of first) zeros first fits_first (stands c first first (λ id used. refl)) in
    let two : parts_read c (blocks_of first) zeros parts ≡ Ok second = whole_read c (sizes_of c given) (blocks_of first) zeros second fits_second (stands c first second same) in
    let both : Ok first ≡ Ok second = sym one ∙ two in
    cc

pub held_stands : HeldStands
held_stands c given value g = (
  held_holds c value (either_copy (value first_commit) (value second_commit)) g given.valid.memory.1,
  holds_held c value (either_copy (value first_commit) (value second_commit)) g (sizes_of c given) (own_mark c given),
)

pub spare_stands : SpareStands
spare_stands c given value g = (
  held_holds c value (only_bytes (value second_commit)) g given.valid.memory.1,
  holds_held c value (only_bytes (value second_commit)) g (sizes_of c given) (own_mark c given),
)

nothing_beyond : (c : Config) (ns : List ℕ) → sum_by (λ number. 0 - own_pages c number) ns ≡ 0
nothing_beyond c [] = refl
nothing_beyond c (n ∷ ns) =
    let rest = nothing_beyond c ns in
    let more = sum_more (λ number. 0 - own_pages c number) n ns in
    omega (arith, rest, more)

pub blank_is_sound : BlankIsSound
blank_is_sound c given value blank =
    let values : (λ number. missing) ≡ value = λ i number. sym (blank number) i in
    let first = first_generation c in
    subst (λ (content : ℕ → Content). IsSound c content first first) values
    (record { holds = nothing; spares = nothing; order = omega arith; step = omega arith; same = λ equal. refl })
  where
    nothing : Holds c (λ number. missing) missing (first_generation c)
    nothing = record {
      mark = refl;
      names = refl;
      applications = λ block below. refl;
      excess = (let none = nothing_beyond c numbers in let room = given.valid.room in omega (arith, none, room));
    }

pub first_fault_is_told : (commit_of : (ℕ → Content) → Content) → TellsFirstFault (λ c value. held_by c value (commit_of value)) commit_of
first_fault_is_told commit_of c given value fault = fault_is_first c value (commit_of value) (sizes_of c given) fault

pub holds_where_no_fault : (commit_of : (ℕ → Content) → Content) → HoldsWithoutFault (λ c value. held_by c value (commit_of value)) commit_of
holds_where_no_fault commit_of c given value = holds_without_fault c value (commit_of value) (sizes_of c given)

-- The copies that count.
by_second : (first : Content) (held : List ℕ) → (IsBytes first → ⊥) → CopyCounts first (bytes held) (bytes held)
by_second first held none = record { by_first = λ is. absurd (none is); by_second = λ _ _. refl; by_neither = λ _ no. absurd (no (held, refl)) }

by_neither : (first second : Content) → (IsBytes first → ⊥) → (IsBytes second → ⊥) → CopyCounts first second first
by_neither first second none nor = record { by_first = λ is. absurd (none is); by_second = λ _ is. absurd (nor is); by_neither = λ _ _. refl }

pub either_copy_counts : EitherCopyCounts
either_copy_counts (bytes own) second = record { by_first = λ _. refl; by_second = λ no _. absurd (no (own, refl)); by_neither = λ no _. absurd (no (own, refl)) }
either_copy_counts missing (bytes held) = by_second missing held (λ is. cc is.1)
either_copy_counts invalid (bytes held) = by_second invalid held (λ is. cc is.1)
either_copy_counts missing missing = by_neither missing missing (λ is. cc is.1) (λ is. cc is.1)
either_copy_counts missing invalid = by_neither missing invalid (λ is. cc is.1) (λ is. cc is.1)
either_copy_counts invalid missing = by_neither invalid missing (λ is. cc is.1) (λ is. cc is.1)
either_copy_counts invalid invalid = by_neither invalid invalid (λ is. cc is.1) (λ is. cc is.1)

pub only_bytes_count : OnlyBytesCount
only_bytes_count missing = (λ _. refl, λ _. refl)
only_bytes_count invalid = (λ no. absurd (cc no.1), λ _. refl)
only_bytes_count (bytes held) = (λ _. refl, λ no. absurd (no (held, refl)))

pub sound_is_one_or_next : SoundIsOneOrNext
sound_is_one_or_next c value held spare = (one_or_next, sound)
  where
    one_or_next : IsSound c value held spare → IsHeld c value held × IsSpare c value spare × ((held ≡ spare) ⊎ (held.number ≡ spare.number + 1))
    one_or_next is = (
      is.holds,
      is.spares,
      elim (cases_eq held.number spare.number) [
        | inl same ↦ inl (let state = is.same same in λ i. record { number = same i; state = state i })
        | inr apart ↦ inr (omega (arith, is.order, is.step, apart))
      ],
    )

    sound : IsHeld c value held × IsSpare c value spare × ((held ≡ spare) ⊎ (held.number ≡ spare.number + 1)) → IsSound c value held spare
    sound (holds, spares, inl same) =
        let number = ap (λ (g : Generation). g.number) same in
        record { holds = holds; spares = spares; order = omega (arith, number); step = omega (arith, number); same = λ _. ap (λ (g : Generation). g.state) same }
    sound (holds, spares, inr next) = record { holds = holds; spares = spares; order = omega (arith, next); step = omega (arith, next); same = λ no. absurd (omega (arith, no, next)) }
