-- What an image holds: the generation that its first commit copy names, the one that the second names, and whether both are good.
use Rattle.std.specs.Prelude.{◌≡◌, ◌⊎◌, ℕ, zero, suc, ◌+◌, ◌-◌, ◌^◌, ◌≤◌, ◌<◌, Bool, true, false, not, ◌==◌, ◌&&◌, nat_le, if◌then◌else◌, length, find, IsTrue, Option, Some, None, Result, Ok, Err}
use Rattle.std.specs.List.{range_with_len}
use Rattle.flt_flash.specs.Content.{Content, missing, invalid, bytes}
use Rattle.flt_config.specs.declared.config.Config.{Config}
use Rattle.flt_config.specs.declared.persist.Persist.{Persist}
use Rattle.flt_config.specs.Durable.{initial_state, Fits}
use Rattle.flt_config.specs.Validity.{needed_pages}
use Rattle.flt_store_model.specs.declared.mark.Mark.{Mark}
use Rattle.flt_store_model.specs.declared.commit.Commit.{Commit}
use Rattle.flt_store_model.specs.declared.place.Place.{Place}
use Rattle.flt_store_model.specs.declared.place.Place.TheVariants.{Block}
use Rattle.flt_store_model.specs.Layout.{mark_id, commit_id, first_part, parts, first_application, applications, number_of, mark_number, first_commit, second_commit, application_number, part_of_block, is_used, index_in}
use Rattle.flt_store_model.specs.Form.{mark_of, application_length, block_bytes, IsCommit, IsBytesOfCommit, IsBytesOfMark}
use Rattle.flt_store_model.specs.Reading.{mark_in, commit_in, taken}
use Rattle.flt_store_model.specs.Excess.{excess, IsBorne}

-- A saved state and its number.
pub record Generation : Type 0 where
  pub number : ℕ
  pub state : Persist

-- The number of the last generation: no other follows it.
abbrev pub last_number : ℕ
last_number = 2 ^ 32 - 1

abbrev pub first_generation : Config → Generation
first_generation c = record { number = 0; state = initial_state c }

-- Why an image holds no generation of a configuration: it is damaged at a place, or belongs to another configuration.
pub data Fault : Type 0 where
  damaged : Place → Fault
  other : Mark → Fault

abbrev pub damaged_at : {A : Type 0} → ℕ → Result A Fault
damaged_at id = Err (damaged (Block id))

-- What follows if a step has no fault.
infixl 10 ◌>>=◌
abbrev pub ◌>>=◌ : {A B : Type 0} → Result A Fault → (A → Result B Fault) → Result B Fault
Ok value >>= next = next value
Err fault >>= next = Err fault

-- Two marks are the same.
abbrev pub is_same_mark : Mark → Mark → Bool
is_same_mark first second = (first.id == second.id) && (first.events == second.events) && (first.entries == second.entries)

-- What was read as a mark is that of the configuration.
abbrev pub judged_mark : Config → Option Mark → Result (Unit {0}) Fault
judged_mark c None = damaged_at mark_id
judged_mark c (Some mark) = if is_same_mark mark (mark_of c) then Ok tt else Err (other mark)

-- The mark is the configuration's; it may be missing if the commit is.
unfoldable pub marked : Config → Content → Content → Result (Unit {0}) Fault
marked c missing missing = Ok tt
marked c missing invalid = damaged_at mark_id
marked c missing (bytes held) = damaged_at mark_id
marked c invalid commit = damaged_at mark_id
marked c (bytes held) commit = judged_mark c (mark_in held)

-- A state, or the fault of the block that did not give one.
abbrev pub or_damaged : ℕ → Option Persist → Result Persist Fault
or_damaged id None = damaged_at id
or_damaged id (Some p) = Ok p

-- The state with the part in a block's content.
abbrev pub with_content : Config → ℕ → Content → Persist → Result Persist Fault
with_content c id missing p = damaged_at id
with_content c id invalid p = damaged_at id
with_content c id (bytes held) p = or_damaged id (taken c (part_of_block id) held p)

-- The state with the part in the block that the commit names, if it is used.
abbrev pub with_named : Config → (ℕ → Content) → Commit → ℕ → Persist → Result Persist Fault
with_named c value commit id p = if is_used c id then with_content c id (value (number_of id (index_in commit id))) p else Ok p

-- The first state with the parts in the first blocks that the commit names, this many of them in ascending order.
unfoldable pub parts_read : Config → (ℕ → Content) → Commit → ℕ → Result Persist Fault
parts_read c value commit zero = Ok (initial_state c)
parts_read c value commit (suc count) = parts_read c value commit count >>= with_named c value commit (first_part + count)

-- The generation of a commit and of the state in its blocks.
abbrev pub generation_of : Config → (ℕ → Content) → Option Commit → Result Generation Fault
generation_of c value None = damaged_at commit_id
generation_of c value (Some commit) =
    parts_read c value commit parts >>= (λ state. Ok (record { number = commit.generation; state = state }))

-- The generation that the content of a commit copy names; a missing copy names the first.
unfoldable pub named : Config → (ℕ → Content) → Content → Result Generation Fault
named c value missing = Ok (first_generation c)
named c value invalid = damaged_at commit_id
named c value (bytes held) = generation_of c value (commit_in c held)

-- An application block has no more bytes than one may have, or was never written.
abbrev pub is_application : Content → Bool
is_application missing = true
is_application invalid = false
is_application (bytes held) = nat_le (length held) application_length

-- The first faulty application block.
abbrev pub application_fault : Option ℕ → Result (Unit {0}) Fault
application_fault None = Ok tt
application_fault (Some block) = damaged_at (first_application + block)

unfoldable pub applications_judged : (ℕ → Content) → Result (Unit {0}) Fault
applications_judged value = application_fault (find (λ block. not (is_application (value (application_number block)))) (range_with_len 0 applications))

-- The excess is small enough.
unfoldable pub excess_judged : Config → (ℕ → Content) → Result (Unit {0}) Fault
excess_judged c value = if nat_le (excess c value + needed_pages c) c.pages then Ok tt else damaged_at 0

-- What an image holds by a commit: the mark, the blocks that the commit names, the application blocks and the excess are judged, in this order.
unfoldable pub held_by : Config → (ℕ → Content) → Content → Result Generation Fault
held_by c value commit =
    marked c (value mark_number) commit >>= (λ _. named c value commit
    >>= (λ g. applications_judged value >>= (λ _. excess_judged c value >>= (λ _. Ok g))))

-- The first copy if it has bytes, else the second if that has bytes, else the first.
abbrev pub either_copy : Content → Content → Content
either_copy (bytes held) second = bytes held
either_copy missing (bytes held) = bytes held
either_copy missing missing = missing
either_copy missing invalid = missing
either_copy invalid (bytes held) = bytes held
either_copy invalid missing = invalid
either_copy invalid invalid = invalid

-- A copy that has no bytes counts as missing.
abbrev pub only_bytes : Content → Content
only_bytes (bytes held) = bytes held
only_bytes missing = missing
only_bytes invalid = missing

-- What an image holds.
abbrev pub held : Config → (ℕ → Content) → Result Generation Fault
held c value = held_by c value (either_copy (value first_commit) (value second_commit))

-- What it holds if the first copy of the commit can't be read.
abbrev pub spare : Config → (ℕ → Content) → Result Generation Fault
spare c value = held_by c value (only_bytes (value second_commit))

-- The mark is the configuration's; without a commit it may be missing.
abbrev pub MarkAllows : Config → Content → Content → Type 0
MarkAllows c missing commit = commit ≡ missing
MarkAllows c invalid commit = ⊥
MarkAllows c (bytes held) commit = IsBytesOfMark (mark_of c) held

-- The used blocks, each at the index at which the commit names it, hold this state.
abbrev pub BlocksHold : Config → (ℕ → Content) → Commit → Persist → Type 0
BlocksHold c value commit state = (id : ℕ) → IsTrue (is_used c id) → value (number_of id (index_in commit id)) ≡ bytes (block_bytes state id)

-- The commit names this generation, which is in the blocks.
pub record CommitNames (c : Config) (value : ℕ → Content) (commit : Commit) (g : Generation) : Type 0 where
  pub form : IsCommit c commit
  pub number : commit.generation ≡ g.number
  pub blocks : BlocksHold c value commit g.state
  pub fits : Fits c g.state

-- The content of a commit copy names this generation; a missing copy names the first.
abbrev pub Names : Config → (ℕ → Content) → Content → Generation → Type 0
Names c value missing g = g ≡ first_generation c
Names c value invalid g = ⊥
Names c value (bytes held) g = (commit : Commit) × IsBytesOfCommit commit held × CommitNames c value commit g

-- What an image holds by a commit, stated without reading a byte: which block has which bytes.
pub record Holds (c : Config) (value : ℕ → Content) (commit : Content) (g : Generation) : Type 0 where
  pub mark : MarkAllows c (value mark_number) commit
  pub names : Names c value commit g
  pub applications : (block : ℕ) → block < applications → IsTrue (is_application (value (application_number block)))
  pub excess : IsBorne c value

-- The generation that the image holds.
abbrev pub IsHeld : Config → (ℕ → Content) → Generation → Type 0
IsHeld c value g = Holds c value (either_copy (value first_commit) (value second_commit)) g

-- The generation that it holds if the first copy can't be read.
abbrev pub IsSpare : Config → (ℕ → Content) → Generation → Type 0
IsSpare c value g = Holds c value (only_bytes (value second_commit)) g

-- The two are the same generation or consecutive ones.
pub record IsSound (c : Config) (value : ℕ → Content) (held spare : Generation) : Type 0 where
  pub holds : IsHeld c value held
  pub spares : IsSpare c value spare
  pub order : spare.number ≤ held.number
  pub step : held.number ≤ spare.number + 1
  pub same : held.number ≡ spare.number → held.state ≡ spare.state

-- One of the old two or a new one.
abbrev pub IsOneOf : Generation → Generation → Generation → Generation → Type 0
IsOneOf g held spare new = (g ≡ held) ⊎ (g ≡ spare) ⊎ (g ≡ new)

-- What a failed save leaves of an image that was sound.
pub record OldOrNew (c : Config) (value : ℕ → Content) (old_held old_spare new : Generation) : Type 0 where
  pub held : Generation
  pub spare : Generation
  pub sound : IsSound c value held spare
  pub held_is : IsOneOf held old_held old_spare new
  pub spare_is : IsOneOf spare old_held old_spare new
  pub rises : old_spare.number ≤ spare.number

-- Every application block holds what it held.
abbrev pub SameApplications : (ℕ → Content) → (ℕ → Content) → Type 0
SameApplications before after = (block : ℕ) → block < applications → after (application_number block) ≡ before (application_number block)
