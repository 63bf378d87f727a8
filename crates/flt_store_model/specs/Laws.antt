-- What follows from the definitions of a stored generation.
use Rattle.std.specs.Prelude.{max, sum_by, ◌≡◌, ◌≢◌, ◌↔◌, ◌⊎◌, ℕ, ◌+◌, ◌≤◌, ◌<◌, ◌^◌, List, length, replicate, slice_index_or, Some, Ok, IsTrue, true, Err, Result, IsOk}
use Rattle.flt_flash.specs.Content.{Content, missing, bytes}
use Rattle.flt_flash.specs.Blocks.{pages_of}
use Rattle.flt_config.specs.declared.TheConstants.{EVENTS}
use Rattle.flt_config.specs.declared.config.Config.{Config}
use Rattle.flt_config.specs.declared.persist.Persist.{Persist}
use Rattle.flt_config.specs.declared.persist.EventState.{EventState}
use Rattle.flt_config.specs.declared.persist.EntryState.{EntryState}
use Rattle.flt_config.specs.Durable.{Fits}
use Rattle.flt_config.specs.Validity.{IsValid}
use Rattle.flt_store_model.specs.declared.mark.Mark.{Mark}
use Rattle.flt_store_model.specs.declared.commit.Commit.{Commit}
use Rattle.flt_store_model.specs.declared.part.Part.{Part}
use Rattle.flt_store_model.specs.declared.part.Part.TheVariants.{Summary, States, Entry}
use Rattle.flt_store_model.specs.Layout.{numbers, is_used, first_commit, second_commit, first_later_event}
use Rattle.flt_store_model.specs.Form.{IsMark, IsCommit, HasNoLater, IsBytesOfMark, IsBytesOfCommit, part_bytes, block_bytes}
use Rattle.flt_store_model.specs.Fit.{part_fits}
use Rattle.flt_store_model.specs.Reading.{mark_in, commit_in, untaken_entry, taken}
use Rattle.flt_store_model.specs.Excess.{own_pages, IsBorne}
use Rattle.flt_store_model.specs.Holding.{Generation, first_generation, held, spare, IsHeld, IsSpare, IsSound, Fault, either_copy, only_bytes}
use Rattle.flt_store_model.specs.Faults.{HasFirstFault, HasFault}

-- A valid configuration whose numbers fit their types.
pub record IsGiven (c : Config) : Type 0 where
  pub valid : IsValid c
  pub id : c.id < 2 ^ 16
  pub events : length c.events.items ≤ EVENTS

-- Exactly the bytes of a mark are read as a mark, and as that one.
abbrev pub MarksAreRead : Type 0
MarksAreRead = (raw : List ℕ) (mark : Mark) → (mark_in raw ≡ Some mark) ↔ (IsMark mark × IsBytesOfMark mark raw)

-- Exactly the bytes of a commit of the configuration are read as a commit, and as that one.
abbrev pub CommitsAreRead : Type 0
CommitsAreRead =
    (c : Config) (raw : List ℕ) (commit : Commit) → (commit_in c raw ≡ Some commit) ↔ (IsCommit c commit × IsBytesOfCommit commit raw)

-- Version 1 has no commit of a configuration with later blocks of states.
abbrev pub FirstVersionIsOfFewEvents : Type 0
FirstVersionIsOfFewEvents = (c : Config) (commit : Commit) → IsCommit c commit → HasNoLater commit → length c.events.items ≤ first_later_event

-- A state differs from another only in one part; a new summary has entries that are still to be taken.
abbrev pub KeepsRest : Part → Persist → Persist → Type 0
KeepsRest Summary p q =
    (q ≡ record p {
      overflow = q.overflow;
      entries = q.entries;
      first_failed = q.first_failed;
      first_confirmed = q.first_confirmed;
      recent_failed = q.recent_failed;
      recent_confirmed = q.recent_confirmed;
    })
    × (q.entries.items ≡ replicate (length q.entries.items) untaken_entry)
KeepsRest (States first) p q =
    (q ≡ record p { events = q.events }) × (length q.events.items ≡ length p.events.items)
    × ((k : ℕ) (d : EventState) → (k < first) ⊎ (first + 16 ≤ k) → slice_index_or q.events.items k d ≡ slice_index_or p.events.items k d)
KeepsRest (Entry place) p q =
    (q ≡ record p { entries = q.entries }) × (length q.entries.items ≡ length p.entries.items)
    × ((k : ℕ) (d : EntryState) → k ≢ place → slice_index_or q.entries.items k d ≡ slice_index_or p.entries.items k d)

-- These are the bytes of a part of a state that fits there and differs only in that part.
pub record IsTakenAs (c : Config) (part : Part) (raw : List ℕ) (before after : Persist) : Type 0 where
  pub bytes : raw ≡ part_bytes after part
  pub fits : part_fits c after part ≡ true
  pub rest : KeepsRest part before after

-- A part is taken if and only if this holds, provided that there is one state for each event.
abbrev pub PartsAreTaken : Type 0
PartsAreTaken = (c : Config) → IsGiven c → (part : Part) (raw : List ℕ) (before after : Persist) → length before.events.items ≡ length c.events.items
    → (taken c part raw before ≡ Some after) ↔ IsTakenAs c part raw before after

-- The bytes of its used blocks determine a state that fits.
abbrev pub BlocksDetermineState : Type 0
BlocksDetermineState = (c : Config) → IsGiven c → (first second : Persist) → Fits c first → Fits c second
    → ((id : ℕ) → IsTrue (is_used c id) → block_bytes first id ≡ block_bytes second id) → first ≡ second

-- What an image is read to hold is what its blocks have, by either copy of its commit.
abbrev pub HeldStands : Type 0
HeldStands = (c : Config) → IsGiven c → (value : ℕ → Content) (g : Generation) → (held c value ≡ Ok g) ↔ IsHeld c value g

abbrev pub SpareStands : Type 0
SpareStands = (c : Config) → IsGiven c → (value : ℕ → Content) (g : Generation) → (spare c value ≡ Ok g) ↔ IsSpare c value g

-- If the excess of an image is small enough, its records, each as long as it is or as the configuration may make it, leave two pages for
-- the gates of a sector and five for one more record.
abbrev pub BorneHasRoom : Type 0
BorneHasRoom = (c : Config) → IsGiven c → (value : ℕ → Content) → IsBorne c value
    → sum_by (λ number. max (pages_of (value number)) (own_pages c number)) numbers + 7 ≤ c.pages

-- An image in which nothing was ever written is sound, and holds the first generation.
abbrev pub BlankIsSound : Type 0
BlankIsSound = (c : Config) → IsGiven c → (value : ℕ → Content) → ((number : ℕ) → value number ≡ missing)
    → IsSound c value (first_generation c) (first_generation c)

-- The fault that is reported, by a commit, is the first in the order of judging.
abbrev pub TellsFirstFault : (Config → (ℕ → Content) → Result Generation Fault) → ((ℕ → Content) → Content) → Type 0
TellsFirstFault judged commit_of =
    (c : Config) → IsGiven c → (value : ℕ → Content) (fault : Fault) → (judged c value ≡ Err fault) ↔ HasFirstFault c value (commit_of value) fault

-- It holds a generation if and only if it has no fault.
abbrev pub HoldsWithoutFault : (Config → (ℕ → Content) → Result Generation Fault) → ((ℕ → Content) → Content) → Type 0
HoldsWithoutFault judged commit_of =
    (c : Config) → IsGiven c → (value : ℕ → Content) → IsOk (judged c value) ↔ ((fault : Fault) → HasFault c value (commit_of value) fault → ⊥)

-- So it is by either copy of the commit.
abbrev pub HeldTellsFirstFault : Type 0
HeldTellsFirstFault = TellsFirstFault held (λ value. either_copy (value first_commit) (value second_commit))

abbrev pub SpareTellsFirstFault : Type 0
SpareTellsFirstFault = TellsFirstFault spare (λ value. only_bytes (value second_commit))

abbrev pub HeldWithoutFault : Type 0
HeldWithoutFault = HoldsWithoutFault held (λ value. either_copy (value first_commit) (value second_commit))

abbrev pub SpareWithoutFault : Type 0
SpareWithoutFault = HoldsWithoutFault spare (λ value. only_bytes (value second_commit))

-- The content is bytes.
abbrev pub IsBytes : Content → Type 0
IsBytes content = (held : List ℕ) × (content ≡ bytes held)

-- The copy that counts: the first if it has bytes, else the second if that has bytes, else the first.
pub record CopyCounts (first second content : Content) : Type 0 where
  pub by_first : IsBytes first → content ≡ first
  pub by_second : (IsBytes first → ⊥) → IsBytes second → content ≡ second
  pub by_neither : (IsBytes first → ⊥) → (IsBytes second → ⊥) → content ≡ first

abbrev pub EitherCopyCounts : Type 0
EitherCopyCounts = (first second : Content) → CopyCounts first second (either_copy first second)

-- A copy alone counts as missing if it has no bytes.
abbrev pub OnlyBytesCount : Type 0
OnlyBytesCount = (content : Content) → (IsBytes content → only_bytes content ≡ content) × ((IsBytes content → ⊥) → only_bytes content ≡ missing)

-- An image is sound if and only if its two generations are the same, or the held one follows the spare one.
abbrev pub SoundIsOneOrNext : Type 0
SoundIsOneOrNext = (c : Config) (value : ℕ → Content) (held spare : Generation)
    → IsSound c value held spare ↔ (IsHeld c value held × IsSpare c value spare × ((held ≡ spare) ⊎ (held.number ≡ spare.number + 1)))
