-- The faults of an image, each on its own, and the order in which a mount looks for them.
use Rattle.std.specs.Prelude.{◌≡◌, ◌≢◌, ◌⊎◌, ℕ, ◌+◌, ◌*◌, ◌≤◌, ◌<◌, Bool, List, [], Some, IsTrue, IsFalse, slice_index_or}
use Rattle.flt_flash.specs.Blocks.{byte_pages}
use Rattle.flt_flash.specs.Image.{sector_at}
use Rattle.flt_code.specs.Spoiled.{is_spoiled}
use Rattle.flt_code.specs.Seal.{unsealed}
use Rattle.flt_code.specs.declared.words.Word.{Word}
use Rattle.flt_code.specs.declared.words.Word.TheVariants.{Start, Active, Head, Gate}
use Rattle.flt_sector_model.specs.Page.{is_blank}
use Rattle.flt_sector_model.specs.Says.{Says, SaysOther}
use Rattle.flt_sector_model.specs.Reached.{IsHead, IsReached, gate_page}

-- ---- the gates

-- A start gate of this many used pages.
abbrev pub IsStart : ℕ → Word → Type 0
IsStart used (Start sequence pages) = pages ≡ used
IsStart used (Active sequence) = ⊥
IsStart used (Head block length valid page) = ⊥
IsStart used (Gate block page) = ⊥

-- An active gate.
abbrev pub IsActive : Word → Type 0
IsActive (Active sequence) = Unit {0}
IsActive (Start sequence pages) = ⊥
IsActive (Head block length valid page) = ⊥
IsActive (Gate block page) = ⊥

-- Page 0 is spoiled, or a code word other than a start gate of the used pages.
abbrev pub HasWrongStart : ℕ → List (List ℕ) → Type 0
HasWrongStart used pages = IsTrue (is_spoiled (slice_index_or pages 0 [])) ⊎ SaysOther (IsStart used) (slice_index_or pages 0 [])

-- The two gates name different numbers.
pub record NamesTwo (used : ℕ) (pages : List (List ℕ)) : Type 0 where
  pub first : ℕ
  pub second : ℕ
  pub start : Says (Start first used) (slice_index_or pages 0 [])
  pub active : Says (Active second) (slice_index_or pages 1 [])
  pub differ : first ≢ second

-- Page 1 is spoiled, or a code word other than an active gate, or names another number than page 0.
abbrev pub HasWrongActive : ℕ → List (List ℕ) → Type 0
HasWrongActive used pages =
    IsTrue (is_spoiled (slice_index_or pages 1 [])) ⊎ SaysOther IsActive (slice_index_or pages 1 []) ⊎ NamesTwo used pages

-- Both gates are there and name this number.
pub record IsValidSector (used : ℕ) (pages : List (List ℕ)) (sequence : ℕ) : Type 0 where
  pub start : Says (Start sequence used) (slice_index_or pages 0 [])
  pub active : Says (Active sequence) (slice_index_or pages 1 [])

-- Neither sector is valid.
abbrev pub HasNoSector : ℕ → List (List (List ℕ)) → Type 0
HasNoSector used image = (sector sequence : ℕ) → sector < 2 → IsValidSector used (sector_at image sector) sequence → ⊥

-- This one of the two sectors is valid, and the other one is not or has a smaller number.
pub record IsCurrent (used : ℕ) (image : List (List (List ℕ))) (sector sequence : ℕ) : Type 0 where
  pub within : sector < 2
  pub valid : IsValidSector used (sector_at image sector) sequence
  pub greatest : (other number : ℕ) → other < 2 → other ≢ sector → IsValidSector used (sector_at image other) number → number < sequence

-- ---- the log

module _ (used : ℕ) (numbers : List ℕ) (pages : List (List ℕ)) where
  -- A code word that begins no record.
  pub record BeginsNothing (page : ℕ) : Type 0 where
    pub within : page < used
    pub code : List ℕ
    pub is_code : unsealed (slice_index_or pages page []) ≡ Some code
    pub no_head : (block length : ℕ) (valid : Bool) → IsHead used numbers pages page block length valid → ⊥

  -- A record with another code word in the place of its gate.
  pub record HasOtherGate (page block length : ℕ) (valid : Bool) : Type 0 where
    pub head : IsHead used numbers pages page block length valid
    pub other : SaysOther (λ word. word ≡ Gate block page) (gate_page pages page length)

  -- The log ends at a blank page, and this is the first one after it that is not blank.
  pub record IsBehindEnd (end page : ℕ) : Type 0 where
    pub behind : end < page
    pub within : page < used
    pub blank : (k : ℕ) → end ≤ k → k < page → IsTrue (is_blank (slice_index_or pages k []))
    pub written : IsFalse (is_blank (slice_index_or pages page []))

  -- What is wrong at a page of the log, up to its end.
  pub data IsWrongAt (wrong : ℕ) : Type 0 where
    begins_nothing : IsReached used numbers pages wrong → BeginsNothing wrong → IsWrongAt wrong
    other_gate : (page block length : ℕ) (valid : Bool) → IsReached used numbers pages page → HasOtherGate page block length valid
        → page + 1 + byte_pages length ≡ wrong → IsWrongAt wrong
    behind_end : (end : ℕ) → IsReached used numbers pages end → IsBehindEnd end wrong → IsWrongAt wrong

-- ---- their order

-- What a mount looks at: a gate of a sector, the numbers of both sectors, a page of the current sector's log.
pub data Look : Type 0 where
  start_gate : ℕ → Look
  active_gate : ℕ → Look
  both_numbers : Look
  log_page : ℕ → ℕ → Look

-- The step of the mount at which it is looked at.
abbrev pub mount_step : Look → ℕ
mount_step (start_gate sector) = 2 * sector
mount_step (active_gate sector) = 2 * sector + 1
mount_step both_numbers = 4
mount_step (log_page sector page) = 5 + page

-- The sector and the page at which a fault found there is reported.
abbrev pub place_of : Look → ℕ × ℕ
place_of (start_gate sector) = (sector, 0)
place_of (active_gate sector) = (sector, 1)
place_of both_numbers = (1, 0)
place_of (log_page sector page) = (sector, page)

-- An image is damaged there.
abbrev pub HasDamage : ℕ → List ℕ → List (List (List ℕ)) → Look → Type 0
HasDamage used numbers image (start_gate sector) = (sector < 2) × HasWrongStart used (sector_at image sector)
HasDamage used numbers image (active_gate sector) = (sector < 2) × HasWrongActive used (sector_at image sector)
HasDamage used numbers image both_numbers =
    (sequence : ℕ) × IsValidSector used (sector_at image 0) sequence × IsValidSector used (sector_at image 1) sequence
HasDamage used numbers image (log_page sector page) =
    ((sequence : ℕ) × IsCurrent used image sector sequence) × IsWrongAt used numbers (sector_at image sector) page

-- An image is damaged there, and nowhere that a mount looks earlier.
pub record HasFirstDamage (used : ℕ) (numbers : List ℕ) (image : List (List (List ℕ))) (look : Look) : Type 0 where
  pub is : HasDamage used numbers image look
  pub first : (earlier : Look) → mount_step earlier < mount_step look → HasDamage used numbers image earlier → ⊥

-- No gate is wrong, and the two sectors do not have one number.
abbrev pub HasSoundGates : ℕ → List ℕ → List (List (List ℕ)) → Type 0
HasSoundGates used numbers image = (look : Look) → mount_step look ≤ 4 → HasDamage used numbers image look → ⊥
