-- What each step of a start-up judges, and what it answers.
use Rattle.std.specs.Prelude.{◌≡◌, ◌⊎◌, ℕ, ◌+◌, ◌-◌, if◌then◌else◌, List, Option, Some, None, Result, Ok, Err, sum_by}
use Rattle.std.specs.List.{range_with_len}
use Rattle.flt_flash.specs.Content.{Content, missing, bytes}
use Rattle.flt_flash.specs.State.{HasRisenBy}
use Rattle.flt_flash.specs.Blocks.{BlocksState, pages_of}
use Rattle.flt_config.specs.declared.config.Config.{Config}
use Rattle.flt_store_model.specs.Layout.{number_of, first_commit, second_commit, first_part, first_application, application_number}
use Rattle.flt_store_model.specs.Form.{mark_of}
use Rattle.flt_store_model.specs.Reading.{commit_in}
use Rattle.flt_store_model.specs.Excess.{own_pages}
use Rattle.flt_store_model.specs.Holding.{Fault, damaged, other, damaged_at, either_copy, is_application}
use Rattle.flt_restore.specs.declared.commit.CommitCopy.{CommitCopy}
use Rattle.flt_restore.specs.Restored.{HasBytes}
use Rattle.flt_restore.specs.declared.fault.StartFault.{StartFault}
use Rattle.flt_restore.specs.declared.fault.StartFault.TheVariants.{Flash, Damaged, OtherConfig, SequenceSpent}

-- A start-up's answer for a fault of the image.
abbrev pub told_as : Config → Fault → StartFault
told_as c (damaged place) = Damaged place
told_as c (other mark) = OtherConfig mark (mark_of c)

abbrev pub as_told : {A : Type 0} → Config → Result A Fault → Result A StartFault
as_told c (Ok value) = Ok value
as_told c (Err fault) = Err (told_as c fault)

-- A step's fault by its cause: three faults of the flash, or what was judged.
abbrev pub HasFaultCause : {A : Type 0} → Config → BlocksState → BlocksState → Result A Fault → StartFault → Type 0
HasFaultCause c before after judged Flash = HasRisenBy 3 before.device.faults after.device.faults
HasFaultCause c before after judged (Damaged place) = judged ≡ Err (damaged place)
HasFaultCause c before after judged (OtherConfig found wanted) = (judged ≡ Err (other found)) × (wanted ≡ mark_of c)
HasFaultCause c before after judged SequenceSpent = ⊥

-- The pages that a number's record takes beyond the configuration's own.
abbrev pub beyond : Config → (ℕ → Content) → ℕ → ℕ
beyond c value number = pages_of (value number) - own_pages c number

abbrev pub beyond_of_part : Config → (ℕ → Content) → ℕ → ℕ
beyond_of_part c value id = beyond c value (number_of id 0) + beyond c value (number_of id 1)

unfoldable pub beyond_of_parts : Config → (ℕ → Content) → ℕ → ℕ
beyond_of_parts c value count = sum_by (beyond_of_part c value) (range_with_len first_part count)

unfoldable pub beyond_of_applications : Config → (ℕ → Content) → ℕ → ℕ
beyond_of_applications c value count = sum_by (λ block. beyond c value (application_number block)) (range_with_len 0 count)

-- One application block.
abbrev pub application_judged : (ℕ → Content) → ℕ → Result (Unit {0}) Fault
application_judged value block = if is_application (value (application_number block)) then Ok tt else damaged_at (first_application + block)

-- A commit was read from these bytes of this copy; no commit if the copy is missing.
abbrev pub IsReadFrom : Config → Content → ℕ → Option CommitCopy → Type 0
IsReadFrom c content copy None = content ≡ missing
IsReadFrom c content copy (Some found) = (found.copy ≡ copy) × (content ≡ bytes found.bytes.items) × (commit_in c found.bytes.items ≡ Some found.commit)

-- The bytes are those of the named copy, the first or the second.
abbrev pub IsOfCopy : Content → Content → Content → ℕ → Type 0
IsOfCopy first second content copy = (raw : List ℕ) → content ≡ bytes raw → ((copy ≡ 1) × (first ≡ bytes raw)) ⊎ ((copy ≡ 2) × (second ≡ bytes raw))

-- This content is that of the copy of the commit that counts; or that of the second, which has bytes, if the flash failed three times.
abbrev pub IsSource : BlocksState → BlocksState → Content → ℕ → Type 0
IsSource before after content copy =
    ((content ≡ either_copy (before.value first_commit) (before.value second_commit))
    × IsOfCopy (before.value first_commit) (before.value second_commit) content copy)
    ⊎ ((content ≡ before.value second_commit) × HasBytes content × (copy ≡ 2) × HasRisenBy 3 before.device.faults after.device.faults)
