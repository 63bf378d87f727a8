-- The steps of giving a block a content: a mount where the driver is stale, room, and the record.
use Rattle.std.proofs.Common.{◌≡◌, ⊎_elim, inl, inr, ℕ, Option, None, Result, Ok, Err, refl, ◌∙◌}
use Rattle.std.specs.Prelude.{sum_by}
use Rattle.flt_flash.specs.Content.{Content}
use Rattle.flt_flash.specs.Blocks.{BlocksState, pages_of, record_pages}
use Rattle.flt_flash.specs.Calls.{SameValues, NeverFull, Changes}
use Rattle.flt_flash.specs.declared.blocks.BlockFault.{BlockFault}
use Rattle.flt_flash.specs.declared.blocks.BlockFault.TheVariants.{Flash, Full, SequenceSpent, Damaged}
use Rattle.flt_fee.specs.Refusal.{record_refusal, refusal_by, AnswersBy}

pub values_on : (first second third : BlocksState) → SameValues first second → SameValues second third → SameValues first third
values_on first second third one two block = two block ∙ one block

-- A change after calls that left every block as it was.
pub changes_on : (first second third : BlocksState) (block : ℕ) (asked : Content) (size : ℕ) (result : Result (Unit {0}) BlockFault) → SameValues first second → NeverFull result
    → Changes second third block asked size result → Changes first third block asked size result
changes_on first second third block asked size result same never does = record {
  holds_asked = does.holds_asked;
  failed = λ told. ⊎_elim (λ kept. inl (kept ∙ same block)) (λ changed. inr changed) (does.failed told);
  others = λ other apart. does.others other apart ∙ same other;
  full = λ live needed told. absurd (never.full live needed told);
  spent = λ told. absurd (never.spent told);
  damaged = λ sector page told other. does.damaged sector page told other ∙ same other;
}

-- A mount keeps what is refused.
pub same_refusal : (first second : BlocksState) (block size : ℕ) → second.numbers ≡ first.numbers → second.room ≡ first.room → SameValues first second → second.is_stuck block size ≡ first.is_stuck block size
    → record_refusal second block size ≡ record_refusal first block size
same_refusal first second block size numbers room same stuck =
    λ i. refusal_by (room i) (sum_by (λ number. pages_of (same number i)) (numbers i)) (record_pages size) (stuck i)

-- The answer of a call that is not refused, and that of a mount.
pub not_refused : (refused : Option BlockFault) (result : Result (Unit {0}) BlockFault) → refused ≡ None → NeverFull result → AnswersBy refused result
not_refused refused (Ok x) none never = none
not_refused refused (Err Flash) none never = tt
not_refused refused (Err (Full live needed)) none never = absurd (never.full live needed refl)
not_refused refused (Err SequenceSpent) none never = absurd (never.spent refl)
not_refused refused (Err (Damaged sector page)) none never = tt
