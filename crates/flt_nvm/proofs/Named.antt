-- A job on a number names it where the flash failed its last call.
use Rattle.std.proofs.Common.{◌≡◌, ℕ, zero, suc, Some, Result, Ok, Err, inl, inr, ⊎_elim, ◌∙◌}
use Rattle.flt_flash.specs.Blocks.{BlocksState}
use Rattle.flt_flash.specs.Calls.{NamesFailure}
use Rattle.flt_flash.specs.declared.blocks.BlockFault.{BlockFault}
use Rattle.flt_flash.specs.declared.blocks.BlockFault.TheVariants.{Flash, Full, SequenceSpent, Damaged}
use Rattle.flt_nvm.specs.Tries.{Tries}
use Rattle.flt_nvm.specs.Leaves.{NamesNumber}

module _ {T : Type 0} (call : BlocksState → BlocksState → Result T BlockFault → Type 0) (number : ℕ)
    (names : (before after : BlocksState) (result : Result T BlockFault) → call before after result → NamesFailure number before after result) where
  named_at_once : (before after : BlocksState) (result : Result T BlockFault) → NamesFailure number before after result → NamesNumber number before after result
  named_at_once before after (Ok value) is = record { flash = λ told. absurd (cc told); either = inl is }
  named_at_once before after (Err Flash) is = record { flash = λ told. is; either = inr is }
  named_at_once before after (Err (Full live needed)) is = record { flash = λ told. absurd (cc told); either = inl is }
  named_at_once before after (Err SequenceSpent) is = record { flash = λ told. absurd (cc told); either = inl is }
  named_at_once before after (Err (Damaged sector page)) is = record { flash = λ told. absurd (cc told); either = inl is }

  named_again : (before between after : BlocksState) (result : Result T BlockFault) → between.last_failed ≡ Some number → NamesNumber number between after result
      → NamesNumber number before after result
  named_again before between after result failed rest = record { flash = rest.flash; either = inr (⊎_elim (λ same. same ∙ failed) (λ is. is) rest.either) }

  pub tries_named : (limit : ℕ) (before after : BlocksState) (result : Result T BlockFault) → Tries limit call before after result → NamesNumber number before after result
  unfolding Tries
  tries_named zero before after result tries = absurd tries
  tries_named (suc zero) before after result tries = named_at_once before after result (names before after result tries)
  tries_named (suc (suc more)) before after result (inl ends) = named_at_once before after result (names before after result ends.0)
  tries_named (suc (suc more)) before after result (inr (between, failed, rest)) =
      named_again before between after result (names before between (Err Flash) failed) (tries_named (suc more) between after result rest)
