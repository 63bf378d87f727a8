-- What a call of a driver leaves, by its answer.
use Rattle.std.proofs.Common.{◌≡◌, ◌⊎◌, ℕ, None, Result, Ok, Err, subst, sym}
use Rattle.std.specs.Prelude.{OnOk, IsErrOf}
use Rattle.flt_flash.specs.Content.{Content}
use Rattle.flt_flash.specs.State.{HasRisenBy}
use Rattle.flt_flash.specs.Blocks.{BlocksState}
use Rattle.flt_flash.specs.Calls.{Follows, BlockCalls, Changes, OthersKept}
use Rattle.flt_flash.specs.declared.blocks.BlockFault.{BlockFault}
use Rattle.flt_flash.specs.declared.blocks.BlockFault.TheVariants.{Flash, Damaged}

-- A call on an image without a fault.
pub sound_calls : {T : Type 0} {before after : BlocksState} (result : Result T BlockFault) → Follows before after → before.damage ≡ None
    → (IsErrOf result Flash → HasRisenBy 1 before.device.faults after.device.faults) → ((sector page : ℕ) → IsErrOf result (Damaged sector page) → ⊥) → BlockCalls before after result
sound_calls {T} {before} {after} result follows sound cause undamaged = record {
  keeps_driver = follows;
  flash = cause;
  damaged = λ sector page told. absurd (undamaged sector page told);
  refuses_damage = no_damage result;
}
  where
    no_damage : (result : Result T BlockFault) → OnOk result (before.damage ≡ None)
    no_damage (Ok x) = sound
    no_damage (Err e) = tt

-- A block was given a content.
pub changes_done : (before after : BlocksState) (block : ℕ) (asked : Content) (size : ℕ) → after.value block ≡ asked → OthersKept block before after → Changes before after block asked size (Ok tt)
changes_done before after block asked size is others = record {
  holds_asked = is;
  failed = λ told. absurd (cc told);
  others = others;
  full = λ live needed told. absurd (cc told);
  spent = λ told. absurd (cc told);
  damaged = λ sector page told. absurd (cc told);
}

-- It holds what it held or what was asked, after a fault of the flash.
pub changes_failed : (before after : BlocksState) (block : ℕ) (asked : Content) (size : ℕ) (result : Result (Unit {0}) BlockFault) → result ≡ Err Flash
    → (after.value block ≡ before.value block) ⊎ (after.value block ≡ asked) → OthersKept block before after → Changes before after block asked size result
changes_failed before after block asked size result is either others = subst (λ (r : Result (Unit {0}) BlockFault). Changes before after block asked size r) (sym is)
    (record {
      holds_asked = tt;
      failed = λ told. either;
      others = others;
      full = λ live needed told. absurd (cc told);
      spent = λ told. absurd (cc told);
      damaged = λ sector page told. absurd (cc told);
    })
