-- An operation on the bytes is one of the device, whatever layout its image has.
use Rattle.std.proofs.Common.{◌≤◌, ℕ, List, [], ◌∷◌, Result, map, refl, ap, arith}
use Rattle.std.proofs.lemmas.List.{map-append}
use Rattle.flt_flash.specs.State.{Operates, PowersUp, erases_of}
use Rattle.flt_flash.specs.declared.flash.FlashFailed.{FlashFailed}
use Rattle.flt_file.specs.Kept.{KeptState, Carries, powered}
use Rattle.flt_file.specs.Device.{boot_by, device_by}

pub carried_operates : {T : Type 0} (pages : ℕ) (image : List ℕ → List (List (List ℕ))) (wear later : List ℕ) (before after : KeptState)
    (result : Result T FlashFailed) → erases_of wear ≤ erases_of later → Carries before after result
    → Operates (device_by pages image wear before) (device_by pages image later after) result
carried_operates pages image wear later before after result rises carries = record {
  pages = refl;
  counts = carries.counts;
  cause = carries.cause;
  fails_while_off = carries.fails_while_off;
  stays_off = carries.stays_off;
  stays_while_off = λ off. ap image (carries.stays_while_off off);
  counts_for_no_arm = λ off. cc;
  operations = carries.operations;
  erases = rises;
  bench = record {
    boots = ap (map (boot_by image)) carries.boots;
    boots_left = carries.boots_left;
    arms = refl;
    armed = omega arith;
  };
}

pub powered_up : (pages : ℕ) (image : List ℕ → List (List (List ℕ))) (wear : List ℕ) (before : KeptState)
    → PowersUp (device_by pages image wear before) (device_by pages image wear (powered before))
powered_up pages image wear before = record {
  bench = record {
    boots = map-append (boot_by image) before.boots (record { faults = before.faults; bytes = before.bytes } ∷ []);
    boots_left = refl;
    arms = refl;
    armed = omega arith;
  };
  rest = refl;
}
