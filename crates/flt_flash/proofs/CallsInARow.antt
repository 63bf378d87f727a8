-- Calls of a driver in a row.
use Rattle.std.proofs.Common.{◌≡◌, ℕ, Bool, true, false, Option, Some, None, Result, Ok, Err, refl, sym, ◌∙◌, arith}
use Rattle.std.specs.Prelude.{OnOk, IsTrue, IsFalse}
use Rattle.flt_flash.specs.Blocks.{BlocksState}
use Rattle.flt_flash.specs.Calls.{Follows, BlockCalls, NeverFalls}
use Rattle.flt_flash.specs.declared.blocks.BlockFault.{BlockFault}
use Rattle.flt_flash.proofs.Following.{bench_kept, bench_on}

told_stands : (count : Option ℕ) → NeverFalls count count
told_stands None = tt
told_stands (Some count) = omega arith

told_on : (first second third : Option ℕ) → NeverFalls first second → NeverFalls second third → NeverFalls first third
told_on None None None one two = tt
told_on None None (Some third) one two = two
told_on None (Some second) third one two = absurd one
told_on (Some first) None third one two = absurd one
told_on (Some first) (Some second) None one two = two
told_on (Some first) (Some second) (Some third) one two = omega arith

pub no_call : (state : BlocksState) → Follows state state
no_call state = record {
  numbers = refl;
  room = refl;
  once_mounted = λ is. is;
  stays_spent = λ is. is;
  damage_stays = λ place is. (is, refl, λ block. refl);
  no_new_damage = λ none. none;
  counts = omega arith;
  operations = told_stands state.device.operations;
  erases = told_stands state.device.erases;
  bench = bench_kept state.device.bench;
}

pub more_calls : (first second third : BlocksState) → Follows first second → Follows second third → Follows first third
more_calls first second third one two = record {
  numbers = two.numbers ∙ one.numbers;
  room = two.room ∙ one.room;
  once_mounted = λ is. two.once_mounted (one.once_mounted is);
  stays_spent = λ is. two.stays_spent (one.stays_spent is);
  damage_stays = λ place is. (let stood = one.damage_stays place is in let stands = two.damage_stays place stood.0 in (stands.0, stands.1 ∙ stood.1, λ block. stands.2 block ∙ stood.2 block));
  no_new_damage = λ none. two.no_new_damage (one.no_new_damage none);
  counts = omega (arith, one.counts, two.counts);
  operations = told_on first.device.operations second.device.operations third.device.operations one.operations two.operations;
  erases = told_on first.device.erases second.device.erases third.device.erases one.erases two.erases;
  bench = bench_on one.bench two.bench;
}

unmounted_before : (before after : Bool) → (IsTrue before → IsTrue after) → IsFalse after → IsFalse before
unmounted_before true after keeps unset = absurd (cc (keeps refl, unset))
unmounted_before false after keeps unset = refl

-- The image had the fault before too.
damage_before : (before after : Option (ℕ × ℕ)) (place : ℕ × ℕ) → ((p : ℕ × ℕ) → before ≡ Some p → after ≡ Some p) → (before ≡ None → after ≡ None) → after ≡ Some place → before ≡ Some place
damage_before None after place stays none found = absurd (cc (none refl, found))
damage_before (Some p) after place stays none found = sym (stays p refl) ∙ found

no_damage_before : (before after : Option (ℕ × ℕ)) → ((p : ℕ × ℕ) → before ≡ Some p → after ≡ Some p) → after ≡ None → before ≡ None
no_damage_before None after stays none = refl
no_damage_before (Some p) after stays none = absurd (cc (stays p refl, none))

-- The last of several calls says how they ended.
pub calls_after : {T : Type 0} (first second third : BlocksState) (result : Result T BlockFault) → Follows first second → BlockCalls second third result → BlockCalls first third result
calls_after {T} first second third result one two = record {
  keeps_driver = more_calls first second third one two.keeps_driver;
  flash = λ told. (let rose = two.flash told in omega (arith, one.counts, rose));
  damaged = λ sector page told. (let found = two.damaged sector page told in (
    damage_before first.damage second.damage (sector, page) (λ p e. (one.damage_stays p e).0) one.no_new_damage found.0,
    unmounted_before first.has_mounted second.has_mounted one.once_mounted found.1,
  ));
  refuses_damage = refuses result two.refuses_damage;
}
  where
    refuses : (result : Result T BlockFault) → OnOk result (second.damage ≡ None) → OnOk result (first.damage ≡ None)
    refuses (Ok x) none = no_damage_before first.damage second.damage (λ p e. (one.damage_stays p e).0) none
    refuses (Err e) none = tt
