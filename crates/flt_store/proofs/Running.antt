-- What keeps a store running.
use Rattle.std.proofs.Common.{◌≡◌, ◌⊎◌, inl, inr, ⊎_elim, ℕ, ◌≤◌, Bool, false, List, Option, Result, Ok, Err, sym, ◌∙◌, ap, subst, arith}
use Rattle.std.specs.Prelude.{IsTrue, IsFalse, IfOk, OnOk, OnErr, IsErrOf}
use Rattle.std.specs.Result.{IsErrAnd}
use Rattle.flt_flash.specs.Content.{Content}
use Rattle.flt_flash.specs.Blocks.{BlocksState}
use Rattle.flt_flash.specs.Calls.{Follows, SameValues, Settles}
use Rattle.flt_flash.specs.declared.blocks.BlockFault.{BlockFault}
use Rattle.flt_config.specs.declared.config.Config.{Config}
use Rattle.flt_store_model.specs.Holding.{Generation, IsOneOf, IsSound}
use Rattle.flt_store.specs.Cause.{FailsThrice, HasRoom}
use Rattle.flt_store_model.specs.declared.commit.Commit.{Commit}
use Rattle.flt_store.specs.Started.{HasMark, IsStarted}
use Rattle.flt_store.specs.Known.{Knows}
use Rattle.flt_config.specs.declared.persist.Persist.{Persist}
use Rattle.flt_flash.specs.declared.blocks.Blocks.{Ghosts}
use Rattle.flt_store.specs.declared.fault.SaveFault.{SaveFault}
use Rattle.flt_store.specs.declared.store.Store.{Store}
use Rattle.flt_store.specs.Store.{driver_of, commit_of, kept_of, is_settled, IsServed, IsRunning, IsAlive, Saves, MayHaveSaved}

pub served_on : (c : Config) (before after : BlocksState) → Follows before after → IsServed c before → IsServed c after
served_on c before after follows served = record { valid_config = served.valid_config; room = subst (HasRoom c) (sym follows.room) served.room; mounted = follows.once_mounted served.mounted }

pub ok_map : {T E : Type 0} {P Q : T → Type 0} (result : Result T E) → ((x : T) → P x → Q x) → IfOk result P → IfOk result Q
ok_map (Ok x) to p = to x p
ok_map (Err e) to p = tt

module _ (h s new : Generation) where
  -- A save that went on from the held generation.
  pub one_by_held : (g : Generation) → IsOneOf g h h new → IsOneOf g h s new
  one_by_held g = ⊎_elim (λ e. inl e) (λ more. ⊎_elim (λ e. inl e) (λ e. inr (inr e)) more)

  -- A save that went on from the spare one.
  pub one_by_spare : (g : Generation) → IsOneOf g s s new → IsOneOf g h s new
  one_by_spare g = ⊎_elim (λ e. inr (inl e)) (λ more. ⊎_elim (λ e. inr (inl e)) (λ e. inr (inr e)) more)

-- Later calls leave the choice.
pub chosen_on : {P Q R : Type 0} (first second third : BlocksState) → Follows second third → P ⊎ (Q × R × FailsThrice first second) → P ⊎ (Q × R × FailsThrice first third)
chosen_on first second third follows = ⊎_elim (λ p. inl p) (λ more. inr (more.0, more.1, (let rose = more.2 in let counts = follows.counts in omega (arith, rose, counts))))

-- Later calls leave three faults, and fewer than three.
pub failed_on : (first second third : BlocksState) → Follows second third → FailsThrice first second → FailsThrice first third
failed_on first second third follows rose = let counts = follows.counts in omega (arith, rose, counts)

pub failed_later : (first second third : BlocksState) → Follows first second → FailsThrice second third → FailsThrice first third
failed_later first second third follows rose = let counts = follows.counts in omega (arith, rose, counts)

-- Where a save failed before, the flash did not fail three times.
pub unfailed : (first second : BlocksState) (settled : Bool) → settled ≡ false → IsTrue settled ⊎ (FailsThrice first second → ⊥) → FailsThrice first second → ⊥
unfailed first second settled failed undisturbed rose = ⊎_elim (λ settles. absurd (cc (settles, failed))) (λ never. never rose) undisturbed

-- What holds to the end of a call holds until a moment in it.
pub undisturbed_until : {P : Type 0} (first second third : BlocksState) → Follows second third → P ⊎ (FailsThrice first third → ⊥) → P ⊎ (FailsThrice first second → ⊥)
undisturbed_until first second third follows = ⊎_elim (λ p. inl p) (λ never. inr (λ rose. never (failed_on first second third follows rose)))

-- An undisturbed save goes on from the held generation.
pub held_is_chosen : (first second : BlocksState) (settled : Bool) (h s chosen : Generation) → IsTrue settled ⊎ (FailsThrice first second → ⊥)
    → (chosen ≡ h) ⊎ ((chosen ≡ s) × IsFalse settled × FailsThrice first second) → chosen ≡ h
held_is_chosen first second settled h s chosen undisturbed = ⊎_elim (λ by_held. by_held) (λ by_spare. absurd (unfailed first second settled by_spare.1 undisturbed by_spare.2))

-- Each old generation, by the one from which a save went on.
pub one_of_chosen : {Q R : Type 0} (h s chosen new g : Generation) → (chosen ≡ h) ⊎ ((chosen ≡ s) × Q × R) → IsOneOf g chosen chosen new → IsOneOf g h s new
one_of_chosen h s chosen new g is one =
    ⊎_elim
    (λ by_held. one_by_held h s new g (subst (λ (d : Generation). IsOneOf g d d new) by_held one))
    (λ by_spare. one_by_spare h s new g (subst (λ (d : Generation). IsOneOf g d d new) by_spare.0 one))
    is

pub rises_from : {Q R : Type 0} (h s chosen : Generation) (number : ℕ) → (chosen ≡ h) ⊎ ((chosen ≡ s) × Q × R) → s.number ≤ h.number → chosen.number ≤ number → s.number ≤ number
rises_from h s chosen number is order rises =
    ⊎_elim
    (λ by_held. (let same = ap (λ (d : Generation). d.number) by_held in omega (arith, same, order, rises)))
    (λ by_spare. (let same = ap (λ (d : Generation). d.number) by_spare.0 in omega (arith, same, rises)))
    is

pub err_both : {T E : Type 0} {P Q R : Type 0} (result : Result T E) → (P → Q → R) → OnErr result P → OnErr result Q → OnErr result R
err_both (Ok x) to p q = tt
err_both (Err e) to p q = to p q

pub on_ok : {T E : Type 0} {P Q : Type 0} (result : Result T E) → (P → Q) → OnOk result P → OnOk result Q
on_ok (Ok x) to p = to p
on_ok (Err e) to p = tt

pub ok_of : {T E : Type 0} {P : T → Type 0} {Q : Type 0} (result : Result T E) → ((x : T) → P x → Q) → IfOk result P → OnOk result Q
ok_of (Ok x) to p = to x p
ok_of (Err e) to p = tt

pub taken : {T E : Type 0} {P : Type 0} {x : T} (result : Result T E) → result ≡ Ok x → OnOk result P → P
taken {P = P} {x = x} result is p = subst (λ r. OnOk r P) is p

pub err_taken : {T E : Type 0} {P : Type 0} {e : E} (result : Result T E) → result ≡ Err e → OnErr result P → P
err_taken {P = P} {e = e} result is p = subst (λ r. OnErr r P) is p

pub whenever : {T E : Type 0} {P : Type 0} (result : Result T E) → P → OnErr result P
whenever (Ok x) p = tt
whenever (Err e) p = p

-- An answer that hands on a fault is no Ok.
pub failed_ok : {T E : Type 0} (P : E → Type 0) (Q : Type 0) (answer : Result T E) → IsErrAnd answer P → OnOk answer Q
failed_ok P Q (Ok x) made = absurd made
failed_ok P Q (Err e) made = tt

pub failed_if_ok : {T E : Type 0} (P : E → Type 0) (Q : T → Type 0) (answer : Result T E) → IsErrAnd answer P → IfOk answer Q
failed_if_ok P Q (Ok x) made = absurd made
failed_if_ok P Q (Err e) made = tt

-- A driver that answered Ok is not stale.
pub fresh_on_ok : {T : Type 0} (result : Result T BlockFault) (after : BlocksState) → Settles result after → OnOk result (IsFalse after.is_stale)
fresh_on_ok (Ok x) after settles = settles
fresh_on_ok (Err e) after settles = tt

-- What holds of the fault that an answer was made of holds of the one that it is.
pub told_by : {T E : Type 0} (P : E → Type 0) (answer : Result T E) (told : E) → IsErrAnd answer P → IsErrOf answer told → P told
told_by P answer told made is = subst (λ r. IsErrAnd r P) is made

-- A fault that is handed on was the one of the step.
pub handed : {T U E : Type 0} (result : Result T E) (answer : Result U E) (fault told : E) → result ≡ Err fault → IsErrAnd answer (λ e. e ≡ fault) → IsErrOf answer told → IsErrOf result told
handed result answer fault told was made is = was ∙ ap Err (sym (told_by (λ e. e ≡ fault) answer told made is))

-- A store that is not settled runs.
pub unsettled_runs : {B : Type 0} {b : Ghosts B} (c : Config) (h s : Generation) (store : Store B b) → IsFalse (is_settled store) → IsServed c (driver_of store) → HasMark c (driver_of store).value → IsSound c (driver_of store).value h s
    → IsRunning c h s store
unsettled_runs c h s store unsettled served mark sound = record { served = served; mark = mark; sound = sound; settled = λ yes. absurd (cc (yes, unsettled)); known = λ yes. absurd (cc (yes, unsettled)) }

-- A store runs after a save, whatever that answered.
pub alive_after : {B : Type 0} {b : Ghosts B} (c : Config) (h s : Generation) (state : Persist) (before after : Store B b) (result : Result ℕ SaveFault)
    → IfOk result (λ number. Saves c h s state number before after) → OnErr result (MayHaveSaved c h s state before after) → IsAlive c after
alive_after c h s state before after (Ok number) saved failed = record { held = _; spare = _; running = saved.running }
alive_after c h s state before after (Err fault) saved failed = record { held = failed.now_held; spare = failed.now_spare; running = failed.running }

-- A store runs on after reads.
pub reads_run : {B : Type 0} {b : Ghosts B} {c : Config} (before after : Store B b) → SameValues (driver_of before) (driver_of after) → Follows (driver_of before) (driver_of after)
    → (is_settled after ≡ is_settled before) × (commit_of after ≡ commit_of before) × (kept_of after ≡ kept_of before) → (h s : Generation) → IsRunning c h s before → IsRunning c h s after
reads_run {c = c} before after same follows (settled, commit, kept) h s running =
    let values : (driver_of before).value ≡ (driver_of after).value = λ i number. sym (same number) i in
    record {
      served = served_on c (driver_of before) (driver_of after) follows running.served;
      mark = subst (λ (value : ℕ → Content). HasMark c value) values running.mark;
      sound = subst (λ (value : ℕ → Content). IsSound c value h s) values running.sound;
      settled = λ is. subst (λ (d : Option Commit). IsStarted c (driver_of after).value d h) (sym commit)
          (subst (λ (value : ℕ → Content). IsStarted c value (commit_of before) h) values (running.settled (sym settled ∙ is)));
      known = λ is. subst (λ (bytes_of : ℕ → List ℕ). Knows c bytes_of h.state) (sym kept) (running.known (sym settled ∙ is));
    }
