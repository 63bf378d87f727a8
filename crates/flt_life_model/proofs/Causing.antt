-- What each step leaves of the causes of the steps that failed.
use Rattle.std.proofs.Common.{◌≡◌, ◌∙◌, ⊎_elim, Ok, Err, not, ℕ, ◌+◌, ◌*◌, ◌-◌, ◌^◌, ◌≤◌, Bool, List, ◌∷◌, refl, ap, subst, sym, arith}
use Rattle.std.specs.Prelude.{IsTrue, IsFalse, is_ok}
use Rattle.std.specs.declared.result.Result.{Result}
use Rattle.std.proofs.lemmas.Bool.{both_ways, false_from_ne_true, false≢true}
use Rattle.flt_flash.specs.Content.{Content, missing, invalid, bytes}
use Rattle.flt_flash.specs.State.{HasRisenBy}
use Rattle.flt_flash.specs.Blocks.{BlocksState}
use Rattle.flt_flash.specs.Calls.{Follows, ArmsDriver}
use Rattle.flt_flash.specs.declared.arm.Arm.{Arm}
use Rattle.flt_flash.specs.declared.blocks.Blocks.{Ghosts}
use Rattle.flt_config.specs.declared.config.Config.{Config}
use Rattle.flt_config.specs.declared.persist.Persist.{Persist}
use Rattle.flt_store_model.specs.Holding.{Generation, Names}
use Rattle.flt_store_model.proofs.ImageLaws.{held_stands}
use Rattle.flt_store.specs.declared.fault.PutFault.{PutFault}
use Rattle.flt_store.specs.declared.fault.PutFault.TheVariants as put
use Rattle.flt_store.specs.declared.fault.SaveFault.{SaveFault}
use Rattle.flt_store.specs.declared.fault.SaveFault.TheVariants.{Flash, Spent, SequenceSpent}
use Rattle.flt_store.specs.declared.store.Store.{Store}
use Rattle.flt_store.specs.Cause.{FailsThrice}
use Rattle.flt_store.specs.Store.{driver_of, numbered, IsRunning, Saves, MayHaveSaved, IsLast}
use Rattle.flt_turn.specs.Sums.{one_if}
use Rattle.flt_life_model.specs.Answers.{Told}
use Rattle.flt_life_model.specs.declared.answer.StepAnswer.TheVariants as answers
use Rattle.flt_life_model.specs.Moment.{Moment, moment_of}
use Rattle.flt_life_model.specs.Causes.{AreCaused, HasFailedBy, flash_failures, jobs_failed}
use Rattle.flt_life_model.specs.SoFar.{IsCaused}

number_small : (c : Config) (value : ℕ → Content) (commit : Content) (g : Generation) → Names c value commit g → g.number ≤ 2 ^ 32 - 1
number_small c value missing g names = let is = ap (λ (d : Generation). d.number) names in omega (arith, is)
number_small c value invalid g names = absurd names
number_small c value (bytes held) g names = let is = names.2.number in let most = names.2.form.most in omega (arith, is, most)

-- A read of an application block was answered by what the block holds.
abbrev pub IsRead : Told → Type 0
IsRead (answers.Bytes found) = Unit {0}
IsRead answers.NoBlock = Unit {0}
IsRead _ = ⊥

-- A driver that is not spent was not before, since one that is spent stays so.
pub unspent_before : (before after : Bool) → (IsTrue before → IsTrue after) → IsFalse after → IsFalse before
unspent_before before after stays unspent = false_from_ne_true before (λ spent. both_ways after unspent (stays spent))

module _ {B : Type 0} {b : Ghosts B} (c : Config) (begun : ℕ) (told : List Told) (before after : Store B b) (caused : IsCaused c begun told before) where
  -- The faults of the saves, the reads and the jobs so far, as long as the last sequence number is not in use.
  jobs_before : Follows (driver_of before) (driver_of after) → IsFalse (driver_of after).is_spent → HasRisenBy (3 * (flash_failures told + jobs_failed told)) begun (driver_of before).device.faults
  jobs_before follows unspent = caused.jobs (unspent_before (driver_of before).is_spent (driver_of after).is_spent follows.stays_spent unspent)

  pub caused_saved : (state : Persist) (number : ℕ) → Follows (driver_of before) (driver_of after) → Saves c caused.held_now caused.spare_now state number before after
      → IsCaused c begun (answers.Saved number ∷ told) after
  caused_saved state number follows saves =
      let order = caused.running.sound.order in
      let next = saves.next in
      let flash = caused.flash in
      let counts = follows.counts in
      let least : caused.spare_now.number ≤ saves.chosen.number =
      ⊎_elim (λ e. (let is = ap (λ (d : Generation). d.number) e in omega (arith, is, order))) (λ more. (let is = ap (λ (d : Generation). d.number) more.0 in omega (arith, is))) saves.is in
      record {
        held_now = numbered number state;
        spare_now = numbered number state;
        running = saves.running;
        flash = omega (arith, flash, counts);
        jobs = λ unspent. (let jobs = jobs_before follows unspent in omega (arith, jobs, counts));
        spent = λ was. (let last = caused.spent was in omega (arith, last, least, next));
        sequence = λ was. follows.stays_spent (caused.sequence was);
      }

  pub caused_failed : (state : Persist) (fault : SaveFault) → Follows (driver_of before) (driver_of after) → MayHaveSaved c caused.held_now caused.spare_now state before after
      → (fault ≡ Flash → FailsThrice (driver_of before) (driver_of after)) → (fault ≡ Spent → IsLast c caused.held_now caused.spare_now before after)
      → (fault ≡ SequenceSpent → IsTrue (driver_of after).is_spent) → IsCaused c begun (answers.SaveFailed fault ∷ told) after
  caused_failed state Flash follows left flash last sequence =
      let was_flash = caused.flash in let three = flash refl in let rises = left.rises in
      record {
        held_now = left.now_held;
        spare_now = left.now_spare;
        running = left.running;
        flash = omega (arith, was_flash, three);
        jobs = λ unspent. (let jobs = jobs_before follows unspent in omega (arith, jobs, three));
        spent = ⊎_elim (λ e. absurd (cc)) (λ was. (let number = caused.spent was in omega (arith, number, rises)));
        sequence = ⊎_elim (λ e. absurd (cc)) (λ was. follows.stays_spent (caused.sequence was));
      }
  caused_failed state Spent follows left flash last sequence =
      let was_flash = caused.flash in let counts = follows.counts in let is = last refl in let number = is.number in
      record {
        held_now = is.last;
        spare_now = is.last;
        running = is.running;
        flash = omega (arith, was_flash, counts);
        jobs = λ unspent. (let jobs = jobs_before follows unspent in omega (arith, jobs, counts));
        spent = λ was. omega (arith, number);
        sequence = ⊎_elim (λ e. absurd (cc)) (λ was. follows.stays_spent (caused.sequence was));
      }
  caused_failed state SequenceSpent follows left flash last sequence =
      let was_flash = caused.flash in let counts = follows.counts in let rises = left.rises in
      record {
        held_now = left.now_held;
        spare_now = left.now_spare;
        running = left.running;
        flash = omega (arith, was_flash, counts);
        jobs = λ unspent. (let jobs = jobs_before follows unspent in omega (arith, jobs, counts));
        spent = ⊎_elim (λ e. absurd (cc)) (λ was. (let number = caused.spent was in omega (arith, number, rises)));
        sequence = λ was. sequence refl;
      }

  -- An arm changes no count of faults.
  pub caused_arm : (arm : Arm) → ArmsDriver arm (driver_of before) (driver_of after) → IsRunning c caused.held_now caused.spare_now after → IsCaused c begun told after
  caused_arm arm arms running =
      let faults = ap (λ (d : BlocksState). d.device.faults) arms.rest in
      let spent = ap (λ (d : BlocksState). d.is_spent) arms.rest in
      let flash = caused.flash in
      record {
        held_now = caused.held_now;
        spare_now = caused.spare_now;
        running = running;
        flash = omega (arith, flash, faults);
        jobs = λ unspent. (let jobs = caused.jobs (subst IsFalse spent unspent) in omega (arith, jobs, faults));
        spent = caused.spent;
        sequence = λ was. subst IsTrue (sym spent) (caused.sequence was);
      }

  -- Calls of the driver by which no more is known to have failed leave the causes as they are.
  caused_still : (now : List Told) → Follows (driver_of before) (driver_of after) → IsRunning c caused.held_now caused.spare_now after → flash_failures now ≡ flash_failures told
      → (IsFalse (driver_of after).is_spent → HasRisenBy (3 * (flash_failures now + jobs_failed now)) begun (driver_of after).device.faults)
      → (HasFailedBy Spent now → HasFailedBy Spent told) → (HasFailedBy SequenceSpent now → HasFailedBy SequenceSpent told) → IsCaused c begun now after
  caused_still now follows running failures jobs by_number by_sequence =
      let flash = caused.flash in let counts = follows.counts in
      record {
        held_now = caused.held_now;
        spare_now = caused.spare_now;
        running = running;
        flash = omega (arith, flash, counts, failures);
        jobs = jobs;
        spent = λ was. caused.spent (by_number was);
        sequence = λ was. follows.stays_spent (caused.sequence (by_sequence was));
      }

  -- A read that found the bytes of a block, or that it was never written.
  pub caused_read : (answer : Told) → IsRead answer → Follows (driver_of before) (driver_of after) → IsRunning c caused.held_now caused.spare_now after → IsCaused c begun (answer ∷ told) after
  caused_read (answers.Bytes found) is follows running =
      let counts = follows.counts in
      caused_still (answers.Bytes found ∷ told) follows running refl (λ unspent. (let jobs = jobs_before follows unspent in omega (arith, jobs, counts))) (λ was. was) (λ was. was)
  caused_read answers.NoBlock is follows running =
      let counts = follows.counts in
      caused_still (answers.NoBlock ∷ told) follows running refl (λ unspent. (let jobs = jobs_before follows unspent in omega (arith, jobs, counts))) (λ was. was) (λ was. was)
  caused_read (answers.Dem reply) is follows running = absurd is
  caused_read (answers.Saved number) is follows running = absurd is
  caused_read (answers.SaveFailed fault) is follows running = absurd is
  caused_read (answers.Queue reply) is follows running = absurd is
  caused_read (answers.Drained written failed) is follows running = absurd is
  caused_read answers.BlockFlash is follows running = absurd is
  caused_read answers.Armed is follows running = absurd is
  caused_read answers.Dark is follows running = absurd is

  -- A read that failed in three tries.
  pub caused_unread : Follows (driver_of before) (driver_of after) → FailsThrice (driver_of before) (driver_of after) → IsRunning c caused.held_now caused.spare_now after
      → IsCaused c begun (answers.BlockFlash ∷ told) after
  caused_unread follows three running =
      let flash = caused.flash in
      record {
        held_now = caused.held_now;
        spare_now = caused.spare_now;
        running = running;
        flash = omega (arith, flash, three);
        jobs = λ unspent. (let jobs = jobs_before follows unspent in omega (arith, jobs, three));
        spent = caused.spent;
        sequence = λ was. follows.stays_spent (caused.sequence was);
      }

module _ {B : Type 0} {b : Ghosts B} (c : Config) (store now : Store B b) where
  pub caused_job : (begun : ℕ) (told : List Told) (some more less failed : ℕ) → Follows (driver_of store) (driver_of now) → ((held spare : Generation) → IsRunning c held spare store → IsFalse (driver_of now).is_spent → HasRisenBy (3 * failed) (driver_of store).device.faults (driver_of now).device.faults)
      → ((held spare : Generation) → IsRunning c held spare store → IsRunning c held spare now) → IsCaused c begun (answers.Drained some less ∷ told) store → IsCaused c begun (answers.Drained more (less + failed) ∷ told) now
  caused_job begun told some more less failed follows rose running caused =
      let flash = caused.flash in
      let counts = follows.counts in
      record {
        held_now = caused.held_now;
        spare_now = caused.spare_now;
        running = running caused.held_now caused.spare_now caused.running;
        flash = omega (arith, flash, counts);
        jobs = λ unspent. (let jobs = caused.jobs (unspent_before (driver_of store).is_spent (driver_of now).is_spent follows.stays_spent unspent) in let rises = rose caused.held_now caused.spare_now caused.running unspent in omega (arith, jobs, rises));
        spent = caused.spent;
        sequence = λ was. follows.stays_spent (caused.sequence was);
      }

-- No job more.
pub caused_same : {B : Type 0} {b : Ghosts B} (c : Config) (store : Store B b) (begun : ℕ) (told : List Told) (some more less : ℕ) → IsCaused c begun (answers.Drained some less ∷ told) store
    → IsCaused c begun (answers.Drained more (less + 0) ∷ told) store
caused_same c store begun told some more less caused = record {
  held_now = caused.held_now;
  spare_now = caused.spare_now;
  running = caused.running;
  flash = caused.flash;
  jobs = λ unspent. (let jobs = caused.jobs unspent in omega (arith, jobs));
  spent = caused.spent;
  sequence = caused.sequence;
}

-- A drain that has taken no job.
pub caused_first : {B : Type 0} {b : Ghosts B} (c : Config) (store : Store B b) (begun : ℕ) (told : List Told) → IsCaused c begun told store → IsCaused c begun (answers.Drained 0 0 ∷ told) store
caused_first c store begun told caused = record {
  held_now = caused.held_now;
  spare_now = caused.spare_now;
  running = caused.running;
  flash = caused.flash;
  jobs = λ unspent. (let jobs = caused.jobs unspent in omega (arith, jobs));
  spent = caused.spent;
  sequence = caused.sequence;
}

-- Where the last sequence number is not in use, a job that could not be written met three faults.
pub rose_by : (result : Result (Unit {0}) PutFault) (before after : ℕ) (spent : Bool) → (result ≡ Err put.Flash → HasRisenBy 3 before after) → (result ≡ Err put.SequenceSpent → IsTrue spent) → HasRisenBy 0 before after → IsFalse spent
    → HasRisenBy (3 * one_if (not (is_ok result))) before after
rose_by (Ok value) before after spent flash sequence counts unspent = omega (arith, counts)
rose_by (Err put.Flash) before after spent flash sequence counts unspent = let three = flash refl in omega (arith, three)
rose_by (Err put.SequenceSpent) before after spent flash sequence counts unspent = absurd (false≢true (sym unspent ∙ sequence refl))

pub are_caused : {B : Type 0} {b : Ghosts B} (c : Config) (begun : ℕ) (told : List Told) (store : Store B b) (boot : Moment) → HasRisenBy 0 boot.faults begun
    → IsCaused c begun told store → AreCaused c boot (moment_of (driver_of store)) told
are_caused c begun told store boot rose caused =
    let flash = caused.flash in
    let sound = caused.running.sound in
    let small = number_small c (driver_of store).value _ caused.held_now sound.holds.names in
    let order = sound.order in
    record {
      flash = omega (arith, flash, rose);
      jobs = λ unspent. (let jobs = caused.jobs unspent in omega (arith, jobs, rose));
      spent = λ was.
          (let last = caused.spent was in
          (caused.held_now, (held_stands c caused.running.served.valid_config (driver_of store).value caused.held_now).1 sound.holds, omega (arith, last, order, small)));
      sequence = caused.sequence;
    }
