-- The lives of a session one after the other.
use Rattle.std.proofs.Common.{◌≡◌, ◌≤◌, ◌∙◌, ◌+◌, ℕ, Bool, List, [], ◌∷◌, Option, Some, None, refl, sym, ap, subst, arith}
use Rattle.std.specs.Prelude.{◌^◌, ◌-◌, min, length, IsTrue}
use Rattle.flt_config.specs.declared.config.Config.{Config}
use Rattle.flt_config.specs.declared.persist.Persist.{Persist}
use Rattle.flt_dcm.specs.Unit.{UnitView}
use Rattle.flt_flash.specs.Blocks.{BlocksState}
use Rattle.flt_flash.specs.declared.blocks.Blocks.{Ghosts}
use Rattle.flt_io.specs.Fault.{Rose}
use Rattle.flt_queue.specs.declared.queue.JobQueue.{JobQueue}
use Rattle.flt_store.specs.declared.store.Store.{Store}
use Rattle.flt_store.specs.Store.{driver_of, numbered}
use Rattle.flt_life_model.specs.Applications.{AreGot, HoldApplications}
use Rattle.flt_life_model.specs.Causes.{AreCaused}
use Rattle.flt_life_model.specs.Chain as chain
use Rattle.flt_life_model.specs.Chain.{IsLifeBegunBy, KeepsApplications, Leaves, LifeView, start_from, told_of}
use Rattle.flt_life_model.specs.Moment.{IsOn, Medium, moment_of}
use Rattle.flt_life_model.specs.SoFar.{IsKeptSince}
use Rattle.flt_life_model.specs.declared.life.Boot.{Boot}
use Rattle.flt_life_model.specs.declared.life.Boot.TheVariants as boots
use Rattle.flt_life_model.proofs.Causing.{are_caused}
use Rattle.flt_life_model.proofs.HeldBlocks.{may_whole}
use Rattle.flt_report.specs.Boot.{boot_line}
use Rattle.flt_live.specs.declared.living.LifeEnd.{LifeEnd}
use Rattle.flt_live.specs.declared.living.LifeEnd.TheVariants.{Ended, Memory, Power, Unread, Unwritten}
use Rattle.flt_live.specs.Ahead.{ahead_with}
use Rattle.flt_live.specs.Begun.{BeginsOn, IsBegunBy, without_steps}
use Rattle.flt_live.specs.Heard.{SaysLine, Talk}
use Rattle.flt_live.specs.Lived.{GoesOnBy, IsLifeLived, UnlessLost}
use Rattle.flt_live.specs.Made.{IsMidway, Made, answers_of_made, journal_of}
use Rattle.flt_live.specs.Session.{SourceFailed}
use Rattle.flt_live.specs.Shelf.{GivesBack}
use Rattle.flt_live.specs.Span.{ArePassed, AreSpans, BeginsSo, IsFoundBehind, IsSpan, IsWholeLife, LifeSpan, LivesPassed, SameBlocks, WentOn, next_life, seen_as}
use Rattle.flt_live.proofs.Seen.{deeds_are, queue_is, told_are}

pub nothing_pulled : (left : Option (List ℕ)) → ahead_with [] left ≡ left
nothing_pulled None = refl
nothing_pulled (Some bytes) = refl

-- No life began.
pub none_passed : (tells : Bool) (c : Config) (now : Talk) → LivesPassed tells c now now
none_passed tells c now = record { lives = []; pulled = []; passed = ap (λ (ahead : Option (List ℕ)). record now { ahead = ahead }) (nothing_pulled now.ahead) }

-- ---- a life that was started is one of a run

module _ {B : Type 0} {b : Ghosts B} (c : Config) (before : BlocksState) (number : ℕ) (state : Persist) (begun last : Store B b) (begins : BeginsOn c before (boots.Started number state) begun) (unit : UnitView) (queue : JobQueue) (made : List Made)
    (mid : IsMidway c (numbered number state) before.value (driver_of begun) made unit queue last) where
  abbrev seen : LifeView
  seen = seen_as (boots.Started number state) made mid.jobs

  kept_seen : IsKeptSince c (numbered number state) (journal_of made) (told_of seen) mid.living.held mid.living.spare
  kept_seen = subst (λ told. IsKeptSince c (numbered number state) (journal_of made) told mid.living.held mid.living.spare) (sym (told_are (boots.Started number state) made mid.jobs)) mid.living.kept

  leaves : Leaves c (numbered number state) seen (moment_of (driver_of last))
  leaves = record {
    held = mid.living.held;
    spare = mid.living.spare;
    last = kept_seen.last;
    sound = record { undamaged = mid.keeps_driver.no_new_damage (begins.no_new_damage begins.is.0.undamaged); sound = mid.living.running.sound };
    acknowledged = kept_seen.acknowledged;
    held_is = kept_seen.held_is;
    spare_is = kept_seen.spare_is;
    rising = kept_seen.rising;
  }

  caused : AreCaused c (moment_of before) (moment_of (driver_of last)) (told_of seen)
  caused = subst (AreCaused c (moment_of before) (moment_of (driver_of last))) (sym (told_are (boots.Started number state) made mid.jobs))
      (are_caused c (driver_of begun).device.faults (answers_of_made made) last (moment_of before) begins.counts mid.caused)

  applications_kept : KeepsApplications (moment_of before) (moment_of (driver_of last)) seen
  applications_kept = record {
    held = subst (λ jobs. HoldApplications before.value jobs (driver_of last).value) (sym (queue_is (boots.Started number state) made mid.jobs))
        (λ block below. may_whole block (before.value _) ((driver_of last).value _) mid.jobs _ mid.held.counts_jobs (mid.held.held block below));
    got = subst (λ jobs. AreGot before.value jobs (chain.deeds_of seen)) (sym (queue_is (boots.Started number state) made mid.jobs))
        (subst (AreGot before.value mid.jobs) (sym (deeds_are (boots.Started number state) made mid.jobs)) mid.held.got);
  }

  pub is_life : IsLifeBegunBy c (moment_of before) (moment_of (driver_of last)) (driver_of begun).device.faults seen (boots.Started number state)
  is_life = (begins.is.0, begins.is.1, leaves, caused, applications_kept)

-- ---- a life without its store

module _ {B : Type 0} {b : Ghosts B} (c : Config) (before : BlocksState) where
  begins_so : (boot : Boot) (begun : Store B b) → IsBegunBy c before boot begun → BeginsSo c before (driver_of begun) boot
  begins_so (boots.Started number state) begun (finds, unspent, fits, running) = (finds, unspent, fits, record { mark = running.mark; sound = running.sound })
  begins_so boots.Dark begun is = is
  begins_so (boots.Refused fault) begun is = is

  module _ (begun last : Store B b) (unit : UnitView) (from after : Talk) (end : LifeEnd) where
    -- What it is in the words of a run.
    abbrev pub view_by : (boot : Boot) → GoesOnBy c boot before.value begun last unit from after end → LifeView
    view_by (boots.Started number state) goes = seen_as (boots.Started number state) goes.made goes.midway.jobs
    view_by boots.Dark goes = without_steps boots.Dark
    view_by (boots.Refused fault) goes = without_steps (boots.Refused fault)

    went_on : (boot : Boot) (goes : GoesOnBy c boot before.value begun last unit from after end) → WentOn c boot (view_by boot goes) from after end
    went_on (boots.Started number state) goes = record {
      heard = goes.heard;
      made = goes.made;
      jobs = goes.midway.jobs;
      are = goes.are;
      answered = goes.midway.answered;
      view_is = refl;
      written = goes.written;
      ended = goes.ended;
    }
    went_on boots.Dark goes = (refl, goes.1)
    went_on (boots.Refused fault) goes = (refl, goes.1, goes.2, goes.3)

    is_over : (boot : Boot) → BeginsOn c before boot begun → (goes : GoesOnBy c boot before.value begun last unit from after end)
        → IsLifeBegunBy c (moment_of before) (moment_of (driver_of last)) (driver_of begun).device.faults (view_by boot goes) boot
    is_over (boots.Started number state) begins goes = is_life c before number state begun last begins unit goes.queue goes.made goes.midway
    is_over boots.Dark begins goes =
        subst (λ (s : Store B b). IsLifeBegunBy c (moment_of before) (moment_of (driver_of s)) (driver_of begun).device.faults (without_steps boots.Dark) boots.Dark) (sym goes.0) begins.is
    is_over (boots.Refused fault) begins goes =
        subst (λ (s : Store B b). IsLifeBegunBy c (moment_of before) (moment_of (driver_of s)) (driver_of begun).device.faults (without_steps (boots.Refused fault)) (boots.Refused fault)) (sym goes.0) begins.is

module _ {B : Type 0} {b : Ghosts B} (c : Config) (number status : ℕ) (before : BlocksState) (last : Store B b) (unit : UnitView) (from after : Talk) where
  abbrev pub Said : LifeEnd → Boot → Store B b → Type 0
  Said end boot begun = (t : Talk) × SaysLine (boot_line number boot) from t × GoesOnBy c boot before.value begun last unit t after end

  abbrev pub seen_by : (end : LifeEnd) (boot : Boot) (begun : Store B b) → UnlessLost end (Said end boot begun) → LifeView
  seen_by Power boot begun said = view_by c before begun last unit said.0 after Power boot said.2
  seen_by Ended boot begun said = view_by c before begun last unit said.0 after Ended boot said.2
  seen_by Unread boot begun said = view_by c before begun last unit said.0 after Unread boot said.2
  seen_by Unwritten boot begun said = without_steps boot
  seen_by Memory boot begun said = without_steps boot

  module _ (end : LifeEnd) (lived : IsLifeLived c number status before last unit from after end) where
    abbrev pub span_of : LifeSpan
    span_of = record {
      number = number;
      boot = lived.boot;
      end = end;
      view = seen_by end lived.boot lived.begun lived.said;
      before = before;
      begun = driver_of lived.begun;
      last = driver_of last;
      from = from;
      after = after;
    }

  abbrev span_at : (end : LifeEnd) (boot : Boot) (begun : Store B b) → UnlessLost end (Said end boot begun) → LifeSpan
  span_at end boot begun said = record {
    number = number;
    boot = boot;
    end = end;
    view = seen_by end boot begun said;
    before = before;
    begun = driver_of begun;
    last = driver_of last;
    from = from;
    after = after;
  }

  whole_by : (end : LifeEnd) (boot : Boot) (begun : Store B b) → BeginsOn c before boot begun → (said : UnlessLost end (Said end boot begun)) → UnlessLost end (IsWholeLife c (span_at end boot begun said) end)
  whole_by Power boot begun begins said = record { between = said.0; says = said.1; went_on = went_on c before begun last unit said.0 after Power boot said.2; is_life = is_over c before begun last unit said.0 after Power boot begins said.2 }
  whole_by Ended boot begun begins said = record { between = said.0; says = said.1; went_on = went_on c before begun last unit said.0 after Ended boot said.2; is_life = is_over c before begun last unit said.0 after Ended boot begins said.2 }
  whole_by Unread boot begun begins said = record { between = said.0; says = said.1; went_on = went_on c before begun last unit said.0 after Unread boot said.2; is_life = is_over c before begun last unit said.0 after Unread boot begins said.2 }
  whole_by Unwritten boot begun begins said = tt
  whole_by Memory boot begun begins said = tt

  pub is_span : (end : LifeEnd) (lived : IsLifeLived c number status before last unit from after end) → IsSpan c (span_of end lived)
  is_span end lived = record {
    is = begins_so c before lived.boot lived.begun lived.is.is;
    whole = whole_by end lived.boot lived.begun lived.is lived.said;
    lost = lived.lost;
    cut = lived.cut;
    later = lived.later;
  }

-- The driver of a life that goes on serves as it did.
pub record ServesOn (before last : BlocksState) : Type 0 where
  pub numbers : last.numbers ≡ before.numbers
  pub room : last.room ≡ before.room

module _ {B : Type 0} {b : Ghosts B} (c : Config) (number status : ℕ) (before : BlocksState) (last : Store B b) (unit : UnitView) (from after : Talk) (end : LifeEnd)
    (lived : IsLifeLived c number status before last unit from after end) where
  as_begun : driver_of last ≡ driver_of lived.begun → ServesOn before (driver_of last)
  as_begun same = record {
    numbers = ap (λ (d : BlocksState). d.numbers) same ∙ lived.is.numbers;
    room = ap (λ (d : BlocksState). d.room) same ∙ lived.is.room;
  }

  serves_by : (how : Boot) (t : Talk) → GoesOnBy c how before.value lived.begun last unit t after Power → ServesOn before (driver_of last)
  serves_by (boots.Started generation state) t goes = record {
    numbers = goes.midway.keeps_driver.numbers ∙ lived.is.numbers;
    room = goes.midway.keeps_driver.room ∙ lived.is.room;
  }
  serves_by boots.Dark t goes = as_begun (ap driver_of goes.0)
  serves_by (boots.Refused fault) t goes = as_begun (ap driver_of goes.0)

  pub serves_on : end ≡ Power → ServesOn before (driver_of last)
  serves_on power =
      let said = subst (λ (e : LifeEnd). UnlessLost e ((t : Talk) × SaysLine (boot_line number lived.boot) from t × GoesOnBy c lived.boot before.value lived.begun last unit t after e)) power lived.said in
      serves_by lived.boot said.0 said.2

-- ---- one life more

module _ (tells : Bool) (c : Config) (start : Talk) (earlier : List LifeSpan) (life : LifeSpan) (passed : ArePassed tells c start earlier life.from) (counted : life.number ≡ next_life earlier) (found : IsFoundBehind tells earlier life.before)
    (span : IsSpan c life) where
  pub one_more : life.end ≡ Power → ArePassed tells c start (life ∷ earlier) life.after
  one_more power = (passed, counted, power, span, found, refl)

  pub spans_to : (to : Talk) (pulled : List ℕ) → life.after ≡ record to { ahead = ahead_with pulled to.ahead } → (end : LifeEnd) → life.end ≡ end → AreSpans tells c start to life.boot end
  spans_to to pulled after_is end end_is = record {
    earlier = earlier;
    life = life;
    pulled = pulled;
    passed = passed;
    number = counted;
    span = span;
    found = found;
    boot_is = refl;
    end_is = end_is;
    to_is = after_is;
  }

  rose_of : (how : Boot) (t : Talk) → WentOn c how life.view t life.after Unread → Rose t.read_faults life.after.read_faults
  rose_of (boots.Started generation state) t goes = goes.ended
  rose_of boots.Dark t goes = goes.1.ended
  rose_of (boots.Refused fault) t goes = absurd (cc goes.3)

  pub unread_of : (to : Talk) (pulled : List ℕ) → life.after ≡ record to { ahead = ahead_with pulled to.ahead } → life.end ≡ Unread → start.read_faults ≤ life.from.read_faults → SourceFailed tells c start to
  unread_of to pulled after_is unread later =
      let whole = subst (λ (e : LifeEnd). UnlessLost e (IsWholeLife c life e)) unread span.whole in
      let rose = rose_of life.boot whole.between whole.went_on in
      let same = whole.says.read_faults in
      let after = ap (λ (t : Talk). t.read_faults) after_is in
      record {
        boot = life.boot;
        lived = spans_to to pulled after_is Unread unread;
        rose = omega (arith, rose, same, after, later);
      }

-- ---- what a life found

-- Both are what one image says.
pub same_blocks : (medium : Medium) (last before : BlocksState) → IsOn medium last → IsOn medium before → before.device.image ≡ last.device.image → SameBlocks last before
same_blocks medium last before one two same = record {
  value = sym two.value ∙ ap medium.value same ∙ one.value;
  damage = sym two.damage ∙ ap medium.damage same ∙ one.damage;
  is_spent = sym two.is_spent ∙ ap medium.is_spent same ∙ one.is_spent;
}

-- What the last of these lives left is kept, and is what its image says.
abbrev pub IsLeft : Bool → Medium → List LifeSpan → Option (List (List (List ℕ))) → Type 0
IsLeft tells medium [] kept = Unit {0}
IsLeft tells medium (life ∷ earlier) kept = IsOn medium life.last × (IsTrue tells → kept ≡ Some life.last.device.image)

pub found_behind : (tells : Bool) (medium : Medium) (lives : List LifeSpan) (kept : Option (List (List (List ℕ)))) (before : BlocksState) → IsLeft tells medium lives kept → IsOn medium before
    → (IsTrue tells → GivesBack kept before.device.image) → IsFoundBehind tells lives before
found_behind tells medium [] kept before left on given = tt
found_behind tells medium (life ∷ earlier) kept before left on given =
    λ told. same_blocks medium life.last before left.0 on (subst (λ k. GivesBack k before.device.image) (left.1 told) (given told))

-- ---- lives are counted

pub number_more : (number : ℕ) (earlier : List LifeSpan) → number ≡ min (length earlier) (2 ^ 32 - 1) → min (number + 1) (2 ^ 32 - 1) ≡ next_life earlier
number_more number earlier is = omega (arith, is)
