-- A life from its power-up on, and the lives of a session.
use Rattle.std.proofs.Common.{◌≡◌, ℕ, ◌≤◌, [], Result, Ok, arith, refl, ap, sym, subst}
use Rattle.std.specs.Prelude.{OnOk}
use Rattle.flt_config.specs.declared.config.Config.{Config}
use Rattle.flt_config.specs.Durable.{Fits}
use Rattle.flt_config.specs.declared.persist.Persist.{Persist}
use Rattle.flt_dcm.specs.Unit.{Stands, UnitView}
use Rattle.flt_flash.specs.Blocks.{BlocksState}
use Rattle.flt_flash.specs.declared.blocks.Blocks.{Ghosts}
use Rattle.flt_io.specs.Fault.{Rose}
use Rattle.flt_io.specs.declared.stream.StreamFault.{StreamFault}
use Rattle.flt_io.specs.declared.stream.StreamFault.TheVariants as streams
use Rattle.flt_restore.specs.declared.fault.StartFault.{StartFault}
use Rattle.flt_store.specs.declared.store.Store.{Store}
use Rattle.flt_store.specs.Store.{IsRunning, driver_of, numbered}
use Rattle.flt_store_model.specs.Holding.{Generation}
use Rattle.flt_life_model.specs.Chain.{start_from}
use Rattle.flt_life_model.specs.declared.life.Boot.{Boot}
use Rattle.flt_life_model.specs.declared.life.Boot.TheVariants as boots
use Rattle.flt_life_model.specs.Statuses.{status_by}
use Rattle.flt_life_model.proofs.Keeping.{kept_first}
use Rattle.flt_lives.specs.Living.{IsLiving}
use Rattle.flt_report.specs.Boot.{boot_line}
use Rattle.flt_live.specs.declared.living.LifeEnd.{LifeEnd}
use Rattle.flt_live.specs.declared.living.LifeEnd.TheVariants.{Power, Ended, Unread, Unwritten, Memory}
use Rattle.flt_live.specs.Begun.{BeginsOn, IsBegunBy}
use Rattle.flt_live.specs.Heard.{SaysLine, Talk, answer_bytes}
use Rattle.flt_live.specs.Lived.{GoesOnBy, IfLost, IsCutShort, IsLifeLived, IsLostFor, TakesDarkLines, TakesLines, UnlessLost, lost_by}
use Rattle.flt_live.proofs.Hearing.{lost_anyway, lost_cut, lost_for, rose_later}
use Rattle.std.proofs.lemmas.List.{append-nil}
use Rattle.flt_io.specs.Sink.{AppendsFront}
use Rattle.flt_live.proofs.Writings.{front_more}

-- A life begins with the generation that was found.
pub begins : {B : Type 0} {b : Ghosts B} (c : Config) (first : Generation) (unit : UnitView) (store : Store B b) → IsRunning c first first store → Stands (start_from c first.state) [] unit
    → IsLiving c first [] [] unit store
begins c first unit store running stands = record { stands = stands; held = first; spare = first; running = running; kept = kept_first c first }

-- What holds of a life that was not lost, and what follows from it.
unless : (end : LifeEnd) (P Q : Type 0) → (P → Q) → UnlessLost end P → UnlessLost end Q
unless Power P Q more holds = more holds
unless Ended P Q more holds = more holds
unless Unread P Q more holds = more holds
unless Unwritten P Q more holds = tt
unless Memory P Q more holds = tt

if_lost : (end : LifeEnd) (P Q : Type 0) → (P → Q) → IfLost end P → IfLost end Q
if_lost Power P Q more holds = tt
if_lost Ended P Q more holds = tt
if_lost Unread P Q more holds = tt
if_lost Unwritten P Q more holds = more holds
if_lost Memory P Q more holds = more holds

lost_later : (end : LifeEnd) (first before after : ℕ) → first ≤ before → IsLostFor before after end → IsLostFor first after end
lost_later Power first before after later lost = tt
lost_later Ended first before after later lost = tt
lost_later Unread first before after later lost = tt
lost_later Unwritten first before after later lost = rose_later first before after later lost
lost_later Memory first before after later lost = tt

-- What holds of an answer that is Ok.
pub on_taken : {T E : Type 0} (fact : Type 0) (result : Result T E) (value : T) → result ≡ Ok value → OnOk result fact → fact
on_taken fact result value is holds = subst (λ r. OnOk r fact) is holds

module _ {B : Type 0} {b : Ghosts B} (c : Config) (number status : ℕ) (before : BlocksState) (begun last : Store B b) (unit : UnitView) (from after : Talk) (end : LifeEnd) where
  -- A life whose first line was written.
  pub life_lived : (boot : Boot) → status ≡ status_by boot → BeginsOn c before boot begun → (between : Talk) → SaysLine (boot_line number boot) from between → from.write_faults ≤ between.write_faults
      → UnlessLost end (GoesOnBy c boot before.value begun last unit between after end) → IsLostFor between.write_faults after.write_faults end
      → IfLost end (IsCutShort c [] between after) → from.read_faults ≤ after.read_faults → between.write_faults ≤ after.write_faults → IsLifeLived c number status before last unit from after end
  life_lived boot is begins between says later goes lost cut reads writes = record {
    boot = boot;
    status_is = is;
    begun = begun;
    is = begins;
    said = unless end (GoesOnBy c boot before.value begun last unit between after end)
        ((t : Talk) × SaysLine (boot_line number boot) from t × GoesOnBy c boot before.value begun last unit t after end)
        (λ holds. (between, says, holds)) goes;
    lost = lost_later end from.write_faults between.write_faults after.write_faults later lost;
    cut = if_lost end (IsCutShort c [] between after) (IsCutShort c (boot_line number boot) from after)
        (λ short. record { heard = short.heard; made = short.made; are = short.are; front = front_more from.held between.held after.held (boot_line number boot) (answer_bytes short.heard) says.written short.front }) cut;
    later = record { read = reads; write = omega (arith, later, writes) };
  }

  -- A life whose first line was not written.
  pub life_lost : (boot : Boot) → status ≡ status_by boot → BeginsOn c before boot begun → (fault : StreamFault) → end ≡ lost_by fault → (fault ≡ streams.Failed → Rose from.write_faults after.write_faults)
      → AppendsFront from.held after.held (boot_line number boot) → from.read_faults ≤ after.read_faults → from.write_faults ≤ after.write_faults → IsLifeLived c number status before last unit from after end
  life_lost boot is begins fault lost rose front reads writes = record {
    boot = boot;
    status_is = is;
    begun = begun;
    is = begins;
    said = lost_anyway fault end ((t : Talk) × SaysLine (boot_line number boot) from t × GoesOnBy c boot before.value begun last unit t after end) lost;
    lost = lost_for from.write_faults from.write_faults after.write_faults fault end lost (omega arith) rose;
    cut = lost_cut fault end (IsCutShort c (boot_line number boot) from after) lost
        (record { heard = []; made = []; are = refl; front = subst (AppendsFront from.held after.held) (sym (append-nil (boot_line number boot))) front });
    later = record { read = reads; write = writes };
  }

-- What a start-up left of a life that was started, and what follows its first line.
module _ {B : Type 0} {b : Ghosts B} (c : Config) (before : BlocksState) (begun last : Store B b) (unit : UnitView) (between after : Talk) (end : LifeEnd) (boot : Boot) (number : ℕ) (state : Persist)
    (is : boot ≡ boots.Started number state) where
  pub started : BeginsOn c before boot begun → Fits c state × IsRunning c (numbered number state) (numbered number state) begun
  started begins = let how = subst (λ (it : Boot). IsBegunBy c before it begun) is begins.is in (how.2, how.3)

  pub started_goes : UnlessLost end (TakesLines c (numbered number state) before.value (driver_of begun) between after unit last end) → UnlessLost end (GoesOnBy c boot before.value begun last unit between after end)
  started_goes takes = subst (λ (it : Boot). UnlessLost end (GoesOnBy c it before.value begun last unit between after end)) (sym is) takes

module _ {B : Type 0} {b : Ghosts B} (c : Config) (before : BlocksState) (begun : Store B b) (unit : UnitView) (between after : Talk) (end : LifeEnd) (boot : Boot) where
  pub dark_goes : boot ≡ boots.Dark → UnlessLost end (TakesDarkLines c between after end) → UnlessLost end (GoesOnBy c boot before.value begun begun unit between after end)
  dark_goes is takes =
      subst (λ (it : Boot). UnlessLost end (GoesOnBy c it before.value begun begun unit between after end)) (sym is)
      (unless end (TakesDarkLines c between after end) (GoesOnBy c boots.Dark before.value begun begun unit between after end) (λ holds. (refl, holds)) takes)

  pub refused_goes : (fault : StartFault) → boot ≡ boots.Refused fault → after ≡ between → end ≡ Ended → UnlessLost end (GoesOnBy c boot before.value begun begun unit between after end)
  refused_goes fault is same ends =
      subst (λ (it : Boot). UnlessLost end (GoesOnBy c it before.value begun begun unit between after end)) (sym is)
      (subst (λ (e : LifeEnd). UnlessLost e (GoesOnBy c (boots.Refused fault) before.value begun begun unit between after e)) (sym ends)
      (refl, ap (λ (t : Talk). t.ahead) same, ap (λ (t : Talk). t.held) same, refl))
