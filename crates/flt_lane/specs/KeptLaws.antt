-- What holds of a store from one step of a life to the next.
use Rattle.std.proofs.Common.{◌≡◌, ℕ, ◌+◌, List, [], ◌++◌, reverse, subst, sym, ap, arith, append_assoc, ◌∙◌}
use Rattle.std.proofs.lemmas.List.{reverse-append}
use Rattle.flt_flash.specs.Content.{Content}
use Rattle.flt_flash.specs.declared.arm.Arm.{Arm}
use Rattle.flt_flash.specs.declared.blocks.Blocks.{Ghosts}
use Rattle.flt_config.specs.declared.config.Config.{Config}
use Rattle.flt_store_model.specs.Holding.{Generation}
use Rattle.flt_turn.specs.declared.vault.Entry.{Entry}
use Rattle.flt_turn.specs.Seats.{Seated}
use Rattle.flt_fork.specs.Known.{IsKnownTo}
use Rattle.flt_store.specs.declared.store.Store.{Store}
use Rattle.flt_store.specs.Store.{driver_of}
use Rattle.flt_life_model.specs.Ordered.{Deed}
use Rattle.flt_life_model.proofs.Giving.{none_given, given_further}
use Rattle.flt_life_model.proofs.Riding.{goes_nowhere, goes_further}
use Rattle.flt_shared.specs.Call.{Seat}
use Rattle.flt_lane.specs.Keeping.{KeepingLaws}
use Rattle.flt_lane.specs.Kept.{store_keeping, StoreGoesOn}
use Rattle.flt_lane.specs.Living.{Carries, HoldsBy, IsLivingOn}
use Rattle.flt_lane.specs.Runs.{QueueSeat}
use Rattle.flt_lane.specs.Views.{Seats}

-- What the one knows, the other knows too.
abbrev pub KnowsToo : {S O : Type 0} → Seated S O → Seated S O → Type 0
KnowsToo {S} {O} before after = (known : List (Entry O)) → IsKnownTo before known → IsKnownTo after known

pub holds_known : (first : ℕ → Content) (before after : QueueSeat) (calls jobs : ℕ) (deeds : List Deed) (values : ℕ → Content) → KnowsToo before after → HoldsBy first before calls jobs deeds values → HoldsBy first after calls jobs deeds values
holds_known first before after calls jobs deeds values knows holds = record { known = holds.known; is_known = knows holds.known holds.is_known; least = holds.least; held = holds.held }

module _ {B : Type 0} {b : Ghosts B} (c : Config) where
  pub living_known : (first : Generation) (before after : Seat) (deeds : List Deed) (store : Store B b) → KnowsToo before after → IsLivingOn c first before deeds store → IsLivingOn c first after deeds store
  living_known first before after deeds store knows living = record {
    held = living.held;
    spare = living.spare;
    running = living.running;
    known = living.known;
    is_known = knows living.known living.is_known;
    least = living.least;
    kept = living.kept;
  }

  -- Steps that leave the store alone.
  pub carries_beside : (before after : Seat) (jobs jobs_after : QueueSeat) (deeds : List Deed) (store : Store B b) → KnowsToo before after → KnowsToo jobs jobs_after → Carries c before after jobs jobs_after deeds deeds store store
  carries_beside before after jobs jobs_after deeds store knows job_knows = record {
    alive = λ alive. alive;
    living = λ first start living. living_known first before after deeds store knows living;
    caused = λ begun caused. caused;
    holds = λ alive first holds. holds_known first jobs jobs_after _ _ deeds _ job_knows holds;
  }

  -- Steps, and then more.
  pub carries_further : (before mid after : Seat) (jobs jobs_mid jobs_after : QueueSeat) (earlier deeds later : List Deed) (store middle now : Store B b) → mid.start ≡ before.start → Carries c before mid jobs jobs_mid earlier deeds store middle
      → Carries c mid after jobs_mid jobs_after deeds later middle now → Carries c before after jobs jobs_after earlier later store now
  carries_further before mid after jobs jobs_mid jobs_after earlier deeds later store middle now start one two = record {
    alive = λ alive. two.alive (one.alive alive);
    living = λ first begins living. two.living first (start ∙ begins) (one.living first begins living);
    caused = λ begun caused. two.caused begun (one.caused begun caused);
    holds = λ alive first holds. two.holds (one.alive alive) first (one.holds alive first holds);
  }

  -- Deeds, and then more.
  store_further : (a mid d : Seats) (deeds more : List Deed) (arms given : List Arm) (n m : ℕ) (store middle now : Store B b) → mid.dem.start ≡ a.dem.start
      → StoreGoesOn c a mid deeds arms n store middle → StoreGoesOn c mid d more given m middle now → StoreGoesOn c a d (deeds ++ more) (arms ++ given) (n + m) store now
  store_further a mid d deeds more arms given n m store middle now start one two = record {
    carries = λ earlier.
        subst (λ (l : List Deed). Carries c a.dem d.dem a.queue d.queue earlier l store now) (sym (ap (λ l. l ++ earlier) (reverse-append deeds more) ∙ append_assoc (reverse more) (reverse deeds) earlier))
        (carries_further a.dem mid.dem d.dem a.queue mid.queue d.queue earlier (reverse deeds ++ earlier) (reverse more ++ (reverse deeds ++ earlier)) store middle now start (one.carries earlier) (two.carries (reverse deeds ++ earlier)));
    keeps_driver = goes_further (driver_of store) (driver_of middle) (driver_of now) one.keeps_driver two.keeps_driver;
    arms_made = given_further arms given (driver_of store).device.bench.arms (driver_of middle).device.bench.arms (driver_of now).device.bench.arms one.arms_made two.arms_made;
    armed = (let first = one.armed in let second = two.armed in omega (arith, first, second));
  }

pub store_laws : {B : Type 0} {b : Ghosts B} → KeepingLaws (store_keeping {B = B} {b = b})
store_laws = record {
  none = λ c seats store. record {
    carries = λ earlier. carries_beside c seats.dem seats.dem seats.queue seats.queue earlier store (λ known is. is) (λ known is. is);
    keeps_driver = goes_nowhere (driver_of store);
    arms_made = none_given (driver_of store).device.bench.arms;
    armed = omega arith;
  };
  further = λ c a mid d deeds more arms given n m store middle now start one two. store_further c a mid d deeds more arms given n m store middle now start one two;
  still_ready = λ c a mid deeds arms n m store now ready gone. record {
    alive = (gone.carries []).alive ready.alive;
    places = (let places = ready.places in let armed = gone.armed in omega (arith, places, armed));
  };
  for_fewer = λ c n m store less ready. record { alive = ready.alive; places = (let places = ready.places in omega (arith, places, less)) };
}
