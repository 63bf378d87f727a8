-- Steps of one life, one after the other, as they leave a driver and its bench.
use Rattle.std.proofs.Common.{ℕ, List, [], ◌++◌, length, refl, ap, sym, subst, arith, append_assoc, ◌∙◌, rules}
use Rattle.std.specs.Prelude.{Option, Some, None, All}
use Rattle.std.proofs.lemmas.List.Elements.{All-append, All-weaker}
use Rattle.flt_flash.specs.declared.arm.ArmMade.{ArmMade}
use Rattle.flt_flash.specs.State.{HasRisenBy}
use Rattle.flt_flash.specs.Blocks.{BlocksState}
use Rattle.flt_flash.specs.Calls.{Follows}
use Rattle.flt_life_model.specs.Going.{IsMadeIn, ArmsSince, GoesOn}

pub no_arms : (boots count : ℕ) (arms : Option (List ArmMade)) → ArmsSince boots count arms arms
no_arms boots count None = tt
no_arms boots count (Some made) = record { more = []; is = search rules; each = search rules }

-- No step.
pub goes_nowhere : (driver : BlocksState) → GoesOn driver driver
goes_nowhere driver = record {
  numbers = refl;
  room = refl;
  counts = omega arith;
  boots = refl;
  boots_left = refl;
  arms = no_arms _ _ driver.device.bench.arms;
}

-- Calls of the driver.
pub goes_by_calls : (before after : BlocksState) → Follows before after → GoesOn before after
goes_by_calls before after follows = record {
  numbers = follows.numbers;
  room = follows.room;
  counts = follows.counts;
  boots = follows.bench.boots;
  boots_left = follows.bench.boots_left;
  arms = subst (λ arms. ArmsSince (length before.device.bench.boots) before.device.faults before.device.bench.arms arms) (sym follows.bench.arms) (no_arms _ _ before.device.bench.arms);
}

all_later : (boots count later : ℕ) → HasRisenBy 0 count later → (arms : List ArmMade) → All (IsMadeIn boots later) arms → All (IsMadeIn boots count) arms
all_later boots count later rose arms all =
    All-weaker (IsMadeIn boots later) (IsMadeIn boots count) (λ arm is. (let past = is.later in record { life = is.life; later = omega (arith, rose, past) })) arms all

arms_further : (boots count later : ℕ) → HasRisenBy 0 count later → (first second third : Option (List ArmMade))
    → ArmsSince boots count first second → ArmsSince boots later second third → ArmsSince boots count first third
arms_further boots count later rose first second None one two = tt
arms_further boots count later rose first None (Some made) one two = absurd two
arms_further boots count later rose None (Some middle) (Some made) one two = absurd one
arms_further boots count later rose (Some earlier) (Some middle) (Some made) one two = record {
  more = one.more ++ two.more;
  is = two.is ∙ ap (λ front. front ++ two.more) one.is ∙ append_assoc earlier one.more two.more;
  each = All-append (IsMadeIn boots count) one.more two.more one.each (all_later boots count later rose two.more two.each);
}

-- Steps, and then more.
pub goes_further : (first second third : BlocksState) → GoesOn first second → GoesOn second third → GoesOn first third
goes_further first second third one two =
    let rose = one.counts in let rises = two.counts in
    record {
      numbers = two.numbers ∙ one.numbers;
      room = two.room ∙ one.room;
      counts = omega (arith, rose, rises);
      boots = two.boots ∙ one.boots;
      boots_left = two.boots_left ∙ one.boots_left;
      arms = arms_further _ _ second.device.faults rose first.device.bench.arms second.device.bench.arms third.device.bench.arms one.arms
          (subst (λ boots. ArmsSince (length boots) second.device.faults second.device.bench.arms third.device.bench.arms) one.boots two.arms);
    }
