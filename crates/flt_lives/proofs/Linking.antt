-- One life more after those of a run so far, and all of them at the end.
use Rattle.std.proofs.Common.{◌≡◌, inl, inr, ⊎_elim, ℕ, ◌+◌, ◌<◌, ◌≤◌, Bool, true, false, cond, List, [], ◌∷◌, ◌++◌, length, drop, reverse, Option, Some, None, refl, sym, ap, subst, arith, ◌∙◌, append_assoc, rules}
use Rattle.std.specs.Prelude.{◌==◌, All, IfSome, IsSomeAnd, find}
use Rattle.std.proofs.lemmas.List.{append-nil, length-append}
use Rattle.std.proofs.lemmas.Option.{IfSome_then}
use Rattle.std.proofs.Math.Seq.{drop-append_seam}
use Rattle.std.proofs.lemmas.Grind.{reverse_onto}
use Rattle.std.proofs.lemmas.List.Elements.{All-append, All-weaker, All-head, All-tail, All-nil}
use Rattle.flt_flash.specs.declared.arm.ArmMade.{ArmMade}
use Rattle.flt_flash.specs.State.{HasRisenBy, PowerUp}
use Rattle.flt_flash.specs.Blocks.{BlocksState}
use Rattle.flt_config.specs.declared.config.Config.{Config}
use Rattle.flt_store_model.specs.declared.place.Place.TheVariants.{Page, Block}
use Rattle.flt_store_model.specs.Holding.{Generation, Fault}
use Rattle.flt_restore.specs.declared.fault.StartFault.{StartFault}
use Rattle.flt_restore.specs.declared.fault.StartFault.TheVariants as faults
use Rattle.std.specs.Prelude.{Result}
use Rattle.flt_life_model.specs.declared.life.Boot.{Boot}
use Rattle.flt_life_model.specs.declared.life.Boot.TheVariants.{Started, Dark, Refused}
use Rattle.flt_life_model.specs.Moment.{Moment, Medium, IsOn, moment_of, moment_at, boot_of}
use Rattle.flt_life_model.specs.Chain.{LifeView, IsFound, Finds, IsRefused, IsLifeBetween, IsLifeBegunBy, AreLinked, arms_between, start_count, count_at}
use Rattle.flt_life_model.specs.Going.{IsMadeIn, AddsArms, ArmsSince, AddsLife}
use Rattle.flt_lives.specs.Living.{IsLived}
use Rattle.flt_lives.specs.Linked.{IsPast, ArePast, AreLinkedBy, MadeInRun, IsLinkedBy}
use Rattle.flt_life_model.specs.Lives.{IsLinked}

-- ---- a later count

module _ (c : Config) (boot next : Moment) (count later : ℕ) (rose : HasRisenBy 0 count later) where
  found_later : (found : Result Generation Fault) → IsFound c boot count found → IsFound c boot later found
  found_later found = ⊎_elim (λ held. inl held) (λ spare. inr (spare.0, (let three = spare.1 in omega (arith, three, rose))))

  finds_later : (g : Generation) → Finds c boot count g → Finds c boot later g
  finds_later g finds = record { undamaged = finds.undamaged; found = found_later _ finds.found }

  refused_later : (fault : StartFault) → IsRefused c boot next count fault → IsRefused c boot next later fault
  refused_later faults.Flash is = absurd is
  refused_later (faults.Damaged (Page sector page)) is = is
  refused_later (faults.Damaged (Block id)) is = (is.0, found_later _ is.1, is.2)
  refused_later (faults.OtherConfig found wanted) is = (is.0, found_later _ is.1, is.2, is.3)
  refused_later faults.SequenceSpent is = ((is.0.0, finds_later is.0.0 is.0.1), is.1, is.2)

  holds_by_later : (life : LifeView) (b : Boot) → IsLifeBegunBy c boot next count life b → IsLifeBegunBy c boot next later life b
  holds_by_later life (Started number state) is = (finds_later _ is.0, is.1, is.2, is.3, is.4)
  holds_by_later life Dark is = ((let three = is.0 in omega (arith, three, rose)), is.1, is.2, is.3)
  holds_by_later life (Refused fault) is = (refused_later fault is.0, is.1, is.2)

-- ---- the count at the end of a start

count_cond : (boots count next : ℕ) (arm : ArmMade) (made : List ArmMade) (b : Bool) → (arm.boots == boots) ≡ b → IsPast boots count arm
    → HasRisenBy 0 count (count_at (find (λ a. a.boots == boots) made) next)
    → HasRisenBy 0 count (count_at (cond b (Some arm) (find (λ a. a.boots == boots) made)) next)
count_cond boots count next arm made true is past rest = past.later (search rules)
count_cond boots count next arm made false is past rest = rest

count_found : (boots count next : ℕ) (made : List ArmMade) → All (IsPast boots count) made → HasRisenBy 0 count next
    → HasRisenBy 0 count (count_at (find (λ arm. arm.boots == boots) made) next)
count_found boots count next [] all later = later
count_found boots count next (arm ∷ made) all later =
    count_cond boots count next arm made (arm.boots == boots) refl (All-head (IsPast boots count) arm made all) (count_found boots count next made (All-tail (IsPast boots count) arm made all) later)

start_past : (boots count next : ℕ) (arms : Option (List ArmMade)) → IfSome arms (λ made. All (IsPast boots count) made) → HasRisenBy 0 count next
    → HasRisenBy 0 count (start_count arms boots next)
start_past boots count next None all later = later
start_past boots count next (Some made) all later = count_found boots count next made all later

-- ---- arms of a further life

older : (earlier : ℕ) (counts : List ℕ) (boots : ℕ) → earlier + length counts < boots → (more : List ArmMade) → All (λ arm. arm.boots ≡ boots) more → ArePast earlier counts more
older earlier [] boots below more all = tt
older earlier (count ∷ counts) boots below more all = (
  All-weaker (λ arm. arm.boots ≡ boots) (IsPast (earlier + length counts + 1) count) (λ arm is. record { later = λ other. absurd (omega (arith, is, other, below)) }) more all,
  older earlier counts boots (omega (arith, below)) more all,
)

both_past : (earlier : ℕ) (counts : List ℕ) (made more : List ArmMade) → ArePast earlier counts made → ArePast earlier counts more → ArePast earlier counts (made ++ more)
both_past earlier [] made more first second = tt
both_past earlier (count ∷ counts) made more first second =
    (All-append (IsPast (earlier + length counts + 1) count) made more first.0 second.0, both_past earlier counts made more first.1 second.1)

further_made : (earlier : ℕ) (counts : List ℕ) (count : ℕ) (before now next : List ArmMade) → MadeInRun earlier counts before now
    → AddsArms (earlier + length counts + 1) count now next → MadeInRun earlier (count ∷ counts) before next
further_made earlier counts count before now next run adds =
    let boots = earlier + length counts + 1 in
    let all_in = All-weaker (IsMadeIn boots count) (λ arm. arm.boots ≡ boots) (λ arm is. is.life) adds.more adds.each in
    record {
      made = run.made ++ adds.more;
      is = adds.is ∙ ap (λ front. front ++ adds.more) run.is ∙ append_assoc before run.made adds.more;
      past = (
        All-append (IsPast boots count) run.made adds.more
            (All-weaker (λ arm. arm.boots ≤ earlier + length counts) (IsPast boots count) (λ arm below. record { later = λ is. absurd (omega (arith, below, is)) }) run.made run.so_far)
            (All-weaker (IsMadeIn boots count) (IsPast boots count) (λ arm is. record { later = λ same. is.later }) adds.more adds.each),
        both_past earlier counts run.made adds.more run.past (older earlier counts boots (omega arith) adds.more all_in),
      );
      so_far = All-append (λ arm. arm.boots ≤ earlier + length (count ∷ counts)) run.made adds.more
          (All-weaker (λ arm. arm.boots ≤ earlier + length counts) (λ arm. arm.boots ≤ earlier + length (count ∷ counts)) (λ arm below. omega (arith, below)) run.made run.so_far)
          (All-weaker (IsMadeIn boots count) (λ arm. arm.boots ≤ earlier + length (count ∷ counts)) (λ arm is. (let life = is.life in omega (arith, life))) adds.more adds.each);
    }

further_arms : (earlier : ℕ) (counts : List ℕ) (count : ℕ) (before now next : Option (List ArmMade))
    → IfSome now (λ made. IsSomeAnd before (λ first. MadeInRun earlier counts first made)) → ArmsSince (earlier + length counts + 1) count now next
    → IfSome next (λ made. IsSomeAnd before (λ first. MadeInRun earlier (count ∷ counts) first made))
further_arms earlier counts count before now None run adds = tt
further_arms earlier counts count before None (Some next) run adds = absurd adds
further_arms earlier counts count None (Some now) (Some next) run adds = absurd run
further_arms earlier counts count (Some before) (Some now) (Some next) run adds = further_made earlier counts count before now next run adds

-- ---- one life more

pub at_moment : (medium : Medium) (driver : BlocksState) → IsOn medium driver → moment_at medium (boot_of driver) ≡ moment_of driver
at_moment medium driver on = λ i. record { value = on.value i; damage = on.damage i; is_spent = on.is_spent i; faults = driver.device.faults }

pub links_none : (c : Config) (medium : Medium) (driver : BlocksState) → IsLinkedBy c medium driver driver []
links_none c medium driver = record {
  boots = [];
  counts = [];
  is = sym (append-nil driver.device.bench.boots);
  many = omega arith;
  as_many = refl;
  linked = tt;
  arms = no_made _ driver.device.bench.arms;
}
  where
    no_made : (earlier : ℕ) (arms : Option (List ArmMade)) → IfSome arms (λ made. IsSomeAnd arms (λ first. MadeInRun earlier [] first made))
    no_made earlier None = tt
    no_made earlier (Some made) = record { made = []; is = sym (append-nil made); past = tt; so_far = All-nil _ }

pub links_more : (c : Config) (medium : Medium) (before now next : BlocksState) (lives : List LifeView) (life : LifeView) → IsOn medium now → IsOn medium next
    → IsLinkedBy c medium before now lives → IsLived c now next life → AddsLife now next → IsLinkedBy c medium before next (life ∷ lives)
links_more c medium before now next lives life on on_next linked lived adds =
    let many = linked.many in let as_many = linked.as_many in
    let earlier = length before.device.bench.boots in
    let same : length now.device.bench.boots + 1 ≡ earlier + length linked.counts + 1 = omega (arith, many, as_many) in
    let longer : length next.device.bench.boots ≡ length now.device.bench.boots + 1 = ap length adds.boots ∙ length-append now.device.bench.boots (boot_of now ∷ []) in
    record {
      boots = boot_of now ∷ linked.boots;
      counts = lived.ended ∷ linked.counts;
      is = adds.boots ∙ ap (λ front. front ++ boot_of now ∷ []) linked.is ∙ append_assoc before.device.bench.boots (reverse linked.boots) (boot_of now ∷ [])
          ∙ ap (λ back. before.device.bench.boots ++ back) (sym (reverse_onto linked.boots (boot_of now) []));
      many = omega (arith, longer, many);
      as_many = omega (arith, as_many);
      linked = (
        subst (λ (m : Moment). IsLifeBetween c m (moment_at medium (boot_of next)) lived.ended life) (sym (at_moment medium now on))
            (subst (λ (m : Moment). IsLifeBetween c (moment_of now) m lived.ended life) (sym (at_moment medium next on_next)) lived.holds),
        lived.later,
        as_many,
        linked.linked,
      );
      arms = further_arms earlier linked.counts lived.ended before.device.bench.arms now.device.bench.arms next.device.bench.arms linked.arms
          (subst (λ n. ArmsSince n lived.ended now.device.bench.arms next.device.bench.arms) same lived.arms);
    }

-- ---- all of them

all_linked : (c : Config) (medium : Medium) (earlier : ℕ) (arms : Option (List ArmMade)) (next : PowerUp) (boots : List PowerUp) (lives : List LifeView) (counts : List ℕ)
    → IfSome arms (λ made. ArePast earlier counts made) → AreLinkedBy c medium next boots lives counts → AreLinked c medium arms earlier next boots lives
all_linked c medium earlier arms next [] [] [] past linked = tt
all_linked c medium earlier arms next [] [] (count ∷ counts) past linked = absurd linked
all_linked c medium earlier arms next [] (life ∷ lives) counts past linked = absurd linked
all_linked c medium earlier arms next (boot ∷ boots) [] counts past linked = absurd linked
all_linked c medium earlier arms next (boot ∷ boots) (life ∷ lives) [] past linked = absurd linked
all_linked c medium earlier arms next (boot ∷ boots) (life ∷ lives) (count ∷ counts) past linked =
    let as_many = linked.2 in
    let same : earlier + length counts + 1 ≡ earlier + length boots + 1 = omega (arith, as_many) in
    let ended = start_count arms (earlier + length boots + 1) next.faults in
    let rose : HasRisenBy 0 count ended = start_past (earlier + length boots + 1) count next.faults arms (subst (λ n. IfSome arms (λ made. All (IsPast n count) made)) same (IfSome_then arms past (λ made each. each.0))) linked.1 in (
      holds_by_later c (moment_at medium boot) (moment_at medium next) count ended rose life life.boot linked.0,
      all_linked c medium earlier arms boot boots lives counts (IfSome_then arms past (λ made each. each.1)) linked.3,
    )

between_past : (earlier : ℕ) (counts : List ℕ) (before now : Option (List ArmMade)) → IfSome now (λ made. IsSomeAnd before (λ first. MadeInRun earlier counts first made))
    → IfSome (arms_between before now) (λ made. ArePast earlier counts made)
between_past earlier counts None now run = tt
between_past earlier counts (Some before) None run = tt
between_past earlier counts (Some before) (Some now) run =
    subst (ArePast earlier counts) (sym (ap (drop (length before)) run.is ∙ drop-append_seam before run.made)) run.past

pub linked_of : (c : Config) (medium : Medium) (before now : BlocksState) (lives : List LifeView) → IsLinkedBy c medium before now lives → IsLinked c medium before.device now.device lives
linked_of c medium before now lives linked = record {
  boots = linked.boots;
  is = linked.is;
  linked = all_linked c medium (length before.device.bench.boots) (arms_between before.device.bench.arms now.device.bench.arms) (boot_of now) linked.boots lives linked.counts
      (between_past (length before.device.bench.boots) linked.counts before.device.bench.arms now.device.bench.arms linked.arms) linked.linked;
}
