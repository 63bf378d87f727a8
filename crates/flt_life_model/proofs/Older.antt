-- What was acknowledged is never lost.
use Rattle.std.proofs.Common.{◌≡◌, ◌⊎◌, ⊎_elim, inl, inr, ℕ, ◌≤◌, ◌<◌, List, [], ◌∷◌, Option, Some, None, Ok, sym, ap, subst, arith, ◌∙◌}
use Rattle.std.specs.Prelude.{Result, option_map}
use Rattle.flt_flash.specs.declared.arm.ArmMade.{ArmMade}
use Rattle.flt_flash.specs.Content.{Content}
use Rattle.flt_flash.specs.State.{PowerUp}
use Rattle.flt_config.specs.declared.config.Config.{Config}
use Rattle.flt_config.specs.declared.persist.Persist.{Persist}
use Rattle.flt_store_model.specs.declared.place.Place.TheVariants.{Page, Block}
use Rattle.flt_store_model.specs.Holding.{Generation, Fault, IsOneOf, IsSound, held, spare}
use Rattle.flt_store_model.specs.Laws.{IsGiven, HeldStands, SpareStands}
use Rattle.flt_model.specs.Start.{Start}
use Rattle.flt_model.specs.declared.call.Op.{Op}
use Rattle.flt_model.specs.declared.call.Op.TheVariants as ops
use Rattle.flt_restore.specs.declared.fault.StartFault.{StartFault}
use Rattle.flt_restore.specs.declared.fault.StartFault.TheVariants as faults
use Rattle.flt_store.specs.Store.{numbered}
use Rattle.flt_life_model.specs.declared.life.Boot.{Boot}
use Rattle.flt_life_model.specs.declared.life.Boot.TheVariants.{Started, Dark, Refused}
use Rattle.flt_life_model.specs.Answers.{Told}
use Rattle.flt_life_model.specs.Chain.{LifeView, told_of, start_from, Finds, KeepsSound, Unchanged, IsRefused, IsLifeBegunBy, AreLinked}
use Rattle.flt_life_model.specs.Journal.{Journal, Acknowledges, AcknowledgesBy}
use Rattle.flt_life_model.specs.Moment.{Moment, Medium, moment_at}
use Rattle.flt_life_model.specs.Saving.{IsLeft}
use Rattle.flt_life_model.specs.Laws.{IsSoundIn, first_boot, number_by, number_acknowledged, acknowledged_in, generation_by, generation_in, generation_of_life, last_acknowledged, IsLastOrLater, IsNoOlder, BeginsNoOlder, EachBeginsNoOlder, EachFindsNoOlder}

-- ---- a journal

number_by_less : (op : Op) (few many : ℕ) → few ≤ many → number_by op few ≤ number_by op many
number_by_less (ops.Signal index value) few many less = less
number_by_less (ops.Enable condition fulfilled) few many less = less
number_by_less (ops.Report event report) few many less = less
number_by_less (ops.Tick ticks) few many less = less
number_by_less (ops.Cycle cycle) few many less = less
number_by_less (ops.Request tester bytes) few many less = less
number_by_less (ops.Show event) few many less = less
number_by_less ops.Snapshot few many less = less
number_by_less (ops.Saved number) few many less = omega arith

number_in_less : (journal : Journal) (few many : ℕ) → few ≤ many → number_acknowledged journal few ≤ number_acknowledged journal many
number_in_less [] few many less = less
number_in_less (e ∷ earlier) few many less = number_by_less e.op (number_acknowledged earlier few) (number_acknowledged earlier many) (number_in_less earlier few many less)

module _ (start : Start) (first g : Generation) where
  -- What a journal acknowledges last has the number that it names last.
  acknowledged_number : (journal : Journal) → Acknowledges start first journal g → g.number ≡ number_acknowledged journal first.number
  acknowledged_number [] is = ap (λ (generation : Generation). generation.number) is
  acknowledged_number (e ∷ earlier) is = by_op e.op (acknowledged_number earlier) is
    where
      by_op : (op : Op) → (Acknowledges start first earlier g → g.number ≡ number_acknowledged earlier first.number)
          → AcknowledgesBy start e.lane earlier op g (Acknowledges start first earlier g) → g.number ≡ number_by op (number_acknowledged earlier first.number)
      by_op (ops.Signal index value) before by = before by
      by_op (ops.Enable condition fulfilled) before by = before by
      by_op (ops.Report event report) before by = before by
      by_op (ops.Tick ticks) before by = before by
      by_op (ops.Cycle cycle) before by = before by
      by_op (ops.Request tester bytes) before by = before by
      by_op (ops.Show event) before by = before by
      by_op ops.Snapshot before by = before by
      by_op (ops.Saved number) before by = by.0

-- What is this generation or a later one of another that is the last or a later one.
later_of : (last : Option Generation) (known g : Generation) → IsLastOrLater last known → (g ≡ known) ⊎ (known.number < g.number) → IsLastOrLater last g
later_of None known g is of = tt
later_of (Some last) known g is of =
    ⊎_elim
    (λ same. subst (λ (one : Generation). (one ≡ last) ⊎ (last.number < one.number)) (sym same) is)
    (λ greater. inr (⊎_elim
    (λ one. (let number : known.number ≡ last.number = ap (λ (generation : Generation). generation.number) one in omega (arith, number, greater)))
    (λ later. omega (arith, later, greater))
    is))
    of

module _ (start : Start) (first g : Generation) (before : Option Generation) (begun : IsLastOrLater before first) where
  -- What a journal acknowledges last is the generation that it names last.
  acknowledged_last : (journal : Journal) → Acknowledges start first journal g → IsLastOrLater (generation_in start journal before) g
  acknowledged_last [] is = subst (IsLastOrLater before) (sym is) begun
  acknowledged_last (e ∷ earlier) is = by_op e.op (acknowledged_last earlier) is
    where
      by_op : (op : Op) → (Acknowledges start first earlier g → IsLastOrLater (generation_in start earlier before) g)
          → AcknowledgesBy start e.lane earlier op g (Acknowledges start first earlier g) → IsLastOrLater (generation_by start e.lane earlier op (generation_in start earlier before)) g
      by_op (ops.Saved number) known by =
          subst (λ (taken : Option Persist). IsLastOrLater (option_map (λ state. record { number = number; state = state }) taken) g) (sym by.1)
          (inl (λ i. record { number = by.0 i; state = g.state }))
      by_op (ops.Signal index value) known by = known by
      by_op (ops.Enable condition fulfilled) known by = known by
      by_op (ops.Report event report) known by = known by
      by_op (ops.Tick ticks) known by = known by
      by_op (ops.Cycle cycle) known by = known by
      by_op (ops.Request tester bytes) known by = known by
      by_op (ops.Show event) known by = known by
      by_op ops.Snapshot known by = known by

left_last_or_later : (start : Start) (journal : Journal) (answers : List Told) (last g : Generation) → IsLeft start journal answers last g → (g ≡ last) ⊎ (last.number < g.number)
left_last_or_later start journal answers last g = ⊎_elim (λ same. inl same) (λ other. inr other.past)

left_no_older : (start : Start) (journal : Journal) (answers : List Told) (last g : Generation) → IsLeft start journal answers last g → last.number ≤ g.number
left_no_older start journal answers last g =
    ⊎_elim
    (λ same. (let number : g.number ≡ last.number = ap (λ (generation : Generation). generation.number) same in omega (arith, number)))
    (λ other. (let past = other.past in omega (arith, past)))

-- ---- a life

abbrev generation_or : Generation → Result Generation Fault → Generation
generation_or other (Ok generation) = generation
generation_or other _ = other

abbrev number_of : Result Generation Fault → ℕ
number_of (Ok generation) = generation.number
number_of _ = 0

by_read : (number : ℕ) (judged : Result Generation Fault) (known read : Generation) → number ≤ known.number → judged ≡ Ok known → judged ≡ Ok read → number ≤ read.number
by_read number judged known read less is was =
    let first : number_of judged ≡ known.number = ap number_of is in
    let second : number_of judged ≡ read.number = ap number_of was in
    omega (arith, less, first, second)

-- What was read is what is known to be there.
same_read : (last : Option Generation) (judged : Result Generation Fault) (known read : Generation) → IsLastOrLater last known → judged ≡ Ok known → judged ≡ Ok read → IsLastOrLater last read
same_read last judged known read of is was = subst (IsLastOrLater last) (ap (generation_or known) (sym is ∙ was)) of

-- One of two old generations, or of the first of them again.
one_of : (last : Option Generation) (held spare g : Generation) → IsLastOrLater last held → IsLastOrLater last spare → IsOneOf g held spare held → IsLastOrLater last g
one_of last held spare g of_held of_spare =
    ⊎_elim
    (λ same. subst (IsLastOrLater last) (sym same) of_held)
    (⊎_elim (λ same. subst (IsLastOrLater last) (sym same) of_spare) (λ same. subst (IsLastOrLater last) (sym same) of_held))

module _ (c : Config) (given : IsGiven c) (held_stands : HeldStands) (spare_stands : SpareStands) (number : ℕ) (last : Option Generation) (boot : Moment) (ended : ℕ)
    (is : IsNoOlder c number last boot) where
  -- What it finds.
  pub found_no_older : (g : Generation) → Finds c boot ended g → number ≤ g.number
  found_no_older g finds =
      ⊎_elim
      (λ read. (let stands = (held_stands c given boot.value is.held).1 is.sound.sound.holds in by_read number (held c boot.value) is.held g is.no_older.0 stands read))
      (λ other. (let stands = (spare_stands c given boot.value is.spare).1 is.sound.sound.spares in by_read number (spare c boot.value) is.spare g is.no_older.1 stands other.0))
      finds.found

  pub found_last_or_later : (g : Generation) → Finds c boot ended g → IsLastOrLater last g
  found_last_or_later g finds =
      ⊎_elim
      (λ read. (let stands = (held_stands c given boot.value is.held).1 is.sound.sound.holds in same_read last (held c boot.value) is.held g is.last_or_later.0 stands read))
      (λ other. (let stands = (spare_stands c given boot.value is.spare).1 is.sound.sound.spares in same_read last (spare c boot.value) is.spare g is.last_or_later.1 stands other.0))
      finds.found

  begins : (next : Moment) (life : LifeView) (b : Boot) → IsLifeBegunBy c boot next ended life b → BeginsNoOlder number last b
  begins next life (Started begun state) begun_by = (found_no_older _ begun_by.0, found_last_or_later _ begun_by.0)
  begins next life Dark begun_by = tt
  begins next life (Refused fault) begun_by = tt

  same_no_older : (next : Moment) → Unchanged boot next → IsNoOlder c number last next
  same_no_older next same =
      let values : next.value ≡ boot.value = λ i place. same.value place i in record {
        held = is.held;
        spare = is.spare;
        sound = record {
          undamaged = same.damage ∙ is.sound.undamaged;
          sound = subst (λ (value : ℕ → Content). IsSound c value is.held is.spare) (sym values) is.sound.sound;
        };
        no_older = is.no_older;
        last_or_later = is.last_or_later;
      }

  kept_no_older : (next : Moment) → KeepsSound c boot next → IsNoOlder c number last next
  kept_no_older next keeps =
      let kept = keeps is.held is.spare is.sound in
      let rises = kept.old.rises in
      let order = kept.old.sound.order in
      let before = is.no_older.1 in record {
        held = kept.old.held;
        spare = kept.old.spare;
        sound = record { undamaged = kept.undamaged; sound = kept.old.sound };
        no_older = (omega (arith, rises, order, before), omega (arith, rises, before));
        last_or_later = (
          one_of last is.held is.spare kept.old.held is.last_or_later.0 is.last_or_later.1 kept.old.held_is,
          one_of last is.held is.spare kept.old.spare is.last_or_later.0 is.last_or_later.1 kept.old.spare_is,
        );
      }

  refused_no_older : (next : Moment) (fault : StartFault) → IsRefused c boot next ended fault → IsNoOlder c number last next
  refused_no_older next faults.Flash refused = absurd refused
  refused_no_older next (faults.Damaged (Page sector page)) refused = same_no_older next refused.1
  refused_no_older next (faults.Damaged (Block id)) refused = same_no_older next refused.2
  refused_no_older next (faults.OtherConfig found wanted) refused = same_no_older next refused.3
  refused_no_older next faults.SequenceSpent refused = kept_no_older next refused.1

  -- A life leaves nothing older than what was acknowledged in it and before.
  pub leaves_no_older : (next : Moment) (life : LifeView) (b : Boot) → IsLifeBegunBy c boot next ended life b → IsNoOlder c (number_acknowledged life.journal number) (generation_of_life c b life.journal last) next
  leaves_no_older next life (Started begun state) begun_by =
      let leaves = begun_by.2 in
      let least = number_in_less life.journal number begun (found_no_older _ begun_by.0) in
      let start = start_from c state in
      let of_last = acknowledged_number start (numbered begun state) leaves.last life.journal leaves.acknowledged in
      let named = acknowledged_last start (numbered begun state) leaves.last last (found_last_or_later _ begun_by.0) life.journal leaves.acknowledged in
      let of_held = left_no_older start life.journal (told_of life) leaves.last leaves.held leaves.held_is in
      let of_spare = left_no_older start life.journal (told_of life) leaves.last leaves.spare leaves.spare_is in record {
        held = leaves.held;
        spare = leaves.spare;
        sound = leaves.sound;
        no_older = (omega (arith, least, of_last, of_held), omega (arith, least, of_last, of_spare));
        last_or_later = (
          later_of _ leaves.last leaves.held named (left_last_or_later start life.journal (told_of life) leaves.last leaves.held leaves.held_is),
          later_of _ leaves.last leaves.spare named (left_last_or_later start life.journal (told_of life) leaves.last leaves.spare leaves.spare_is),
        );
      }
  leaves_no_older next life Dark begun_by = subst (λ journal. IsNoOlder c (number_acknowledged journal number) last next) (sym begun_by.1) (kept_no_older next begun_by.2)
  leaves_no_older next life (Refused fault) begun_by = subst (λ journal. IsNoOlder c (number_acknowledged journal number) last next) (sym begun_by.1) (refused_no_older next fault begun_by.0)

-- ---- all lives

pub never_lost : HeldStands → SpareStands → (c : Config) → IsGiven c → (medium : Medium) (arms : Option (List ArmMade)) (earlier : ℕ) (next : PowerUp) (boots : List PowerUp) (lives : List LifeView)
    → AreLinked c medium arms earlier next boots lives → IsSoundIn c (moment_at medium (first_boot next boots))
    → IsNoOlder c (acknowledged_in lives) (last_acknowledged c lives) (moment_at medium next) × EachFindsNoOlder c medium boots lives × EachBeginsNoOlder c lives
never_lost held_stands spare_stands c given medium arms earlier next [] [] linked sound =
    (record { held = sound.0; spare = sound.1; sound = sound.2; no_older = (omega arith, omega arith); last_or_later = (tt, tt) }, tt, tt)
never_lost held_stands spare_stands c given medium arms earlier next [] (life ∷ lives) linked sound = absurd linked
never_lost held_stands spare_stands c given medium arms earlier next (boot ∷ boots) [] linked sound = absurd linked
never_lost held_stands spare_stands c given medium arms earlier next (boot ∷ boots) (life ∷ lives) linked sound =
    let rest = never_lost held_stands spare_stands c given medium arms earlier boot boots lives linked.1 sound in (
      leaves_no_older c given held_stands spare_stands (acknowledged_in lives) (last_acknowledged c lives) (moment_at medium boot) _ rest.0 (moment_at medium next) life life.boot linked.0,
      (rest.0, rest.1),
      (begins c given held_stands spare_stands (acknowledged_in lives) (last_acknowledged c lives) (moment_at medium boot) _ rest.0 (moment_at medium next) life life.boot linked.0, rest.2),
    )
