-- Soundness goes from boot to boot.
use Rattle.std.proofs.Common.{⊎_elim, ℕ, List, [], ◌∷◌, Option, None, Err, arith}
use Rattle.std.specs.Prelude.{All}
use Rattle.std.proofs.lemmas.List.Elements.{All-cons, All-nil}
use Rattle.flt_flash.specs.declared.arm.ArmMade.{ArmMade}
use Rattle.flt_flash.specs.State.{PowerUp}
use Rattle.flt_config.specs.declared.config.Config.{Config}
use Rattle.flt_store_model.specs.declared.place.Place.TheVariants.{Page, Block}
use Rattle.flt_store_model.specs.Holding.{Fault}
use Rattle.flt_store_model.specs.Laws.{IsGiven, HeldStands, SpareStands}
use Rattle.flt_restore.specs.declared.fault.StartFault.TheVariants as faults
use Rattle.flt_life_model.specs.declared.life.Boot.{Boot}
use Rattle.flt_life_model.specs.declared.life.Boot.TheVariants.{Started, Dark, Refused}
use Rattle.flt_life_model.specs.Moment.{Moment, Medium, moment_at}
use Rattle.flt_life_model.specs.Chain.{LifeView, IsFound, IsLifeBegunBy, AreLinked}
use Rattle.flt_life_model.specs.Laws.{IsNoOlder, IsSoundIn, IsUndamaged, first_boot}
use Rattle.flt_life_model.proofs.Older.{leaves_no_older}

module _ (c : Config) (given : IsGiven c) (held_stands : HeldStands) (spare_stands : SpareStands) (boot : Moment) (ended : ℕ) (sound : IsSoundIn c boot) where
  -- What a life leaves is no older than 0, and sound.
  next_sound : (next : Moment) (life : LifeView) (b : Boot) → IsLifeBegunBy c boot next ended life b → IsSoundIn c next
  next_sound next life b is =
      let found : IsNoOlder c 0 None boot = record { held = sound.0; spare = sound.1; sound = sound.2; no_older = (omega arith, omega arith); last_or_later = (tt, tt) } in
      let left = leaves_no_older c given held_stands spare_stands 0 None boot ended found next life b is in
      (left.held, left.spare, left.sound)

  -- No life of a sound image is refused as damaged.
  no_fault : (fault : Fault) → IsFound c boot ended (Err fault) → ⊥
  no_fault fault =
      ⊎_elim
      (λ is. (let read = (held_stands c given boot.value sound.0).1 sound.2.sound.holds in absurd (cc (is, read))))
      (λ is. (let other = is.0 in let read = (spare_stands c given boot.value sound.1).1 sound.2.sound.spares in absurd (cc (other, read))))

  undamaged : (next : Moment) (life : LifeView) (b : Boot) → IsLifeBegunBy c boot next ended life b → IsUndamaged b
  undamaged next life (Started number state) is = tt
  undamaged next life Dark is = tt
  undamaged next life (Refused faults.Flash) is = is.0
  undamaged next life (Refused (faults.Damaged (Page sector page))) is = let told = is.0.0 in let none = sound.2.undamaged in absurd (cc (told, none))
  undamaged next life (Refused (faults.Damaged (Block id))) is = no_fault _ is.0.1
  undamaged next life (Refused (faults.OtherConfig found wanted)) is = no_fault _ is.0.1
  undamaged next life (Refused faults.SequenceSpent) is = tt

pub stays_sound : HeldStands → SpareStands → (c : Config) → IsGiven c → (medium : Medium) (arms : Option (List ArmMade)) (earlier : ℕ) (next : PowerUp) (boots : List PowerUp) (lives : List LifeView)
    → AreLinked c medium arms earlier next boots lives → IsSoundIn c (moment_at medium (first_boot next boots))
    → IsSoundIn c (moment_at medium next) × All (λ boot. IsSoundIn c (moment_at medium boot)) boots × All (λ life. IsUndamaged life.boot) lives
stays_sound held_stands spare_stands c given medium arms earlier next [] [] linked sound = (sound, All-nil _, All-nil _)
stays_sound held_stands spare_stands c given medium arms earlier next [] (life ∷ lives) linked sound = absurd linked
stays_sound held_stands spare_stands c given medium arms earlier next (boot ∷ boots) [] linked sound = absurd linked
stays_sound held_stands spare_stands c given medium arms earlier next (boot ∷ boots) (life ∷ lives) linked sound =
    let rest = stays_sound held_stands spare_stands c given medium arms earlier boot boots lives linked.1 sound in (
      next_sound c given held_stands spare_stands (moment_at medium boot) _ rest.0 (moment_at medium next) life life.boot linked.0,
      All-cons (λ b. IsSoundIn c (moment_at medium b)) boot boots rest.0 rest.1,
      All-cons (λ (l : LifeView). IsUndamaged l.boot) life lives (undamaged c given held_stands spare_stands (moment_at medium boot) _ rest.0 (moment_at medium next) life life.boot linked.0) rest.2,
    )
