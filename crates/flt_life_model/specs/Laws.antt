-- What follows from the chain of lives if its first image is sound.
use Rattle.std.specs.Prelude.{◌≡◌, ◌⊎◌, ℕ, ◌≤◌, ◌<◌, List, [], ◌∷◌, All, Option, Some, None, option_map}
use Rattle.flt_flash.specs.declared.arm.ArmMade.{ArmMade}
use Rattle.flt_flash.specs.State.{PowerUp}
use Rattle.flt_config.specs.declared.config.Config.{Config}
use Rattle.flt_store_model.specs.Holding.{Generation}
use Rattle.flt_store_model.specs.Laws.{IsGiven}
use Rattle.flt_model.specs.Start.{Start}
use Rattle.flt_model.specs.declared.call.Op.{Op}
use Rattle.flt_model.specs.declared.call.Op.TheVariants as ops
use Rattle.flt_restore.specs.declared.fault.StartFault.TheVariants as faults
use Rattle.flt_life_model.specs.declared.life.Boot.{Boot}
use Rattle.flt_life_model.specs.declared.life.Boot.TheVariants.{Started, Dark, Refused}
use Rattle.flt_life_model.specs.Moment.{Moment, Medium, moment_at, IsSoundAt}
use Rattle.flt_life_model.specs.Chain.{LifeView, AreLinked, start_from}
use Rattle.flt_life_model.specs.Journal.{Journal, snapshot_of}

-- The image is sound.
abbrev pub IsSoundIn : Config → Moment → Type 0
IsSoundIn c moment = (held : Generation) × (spare : Generation) × IsSoundAt c moment held spare

-- The first boot of a run, or the end of a run without lives.
abbrev pub first_boot : PowerUp → List PowerUp → PowerUp
first_boot next [] = next
first_boot next (boot ∷ boots) = first_boot boot boots

-- The life was not refused, unless because no sequence number was left.
abbrev pub IsUndamaged : Boot → Type 0
IsUndamaged (Started number state) = Unit {0}
IsUndamaged Dark = Unit {0}
IsUndamaged (Refused faults.Flash) = ⊥
IsUndamaged (Refused (faults.Damaged place)) = ⊥
IsUndamaged (Refused (faults.OtherConfig found wanted)) = ⊥
IsUndamaged (Refused faults.SequenceSpent) = Unit {0}

-- If the first image is sound, every image is, also at the end, and no life is refused as damaged or of another configuration.
abbrev pub SoundRunsStaySound : Type 0
SoundRunsStaySound = (c : Config) → IsGiven c → (medium : Medium) (arms : Option (List ArmMade)) (earlier : ℕ) (next : PowerUp) (boots : List PowerUp)
    (lives : List LifeView)
    → AreLinked c medium arms earlier next boots lives → IsSoundIn c (moment_at medium (first_boot next boots))
    → IsSoundIn c (moment_at medium next) × All (λ boot. IsSoundIn c (moment_at medium boot)) boots × All (λ life. IsUndamaged life.boot) lives

-- ---- what was acknowledged is never lost

-- The number that a call acknowledges, or the one before.
abbrev pub number_by : Op → ℕ → ℕ
number_by (ops.Saved number) before = number
number_by _ before = before

-- The number that a journal acknowledges last, newest entry first, or the one before it.
abbrev pub number_acknowledged : Journal → ℕ → ℕ
number_acknowledged [] before = before
number_acknowledged (e ∷ earlier) before = number_by e.op (number_acknowledged earlier before)

-- The number that was acknowledged last in lives, newest first, or 0 if none was.
abbrev pub acknowledged_in : List LifeView → ℕ
acknowledged_in [] = 0
acknowledged_in (life ∷ earlier) = number_acknowledged life.journal (acknowledged_in earlier)

-- The generation that a call of a lane acknowledges, with the state that the lane took last, or the one before.
abbrev pub generation_by : Start → ℕ → Journal → Op → Option Generation → Option Generation
generation_by start lane earlier (ops.Saved number) before = option_map (λ state. record { number = number; state = state }) (snapshot_of start lane earlier)
generation_by start lane earlier _ before = before

-- The generation that a journal acknowledges last, newest entry first, or the one before it.
abbrev pub generation_in : Start → Journal → Option Generation → Option Generation
generation_in start [] before = before
generation_in start (e ∷ earlier) before = generation_by start e.lane earlier e.op (generation_in start earlier before)

-- So of a life, by how it began: one that is dark or refused acknowledges nothing.
abbrev pub generation_of_life : Config → Boot → Journal → Option Generation → Option Generation
generation_of_life c (Started number state) journal before = generation_in (start_from c state) journal before
generation_of_life c Dark journal before = before
generation_of_life c (Refused fault) journal before = before

-- The generation that was acknowledged last in lives, newest first, if any was.
abbrev pub last_acknowledged : Config → List LifeView → Option Generation
last_acknowledged c [] = None
last_acknowledged c (life ∷ earlier) = generation_of_life c life.boot life.journal (last_acknowledged c earlier)

-- It is this generation, with its state, or one of a greater number.
abbrev pub IsLastOrLater : Option Generation → Generation → Type 0
IsLastOrLater None g = Unit {0}
IsLastOrLater (Some last) g = (g ≡ last) ⊎ (last.number < g.number)

-- The image is sound, and each of its two generations has this number or a greater one, and is the last or a later one.
pub record IsNoOlder (c : Config) (number : ℕ) (last : Option Generation) (moment : Moment) : Type 0 where
  pub held : Generation
  pub spare : Generation
  pub sound : IsSoundAt c moment held spare
  pub no_older : (number ≤ held.number) × (number ≤ spare.number)
  pub last_or_later : IsLastOrLater last held × IsLastOrLater last spare

-- Each of the power-ups of lives, newest first, found a sound image, no older than what was acknowledged in the lives before it.
abbrev pub EachFindsNoOlder : Config → Medium → List PowerUp → List LifeView → Type 0
EachFindsNoOlder c medium [] lives = Unit {0}
EachFindsNoOlder c medium (boot ∷ boots) [] = Unit {0}
EachFindsNoOlder c medium (boot ∷ boots) (life ∷ earlier) =
    IsNoOlder c (acknowledged_in earlier) (last_acknowledged c earlier) (moment_at medium boot) × EachFindsNoOlder c medium boots earlier

-- A life that was started began with this number or a greater one, and with the last generation, state and all, or a later one.
abbrev pub BeginsNoOlder : ℕ → Option Generation → Boot → Type 0
BeginsNoOlder number last (Started begun state) = (number ≤ begun) × IsLastOrLater last (record { number = begun; state = state })
BeginsNoOlder number last Dark = Unit {0}
BeginsNoOlder number last (Refused fault) = Unit {0}

-- So did each of these lives, by what was acknowledged in those before it.
abbrev pub EachBeginsNoOlder : Config → List LifeView → Type 0
EachBeginsNoOlder c [] = Unit {0}
EachBeginsNoOlder c (life ∷ earlier) = BeginsNoOlder (acknowledged_in earlier) (last_acknowledged c earlier) life.boot × EachBeginsNoOlder c earlier

-- If the first image is sound, each power-up finds an image of which neither generation is older than the one acknowledged
-- last in all lives before it, dark ones included, and so would a power-up at the end; and no life that is started begins with an
-- older one. Where one has the number that was acknowledged last, it has the state that was acknowledged.
abbrev pub AcknowledgedIsNeverLost : Type 0
AcknowledgedIsNeverLost = (c : Config) → IsGiven c → (medium : Medium) (arms : Option (List ArmMade)) (earlier : ℕ) (next : PowerUp) (boots : List PowerUp)
    (lives : List LifeView)
    → AreLinked c medium arms earlier next boots lives → IsSoundIn c (moment_at medium (first_boot next boots))
    → IsNoOlder c (acknowledged_in lives) (last_acknowledged c lives) (moment_at medium next) × EachFindsNoOlder c medium boots lives × EachBeginsNoOlder c lives
