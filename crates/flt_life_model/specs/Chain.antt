-- What holds of a life and its two power-ups, and of all lives of a run.
use Rattle.std.specs.Prelude.{◌≡◌, ◌⊎◌, ℕ, ◌+◌, ◌==◌, List, [], ◌∷◌, length, map, reverse, drop, find, Option, Some, None, Result, Ok, Err, IsTrue, IsFalse}
use Rattle.flt_flash.specs.declared.arm.ArmMade.{ArmMade}
use Rattle.flt_flash.specs.State.{HasRisenBy, PowerUp}
use Rattle.flt_config.specs.declared.config.Config.{Config}
use Rattle.flt_config.specs.declared.persist.Persist.{Persist}
use Rattle.flt_store_model.specs.declared.place.Place.TheVariants.{Page, Block}
use Rattle.flt_store_model.specs.Form.{mark_of}
use Rattle.flt_store_model.specs.Holding.{Generation, Fault, damaged, other, held, spare, OldOrNew, SameApplications}
use Rattle.flt_model.specs.Start.{Start}
use Rattle.flt_queue.specs.declared.job.QueueOp.{QueueOp}
use Rattle.flt_queue.specs.Queue.{History}
use Rattle.flt_turn.specs.declared.vault.Entry.{Entry}
use Rattle.flt_step.specs.declared.step.Step.{Step}
use Rattle.flt_step.specs.Part.{PartOf}
use Rattle.flt_restore.specs.declared.fault.StartFault.{StartFault}
use Rattle.flt_restore.specs.declared.fault.StartFault.TheVariants as faults
use Rattle.flt_store.specs.Store.{numbered}
use Rattle.flt_life_model.specs.Answers.{Told}
use Rattle.flt_life_model.specs.Applications.{HoldApplications, AreGot}
use Rattle.flt_life_model.specs.Ordered.{Deed, deeds_in}
use Rattle.flt_life_model.specs.declared.life.Boot.{Boot}
use Rattle.flt_life_model.specs.declared.life.Boot.TheVariants.{Started, Dark, Refused}
use Rattle.flt_life_model.specs.Moment.{Moment, Medium, moment_at, IsSoundAt}
use Rattle.flt_life_model.specs.Journal.{Journal, Acknowledges}
use Rattle.flt_life_model.specs.Causes.{AreCaused}
use Rattle.flt_life_model.specs.Saving.{IsLeft, AreRising}

-- A life: the parts of its script, its calls of the status machine and of the queue, newest first, and the answers of lane 0 and
-- of the other lanes, oldest first.
pub record LifeView : Type 0 where
  pub parts : List (PartOf Step)
  pub boot : Boot
  pub journal : Journal
  pub queue : List (Entry QueueOp)
  pub own : List Told
  pub lanes : List (List Told)

-- Its deeds, and their answers, newest first.
abbrev pub deeds_of : LifeView → List Deed
deeds_of life = reverse (deeds_in life.parts life.own life.lanes)

abbrev pub told_of : LifeView → List Told
told_of life = map (λ d. d.1) (deeds_of life)

-- The calls of the queue, newest first.
abbrev pub queue_of : LifeView → History
queue_of life = map (λ e. e.op) life.queue

-- The start of the machine.
abbrev pub start_from : Config → Persist → Start
start_from c state = record { config = c; base = state }

-- This is what the image holds; or, if the count rose by three in the start of the life, what it holds by the second copy.
module _ (c : Config) (boot : Moment) (ended : ℕ) where
  abbrev pub IsFound : Result Generation Fault → Type 0
  IsFound found = (held c boot.value ≡ found) ⊎ ((spare c boot.value ≡ found) × HasRisenBy 3 boot.faults ended)

  -- A generation that was found in an image without a fault.
  pub record Finds (g : Generation) : Type 0 where
    pub undamaged : boot.damage ≡ None
    pub found : IsFound (Ok g)

-- The next power-up finds a sound image: each of its two generations is the one acknowledged last, or one of a later save; and the
-- numbers that were acknowledged rise.
pub record Leaves (c : Config) (first : Generation) (life : LifeView) (next : Moment) : Type 0 where
  pub held : Generation
  pub spare : Generation
  pub last : Generation
  pub sound : IsSoundAt c next held spare
  pub acknowledged : Acknowledges (start_from c first.state) first life.journal last
  pub held_is : IsLeft (start_from c first.state) life.journal (told_of life) last held
  pub spare_is : IsLeft (start_from c first.state) life.journal (told_of life) last spare
  pub rising : AreRising first.number (told_of life)

-- The next power-up finds in each application block what the drains of the life may have left there, and each read of the life
-- answered by the drains before it.
pub record KeepsApplications (boot next : Moment) (life : LifeView) : Type 0 where
  pub held : HoldApplications boot.value (queue_of life) next.value
  pub got : AreGot boot.value (queue_of life) (deeds_of life)

-- If the image is sound, the next power-up finds a sound one, which holds each as one of the two old generations.
pub record Keeps (c : Config) (held spare : Generation) (next : Moment) : Type 0 where
  pub undamaged : next.damage ≡ None
  pub old : OldOrNew c next.value held spare held

abbrev pub KeepsSound : Config → Moment → Moment → Type 0
KeepsSound c boot next = (held spare : Generation) → IsSoundAt c boot held spare → Keeps c held spare next

-- The next power-up finds the blocks and the fault of this one.
pub record Unchanged (boot next : Moment) : Type 0 where
  pub value : (number : ℕ) → next.value number ≡ boot.value number
  pub damage : next.damage ≡ boot.damage

-- Why a life is refused.
abbrev pub IsRefused : Config → Moment → Moment → ℕ → StartFault → Type 0
IsRefused c boot next ended faults.Flash = ⊥
IsRefused c boot next ended (faults.Damaged (Page sector page)) = (boot.damage ≡ Some (sector, page)) × Unchanged boot next
IsRefused c boot next ended (faults.Damaged (Block id)) = (boot.damage ≡ None) × IsFound c boot ended (Err (damaged (Block id))) × Unchanged boot next
IsRefused c boot next ended (faults.OtherConfig found wanted) = (boot.damage ≡ None) × IsFound c boot ended (Err (other found)) × (wanted ≡ mark_of c)
    × Unchanged boot next
IsRefused c boot next ended faults.SequenceSpent = ((g : Generation) × Finds c boot ended g) × KeepsSound c boot next × IsTrue next.is_spent

-- What holds, by how the life began.
abbrev pub IsLifeBegunBy : Config → Moment → Moment → ℕ → LifeView → Boot → Type 0
IsLifeBegunBy c boot next ended life (Started number state) = Finds c boot ended (numbered number state) × IsFalse boot.is_spent
    × Leaves c (numbered number state) life next × AreCaused c boot next (told_of life) × KeepsApplications boot next life
IsLifeBegunBy c boot next ended life Dark = HasRisenBy 3 boot.faults ended × (life.journal ≡ []) × KeepsSound c boot next
    × SameApplications boot.value next.value
IsLifeBegunBy c boot next ended life (Refused fault) = IsRefused c boot next ended fault × (life.journal ≡ []) × SameApplications boot.value next.value

-- What holds of a life between two power-ups; the count of faults was `ended` at the end of its start.
abbrev pub IsLifeBetween : Config → Moment → Moment → ℕ → LifeView → Type 0
IsLifeBetween c boot next ended life = IsLifeBegunBy c boot next ended life life.boot

-- The count of faults at an arm, if there is one, or else at the next power-up.
abbrev pub count_at : Option ArmMade → ℕ → ℕ
count_at None next = next
count_at (Some made) next = made.faults

-- The count of faults at the end of the start of a life. The start lasts until the first arm that was made in it, if arms are counted
-- and it has one, and else until the next power-up; the life is identified by the number of boots in it.
abbrev pub start_count : Option (List ArmMade) → ℕ → ℕ → ℕ
start_count None boots next = next
start_count (Some made) boots next = count_at (find (λ arm. arm.boots == boots) made) next

-- The arms that were made between two states of a bench, if both reveal theirs.
abbrev pub arms_between : Option (List ArmMade) → Option (List ArmMade) → Option (List ArmMade)
arms_between (Some earlier) (Some now) = Some (drop (length earlier) now)
arms_between (Some earlier) None = None
arms_between None now = None

-- Lives and their boots, newest first, each life between its boot and the next one; the last is before `next`.
abbrev pub AreLinked : Config → Medium → Option (List ArmMade) → ℕ → PowerUp → List PowerUp → List LifeView → Type 0
AreLinked c medium arms earlier next [] [] = Unit {0}
AreLinked c medium arms earlier next [] (life ∷ lives) = ⊥
AreLinked c medium arms earlier next (boot ∷ boots) [] = ⊥
AreLinked c medium arms earlier next (boot ∷ boots) (life ∷ lives) =
    IsLifeBetween c (moment_at medium boot) (moment_at medium next) (start_count arms (earlier + length boots + 1) next.faults) life
    × AreLinked c medium arms earlier boot boots lives
