-- The lives of a run: how they follow the parts of a script, and how they are linked by their boots; all lists are newest
-- first.
use Rattle.std.specs.Prelude.{◌≡◌, ◌⊎◌, ℕ, ◌+◌, ◌<◌, Bool, true, false, List, [], ◌∷◌, ◌++◌, length, map, reverse, All, IfSome, Option, IsTrue, IsFalse, Vec}
use Rattle.flt_flash.specs.declared.arm.Arm.{Arm}
use Rattle.flt_flash.specs.declared.arm.ArmMade.{ArmMade}
use Rattle.flt_flash.specs.State.{PowerUp}
use Rattle.flt_flash.specs.Blocks.{DeviceState}
use Rattle.flt_config.specs.declared.config.Config.{Config}
use Rattle.flt_step.specs.declared.step.Part.{Part}
use Rattle.flt_step.specs.declared.step.Step.{Step}
use Rattle.flt_step.specs.Part.{PartOf, parts_of}
use Rattle.flt_store_model.specs.Holding.{Generation}
use Rattle.flt_life_model.specs.declared.life.Boot.{Boot}
use Rattle.flt_life_model.specs.declared.life.Boot.TheVariants.{Started, Dark, Refused}
use Rattle.flt_life_model.specs.declared.life.Life.{Life}
use Rattle.flt_life_model.specs.declared.replies.LaneReplies.{LaneReplies}
use Rattle.flt_life_model.specs.Actions.{all_arms}
use Rattle.flt_life_model.specs.Answers.{Told, told_by}
use Rattle.flt_life_model.specs.Chain.{LifeView, AreLinked, arms_between}
use Rattle.flt_life_model.specs.Moment.{Moment, Medium, IsSoundAt, boot_in}
use Rattle.flt_life_model.specs.Parts.{own_actions}
use Rattle.flt_life_model.specs.Played.{IsPlayed}

-- The answers of lane 0, in their order.
abbrev pub own_told : List LaneReplies → List Told
own_told [] = []
own_told (lane ∷ lanes) = told_by lane.responses.items lane.answers.items

-- The answers of the other lanes, each in their order.
abbrev pub lanes_told : List LaneReplies → List (List Told)
lanes_told [] = []
lanes_told (lane ∷ lanes) = map (λ (l : LaneReplies). told_by l.responses.items l.answers.items) lanes

-- A life of these parts as contracts see it.
abbrev pub view_of : List (PartOf Step) → Life → LifeView
view_of parts life = record {
  parts = parts;
  boot = life.boot;
  journal = reverse life.journal.items;
  queue = reverse life.queue.items;
  own = own_told life.replies.items;
  lanes = lanes_told life.replies.items;
}

-- The lives of these parts, life by life; surplus lives have no parts.
abbrev pub views_of : List (List (PartOf Step)) → List Life → List LifeView
views_of script [] = []
views_of [] (life ∷ lives) = view_of [] life ∷ views_of [] lives
views_of (parts ∷ script) (life ∷ lives) = view_of parts life ∷ views_of script lives

-- Each life is made of its parts.
abbrev pub ArePlayed : Config → List LifeView → Type 0
ArePlayed c lives = All (IsPlayed c) lives

abbrev pub is_refused : Boot → Bool
is_refused (Started number state) = false
is_refused Dark = false
is_refused (Refused fault) = true

-- No life but the last is refused; if that one is not refused, there are as many as asked; and never more.
abbrev pub AreEnded : ℕ → List LifeView → Type 0
AreEnded many [] = many ≡ 0
AreEnded many (life ∷ earlier) = All (λ l. IsFalse (is_refused l.boot)) earlier × (length earlier < many)
    × (IsTrue (is_refused life.boot) ⊎ (many ≡ length earlier + 1))

-- The lives of a run, which are the first ones of this script, newest first.
abbrev pub lives_seen : List (List (PartOf Step)) → List Life → List LifeView
lives_seen script lives = reverse (views_of script lives)

-- Lives without their place in memory.
abbrev pub lists : {A : Type 0} → List (Vec Part A) → List (List (PartOf Step))
lists lives = map (λ life. parts_of life.items) lives

-- The arms that the steps of a life give to the bench: a refused life makes no step.
abbrev pub arms_by : List (PartOf Step) → Boot → List Arm
arms_by parts (Started number state) = all_arms (own_actions parts)
arms_by parts Dark = all_arms (own_actions parts)
arms_by parts (Refused fault) = []

-- The arms of a life, each with the number of boots in it.
abbrev pub arms_in_life : ℕ → List Arm → List (ℕ × Arm)
arms_in_life boots arms = map (λ arm. (boots, arm)) arms

-- The arms of lives after this many boots, in the order in which they are given, each with the number of boots in its life.
abbrev pub arms_given : ℕ → List LifeView → List (ℕ × Arm)
arms_given earlier [] = []
arms_given earlier (life ∷ lives) = arms_given earlier lives ++ arms_in_life (earlier + length lives + 1) (arms_by life.parts life.boot)

-- The arms that were made between two states of a bench, if both reveal theirs, are these, each in its life.
abbrev pub AreGiven : List (ℕ × Arm) → Option (List ArmMade) → Option (List ArmMade) → Type 0
AreGiven arms before after = IfSome (arms_between before after) (λ made. map (λ a. (a.boots, a.arm)) made ≡ arms)

-- The boots that were added between two states of a device, and the lives of a run between them.
pub record IsLinked (c : Config) (medium : Medium) (before now : DeviceState) (lives : List LifeView) : Type 0 where
  pub boots : List PowerUp
  pub is : now.bench.boots ≡ before.bench.boots ++ reverse boots
  pub linked : AreLinked c medium (arms_between before.bench.arms now.bench.arms) (length before.bench.boots) (boot_in now) boots lives

-- A sound image stays sound.
abbrev pub StaysSound : Config → Moment → Moment → Type 0
StaysSound c before after = (held spare : Generation) → IsSoundAt c before held spare → (now_held : Generation) × (now_spare : Generation)
    × IsSoundAt c after now_held now_spare
