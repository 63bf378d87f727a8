-- What follows for the lives of a session.
use Rattle.std.specs.Prelude.{◌≡◌, ◌⊎◌, ◌==◌, ℕ, List, [], ◌∷◌, map, true}
use Rattle.flt_config.specs.declared.config.Config.{Config}
use Rattle.flt_config.specs.declared.persist.Persist.{Persist}
use Rattle.flt_file.specs.declared.opening.OpenFault.{OpenFault}
use Rattle.flt_file.specs.declared.opening.OpenFault.TheVariants as shelves
use Rattle.flt_restore.specs.declared.fault.StartFault.{StartFault}
use Rattle.flt_restore.specs.declared.fault.StartFault.TheVariants as faults
use Rattle.flt_script.specs.declared.fault.ScriptFault.{ScriptFault}
use Rattle.flt_store_model.specs.Laws.{IsGiven}
use Rattle.flt_life_model.specs.Answers.{Told}
use Rattle.flt_life_model.specs.Applications.{Choose}
use Rattle.flt_life_model.specs.Played.{IsPlayed}
use Rattle.flt_life_model.specs.Chain.{LifeView}
use Rattle.flt_life_model.specs.Laws.{BeginsNoOlder, IsNoOlder, IsSoundIn, acknowledged_in, last_acknowledged}
use Rattle.flt_life_model.specs.Moment.{moment_of}
use Rattle.flt_life_model.specs.declared.answer.StepAnswer.TheVariants as answers
use Rattle.flt_life_model.specs.declared.life.Boot.{Boot}
use Rattle.flt_life_model.specs.declared.life.Boot.TheVariants as boots
use Rattle.flt_live.specs.declared.living.LifeEnd.{LifeEnd}
use Rattle.flt_live.specs.Heard.{Talk}
use Rattle.flt_live.specs.Session.{Closed, Ended, Other, Refused, SessionEnd, Unread, Unreadable, status_due}
use Rattle.flt_live.specs.Span.{AreSpans, IsWholeLife, LifeSpan}

-- The first of these lives, which is the last of the list, finds a sound image.
abbrev pub FirstFindsSound : Config → List LifeSpan → Type 0
FirstFindsSound c [] = Unit {0}
FirstFindsSound c (life ∷ []) = IsSoundIn c (moment_of life.before)
FirstFindsSound c (life ∷ next ∷ earlier) = FirstFindsSound c (next ∷ earlier)

-- The lives in the words of a run.
abbrev pub views_in : List LifeSpan → List LifeView
views_in lives = map (λ life. life.view) lives

-- Each of these lives, newest first, finds a sound image, no older than what was acknowledged in the lives before it; and one that is started
-- begins with the generation that was acknowledged last, state and all, or with a later one.
abbrev pub EachGoesOn : Config → List LifeSpan → Type 0
EachGoesOn c [] = Unit {0}
EachGoesOn c (life ∷ earlier) =
    IsNoOlder c (acknowledged_in (views_in earlier)) (last_acknowledged c (views_in earlier)) (moment_of life.before)
    × BeginsNoOlder (acknowledged_in (views_in earlier)) (last_acknowledged c (views_in earlier)) life.boot × EachGoesOn c earlier

-- So it is in each session over a shelf that reveals what it keeps.
abbrev pub SessionsKeep : Type 0
SessionsKeep = (c : Config) → IsGiven c → (from to : Talk) (boot : Boot) (end : LifeEnd) (lives : AreSpans true c from to boot end)
    → FirstFindsSound c (lives.life ∷ lives.earlier) → EachGoesOn c (lives.life ∷ lives.earlier)

-- ---- what a status means

-- A shelf did not give its flash for another reason than its size, its user, or memory.
abbrev pub IsUnopened : OpenFault → Type 0
IsUnopened (shelves.Size found needed) = ⊥
IsUnopened shelves.InUse = ⊥
IsUnopened shelves.Memory = ⊥
IsUnopened _ = Unit {0}

-- An image was found damaged, or of another configuration.
abbrev pub IsFaultyImage : StartFault → Type 0
IsFaultyImage faults.Flash = ⊥
IsFaultyImage (faults.Damaged place) = Unit {0}
IsFaultyImage (faults.OtherConfig found wanted) = Unit {0}
IsFaultyImage faults.SequenceSpent = ⊥

-- The ends that a status is given for, and no other.
abbrev pub MayEndSo : ℕ → SessionEnd → Type 0
MayEndSo status end =
    Choose (status == 0) ((number : ℕ) × (state : Persist) × (end ≡ Ended (boots.Started number state)))
    (Choose (status == 2) ((end ≡ Other) ⊎ ((fault : ScriptFault) × (end ≡ Refused fault)))
    (Choose (status == 3) ((end ≡ Unreadable) ⊎ (end ≡ Unread))
    (Choose (status == 5) ((end ≡ Ended boots.Dark) ⊎ (end ≡ Ended (boots.Refused faults.Flash)))
    (Choose (status == 6) ((fault : StartFault) × IsFaultyImage fault × (end ≡ Ended (boots.Refused fault)))
    (Choose (status == 7) (end ≡ Closed shelves.Memory)
    (Choose (status == 8) (end ≡ Ended (boots.Refused faults.SequenceSpent))
    (Choose (status == 14) ((found : ℕ) × (needed : ℕ) × (end ≡ Closed (shelves.Size found needed)))
    (Choose (status == 15) (end ≡ Closed shelves.InUse)
    (Choose (status == 16) ((fault : OpenFault) × IsUnopened fault × (end ≡ Closed fault)) ⊥)))))))))

-- So each status that is due says why a session ended.
abbrev pub StatusesTell : Type 0
StatusesTell = (end : SessionEnd) → MayEndSo (status_due end) end

-- ---- a life of a session is played as one of a run

-- An answer without its place in the journal of its machine.
abbrev pub without_place : Told → Told
without_place (answers.Dem told) = answers.Dem (record { place = 0; reply = told.reply })
without_place (answers.Queue told) = answers.Queue (record { place = 0; reply = told.reply })
without_place told = told

-- A life but for the places of its answers: with places for them it has the calls of its steps in order, and each answer is that of its
-- machine at its place.
pub record IsPlayedInPlaces (c : Config) (life : LifeView) : Type 0 where
  -- Answers with places.
  pub own : List Told
  -- Without them they are the answers of the life without theirs.
  pub same : map without_place own ≡ map without_place life.own
  -- With these answers the life is one of a run.
  pub played : IsPlayed c (record life { own = own })

-- So it is with each whole life of a session, whatever its steps.
abbrev pub LivesArePlayed : Type 0
LivesArePlayed = (c : Config) (life : LifeSpan) (end : LifeEnd) → IsWholeLife c life end → IsPlayedInPlaces c life.view
