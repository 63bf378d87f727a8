-- Where the first image of a run is sound, each is.
use Rattle.std.proofs.Common.{◌≡◌, ◌≢◌, ◌⊎◌, ◌∙◌, ℕ, ◌<◌, List, [], ◌∷◌, ◌++◌, length, reverse, Option, None, Some, refl, sym, subst, ap, inl, inr, arith}
use Rattle.std.specs.Prelude.{All, IsSomeAnd}
use Rattle.std.proofs.lemmas.List.{reverse-append}
use Rattle.std.proofs.lemmas.List.Elements.{All-head, All-tail}
use Rattle.flt_flash.specs.declared.arm.ArmMade.{ArmMade}
use Rattle.flt_flash.specs.State.{FlashState, PowerUp}
use Rattle.flt_config.specs.declared.config.Config.{Config}
use Rattle.flt_config.specs.declared.config.DidUse.{DidUse}
use Rattle.flt_store_model.specs.Laws.{IsGiven}
use Rattle.flt_store_model.proofs.ImageLaws.{held_stands, spare_stands}
use Rattle.flt_restore.specs.declared.fault.StartFault.TheVariants as faults
use Rattle.flt_flash.specs.Blocks.{device_of}
use Rattle.flt_step.specs.declared.step.Step.{Step}
use Rattle.flt_step.specs.Part.{PartOf}
use Rattle.flt_script.specs.Script.{ScriptContent}
use Rattle.flt_life_model.specs.declared.life.Boot.{Boot}
use Rattle.flt_life_model.specs.declared.life.Boot.TheVariants as began
use Rattle.flt_life_model.specs.declared.life.Life.{Life}
use Rattle.flt_life_model.specs.Chain.{LifeView, AreLinked, arms_between}
use Rattle.flt_life_model.specs.Laws.{IsUndamaged, first_boot}
use Rattle.flt_life_model.specs.Lives.{AreEnded, lists, lives_seen}
use Rattle.flt_life_model.specs.Moment.{Medium, boot_in}
use Rattle.flt_life_model.specs.Statuses.{status_by, status_of_lives}
use Rattle.flt_life_model.proofs.Soundness.{stays_sound}
use Rattle.flt_life_model.proofs.Older.{never_lost}
use Rattle.flt_run.specs.declared.command.Command.{Command}
use Rattle.flt_run.specs.declared.ending.Ending.{Ending}
use Rattle.flt_run.specs.declared.ending.Ending.TheVariants.{Usage, Unreadable, Refused, Accepted, Ran, Loaded}
use Rattle.flt_run.specs.declared.made.Made.{Made}
use Rattle.flt_run.specs.Ending.{RunInside, RunOutside, IsLeftSound, IsLivedBy, IsSoundFor, IsSoundThroughout, IsRunTold, EndingHasCause, KeepsAcknowledged, LosesNothing, StaysSoundThroughout, RunWantsMemory, WorksOnNone, lives_of, ending_status}
use Rattle.flt_run.proofs.Lived.{all_of_seen, some_lives, turned}

-- The first boot of a run is the first of its boots.
first_of : (boot : PowerUp) (boots : List PowerUp) → (later : List PowerUp) × (reverse (boot ∷ boots) ≡ first_boot boot boots ∷ later)
first_of boot [] = ([], refl)
first_of boot (next ∷ boots) =
    let rest = first_of next boots in
    (rest.0 ++ (boot ∷ []), reverse-append (boot ∷ []) (next ∷ boots) ∙ ap (λ (all : List PowerUp). all ++ (boot ∷ [])) rest.1)

-- A life that was not refused as damaged or of another configuration.
undamaged_status : (b : Boot) → IsUndamaged b → status_by b ≢ 6
undamaged_status (began.Started number state) holds = λ e. omega (arith, e)
undamaged_status began.Dark holds = λ e. omega (arith, e)
undamaged_status (began.Refused faults.Flash) holds = absurd holds
undamaged_status (began.Refused (faults.Damaged place)) holds = absurd holds
undamaged_status (began.Refused (faults.OtherConfig found wanted)) holds = absurd holds
undamaged_status (began.Refused faults.SequenceSpent) holds = λ e. omega (arith, e)

undamaged_last : (lives : List LifeView) → All (λ (life : LifeView). IsUndamaged life.boot) lives → status_of_lives lives ≢ 6
undamaged_last [] all = λ e. omega (arith, e)
undamaged_last (life ∷ earlier) all = undamaged_status life.boot (All-head (λ (l : LifeView). IsUndamaged l.boot) life earlier all)

-- It came to the status that was due, or the sink failed.
abbrev pub CameTo : ℕ → ℕ → Type 0
CameTo due status = (status ≡ due) ⊎ (status ≡ 4)

pub came_to : (outside : RunOutside) (ending : Ending) (status : ℕ) → IsRunTold outside ending status → CameTo (ending_status ending) status
came_to outside ending status (inl told) = inl told.0
came_to outside ending status (inr failed) = inr failed.0

other_than_six : (due status : ℕ) → due ≢ 6 → CameTo due status → status ≢ 6
other_than_six due status other (inl is) = λ six. other (sym is ∙ six)
other_than_six due status other (inr is) = λ six. omega (arith, is, six)

module _ (medium : Medium) (c : Config) (arms : Option (List ArmMade)) (earlier : ℕ) (next : PowerUp) where
  -- As many lives as a script asks for are at least one, which has its boot.
  some_boots : (boots : List PowerUp) (lives : List LifeView) (many : ℕ) → 0 < many → AreEnded many lives → AreLinked c medium arms earlier next boots lives → 0 < length boots
  some_boots [] [] many some ended linked = absurd (omega (arith, some, ended))
  some_boots [] (life ∷ lives) many some ended linked = absurd linked
  some_boots (boot ∷ boots) lives many some ended linked = omega arith

-- Lives between their boots, by the law of the chain.
by_boots : (medium : Medium) (c : Config) → IsGiven c → (before after : FlashState) (script : List (List (PartOf Step))) (lives : List Life) (status : ℕ) (boots : List PowerUp)
    → after.bench.boots ≡ before.bench.boots ++ reverse boots
    → AreLinked c medium (arms_between before.bench.arms after.bench.arms) (length before.bench.boots) (boot_in (device_of after)) boots (lives_seen script lives)
    → 0 < length boots → CameTo (status_of_lives (lives_seen script lives)) status → IsSoundThroughout medium c before after status lives
by_boots medium c given before after script lives status [] is linked some came = absurd (omega (arith, some))
by_boots medium c given before after script lives status (boot ∷ boots) is linked some came =
    let order = first_of boot boots in
    let law = stays_sound held_stands spare_stands c given medium (arms_between before.bench.arms after.bench.arms) (length before.bench.boots) (boot_in (device_of after)) (boot ∷ boots) (lives_seen script lives) linked in
    record {
      first = first_boot boot boots;
      later = order.0;
      are = is ∙ ap (λ (all : List PowerUp). before.bench.boots ++ all) order.1;
      boots = λ sound. All-tail (IsSoundFor medium c) (first_boot boot boots) order.0 (subst (All (IsSoundFor medium c)) order.1 (turned (IsSoundFor medium c) (boot ∷ boots) (law sound).1));
      end = λ sound. (law sound).0;
      unrefused = λ sound. all_of_seen IsUndamaged script lives (law sound).2;
      not_six = λ sound. other_than_six (status_of_lives (lives_seen script lives)) status (undamaged_last (lives_seen script lives) (law sound).2) came;
    }

made_throughout : (media : Config → Medium) (script : ScriptContent) (before after : FlashState) (made : Made) (status : ℕ) → IsLivedBy media script before after made → CameTo (status_of_lives (lives_seen (lists made.script.items) made.lives.items)) status
    → IsSoundThroughout (media script.config) script.config before after status made.lives.items
made_throughout media script before after made status lived came =
    let linked = lived.lived.linked in
    by_boots (media script.config) script.config lived.valid before after script.lives made.lives.items status linked.boots linked.is linked.linked
    (some_boots (media script.config) script.config _ _ _ linked.boots (lives_seen script.lives made.lives.items) (length script.lives) (some_lives script.lives made lived.script_is) lived.lived.ended linked.linked)
    (subst (λ lives. CameTo (status_of_lives (lives_seen lives made.lives.items)) status) lived.script_is came)

-- Nothing that was acknowledged is lost, by the law of the chain.
kept_lives : (inside : RunInside) (script : ScriptContent) (made : Made) → IsLivedBy inside.media script inside.device inside.device_after made
    → KeepsAcknowledged (inside.media script.config) script.config inside.device inside.device_after (lives_seen script.lives made.lives.items)
kept_lives inside script made lived =
    let linked = lived.lived.linked in
    let law = never_lost held_stands spare_stands script.config lived.valid (inside.media script.config) (arms_between inside.device.bench.arms inside.device_after.bench.arms)
    (length inside.device.bench.boots) (boot_in (device_of inside.device_after)) linked.boots (lives_seen script.lives made.lives.items) linked.linked in
    record { boots = linked.boots; are = linked.is; end = λ sound. (law sound).0; found = λ sound. (law sound).1; begun = λ sound. (law sound).2 }

kept_by : (inside : RunInside) (made : Made) (status : ℕ) (lives : List Life) (script : Option ScriptContent) → IsSomeAnd script (λ script. IsLivedBy inside.media script inside.device inside.device_after made)
    → lives ≡ made.lives.items → LosesNothing inside script status lives
kept_by inside made status lives None lived is = absurd lived
kept_by inside made status lives (Some script) lived is =
    inr (subst (λ lives. KeepsAcknowledged (inside.media script.config) script.config inside.device inside.device_after (lives_seen script.lives lives)) (sym is) (kept_lives inside script made lived))

kept_none : (inside : RunInside) (status : ℕ) (lives : List Life) (script : Option ScriptContent) → WorksOnNone inside script → LosesNothing inside script status lives
kept_none inside status lives script works = subst (λ s. LosesNothing inside s status lives) (sym works.0) tt

pub kept_memory : (inside : RunInside) (status : ℕ) (lives : List Life) (script : Option ScriptContent) → RunWantsMemory status lives → LosesNothing inside script status lives
kept_memory inside status lives None wants = tt
kept_memory inside status lives (Some script) wants = inl wants

pub kept_ending : (dids : List DidUse) (inside : RunInside) (command : Option Command) (script : Option ScriptContent) (status : ℕ) (lives : List Life) (ending : Ending) → EndingHasCause dids inside command script ending
    → lives ≡ lives_of ending → LosesNothing inside script status lives
kept_ending dids inside command script status lives Usage cause is = kept_none inside status lives script cause.2
kept_ending dids inside command script status lives Unreadable cause is = kept_none inside status lives script cause.2
kept_ending dids inside command script status lives (Refused fault) cause is = kept_none inside status lives script cause.3
kept_ending dids inside command script status lives (Accepted accepted) cause is = kept_none inside status lives script cause.3
kept_ending dids inside command script status lives (Ran made) cause is = kept_by inside made status lives script cause.2 is
kept_ending dids inside command script status lives (Loaded made) cause is = kept_by inside made status lives script cause.4 is

-- Lives of a script were made.
lived_throughout : (inside : RunInside) (made : Made) (status : ℕ) (lives : List Life) (script : Option ScriptContent) → IsSomeAnd script (λ script. IsLivedBy inside.media script inside.device inside.device_after made)
    → CameTo (status_of_lives (lives_seen (lists made.script.items) made.lives.items)) status → lives ≡ made.lives.items → StaysSoundThroughout inside script status lives
lived_throughout inside made status lives None lived came is = absurd lived
lived_throughout inside made status lives (Some script) lived came is =
    inr (subst (IsSoundThroughout (inside.media script.config) script.config inside.device inside.device_after status) (sym is) (made_throughout inside.media script inside.device inside.device_after made status lived came))

-- Memory ran out.
pub of_memory : (inside : RunInside) (status : ℕ) (lives : List Life) (script : Option ScriptContent) → RunWantsMemory status lives → IsLeftSound inside script → StaysSoundThroughout inside script status lives
of_memory inside status lives None wants sound =
    let told = wants.told in record { untouched = sound; none = wants.made; not_six = λ six. omega (arith, told, six) }
of_memory inside status lives (Some script) wants sound = inl wants

module _ (dids : List DidUse) (inside : RunInside) (command : Option Command) (script : Option ScriptContent) where
  no_life : (due status : ℕ) (lives : List Life) → due ≢ 6 → CameTo due status → WorksOnNone inside script → lives ≡ [] → StaysSoundThroughout inside script status lives
  no_life due status lives other came works none =
      subst (λ s. StaysSoundThroughout inside s status lives) (sym works.0) (record { untouched = works.1; none = none; not_six = other_than_six due status other came })

  pub throughout : (status : ℕ) (lives : List Life) (ending : Ending) → EndingHasCause dids inside command script ending → CameTo (ending_status ending) status → lives ≡ lives_of ending
      → StaysSoundThroughout inside script status lives
  throughout status lives Usage cause came none = no_life 1 status lives (λ e. omega (arith, e)) came cause.2 none
  throughout status lives Unreadable cause came none = no_life 3 status lives (λ e. omega (arith, e)) came cause.2 none
  throughout status lives (Refused fault) cause came none = no_life 2 status lives (λ e. omega (arith, e)) came cause.3 none
  throughout status lives (Accepted accepted) cause came none = no_life 0 status lives (λ e. omega (arith, e)) came cause.3 none
  throughout status lives (Ran made) cause came is = lived_throughout inside made status lives script cause.2 came is
  throughout status lives (Loaded made) cause came is = lived_throughout inside made status lives script cause.4 came is
