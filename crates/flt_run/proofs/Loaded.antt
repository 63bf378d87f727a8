-- The script of a load is served by all tables, and without lanes it has no block; it has no write job.
use Rattle.std.proofs.Common.{◌≡◌, ◌∙◌, ℕ, ◌+◌, ◌%◌, ◌==◌, List, [], ◌∷◌, ◌++◌, map, filter, true, false, Option, Some, None, ap, sym, subst, inl, Global}
use Rattle.std.specs.Prelude.{All, Vec}
use Rattle.std.specs.List.{flat_map, range_with_len}
use Rattle.std.proofs.lemmas.List.Elements.{All-nil, All-cons, All-head, All-tail, All-append}
use Rattle.flt_config.specs.declared.config.DidUse.{DidUse}
use Rattle.flt_config.specs.declared.config.EventCfg.{EventCfg}
use Rattle.flt_did.specs.Serves.{HasAll, Serves}
use Rattle.flt_step.specs.declared.step.Part.{Part}
use Rattle.flt_step.specs.declared.step.Step.{Step}
use Rattle.flt_step.specs.declared.step.Step.TheVariants as steps
use Rattle.flt_script.specs.Script.{ScriptContent}
use Rattle.flt_script.specs.Load.{load_config, load_event, load_lane, load_life, load_number, load_parts, load_step, plain_parts, shown_life}
use Rattle.flt_step.specs.Part.{parts_of}
use Rattle.flt_life_model.specs.Actions.{action_of}
use Rattle.flt_life_model.specs.Lives.{lists}
use Rattle.flt_lives.specs.Alone.{IsAlone, AreAlone, IsPlain}
use Rattle.flt_run.specs.declared.command.Command.{Command}
use Rattle.flt_run.specs.declared.command.Command.TheVariants.{Run, Check, Load}
use Rattle.flt_run.specs.Command.{plain_of}
use Rattle.flt_run.specs.Ending.{RunInside}
use Rattle.flt_run.specs.Scripted.{HasScript}

served_events : (dids : List DidUse) (numbers : List ℕ) → Serves dids (map load_event numbers)
served_events dids [] = All-nil _
served_events dids (number ∷ rest) = All-cons (λ (event : EventCfg). HasAll dids event.dids.items) (load_event number) (map load_event rest) (All-nil _) (served_events dids rest)

pub served_load : (dids : List DidUse) → Serves dids load_config.events.items
unfolding load_config
served_load dids = served_events dids (range_with_len 0 16)

alone_steps : (make : ℕ → Step) → ((number : ℕ) → IsPlain (action_of (make number))) → (numbers : List ℕ) → AreAlone (plain_parts (map make numbers))
alone_steps make plain [] = All-nil _
alone_steps make plain (number ∷ rest) = All-cons IsAlone (inl (make number)) (plain_parts (map make rest)) (plain number) (alone_steps make plain rest)

alone_lane : (count lane reports : ℕ) → AreAlone (plain_parts (load_lane count lane reports))
unfolding load_lane
alone_lane count lane reports =
    alone_steps (λ place. load_step lane (load_number count (place + 1))) (λ _. tt) (filter (λ place. place % 4 == lane) (range_with_len 0 reports))

alone_lanes : (count : ℕ) (numbers : List ℕ) → AreAlone (flat_map plain_parts (map (λ lane. load_lane count lane count) numbers))
alone_lanes count [] = All-nil _
alone_lanes count (lane ∷ rest) =
    All-append IsAlone (plain_parts (load_lane count lane count)) (flat_map plain_parts (map (λ lane. load_lane count lane count) rest)) (alone_lane count lane count) (alone_lanes count rest)

alone_load : (count : ℕ) → AreAlone (load_life count false)
alone_load count =
    All-cons IsAlone (inl (steps.Cycle 0)) (load_parts count false ++ inl steps.Save ∷ []) tt
    (All-append IsAlone (load_parts count false) (inl steps.Save ∷ []) (alone_lanes count (range_with_len 0 4)) (All-cons IsAlone (inl steps.Save) [] tt (All-nil _)))

of_lists : (lives : List (Vec Part Global)) → All AreAlone (lists lives) → All (λ (life : Vec Part Global). AreAlone (parts_of life.items)) lives
of_lists [] all = All-nil _
of_lists (life ∷ rest) all =
    All-cons (λ (l : Vec Part Global). AreAlone (parts_of l.items)) life rest (All-head AreAlone (parts_of life.items) (lists rest) all) (of_lists rest (All-tail AreAlone (parts_of life.items) (lists rest) all))

pub alone_lives : (count : ℕ) (lives : List (Vec Part Global)) → lists lives ≡ load_life count false ∷ shown_life ∷ [] → All (λ (life : Vec Part Global). AreAlone (parts_of life.items)) lives
alone_lives count lives is =
    of_lists lives (subst (All AreAlone) (sym is) (All-cons AreAlone (load_life count false) (shown_life ∷ []) (alone_load count) (All-cons AreAlone shown_life [] (alone_steps steps.Show (λ _. tt) (range_with_len 0 16)) (All-nil _))))

-- A command that needs no lock is no run, and no load in lanes.
never_run : (command : Option Command) → plain_of command ≡ Some Run → ⊥
never_run None is = absurd (cc (is))
never_run (Some Run) is = absurd (cc (is))
never_run (Some Check) is = absurd (cc (is))
never_run (Some (Load count true)) is = absurd (cc (is))
never_run (Some (Load count false)) is = absurd (cc (is))

never_in_lanes : (command : Option Command) (count : ℕ) → plain_of command ≡ Some (Load count true) → ⊥
never_in_lanes None count is = absurd (cc (is))
never_in_lanes (Some Run) count is = absurd (cc (is))
never_in_lanes (Some Check) count is = absurd (cc (is))
never_in_lanes (Some (Load other true)) count is = absurd (cc (is))
never_in_lanes (Some (Load other false)) count is = absurd (cc (is))

-- So its script has no block of lanes.
pub alone_plain : (dids : List DidUse) (inside : RunInside) (command : Option Command) (c : Command) (script : ScriptContent) (lives : List (Vec Part Global)) →
    plain_of command ≡ Some c → HasScript dids inside c script → lists lives ≡ script.lives → All (λ (life : Vec Part Global). AreAlone (parts_of life.items)) lives
alone_plain dids inside command Run script lives is has same = absurd (never_run command is)
alone_plain dids inside command Check script lives is has same = absurd has
alone_plain dids inside command (Load count true) script lives is has same = absurd (never_in_lanes command count is)
alone_plain dids inside command (Load count false) script lives is has same = alone_lives count lives (same ∙ ap (λ (s : ScriptContent). s.lives) has.1)
