-- What a watch leaves: its status, with its cause; what was written; and what is handed out.
use Rattle.std.specs.Prelude.{◌≡◌, ◌⊎◌, ℕ, List, [], ◌∷◌, Ok, Err, IsTrue, IsFalse, Result}
use Rattle.std.specs.Io.KnownBytes.{Appends, IsAtEnd}
use Rattle.flt_io.specs.Fault.{Rose}
use Rattle.flt_config.specs.declared.config.DidUse.{DidUse}
use Rattle.flt_config.specs.Durable.{initial_state}
use Rattle.flt_script.specs.declared.fault.ScriptFault.{ScriptFault}
use Rattle.flt_shared.specs.State.{IsNoState}
use Rattle.flt_step.specs.declared.step.Step.{Step}
use Rattle.flt_step.specs.Part.{PartOf}
use Rattle.flt_script.specs.Script.{ScriptContent}
use Rattle.flt_life_model.specs.declared.life.Boot.TheVariants.{Started}
use Rattle.flt_notify.specs.Table.{kinds_in, value_of_kind, values_in}
use Rattle.flt_filter.specs.Verdict.{Due, Inside, IsTold, Outside}
use Rattle.flt_script.specs.Fault.{script_fault_line, unread_line}
use Rattle.flt_script.specs.Fetched.{AreNoScript, AreScript, HasLostRead}
use Rattle.flt_io.specs.declared.stream.StreamFault.{StreamFault}
use Rattle.flt_io.specs.declared.stream.StreamFault.TheVariants.{Memory, Failed}
use Rattle.flt_watch.specs.Asked.{is_watchable}
use Rattle.flt_watch.specs.Text.{other_line, watch_text}
use Rattle.flt_watch.specs.Watched.{IsWatched}
use Rattle.flt_watch.specs.declared.watching.WatchOutcome.{WatchOutcome}

-- The status, by whether the text was written with which this one is due.
abbrev pub status_written : {T : Type 0} → ℕ → Result T StreamFault → ℕ
status_written status (Ok done) = status
status_written status (Err Failed) = 4
status_written status (Err Memory) = 7

-- A status is due, with this text.
abbrev pub due : ℕ → List ℕ → Due
due status text = record { status = status; text = text }

module _ {F : _} {g : _} where
  -- No life was made, and the subscribers are those that were given, with their values.
  pub record IsUnmade (kinds values : List ℕ) (outcome : WatchOutcome F g) : Type 0 where
    pub base : IsNoState outcome.base
    pub journal : outcome.journal.items ≡ []
    pub answers : outcome.answers.items ≡ []
    pub kinds_are : kinds_in outcome.subs ≡ kinds
    pub values_are : values_in outcome.subs ≡ values

  -- Memory ran out: what the sink held is still there, with some bytes after it, if any; nothing is said of the state and of the subscribers.
  pub record WantsMemory (writing : Outside) (outcome : WatchOutcome F g) : Type 0 where
    pub status_is : outcome.status ≡ 7
    pub journal : outcome.journal.items ≡ []
    pub answers : outcome.answers.items ≡ []
    pub kept : (bytes : List ℕ) × Appends writing.held writing.held_after bytes

  -- No life was made, and this text was written in place of it.
  pub record IsTurnedAway (writing : Outside) (answer : Due) (kinds values : List ℕ) (outcome : WatchOutcome F g) : Type 0 where
    pub told : IsTold writing answer outcome.status
    pub unmade : IsUnmade kinds values outcome

  -- The one life of this script was made and reported, on a lock over the watched machine.
  pub record IsMadeOf (writing : Outside) (script : ScriptContent) (kinds : List ℕ) (outcome : WatchOutcome F g) : Type 0 where
    pub parts : List (PartOf Step)
    pub one : script.lives ≡ parts ∷ []
    pub base : outcome.base ≡ initial_state script.config
    pub life : IsWatched script.config parts outcome.journal.items outcome.answers.items outcome.subs
    pub kinds_are : kinds_in outcome.subs ≡ kinds
    pub told : IsTold writing (due 0 (watch_text parts (Started 0 outcome.base) outcome.answers.items (value_of_kind outcome.subs))) outcome.status

  -- The bytes are a script that a watch makes, and it was made.
  pub record IsMade (dids : List DidUse) (reading : Inside) (writing : Outside) (kinds : List ℕ) (outcome : WatchOutcome F g) : Type 0 where
    pub script : ScriptContent
    pub is : AreScript dids reading.left script
    pub watchable : IsTrue (is_watchable script)
    pub end : IsAtEnd reading.left_after
    pub made : IsMadeOf writing script kinds outcome

  -- The bytes are a script that a watch does not make: it has a second life, or a step of another kind.
  pub record IsOther (dids : List DidUse) (reading : Inside) (writing : Outside) (kinds values : List ℕ) (outcome : WatchOutcome F g) : Type 0 where
    pub script : ScriptContent
    pub is : AreScript dids reading.left script
    pub other : IsFalse (is_watchable script)
    pub end : IsAtEnd reading.left_after
    pub told : IsTurnedAway writing (due 2 other_line) kinds values outcome

  -- The bytes are no script, by this fault.
  pub record IsRefused (dids : List DidUse) (reading : Inside) (writing : Outside) (kinds values : List ℕ) (outcome : WatchOutcome F g) : Type 0 where
    pub fault : ScriptFault
    pub none : AreNoScript dids reading.left fault
    pub lost : HasLostRead reading.left reading.left_after
    pub told : IsTurnedAway writing (due 2 (script_fault_line fault)) kinds values outcome

  -- The source failed.
  pub record IsUnread (reading : Inside) (writing : Outside) (kinds values : List ℕ) (outcome : WatchOutcome F g) : Type 0 where
    pub rose : Rose reading.faults reading.faults_after
    pub told : IsTurnedAway writing (due 3 unread_line) kinds values outcome

  -- What a watch does: one of these five, so that its status is 0, 2, 3, 4 or 7.
  abbrev pub Watches : List DidUse → Inside → Outside → List ℕ → List ℕ → WatchOutcome F g → Type 0
  Watches dids reading writing kinds values outcome =
      IsMade dids reading writing kinds outcome
      ⊎ (IsOther dids reading writing kinds values outcome
      ⊎ (IsRefused dids reading writing kinds values outcome
      ⊎ (IsUnread reading writing kinds values outcome
      ⊎ WantsMemory writing outcome)))
