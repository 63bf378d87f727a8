-- How a session ends, with its cause: its lives, what is written, and which status says so.
use Rattle.std.specs.Prelude.{◌≡◌, ◌≤◌, ◌⊎◌, ℕ, List, [], ◌∷◌, ◌++◌, Bool, true, false, codes, Option, Some, None, Result, Ok, Err, if◌then◌else◌}
use Rattle.std.specs.Str.{bytes_eq}
use Rattle.std.specs.Io.KnownBytes.{Appends, IsAtEnd}
use Rattle.flt_config.specs.declared.config.Config.{Config}
use Rattle.flt_config.specs.declared.config.DidUse.{DidUse}
use Rattle.flt_file.specs.declared.opening.OpenFault.{OpenFault}
use Rattle.flt_file.specs.declared.opening.OpenFault.TheVariants as shelves
use Rattle.flt_io.specs.Fault.{Rose}
use Rattle.flt_io.specs.Sink.{AppendsFront}
use Rattle.flt_io.specs.declared.stream.StreamFault.{StreamFault}
use Rattle.flt_io.specs.declared.stream.StreamFault.TheVariants as streams
use Rattle.flt_script.specs.Fault.{script_fault_line, unread_line}
use Rattle.flt_script.specs.Fetched.{AreNoScript, AreScript, HasLostRead}
use Rattle.flt_script.specs.Script.{ScriptContent}
use Rattle.flt_script.specs.declared.fault.ScriptFault.{ScriptFault}
use Rattle.flt_step.specs.declared.step.Step.{Step}
use Rattle.flt_step.specs.Part.{PartOf}
use Rattle.flt_life_model.specs.declared.life.Boot.{Boot}
use Rattle.flt_life_model.specs.Statuses.{status_by}
use Rattle.flt_live.specs.declared.living.LifeEnd.{LifeEnd}
use Rattle.flt_live.specs.declared.living.LifeEnd.TheVariants as lives
use Rattle.flt_live.specs.declared.session.End.{End}
use Rattle.flt_live.specs.declared.session.End.TheVariants as ends
use Rattle.flt_live.specs.Heard.{Talk}
use Rattle.flt_live.specs.Lived.{IfLost}
use Rattle.flt_live.specs.Span.{AreSpans, LivesPassed}

-- The bytes of the configuration that are left, before and after it was read, and how often its source failed.
pub record Reading : Type 0 where
  -- The bytes that were left before.
  pub left : Option (List ℕ)
  -- The bytes that are left afterwards.
  pub left_after : Option (List ℕ)
  -- How often the source had failed before.
  pub faults : ℕ
  -- How often it has failed afterwards.
  pub faults_after : ℕ

abbrev pub reading : (left left_after : Option (List ℕ)) (faults faults_after : ℕ) → Reading
reading left left_after faults faults_after = record { left = left; left_after = left_after; faults = faults; faults_after = faults_after }

-- How a session ends whose sink did not fail, and whose memory did not run out.
pub data SessionEnd : Type 0 where
  -- The configuration could not be read, is refused, or does something.
  Unreadable : SessionEnd
  Refused : ScriptFault → SessionEnd
  Other : SessionEnd
  -- The flash of a life was not given.
  Closed : OpenFault → SessionEnd
  -- The source of the lines failed.
  Unread : SessionEnd
  -- The source ended, or a life was refused; the last life began so.
  Ended : Boot → SessionEnd

-- The status of a flash that was not given.
abbrev pub status_of_shelf : OpenFault → ℕ
status_of_shelf (shelves.Size found needed) = 14
status_of_shelf shelves.InUse = 15
status_of_shelf shelves.Memory = 7
status_of_shelf _ = 16

-- The status that is due.
abbrev pub status_due : SessionEnd → ℕ
status_due Unreadable = 3
status_due (Refused fault) = 2
status_due Other = 2
status_due (Closed fault) = status_of_shelf fault
status_due Unread = 3
status_due (Ended boot) = status_by boot

-- A script with these lives does nothing: there is one, without a step.
abbrev pub AreIdleLives : List (List (PartOf Step)) → Type 0
AreIdleLives lives = lives ≡ [] ∷ []

-- The source of the lines failed in the last of these lives.
pub record SourceFailed (tells : Bool) (c : Config) (before after : Talk) : Type 0 where
  -- How the last life began.
  pub boot : Boot
  -- The lives were lived, and the last one could not read on.
  pub lived : AreSpans tells c before after boot lives.Unread
  -- The source failed.
  pub rose : Rose before.read_faults after.read_faults

-- Lives were lived, and the flash of the next one was not given, of which bytes were written.
pub record IsClosed (tells : Bool) (c : Config) (before after : Talk) : Type 0 where
  -- Where the last life ended.
  pub between : Talk
  -- The lives until then were lived, each ended by a `power`.
  pub lived : LivesPassed tells c before between
  -- Nothing more was read.
  pub ahead : after.ahead ≡ between.ahead
  -- What was written of the flash that was not given.
  pub text : List ℕ
  -- It was written after the lines of the lives.
  pub written : Appends between.held after.held text

abbrev pub other_script_line : List ℕ
other_script_line = codes "script other" ++ 10 ∷ []

-- Why a session ends so whose configuration is this script, and what was written.
abbrev pub IsEndOf : Bool → ScriptContent → (before after : Talk) → SessionEnd → Type 0
IsEndOf tells script before after Unreadable = ⊥
IsEndOf tells script before after (Refused fault) = ⊥
IsEndOf tells script before after Other = ¬ AreIdleLives script.lives × Appends before.held after.held other_script_line
IsEndOf tells script before after (Closed fault) = AreIdleLives script.lives × IsClosed tells script.config before after
IsEndOf tells script before after Unread = AreIdleLives script.lives × SourceFailed tells script.config before after
IsEndOf tells script before after (Ended boot) = AreIdleLives script.lives × AreSpans tells script.config before after boot lives.Ended

-- Memory ran out, or the sink failed.
abbrev pub IsLostBy : (before after : Talk) → ℕ → Type 0
IsLostBy before after status = (status ≡ 7) ⊎ ((status ≡ 4) × Rose before.write_faults after.write_faults)

-- The last of these lives was cut short: those before it are whole, and a front of its lines was written.
pub record IsCutInALife (tells : Bool) (c : Config) (before after : Talk) : Type 0 where
  -- How the last life began.
  pub boot : Boot
  -- Why it ended.
  pub end : LifeEnd
  -- It was lost, by a fault of the sink or for memory.
  pub lost : IfLost end (Unit {0})
  -- The lives were lived up to there.
  pub lived : AreSpans tells c before after boot end

-- What was written in a session that was cut off: lives; or a front of the line that refuses a script that does something.
abbrev pub IsCutBy : Bool → ScriptContent → (before after : Talk) → Type 0
IsCutBy tells script before after =
    IsCutInALife tells script.config before after ⊎ IsClosed tells script.config before after ⊎ AppendsFront before.held after.held other_script_line

-- An end of this cause, with its status; or the session was cut off.
pub record IsSessionEnded (Cause : SessionEnd → Type 0) (status : ℕ) : Type 0 where
  -- How the session ended.
  pub end : SessionEnd
  -- That has its cause.
  pub cause : Cause end
  -- The status is the one that is due for it.
  pub status_is : status ≡ status_due end

abbrev pub EndsFor : (SessionEnd → Type 0) → Type 0 → (before after : Talk) → ℕ → Type 0
EndsFor Cause Cut before after status = IsSessionEnded Cause status ⊎ (IsLostBy before after status × Cut)

-- The bytes of the configuration are a script, of which this holds.
abbrev pub IfScript : List DidUse → Reading → (ScriptContent → Type 0) → Type 0
IfScript dids config fact = (script : ScriptContent) × IsAtEnd config.left_after × AreScript dids config.left script × fact script

-- Why a session ends so, and what was written.
abbrev pub SessionHasCause : Bool → List DidUse → Reading → (before after : Talk) → SessionEnd → Type 0
SessionHasCause tells dids config before after Unreadable = Rose config.faults config.faults_after × Appends before.held after.held unread_line
SessionHasCause tells dids config before after (Refused fault) = HasLostRead config.left config.left_after × AreNoScript dids config.left fault
    × Appends before.held after.held (script_fault_line fault)
SessionHasCause tells dids config before after Other = IfScript dids config (λ script. IsEndOf tells script before after Other)
SessionHasCause tells dids config before after (Closed fault) = IfScript dids config (λ script. IsEndOf tells script before after (Closed fault))
SessionHasCause tells dids config before after Unread = IfScript dids config (λ script. IsEndOf tells script before after Unread)
SessionHasCause tells dids config before after (Ended boot) = IfScript dids config (λ script. IsEndOf tells script before after (Ended boot))

-- What was written in a session that was cut off: a front of the line that says why no life began, or what is written with a script.
abbrev pub IsCutWith : Bool → List DidUse → Reading → (before after : Talk) → Type 0
IsCutWith tells dids config before after =
    AppendsFront before.held after.held unread_line
    ⊎ ((fault : ScriptFault) × AppendsFront before.held after.held (script_fault_line fault))
    ⊎ IfScript dids config (λ script. IsCutBy tells script before after)

-- A session by its configuration.
abbrev pub IsSession : Bool → List DidUse → Reading → (before after : Talk) → ℕ → Type 0
IsSession tells dids config before after status =
    EndsFor (SessionHasCause tells dids config before after) (IsCutWith tells dids config before after) before after status

-- Why lives ended for something else than the end of the source.
abbrev pub HasFailed : Bool → Config → (before after : Talk) → End → Type 0
HasFailed tells c before after ends.Unread = SourceFailed tells c before after
HasFailed tells c before after ends.Unwritten = Rose before.write_faults after.write_faults × IsCutInALife tells c before after
HasFailed tells c before after ends.Memory = IsCutInALife tells c before after ⊎ LivesPassed tells c before after
HasFailed tells c before after (ends.Shelf fault) = LivesPassed tells c before after × (before.write_faults ≤ after.write_faults)

-- The status where a line was written or not.
abbrev pub status_told : {T : Type 0} → ℕ → Result T StreamFault → ℕ
status_told status (Ok told) = status
status_told status (Err streams.Failed) = 4
status_told status (Err streams.Memory) = 7

-- Whether the words after the program's name ask for a session: `live`, a configuration, and an image if there is one. Without an image
-- the flash is in memory, which reveals what it keeps.
abbrev pub session_in : List (List ℕ) → Option Bool
session_in [] = None
session_in (word ∷ []) = None
session_in (word ∷ config ∷ []) = if bytes_eq word (codes "live") then Some true else None
session_in (word ∷ config ∷ image ∷ []) = if bytes_eq word (codes "live") then Some false else None
session_in (word ∷ config ∷ image ∷ next ∷ more) = None

abbrev pub usage_line : List ℕ
usage_line = codes "usage: faultmem live CONFIG [IMAGE]" ++ 10 ∷ []

-- This text was written and this status given, or the sink failed.
abbrev pub IsLine : List ℕ → ℕ → (before after : Talk) → ℕ → Type 0
IsLine line due before after status = ((status ≡ due) × Appends before.held after.held line) ⊎ ((status ≡ 4) × Rose before.write_faults after.write_faults)

-- How the program ends, by whether its words ask for a session: the file of the configuration could not be opened; or it was opened, and
-- a session was held with what it gave.
abbrev pub IsProgram : List DidUse → Option Bool → (before after : Talk) → ℕ → Type 0
IsProgram dids None before after status = IsLine usage_line 1 before after status
IsProgram dids (Some tells) before after status =
    (IsLine unread_line 3 before after status ⊎ (status ≡ 7)) ⊎ ((config : Reading) × IsSession tells dids config before after status)
