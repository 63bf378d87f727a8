-- What reading a script came to.
use Rattle.std.specs.Prelude.{◌≡◌, ℕ, List, take, Option, IfSome, Ok, Err}
use Rattle.std.specs.Io.KnownBytes.{Consumes, IsAtEnd}
use Rattle.flt_io.specs.Fault.{Rose}
use Rattle.flt_config.specs.declared.config.DidUse.{DidUse}
use Rattle.flt_did.specs.Serves.{Serves}
use Rattle.flt_script.specs.declared.fault.ScriptFault.{ScriptFault}
use Rattle.flt_script.specs.Script.{ScriptContent, content, script_of}
use Rattle.flt_script.specs.declared.fetching.Fetched.{Fetched}
use Rattle.flt_script.specs.declared.fetching.Fetched.TheVariants.{Script, Refused, Failed, Memory}

-- What is read of the bytes that are left: all, or one more than a script may have.
unfoldable pub read_of : List ℕ → List ℕ
read_of left = take 1048577 left

-- The source lost what is read of its bytes, and no more.
abbrev pub HasLostRead : Option (List ℕ) → Option (List ℕ) → Type 0
HasLostRead left after = IfSome left (λ bytes. Consumes left after (read_of bytes))

-- The bytes are this script.
abbrev pub AreScript : List DidUse → Option (List ℕ) → ScriptContent → Type 0
AreScript dids left script = IfSome left (λ bytes. script_of dids (read_of bytes) ≡ Ok script)

-- The bytes are no script, by this fault.
abbrev pub AreNoScript : List DidUse → Option (List ℕ) → ScriptFault → Type 0
AreNoScript dids left fault = IfSome left (λ bytes. script_of dids (read_of bytes) ≡ Err fault)

-- The source was read to this, from what it had left and its count of faults to those after.
abbrev pub IsFetched : List DidUse → Option (List ℕ) → Option (List ℕ) → ℕ → ℕ → Fetched → Type 0
IsFetched dids left after faults faults_after (Script script) = IsAtEnd after × AreScript dids left (content script) × Serves dids script.config.events.items
IsFetched dids left after faults faults_after (Refused fault) = HasLostRead left after × AreNoScript dids left fault
IsFetched dids left after faults faults_after Failed = Rose faults faults_after
IsFetched dids left after faults faults_after Memory = Unit {0}
