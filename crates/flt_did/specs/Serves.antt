-- Whether a table has what is used of it.
use Rattle.std.specs.Prelude.{◌≡◌, List, find, Some, All}
use Rattle.flt_config.specs.declared.config.DidUse.{DidUse}
use Rattle.flt_config.specs.declared.config.EventCfg.{EventCfg}
use Rattle.flt_did.specs.Rows.{is_did}

-- Each use is among the data identifiers, with its width.
abbrev pub HasAll : List DidUse → List DidUse → Type 0
HasAll dids uses = All (λ did. find (is_did did.id) dids ≡ Some did) uses

-- So is each use of each event.
abbrev pub Serves : List DidUse → List EventCfg → Type 0
Serves dids events = All (λ event. HasAll dids event.dids.items) events
