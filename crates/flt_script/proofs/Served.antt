-- Each data identifier that an event uses is in the table, with its width.
use Rattle.std.proofs.Common.{◌≡◌, ℕ, zero, suc, List, [], ◌∷◌, ◌==◌, Bool, true, false, Option, Some, None, Result, Ok, Err, refl, sym, subst, ◌∙◌, arith}
use Rattle.std.specs.Prelude.{IfSome, IfOk, is_some, find, slice_get, option_to_list, All}
use Rattle.std.proofs.lemmas.List.Elements.{All-append, All-set}
use Rattle.flt_config.specs.declared.config.Config.{Config}
use Rattle.flt_config.specs.declared.config.CfgFault.{CfgFault}
use Rattle.flt_config.specs.declared.config.Debounce.{Debounce}
use Rattle.flt_config.specs.declared.config.DidUse.{DidUse}
use Rattle.flt_config.specs.declared.config.EventCfg.{EventCfg}
use Rattle.flt_config.specs.Check.{check_of}
use Rattle.flt_did.specs.Rows.{is_did}
use Rattle.flt_did.specs.Serves.{HasAll, Serves}
use Rattle.flt_script.specs.declared.event.EventLine.{EventLine}
use Rattle.flt_script.specs.declared.fault.ParseFault.{ParseFault}
use Rattle.flt_script.specs.Said.{Line}
use Rattle.flt_script.specs.Said as line
use Rattle.flt_script.specs.declared.script.Script.{Script}
use Rattle.flt_script.specs.Behind.{Behind, added_line, behind, with_use, with_use_at}
use Rattle.flt_script.specs.Event.{event_held, debounce_held}
use Rattle.flt_script.specs.Gives.{◌⇒◌, IsAsDefined}
use Rattle.flt_script.specs.Numeral.{up_to}
use Rattle.flt_script.specs.Script.{ScriptContent, ended, content, fault_of}
use Rattle.flt_script.proofs.Checked.{same_config}
use Rattle.flt_script.proofs.Dids.{found_again}

-- What holds of each element holds of one that is looked up.
at_place_of : {X : Type 0} (P : X → Type 0) (xs : List X) (i : ℕ) (x : X) → All P xs → slice_get xs i ≡ Some x → P x
at_place_of P [] i x all e = absurd cc
at_place_of P (first ∷ xs) zero x all e = let same : first ≡ x = cc in subst P same (all 0 first (omega arith))
at_place_of P (first ∷ xs) (suc i) x all e = at_place_of P xs i x (λ k d within. all (suc k) d (omega (arith, within))) e

all-nil : {X : Type 0} (P : X → Type 0) → All P []
all-nil P = λ k d within. absurd (omega (arith, within))

all-one : {X : Type 0} (P : X → Type 0) (x : X) → P x → All P (x ∷ [])
all-one P x p zero d within = p
all-one P x p (suc k) d within = absurd (omega (arith, within))

-- The table has a data identifier with its width, and those of an event.
abbrev IsServed : List DidUse → DidUse → Type 0
IsServed dids did = find (is_did did.id) dids ≡ Some did

abbrev AreServed : List DidUse → EventCfg → Type 0
AreServed dids event = HasAll dids event.dids.items

-- One more use of one event.
module _ (dids : List DidUse) (id : ℕ) where
  used : (found : Option DidUse) → find (is_did id) dids ≡ found → HasAll dids (option_to_list found)
  used None e = all-nil (IsServed dids)
  used (Some did) e = all-one (IsServed dids) did (found_again id dids did e)

  serves-with_use_at : (events : List EventCfg) (number : ℕ) (event : Option EventCfg) → slice_get events number ≡ event → Serves dids events
      → Serves dids (with_use_at number (find (is_did id) dids) events)
  serves-with_use_at events number None e all = rw e all
  serves-with_use_at events number (Some event) e all =
      let has = at_place_of (AreServed dids) events number event all e in
      let more = All-append (IsServed dids) event.dids.items (option_to_list (find (is_did id) dids)) has (used (find (is_did id) dids) refl) in
      rw e (All-set (AreServed dids) events number (with_use (find (is_did id) dids) event) more all)

abbrev UsesNone : EventCfg → Type 0
UsesNone event = event.dids.items ≡ []

-- An event line uses none.
made_of : (dtc : ℕ) (p c f h a l n : Option ℕ) (d : Option Debounce) → IfSome (
    p ⇒ λ priority. c ⇒ λ cycle. f ⇒ λ confirm. h ⇒ λ heal. a ⇒ λ age. l ⇒ λ lamp. n ⇒ λ needs. d ⇒ λ debounce. Some (record {
      dtc = dtc;
      priority = priority;
      cycle = cycle;
      confirm = confirm;
      heal = heal;
      age = age;
      indicator = lamp == 1;
      needs = needs;
      debounce = debounce;
      dids = record { items = [] };
    })) UsesNone
made_of dtc None c f h a l n d = tt
made_of dtc (Some priority) None f h a l n d = tt
made_of dtc (Some priority) (Some cycle) None h a l n d = tt
made_of dtc (Some priority) (Some cycle) (Some confirm) None a l n d = tt
made_of dtc (Some priority) (Some cycle) (Some confirm) (Some heal) None l n d = tt
made_of dtc (Some priority) (Some cycle) (Some confirm) (Some heal) (Some age) None n d = tt
made_of dtc (Some priority) (Some cycle) (Some confirm) (Some heal) (Some age) (Some lamp) None d = tt
made_of dtc (Some priority) (Some cycle) (Some confirm) (Some heal) (Some age) (Some lamp) (Some needs) None = tt
made_of dtc (Some priority) (Some cycle) (Some confirm) (Some heal) (Some age) (Some lamp) (Some needs) (Some debounce) = refl

event_uses_none : (event : EventLine) → IfSome (event_held event) UsesNone
unfolding event_held
event_uses_none event = made_of event.dtc (up_to 255 event.numbers.priority) (up_to 255 event.numbers.cycle) (up_to 255 event.numbers.confirm)
    (up_to 255 event.numbers.heal) (up_to 255 event.numbers.age) (up_to 1 event.numbers.lamp) (up_to 255 event.numbers.needs)
    (debounce_held event.debounce)

serves_new : (dids : List DidUse) (held : Option EventCfg) → IfSome held UsesNone → Serves dids (option_to_list held)
serves_new dids None none = all-nil (AreServed dids)
serves_new dids (Some event) none = all-one (AreServed dids) event (rw none (all-nil (IsServed dids)))

-- What the lines configure.
serves : (dids : List DidUse) (past : List Line) → Serves dids (behind dids past).config.events.items
unfolding added_line
serves dids [] = all-nil (AreServed dids)
serves dids (line.Skipped ∷ past) = serves dids past
serves dids (line.Config id ∷ past) = serves dids past
serves dids (line.Memory entries ∷ past) = serves dids past
serves dids (line.Blocks blocks ∷ past) = serves dids past
serves dids (line.Flash sectors pages ∷ past) = serves dids past
serves dids (line.Event event ∷ past) =
    All-append (AreServed dids) (behind dids past).config.events.items (option_to_list (event_held event)) (serves dids past) (serves_new dids (event_held event) (event_uses_none event))
serves dids (line.Did event id ∷ past) =
    let events = (behind dids past).config.events.items in
    serves-with_use_at dids id events event (slice_get events event) refl (serves dids past)
serves dids (line.Step step ∷ past) = serves dids past
serves dids (line.Power ∷ past) = serves dids past
serves dids (line.Par ∷ past) = serves dids past
serves dids (line.Lane ∷ past) = serves dids past
serves dids (line.End ∷ past) = serves dids past

-- What is accepted is what the lines configure.
ended_config : (last : ℕ) (b : Behind) (under_way : Bool) (checked : Result Config CfgFault) (given : ScriptContent) → is_some b.block ≡ under_way → check_of b.config ≡ checked
    → ended last b ≡ Ok given → given.config ≡ b.config
unfolding ended
ended_config last b true checked given under_way e is = let known = rw under_way at is in absurd cc
ended_config last b false (Ok config) given under_way e is =
    let known = rw (under_way, e) at is in
    let same : config ≡ given.config = cc in
    sym same ∙ same_config b.config config e
ended_config last b false (Err fault) given under_way e is = let known = rw (under_way, e) at is in absurd cc

pub served : (dids : List DidUse) (last : ℕ) (b : Behind) (lines : List Line) (result : Result Script ParseFault) → b ≡ behind dids lines
    → IsAsDefined content fault_of result (ended last b) → IfOk result (λ script. Serves dids script.config.events.items)
served dids last b lines (Err fault) stands given = tt
served dids last b lines (Ok script) stands given =
    rw (ended_config last b (is_some b.block) (check_of b.config) (content script) refl refl given, stands) (serves dids lines)
