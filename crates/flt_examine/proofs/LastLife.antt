-- The last life of a run over a blank flash whose streams do not fail.
use Rattle.std.proofs.Common.{◌≡◌, ◌≢◌, ◌⊎◌, inl, inr, ℕ, ◌<◌, ◌≤◌, Bool, true, false, List, [], ◌∷◌, ◌++◌, Option, Some, None, Ok, length, reverse, arith, refl, sym, ap, subst, ◌∙◌}
use Rattle.std.specs.Prelude.{IfSome, nat_lt}
use Rattle.std.specs.List.{list_all}
use Rattle.std.proofs.lemmas.Bool.{and_parts, ltb-false}
use Rattle.std.proofs.lemmas.List.{length-take, reverse-append, reverse-reverse, take_all}
use Rattle.std.proofs.lemmas.List.Elements.{All-head}
use Rattle.flt_io.specs.Fault.{Rose}
use Rattle.flt_flash.specs.Content.{Content, missing, invalid}
use Rattle.flt_flash.specs.Content as content
use Rattle.flt_flash.specs.Blocks.{device_of}
use Rattle.flt_flash.specs.Memory.{flash_state}
use Rattle.flt_flash.specs.State.{PowerUp}
use Rattle.flt_flash.specs.declared.arm.ArmMade.{ArmMade}
use Rattle.flt_flash.specs.declared.memory.FlashMem.{FlashMem}
use Rattle.flt_config.proofs.InitialFits.{initial_fits}
use Rattle.flt_config.specs.Durable.{Fits}
use Rattle.flt_config.specs.declared.config.Config.{Config}
use Rattle.flt_config.specs.declared.config.DidUse.{DidUse}
use Rattle.flt_config.specs.declared.persist.Persist.{Persist}
use Rattle.flt_store_model.specs.Holding.{Generation, Names}
use Rattle.flt_store_model.specs.Laws.{IsGiven}
use Rattle.flt_store_model.proofs.ImageLaws.{held_stands, spare_stands}
use Rattle.flt_step.specs.Part.{PartOf}
use Rattle.flt_script.specs.Script.{ScriptContent, script_of}
use Rattle.flt_step.specs.Step.{are_parts_in}
use Rattle.flt_step.specs.declared.step.Step.{Step}
use Rattle.flt_model.specs.declared.call.Op.{Op}
use Rattle.flt_queue.specs.declared.job.QueueOp.{QueueOp}
use Rattle.flt_turn.specs.declared.vault.Entry.{Entry}
use Rattle.flt_life_model.specs.declared.life.Boot.{Boot}
use Rattle.flt_life_model.specs.declared.life.Boot.TheVariants.{Started, Dark, Refused}
use Rattle.flt_restore.specs.declared.fault.StartFault.TheVariants as faults
use Rattle.flt_life_model.specs.declared.life.Life.{Life}
use Rattle.flt_life_model.specs.Chain.{AreLinked, IsFound, IsLifeBegunBy, IsLifeBetween, LifeView, start_from}
use Rattle.flt_life_model.specs.Lives.{ArePlayed, AreEnded, IsLinked, lanes_told, lives_seen, own_told, view_of, views_of}
use Rattle.flt_life_model.specs.Moment.{Medium, Moment, moment_at}
use Rattle.flt_life_model.specs.Played.{IsLife, IsPlayed, IsPlayedBy}
use Rattle.flt_life_model.specs.Statuses.{status_by, status_of_lives}
use Rattle.flt_lives.specs.Media.{sectors}
use Rattle.flt_store.specs.Store.{numbered}
use Rattle.flt_script.specs.Fetched.{read_of}
use Rattle.flt_run.specs.Ending.{AreLived, EndingHasCause, RunInside, IsRunTold, IsRunToldOf, WorksOn, lives_of, ending_status}
use Rattle.flt_run.specs.declared.command.Command.TheVariants.{Run}
use Rattle.flt_run.specs.declared.running.Outcome.{Outcome}
use Rattle.flt_trace.specs.Laws.{IsLifeInRange}
use Rattle.flt_examine.specs.Lines.{IsNoScript, LastStarts}
use Rattle.flt_examine.specs.Traced.{RunsOnBlank, blank_flash, inside_on, no_outside}

-- ---- what a run came to

never_rose : Rose 0 0 → ⊥
never_rose rose = absurd (omega (arith, rose))

-- The lives of a script were made, and the status is that of its lives.
pub record HasRun (dids : List DidUse) (bytes : List ℕ) (outcome : Outcome FlashMem) (script : ScriptContent) : Type 0 where
  pub given : IsGiven script.config
  pub is : script_of dids (read_of bytes) ≡ Ok script
  pub lived : AreLived sectors script blank_flash (flash_state outcome.device) outcome.lives.items
  pub status : outcome.status ≡ status_of_lives (lives_seen script.lives outcome.lives.items)

-- Or the bytes are no script.
abbrev pub ComesTo : List DidUse → List ℕ → Outcome FlashMem → Type 0
ComesTo dids bytes outcome =
    ((script : ScriptContent) × HasRun dids bytes outcome script)
    ⊎ ((outcome.status ≢ 0) × ((script : ScriptContent) → script_of dids (read_of bytes) ≡ Ok script → ⊥))

module _ (dids : List DidUse) (bytes : List ℕ) (left : Option (List ℕ)) (outcome : Outcome FlashMem) where
  abbrev inside : RunInside
  inside = inside_on bytes left outcome.device

  -- Where a script was worked on, its lives were made.
  script_lived : (script : ScriptContent) (e : _) → EndingHasCause dids inside (Some Run) (Some script) e
      → AreLived sectors script blank_flash (flash_state outcome.device) (lives_of e)
  script_lived script e cause = grind arith

  script_status : (script : ScriptContent) (e : _) → EndingHasCause dids inside (Some Run) (Some script) e
      → ending_status e ≡ status_of_lives (lives_seen script.lives (lives_of e))
  script_status script e cause = grind arith

  -- Where none was, the bytes are none.
  none_status : (e : _) → EndingHasCause dids inside (Some Run) None e → ending_status e ≡ 0 → ⊥
  none_status e cause zero = grind arith

  none_read : (e : _) → EndingHasCause dids inside (Some Run) None e → (script : ScriptContent) → script_of dids (read_of bytes) ≡ Ok script → ⊥
  none_read e cause script is = grind arith

  status_told : (e : _) → IsRunTold no_outside e outcome.status → outcome.status ≡ ending_status e
  status_told e (inl told) = told.0
  status_told e (inr failed) = absurd (never_rose failed.1)

  by_ending : (script : Option ScriptContent) (e : _) → WorksOn dids inside (Some Run) script → EndingHasCause dids inside (Some Run) script e
      → outcome.status ≡ ending_status e → outcome.lives.items ≡ lives_of e → ComesTo dids bytes outcome
  by_ending None e works cause status lives = inr (λ zero. none_status e cause (sym status ∙ zero), none_read e cause)
  by_ending (Some script) e works cause status lives =
      inl (
        script,
        record {
          given = works.0;
          is = works.1;
          lived = subst (AreLived sectors script blank_flash (flash_state outcome.device)) (sym lives) (script_lived script e cause);
          status = status ∙ script_status script e cause ∙ ap (λ (l : List Life). status_of_lives (lives_seen script.lives l)) (sym lives);
        },
      )

  by_told : (script : Option ScriptContent) (ending : Option _) → outcome.status ≢ 7 → WorksOn dids inside (Some Run) script
      → IfSome ending (EndingHasCause dids inside (Some Run) script) → IsRunToldOf no_outside outcome.status outcome.lives.items ending → ComesTo dids bytes outcome
  by_told script None memory works cause told = absurd (memory told.0.told)
  by_told script (Some e) memory works cause (inl wants) = absurd (memory wants.0.told)
  by_told script (Some e) memory works cause (inr told) = by_ending script e works cause (status_told e told.0) told.1

pub comes_to : (dids : List DidUse) (bytes : List ℕ) (outcome : Outcome FlashMem) → RunsOnBlank dids bytes outcome → ComesTo dids bytes outcome
comes_to dids bytes outcome run = by_told dids bytes run.left outcome run.runs.script run.runs.ending run.memory run.runs.works run.runs.ends run.runs.told

-- ---- the bytes of a script are all read

short_by : (dids : List DidUse) (text : List ℕ) (script : ScriptContent) (b : Bool) → nat_lt 1048576 (length text) ≡ b → script_of dids text ≡ Ok script → length text ≤ 1048576
unfolding script_of
short_by dids text script true large is = let refused = rw large at is in absurd (cc refused)
short_by dids text script false large is = ltb-false 1048576 (length text) large

short : (dids : List DidUse) (text : List ℕ) (script : ScriptContent) → script_of dids text ≡ Ok script → length text ≤ 1048576
short dids text script is = short_by dids text script (nat_lt 1048576 (length text)) refl is

all_read : (bytes : List ℕ) → length (read_of bytes) ≤ 1048576 → read_of bytes ≡ bytes
unfolding read_of
all_read bytes few = take_all 1048577 bytes (let size = length-take 1048577 bytes in omega (arith, few, size))

within_read : (bytes : List ℕ) → length bytes ≤ 1048576 → read_of bytes ≡ bytes
unfolding read_of
within_read bytes few = take_all 1048577 bytes (omega (arith, few))

-- Bytes that are no script do not end a run with the status 0.
pub refused_is_told : (dids : List DidUse) (bytes : List ℕ) (outcome : Outcome FlashMem) → IsNoScript dids bytes → RunsOnBlank dids bytes outcome → outcome.status ≢ 0
refused_is_told dids bytes outcome none run = elim (comes_to dids bytes outcome run) [
  | inl ran ↦
      let is = ran.1.is in
      let all = all_read bytes (short dids (read_of bytes) ran.0 is) in
      absurd (none ran.0 (ap (script_of dids) (sym all) ∙ is))
  | inr refused ↦ refused.0
]

-- The run of a script that was read is one of it.
pub has_run : (dids : List DidUse) (bytes : List ℕ) (outcome : Outcome FlashMem) (script : ScriptContent) → script_of dids bytes ≡ Ok script → RunsOnBlank dids bytes outcome → HasRun dids bytes outcome script
has_run dids bytes outcome script is run =
    let all = within_read bytes (short dids bytes script is) in
    elim (comes_to dids bytes outcome run) [
      | inl ran ↦
          let both : Ok ran.0 ≡ Ok script = sym ran.1.is ∙ ap (script_of dids) all ∙ is in
          let same : ran.0 ≡ script = cc in
          subst (HasRun dids bytes outcome) same ran.1
      | inr refused ↦ absurd (refused.1 script (ap (script_of dids) all ∙ is))
    ]

-- ---- the last of some lives

-- The view of the last, by the parts of its life, which are in their ranges.
pub record LastView (c : Config) (script : List (List (PartOf Step))) (earlier : List Life) (life : Life) : Type 0 where
  pub parts : List (PartOf Step)
  pub within : are_parts_in c parts ≡ true
  pub front : List LifeView
  pub views : views_of script (earlier ++ life ∷ []) ≡ front ++ view_of parts life ∷ []

last_view : (c : Config) (script : List (List (PartOf Step))) (earlier : List Life) (life : Life) → list_all (are_parts_in c) script ≡ true → LastView c script earlier life
last_view c [] [] life all = record { parts = []; within = refl; front = []; views = refl }
last_view c (parts ∷ script) [] life all =
    let here = and_parts (are_parts_in c parts) (list_all (are_parts_in c) script) all in
    record { parts = parts; within = here.0; front = []; views = refl }
last_view c [] (first ∷ earlier) life all =
    let rest = last_view c [] earlier life all in
    record { parts = rest.parts; within = rest.within; front = view_of [] first ∷ rest.front; views = ap (λ l. view_of [] first ∷ l) rest.views }
last_view c (parts ∷ script) (first ∷ earlier) life all =
    let here = and_parts (are_parts_in c parts) (list_all (are_parts_in c) script) all in
    let rest = last_view c script earlier life here.1 in
    record { parts = rest.parts; within = rest.within; front = view_of parts first ∷ rest.front; views = ap (λ l. view_of parts first ∷ l) rest.views }

-- ---- the state with which it was started

fits_by : (c : Config) (value : ℕ → Content) (found : Content) (g : Generation) → Names c value found g → Fits c g.state
fits_by c value missing g names = subst (λ (x : Generation). Fits c x.state) (sym names) (initial_fits c)
fits_by c value invalid g names = absurd names
fits_by c value (content.bytes held) g names = names.2.fits

found_fits : (c : Config) → IsGiven c → (boot : Moment) (ended : ℕ) (g : Generation) → IsFound c boot ended (Ok g) → Fits c g.state
found_fits c given boot ended g (inl held) = fits_by c boot.value _ g ((held_stands c given boot.value g).0 held).names
found_fits c given boot ended g (inr spare) = fits_by c boot.value _ g ((spare_stands c given boot.value g).0 spare.0).names

begun_fits : (c : Config) → IsGiven c → (boot next : Moment) (ended : ℕ) (life : LifeView) (number : ℕ) (start : Persist) → life.boot ≡ Started number start
    → IsLifeBetween c boot next ended life → Fits c start
begun_fits c given boot next ended life number start begun between =
    let by = subst (IsLifeBegunBy c boot next ended life) begun between in
    found_fits c given boot ended (numbered number start) by.0.found

last_fits : (c : Config) → IsGiven c → (medium : Medium) (arms : Option (List ArmMade)) (earlier : ℕ) (next : PowerUp) (boots : List PowerUp) (life : LifeView) (lives : List LifeView) (number : ℕ) (start : Persist)
    → life.boot ≡ Started number start → AreLinked c medium arms earlier next boots (life ∷ lives) → Fits c start
last_fits c given medium arms earlier next [] life lives number start begun linked = absurd linked
last_fits c given medium arms earlier next (boot ∷ boots) life lives number start begun linked =
    begun_fits c given (moment_at medium boot) (moment_at medium next) _ life number start begun linked.0

-- ---- the last life of a run

module _ (dids : List DidUse) (bytes : List ℕ) (outcome : Outcome FlashMem) (script : ScriptContent) (ran : HasRun dids bytes outcome script) (within : list_all (are_parts_in script.config) script.lives ≡ true)
    (life : Life) (start : Persist) (starts : LastStarts outcome.lives.items life start) where
  pub view : LastView script.config script.lives starts.earlier life
  view = last_view script.config script.lives starts.earlier life within

  seen : lives_seen script.lives outcome.lives.items ≡ view_of view.parts life ∷ reverse view.front
  seen = ap (λ l. reverse (views_of script.lives l)) starts.last ∙ ap reverse view.views ∙ reverse-append view.front (view_of view.parts life ∷ [])

  pub started_status : outcome.status ≡ 0
  started_status = ran.status ∙ ap status_of_lives seen ∙ ap status_by starts.begun

  pub started_fits : Fits script.config start
  started_fits =
      let linked = subst (IsLinked script.config (sectors script.config) (device_of blank_flash) (device_of (flash_state outcome.device))) seen ran.lived.linked in
      last_fits script.config ran.given (sectors script.config) _ _ _ linked.boots (view_of view.parts life) (reverse view.front) starts.number start starts.begun linked.linked

  pub started_played : IsLifeInRange (start_from script.config start) view.parts (own_told life.replies.items) (lanes_told life.replies.items) life.journal.items life.queue.items
  started_played =
      let played = subst (ArePlayed script.config) seen ran.lived.played in
      let first = All-head (IsPlayed script.config) (view_of view.parts life) (reverse view.front) played in
      let Is = λ (boot : Boot). IsPlayedBy script.config view.parts (reverse (reverse life.journal.items)) (reverse (reverse life.queue.items)) (own_told life.replies.items) (lanes_told life.replies.items) boot in
      let is = subst Is starts.begun first in
      record {
        events = ran.given.events;
        within = view.within;
        is = subst (λ (l : List (Entry Op)). IsLife (start_from script.config start) view.parts (own_told life.replies.items) (lanes_told life.replies.items) l life.queue.items) (reverse-reverse life.journal.items)
            (subst (λ (l : List (Entry QueueOp)). IsLife (start_from script.config start) view.parts (own_told life.replies.items) (lanes_told life.replies.items) (reverse (reverse life.journal.items)) l) (reverse-reverse life.queue.items) is);
      }

-- ---- where the last life was not started

last_of : (lives : List Life) → (lives ≡ []) ⊎ ((earlier : List Life) × ((life : Life) × (lives ≡ earlier ++ life ∷ [])))
last_of [] = inl refl
last_of (first ∷ lives) = elim (last_of lives) [
  | inl none ↦ inr ([], (first, ap (λ l. first ∷ l) none))
  | inr some ↦ inr (first ∷ some.0, (some.1.0, ap (λ l. first ∷ l) some.1.1))
]

started_by : (boot : Boot) → status_by boot ≡ 0 → (number : ℕ) × ((start : Persist) × (boot ≡ Started number start))
started_by (Started number start) is = (number, (start, refl))
started_by Dark is = absurd (omega (arith, is))
started_by (Refused faults.Flash) is = absurd (omega (arith, is))
started_by (Refused (faults.Damaged place)) is = absurd (omega (arith, is))
started_by (Refused (faults.OtherConfig found wanted)) is = absurd (omega (arith, is))
started_by (Refused faults.SequenceSpent) is = absurd (omega (arith, is))

pub none_started : (dids : List DidUse) (bytes : List ℕ) (outcome : Outcome FlashMem) (script : ScriptContent) → HasRun dids bytes outcome script → list_all (are_parts_in script.config) script.lives ≡ true → 0 < length script.lives
    → ((life : Life) (start : Persist) → LastStarts outcome.lives.items life start → ⊥) → outcome.status ≢ 0
none_started dids bytes outcome script ran within some none = λ zero. elim (last_of outcome.lives.items) [
  | inl empty ↦
      let ended = subst (λ (l : List Life). AreEnded (length script.lives) (lives_seen script.lives l)) empty ran.lived.ended in
      absurd (omega (arith, some, no_lives script.lives ended))
  | inr last ↦
      let view = last_view script.config script.lives last.0 last.1.0 within in
      let seen = ap (λ l. reverse (views_of script.lives l)) last.1.1 ∙ ap reverse view.views ∙ reverse-append view.front (view_of view.parts last.1.0 ∷ []) in
      let boot : status_by last.1.0.boot ≡ 0 = sym (ran.status ∙ ap status_of_lives seen) ∙ zero in
      let begun = started_by last.1.0.boot boot in
      absurd (none last.1.0 begun.1.0 (record { earlier = last.0; last = last.1.1; number = begun.0; begun = begun.1.1 }))
]
  where
    no_lives : (script : List (List (PartOf Step))) → AreEnded (length script) (lives_seen script []) → length script ≡ 0
    no_lives [] ended = refl
    no_lives (parts ∷ script) ended = ended
