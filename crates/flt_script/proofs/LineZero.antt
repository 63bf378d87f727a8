-- Line 0 is reported for a script that is too large, and for no other fault.
use Rattle.std.proofs.Common.{◌≡◌, ℕ, ◌+◌, ◌<◌, ◌≤◌, zero, suc, List, [], ◌∷◌, ◌++◌, length, Bool, true, false, cond, ◌||◌, ltb, leb, if◌then◌else◌, Option, Some, None, Result, Ok, Err, refl, sym, ap, subst, ◌∙◌, arith, length-append}
use Rattle.std.specs.Prelude.{◌≢◌, ◌↔◌, ℤ, pos, ◌≤ℤ◌, All, not, ◌==◌, is_some, is_none, find, slice_get, slice_index, option_to_list, unwrap_or}
use Rattle.std.proofs.lemmas.Bool.{leb-false}
use Rattle.std.proofs.lemmas.Int.{ints}
use Rattle.std.proofs.lemmas.List.Elements.{All-append}
use Rattle.flt_config.specs.declared.TheConstants.{EVENTS}
use Rattle.flt_config.specs.declared.setting.Setting.{Setting}
use Rattle.flt_config.specs.declared.config.Config.{Config}
use Rattle.flt_config.specs.declared.config.CfgFault.{CfgFault}
use Rattle.flt_config.specs.declared.config.CfgFault.TheVariants.{Range, DtcTwice, NoRoom}
use Rattle.flt_config.specs.declared.config.Debounce.{Debounce}
use Rattle.flt_config.specs.declared.config.Debounce.TheVariants.{Counter, Time}
use Rattle.flt_config.specs.declared.config.DidUse.{DidUse}
use Rattle.flt_config.specs.declared.config.EventCfg.{EventCfg}
use Rattle.flt_config.specs.declared.config.Field.{Field}
use Rattle.flt_config.specs.declared.config.Field.TheVariants.{Memory, Pages, Blocks}
use Rattle.flt_config.specs.Check.{check_of}
use Rattle.flt_config.specs.Laws.{IsFirstFault}
use Rattle.flt_config.specs.Ranges.{setting, settings, global_settings, events_settings, event_settings, plain_settings, debounce_settings, counter_settings, threshold_settings, jump_settings, did_settings, did_width_settings, is_outside, range_fault, fault_of_range, ranges_result}
use Rattle.flt_config.specs.Validity.{needed_pages}
use Rattle.flt_config.proofs.CheckLaws.{told_fault_is_first}
use Rattle.flt_config.proofs.InRange.{ranges_ok-append_left, ranges_ok-tail, ranges_ok-head}
use Rattle.flt_did.specs.Rows.{is_did}
use Rattle.flt_script.specs.declared.event.EventLine.{EventLine}
use Rattle.flt_script.specs.declared.fault.LineCause.{LineCause}
use Rattle.flt_script.specs.declared.fault.LineCause.TheVariants as cause
use Rattle.flt_script.specs.declared.fault.ScriptFault.{ScriptFault}
use Rattle.flt_script.specs.Said.{Line}
use Rattle.flt_script.specs.Said as line
use Rattle.flt_script.specs.declared.places.Places.{Places}
use Rattle.flt_script.specs.Behind.{Behind, blank, added_line, behind, event_count, has_begun}
use Rattle.flt_script.specs.Causes.{causes, cause_holds, cause_told}
use Rattle.flt_script.specs.Event.{event_held}
use Rattle.flt_script.specs.Gives.{◌>>=◌}
use Rattle.flt_script.specs.Laws.{LineZeroIsLarge}
use Rattle.flt_script.specs.Refusal.{event_refusal, refusal, line_behind}
use Rattle.flt_script.specs.Script.{ScriptContent, script_of, lines_behind, line_of_fault, at_line, at_place, ended}
use Rattle.flt_script.specs.Text.{lines_of}
use Rattle.flt_script.proofs.Accepted.{length_used, of_accepted_lines}
use Rattle.flt_script.proofs.FirstCause.{first_cause_is_told}
use Rattle.flt_script.proofs.Counted.{third_is_false}

-- ---- what the lines before a line keep

-- A number was written by a line, or is the default.
abbrev pub IsPlaced : Option ℕ → ℕ → ℕ → Type 0
IsPlaced None value default = value ≡ default
IsPlaced (Some number) value default = 0 < number

pub record IsSound (b : Behind) : Type 0 where
  pub placed : length b.config.events.items ≤ length b.places.events.items
  pub few : length b.config.events.items ≤ EVENTS
  pub events : All (λ number. 0 < number) b.places.events.items
  pub memory : IsPlaced b.places.memory b.config.memory 16
  pub pages : IsPlaced b.places.flash b.config.pages 512
  pub blocks : IsPlaced b.places.blocks b.config.blocks 8

all-one : (n : ℕ) → 0 < n → All (λ number. 0 < number) (n ∷ [])
all-one n some zero d within = some
all-one n some (suc k) d within = absurd (omega (arith, within))

sound_blank : IsSound blank
sound_blank = record {
  placed = omega arith;
  few = omega arith;
  events = λ k d within. absurd (omega (arith, within));
  memory = refl;
  pages = refl;
  blocks = refl;
}

one_at_most : {X : Type 0} (o : Option X) → length (option_to_list o) ≤ 1
one_at_most None = omega arith
one_at_most (Some x) = omega arith

room_for_event : (b : Behind) (event : EventLine) → event_refusal b event ≡ None → event_count b < EVENTS
unfolding event_refusal
room_for_event b event e = leb-false EVENTS (event_count b)
    (third_is_false (has_begun b || not (event.number == event_count b)) (is_none (event_held event)) (leb EVENTS (event_count b)) cause.Order cause.Range cause.Many e)

sound_added : (dids : List DidUse) (number : ℕ) (b : Behind) (l : Line) → IsSound b → 0 < number → refusal dids b l ≡ None → IsSound (added_line dids number b l)
unfolding added_line refusal
sound_added dids number b line.Skipped s some e = s
sound_added dids number b (line.Config id) s some e = record { placed = s.placed; few = s.few; events = s.events; memory = s.memory; pages = s.pages; blocks = s.blocks }
sound_added dids number b (line.Memory entries) s some e = record { placed = s.placed; few = s.few; events = s.events; memory = some; pages = s.pages; blocks = s.blocks }
sound_added dids number b (line.Blocks blocks) s some e = record { placed = s.placed; few = s.few; events = s.events; memory = s.memory; pages = s.pages; blocks = some }
sound_added dids number b (line.Flash sectors pages) s some e = record { placed = s.placed; few = s.few; events = s.events; memory = s.memory; pages = some; blocks = s.blocks }
sound_added dids number b (line.Event event) s some e =
    let one = one_at_most (event_held event) in
    let under = room_for_event b event e in
    record {
      placed = rw (length-append, length-append) (omega (arith, s.placed));
      few = rw length-append (omega arith);
      events = All-append (λ (n : ℕ). 0 < n) b.places.events.items (number ∷ []) s.events (all-one number some);
      memory = s.memory;
      pages = s.pages;
      blocks = s.blocks;
    }
sound_added dids number b (line.Did event id) s some e =
    let same = length_used (find (is_did id) dids) b.config.events.items event (slice_get b.config.events.items event) in
    record { placed = rw same s.placed; few = rw same s.few; events = s.events; memory = s.memory; pages = s.pages; blocks = s.blocks }
sound_added dids number b (line.Step step) s some e = record { placed = s.placed; few = s.few; events = s.events; memory = s.memory; pages = s.pages; blocks = s.blocks }
sound_added dids number b line.Power s some e = record { placed = s.placed; few = s.few; events = s.events; memory = s.memory; pages = s.pages; blocks = s.blocks }
sound_added dids number b line.Par s some e = record { placed = s.placed; few = s.few; events = s.events; memory = s.memory; pages = s.pages; blocks = s.blocks }
sound_added dids number b line.Lane s some e = record { placed = s.placed; few = s.few; events = s.events; memory = s.memory; pages = s.pages; blocks = s.blocks }
sound_added dids number b line.End s some e = record { placed = s.placed; few = s.few; events = s.events; memory = s.memory; pages = s.pages; blocks = s.blocks }

-- ---- a fault of the configuration is reported at a line

abbrev Each : (Setting → Type 0) → List Setting → Type 0
Each P [] = Unit {0}
Each P (s ∷ rest) = P s × Each P rest

each-append : (P : Setting → Type 0) (xs ys : List Setting) → Each P xs → Each P ys → Each P (xs ++ ys)
each-append P [] ys all more = more
each-append P (s ∷ xs) ys all more = (all.0, each-append P xs ys all.1 more)

module _ (places : Places) where
  abbrev IsTold : Setting → Type 0
  IsTold s = is_outside s ≡ true → 0 < line_of_fault places (range_fault s)

  found_at : (s first : Setting) (rest : List Setting) (outside : Bool) → is_outside first ≡ outside → IsTold first
      → (find is_outside rest ≡ Some s → 0 < line_of_fault places (range_fault s))
      → cond outside (Some first) (find is_outside rest) ≡ Some s → 0 < line_of_fault places (range_fault s)
  found_at s first rest true is here later e =
      let same : first ≡ s = cc in subst (λ (x : Setting). 0 < line_of_fault places (range_fault x)) same (here is)
  found_at s first rest false is here later e = later e

  found : (xs : List Setting) (s : Setting) → Each IsTold xs → find is_outside xs ≡ Some s → 0 < line_of_fault places (range_fault s)
  found [] s all e = absurd cc
  found (first ∷ rest) s all e = found_at s first rest (is_outside first) refl all.0 (found rest s all.1) e

  module _ (n : ℕ) (h : 0 < slice_index places.events.items n) where
    jump_told : (field : Field) (pass_at fail_at : ℤ) (jump : Option ℤ) → Each IsTold (jump_settings n field pass_at fail_at jump)
    unfolding jump_settings
    jump_told field pass_at fail_at None = tt
    jump_told field pass_at fail_at (Some jump) = (λ outside. h, tt)

    widths_told : (dids : List DidUse) → Each IsTold (did_width_settings n dids)
    unfolding did_width_settings
    widths_told [] = tt
    widths_told (did ∷ dids) = (λ outside. h, widths_told dids)

    debounce_told : (debounce : Debounce) → Each IsTold (debounce_settings n debounce)
    unfolding debounce_settings counter_settings threshold_settings
    debounce_told (Counter fail_at pass_at up down jump_up jump_down) =
        each-append IsTold (threshold_settings n fail_at pass_at up down ++ jump_settings n _ pass_at fail_at jump_up) _
        (each-append IsTold (threshold_settings n fail_at pass_at up down) _ (λ outside. h, (λ outside. h, (λ outside. h, (λ outside. h, tt)))) (jump_told _ pass_at fail_at jump_up))
        (jump_told _ pass_at fail_at jump_down)
    debounce_told (Time fail pass) = (λ outside. h, (λ outside. h, tt))

    event_told : (event : EventCfg) → Each IsTold (event_settings n event)
    unfolding event_settings plain_settings did_settings
    event_told event =
        each-append IsTold (plain_settings n event ++ debounce_settings n event.debounce) _
        (each-append IsTold (plain_settings n event) _
        (λ outside. h, (λ outside. h, (λ outside. h, (λ outside. h, (λ outside. h, (λ outside. h, tt))))))
        (debounce_told event.debounce))
        (each-append IsTold (did_width_settings n event.dids.items) _ (widths_told event.dids.items) (λ outside. h, tt))

  events_told : (n : ℕ) (events : List EventCfg) → ((k : ℕ) → n ≤ k → k < n + length events → 0 < slice_index places.events.items k)
      → Each IsTold (events_settings n events)
  unfolding events_settings
  events_told n [] h = tt
  events_told n (event ∷ events) h =
      each-append IsTold (event_settings n event) (events_settings (n + 1) events) (event_told n (h n (omega arith) (omega arith)) event)
      (events_told (n + 1) events (λ k low high. h k (omega (arith, low)) (omega (arith, high))))

memory_told : (place : Option ℕ) (value : ℕ) → IsPlaced place value 16 → is_outside (setting None Memory value 1 16) ≡ true → 0 < unwrap_or place 0
memory_told (Some n) value placed outside = placed
memory_told None value placed outside = let never = rw placed at outside in absurd cc

pages_told : (place : Option ℕ) (value : ℕ) → IsPlaced place value 512 → is_outside (setting None Pages value 64 1024) ≡ true → 0 < unwrap_or place 0
pages_told (Some n) value placed outside = placed
pages_told None value placed outside = let never = rw placed at outside in absurd cc

blocks_told : (place : Option ℕ) (value : ℕ) → IsPlaced place value 8 → is_outside (setting None Blocks value 0 40) ≡ true → 0 < unwrap_or place 0
blocks_told (Some n) value placed outside = placed
blocks_told None value placed outside = let never = rw placed at outside in absurd cc

module _ (b : Behind) (s : IsSound b) where
  event_placed : (k : ℕ) → k < length b.config.events.items → 0 < slice_index b.places.events.items k
  event_placed k within = s.events k 0 (omega (arith, s.placed))

  settings_told : Each (IsTold b.places) (settings b.config)
  unfolding global_settings
  settings_told =
      each-append (IsTold b.places) (global_settings b.config) (events_settings 0 b.config.events.items)
      (memory_told b.places.memory b.config.memory s.memory, (pages_told b.places.flash b.config.pages s.pages, (blocks_told b.places.blocks b.config.blocks s.blocks, tt)))
      (events_told b.places 0 b.config.events.items (λ k low high. event_placed k (omega (arith, high))))

  range_told : (given : Option Setting) (fault : CfgFault) → find is_outside (settings b.config) ≡ given → fault_of_range given ≡ Err fault
      → 0 < line_of_fault b.places fault
  range_told None fault found_none e = absurd cc
  range_told (Some outside) fault found_some e =
      let same : range_fault outside ≡ fault = cc in
      subst (λ (f : CfgFault). 0 < line_of_fault b.places f) same (found b.places (settings b.config) outside settings_told found_some)

  -- The default pages suffice for each configuration.
  room_told : (place : Option ℕ) → IsPlaced place b.config.pages 512 → needed_pages b.config ≤ 512 → b.config.pages < needed_pages b.config → 0 < unwrap_or place 0
  room_told (Some n) placed most short = placed
  room_told None placed most short = absurd (omega (arith, placed, most, short))

  few_pages : b.config.memory ≤ 16 → b.config.blocks ≤ 40 → needed_pages b.config ≤ 512
  few_pages memory blocks = omega (arith, s.few)

  short_told : ranges_result (settings b.config) ≡ Ok tt → b.config.pages < needed_pages b.config → 0 < unwrap_or b.places.flash 0
  unfolding global_settings
  short_told ok short =
      let globals = ranges_ok-append_left (global_settings b.config) (events_settings 0 b.config.events.items) ok in
      let at_blocks = ranges_ok-tail _ _ (ranges_ok-tail _ _ globals) in
      let memory : pos b.config.memory ≤ℤ pos 16 = (ranges_ok-head _ _ globals).1 in
      let blocks : pos b.config.blocks ≤ℤ pos 40 = (ranges_ok-head _ _ at_blocks).1 in
      let few_entries : b.config.memory ≤ 16 = omega (arith, ints) in
      let few_blocks : b.config.blocks ≤ 40 = omega (arith, ints) in
      room_told b.places.flash s.pages (few_pages few_entries few_blocks) short

  fault_told : (fault : CfgFault) → IsFirstFault b.config fault → 0 < line_of_fault b.places fault
  unfolding ranges_result
  fault_told (Range event field value) e = range_told (find is_outside (settings b.config)) (Range event field value) refl e
  fault_told (DtcTwice first second) e = event_placed second e.1.within
  fault_told (NoRoom needed pages) e = short_told e.0 (omega (arith, e.2, e.3, e.4))

-- ---- the lines

-- What the accepted lines gave is sound.
sound_lines : (dids : List DidUse) (texts : List (List ℕ)) (lines : List Line) → lines_behind dids [] texts ≡ Ok lines → IsSound (behind dids lines)
sound_lines dids texts lines e =
    of_accepted_lines dids (λ (past : List Line). IsSound (behind dids past))
    (λ l past accepted sound. sound_added dids (length past + 1) (behind dids past) l sound (omega arith) accepted) [] texts lines sound_blank e

-- Large is no cause of a line.
find_passes : (p : LineCause → Bool) (c first : LineCause) (rest : List LineCause) (here : Bool) → p first ≡ here → (find p rest ≡ Some c → p c ≡ true)
    → cond here (Some first) (find p rest) ≡ Some c → p c ≡ true
find_passes p c first rest true is later e = let same : first ≡ c = cc in subst (λ (x : LineCause). p x ≡ true) same is
find_passes p c first rest false is later e = later e

found_passes : (p : LineCause → Bool) (cs : List LineCause) (c : LineCause) → find p cs ≡ Some c → p c ≡ true
found_passes p [] c e = absurd cc
found_passes p (first ∷ rest) c e = find_passes p c first rest (p first) refl (found_passes p rest c) e

never_large : (dids : List DidUse) (past : List Line) (text : List ℕ) (c : LineCause) → line_behind dids past text ≡ Err c → c ≢ cause.Large
never_large dids past text c e large =
    let told : cause_told (line_behind dids past text) ≡ Some cause.Large = rw (e, large) refl in
    let passes = found_passes (cause_holds dids (behind dids past) text) causes cause.Large (sym (first_cause_is_told dids past text) ∙ told) in
    absurd cc

-- A fault that is reported at a line.
pub record IsOfLine (fault : ScriptFault) : Type 0 where
  pub line : 0 < fault.line
  pub other : fault.cause ≢ cause.Large

fault_of_line : (number : ℕ) (c : LineCause) (fault : ScriptFault) → 0 < number → c ≢ cause.Large → record { line = number; cause = c } ≡ fault → IsOfLine fault
fault_of_line number c fault some other e = subst (λ (f : ScriptFault). IsOfLine f) e (record { line = some; other = other })

line_step : (dids : List DidUse) (past : List Line) (text : List ℕ) (texts : List (List ℕ)) (fault : ScriptFault) (read : Result Line LineCause)
    → line_behind dids past text ≡ read
    → ((l : Line) → lines_behind dids (l ∷ past) texts ≡ Err fault → IsOfLine fault)
    → (at_line (length past + 1) read >>= λ l. lines_behind dids (l ∷ past) texts) ≡ Err fault → IsOfLine fault
line_step dids past text texts fault (Err c) is later e = fault_of_line (length past + 1) c fault (omega arith) (never_large dids past text c is) cc
line_step dids past text texts fault (Ok l) is later e = later l e

told_at_line : (dids : List DidUse) (past : List Line) (texts : List (List ℕ)) (fault : ScriptFault) → lines_behind dids past texts ≡ Err fault → IsOfLine fault
unfolding lines_behind
told_at_line dids past [] fault e = absurd cc
told_at_line dids past (text ∷ texts) fault e =
    line_step dids past text texts fault (line_behind dids past text) refl (λ l. told_at_line dids (l ∷ past) texts fault) e

told_at_place : (b : Behind) (fault : ScriptFault) (content : Config → ScriptContent) (checked : Result Config CfgFault) → check_of b.config ≡ checked → IsSound b
    → (at_place b.places checked >>= λ config. Ok (content config)) ≡ Err fault → IsOfLine fault
told_at_place b fault content (Ok config) is sound e = absurd cc
told_at_place b fault content (Err f) is sound e =
    fault_of_line (line_of_fault b.places f) (cause.Config f) fault (fault_told b sound f (told_fault_is_first b.config f is)) (λ large. absurd cc) cc

-- A block that is not ended began at a line.
some_line : (dids : List DidUse) (lines : List Line) → is_some (behind dids lines).block ≡ true → 0 < length lines
some_line dids [] under_way = absurd cc
some_line dids (l ∷ lines) under_way = omega arith

told_at_end : (last : ℕ) (b : Behind) (under_way : Bool) (fault : ScriptFault) → is_some b.block ≡ under_way → (under_way ≡ true → 0 < last) → IsSound b → ended last b ≡ Err fault → IsOfLine fault
unfolding ended
told_at_end last b true fault is some sound e =
    let known = rw is at e in fault_of_line last cause.Block fault (some refl) (λ large. absurd cc) cc
told_at_end last b false fault is some sound e =
    let known = rw is at e in
    told_at_place b fault (λ (config : Config). record { config = config; lives = b.lives ++ b.parts ∷ [] }) (check_of b.config) refl sound known

told_of_lines : (dids : List DidUse) (texts : List (List ℕ)) (fault : ScriptFault) (read : Result (List Line) ScriptFault) → lines_behind dids [] texts ≡ read
    → (read >>= λ lines. ended (length lines) (behind dids lines)) ≡ Err fault → IsOfLine fault
told_of_lines dids texts fault (Err f) is e =
    let same : f ≡ fault = cc in told_at_line dids [] texts fault (is ∙ ap (λ (x : ScriptFault). Err x) same)
told_of_lines dids texts fault (Ok lines) is e =
    let b = behind dids lines in
    told_at_end (length lines) b (is_some b.block) fault refl (some_line dids lines) (sound_lines dids texts lines is) e

either_way : (dids : List DidUse) (bytes : List ℕ) (fault : ScriptFault) (large : Bool)
    → (if large then Err (record { line = 0; cause = cause.Large }) else lines_behind dids [] (lines_of bytes) >>= λ lines. ended (length lines) (behind dids lines)) ≡ Err fault
    → (fault.line ≡ 0) ↔ (fault.cause ≡ cause.Large)
either_way dids bytes fault true e =
    let large : ScriptFault = record { line = 0; cause = cause.Large } in
    let same : large ≡ fault = cc in
    subst (λ (f : ScriptFault). (f.line ≡ 0) ↔ (f.cause ≡ cause.Large)) same (λ zero. refl, λ large. refl)
either_way dids bytes fault false e =
    let told = told_of_lines dids (lines_of bytes) fault (lines_behind dids [] (lines_of bytes)) refl e in
    (λ zero. absurd (omega (arith, told.line, zero)), λ large. absurd (told.other large))

pub line_zero_is_large : LineZeroIsLarge
unfolding script_of
line_zero_is_large dids bytes fault e = either_way dids bytes fault (ltb 1048576 (length bytes)) e
