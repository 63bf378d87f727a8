-- The cause that is reported for a line is the first of the table that holds of it.
use Rattle.std.proofs.Common.{◌≡◌, ℕ, ◌+◌, List, [], ◌∷◌, length, Bool, true, false, cond, ◌&&◌, ◌||◌, ltb, leb, Option, Some, None, Ok, Err, refl, ap, ◌∙◌, arith, if◌then◌else◌}
use Rattle.std.specs.Prelude.{ℤ, pos, neg_ℤ, negsuc, int_lt, not, ◌==◌, is_some, is_none, option_map, find}
use Rattle.std.specs.List.{list_any}
use Rattle.std.specs.Option.{ok_or}
use Rattle.std.specs.Str.{bytes_eq}
use Rattle.std.proofs.lemmas.Bool.Decides.{nat_tests}
use Rattle.std.proofs.Math.Bool.{or-false}
use Rattle.flt_config.specs.declared.config.Debounce.{Debounce}
use Rattle.flt_config.specs.declared.config.Debounce.TheVariants as rules
use Rattle.flt_config.specs.declared.config.DidUse.{DidUse}
use Rattle.flt_config.specs.declared.config.EventCfg.{EventCfg}
use Rattle.flt_did.specs.Rows.{is_did}
use Rattle.flt_script.specs.declared.event.DebounceLine.{DebounceLine}
use Rattle.flt_script.specs.declared.event.DebounceLine.TheVariants.{Counter, Time}
use Rattle.flt_script.specs.declared.event.EventLine.{EventLine}
use Rattle.flt_script.specs.declared.fault.LineCause.{LineCause}
use Rattle.flt_script.specs.declared.fault.LineCause.TheVariants.{Long, Byte, Word, Form, Order, Range, Many, Block, Did}
use Rattle.flt_script.specs.declared.keyword.Keyword.{Keyword}
use Rattle.flt_script.specs.Said.{Line}
use Rattle.flt_script.specs.Said as line
use Rattle.flt_script.specs.declared.line.StepLine.{StepLine}
use Rattle.flt_step.specs.declared.step.Step.{Step}
use Rattle.flt_script.specs.Behind.{Behind, behind, has_begun, has_lane, is_store_taken, step_of}
use Rattle.flt_script.specs.Causes.{is_strange, is_unknown, line_said, configures, is_set_already, has_wrong_event, is_jump_kept, is_debounce_kept, is_event_kept, is_step_written, is_out_of_range, is_one_too_many, is_misplaced, is_did_unknown, on_line, cause_told}
use Rattle.flt_script.specs.Event.{jump_held, debounce_held, event_held}
use Rattle.flt_script.specs.Gives.{◌⇒◌, ◌>>=◌, given_by}
use Rattle.flt_script.specs.Laws.{FirstCauseIsTold}
use Rattle.flt_script.specs.Line.{spelling, keywords, keyword_of, line_with, is_comment, by_words, line_of}
use Rattle.flt_script.specs.Refusal.{setting_refusal, flash_refusal, event_refusal, did_refusal, is_step_misplaced, step_refusal, power_refusal, par_refusal, lane_refusal, end_refusal, refusal, unless_refused, line_behind}
use Rattle.flt_step.specs.Step.{arms_of_step, drain_count, is_lane_step, is_store_step}
use Rattle.flt_script.specs.Text.{words_of, is_plain, all_plain}
use Rattle.flt_script.proofs.Kept.{kept}
use Rattle.flt_script.proofs.StepRead.{IsRead, is_read}

-- ---- bytes and words

strange_byte : (byte : ℕ) → is_strange byte ≡ not (is_plain byte)
strange_byte byte = grind (arith, nat_tests)

both_not : (a b : Bool) → not (a && b) ≡ (not a || not b)
both_not true b = refl
both_not false b = refl

strange : (text : List ℕ) → not (all_plain text) ≡ list_any is_strange text
strange [] = refl
strange (byte ∷ text) = both_not (is_plain byte) (all_plain text) ∙ rw (strange text, strange_byte byte) refl

here_or_later : {X : Type 0} (p : X → Bool) (x : X) (xs : List X) (test : Bool) → is_some (find p xs) ≡ list_any p xs
    → is_some (cond test (Some x) (find p xs)) ≡ (test || list_any p xs)
here_or_later p x xs true e = refl
here_or_later p x xs false e = e

found_is_any : {X : Type 0} (p : X → Bool) (xs : List X) → is_some (find p xs) ≡ list_any p xs
found_is_any p [] = refl
found_is_any p (x ∷ xs) = here_or_later p x xs (p x) (found_is_any p xs)

none_is_not_some : {X : Type 0} (o : Option X) → is_none o ≡ not (is_some o)
none_is_not_some None = refl
none_is_not_some (Some x) = refl

none_found : {X : Type 0} (p : X → Bool) (xs : List X) → is_none (find p xs) ≡ not (list_any p xs)
none_found p xs = none_is_not_some (find p xs) ∙ ap not (found_is_any p xs)

-- ---- numbers that are kept

jump_in : (low high : Bool) (jump : ℤ) → is_some (option_map (λ (j : ℤ). Some j) (if low || high then None else Some jump)) ≡ (not low && not high)
jump_in true high jump = refl
jump_in false true jump = refl
jump_in false false jump = refl

jump_kept : (jump : Option ℤ) → is_some (jump_held jump) ≡ is_jump_kept jump
unfolding jump_held
jump_kept None = refl
jump_kept (Some jump) = jump_in (int_lt jump (negsuc 32767)) (int_lt (pos 32767) jump) jump

counter_in : (f p u d : Bool) (fail pass up down : ℕ) (jump_up jump_down : Option (Option ℤ)) → is_some (
    kept f fail ⇒ λ fail. kept p pass ⇒ λ pass. kept u up ⇒ λ step_up. kept d down ⇒ λ step_down.
    jump_up ⇒ λ jump_up. jump_down ⇒ λ jump_down.
    Some (rules.Counter (pos fail) (neg_ℤ (pos pass)) (pos step_up) (pos step_down) jump_up jump_down))
    ≡ (f && p && u && d && is_some jump_up && is_some jump_down)
counter_in false p u d fail pass up down jump_up jump_down = refl
counter_in true false u d fail pass up down jump_up jump_down = refl
counter_in true true false d fail pass up down jump_up jump_down = refl
counter_in true true true false fail pass up down jump_up jump_down = refl
counter_in true true true true fail pass up down None jump_down = refl
counter_in true true true true fail pass up down (Some jump_up) None = refl
counter_in true true true true fail pass up down (Some jump_up) (Some jump_down) = refl

times_in : (f p : Bool) (fail pass : ℕ) → is_some (kept f fail ⇒ λ fail. kept p pass ⇒ λ pass. Some (rules.Time fail pass)) ≡ (f && p)
times_in false p fail pass = refl
times_in true false fail pass = refl
times_in true true fail pass = refl

debounce_kept : (debounce : DebounceLine) → is_some (debounce_held debounce) ≡ is_debounce_kept debounce
unfolding debounce_held
debounce_kept (Counter thresholds up down) =
    counter_in (leb thresholds.fail 32767) (leb thresholds.pass 32768) (leb thresholds.up 32767) (leb thresholds.down 32767)
    thresholds.fail thresholds.pass thresholds.up thresholds.down (jump_held up) (jump_held down)
    ∙ rw (jump_kept up, jump_kept down) refl
debounce_kept (Time fail pass) = times_in (leb fail 65535) (leb pass 65535) fail pass

event_in : (dtc : ℕ) (p c f h a l n : Bool) (priority cycle confirm heal age lamp needs : ℕ) (debounce : Option Debounce) → is_some {T = EventCfg} (
    kept p priority ⇒ λ priority. kept c cycle ⇒ λ cycle. kept f confirm ⇒ λ confirm. kept h heal ⇒ λ heal. kept a age ⇒ λ age.
    kept l lamp ⇒ λ lamp. kept n needs ⇒ λ needs. debounce ⇒ λ debounce.
    Some (record {
      dtc = dtc;
      priority = priority;
      cycle = cycle;
      confirm = confirm;
      heal = heal;
      age = age;
      indicator = lamp == 1;
      needs = needs;
      debounce = debounce;
      dids = record { items = [] };
    })) ≡ (p && c && f && h && a && l && n && is_some debounce)
event_in dtc false c f h a l n priority cycle confirm heal age lamp needs debounce = refl
event_in dtc true false f h a l n priority cycle confirm heal age lamp needs debounce = refl
event_in dtc true true false h a l n priority cycle confirm heal age lamp needs debounce = refl
event_in dtc true true true false a l n priority cycle confirm heal age lamp needs debounce = refl
event_in dtc true true true true false l n priority cycle confirm heal age lamp needs debounce = refl
event_in dtc true true true true true false n priority cycle confirm heal age lamp needs debounce = refl
event_in dtc true true true true true true false priority cycle confirm heal age lamp needs debounce = refl
event_in dtc true true true true true true true priority cycle confirm heal age lamp needs None = refl
event_in dtc true true true true true true true priority cycle confirm heal age lamp needs (Some debounce) = refl

event_kept : (event : EventLine) → is_none (event_held event) ≡ not (is_event_kept event)
unfolding event_held
event_kept event =
    let n = event.numbers in
    none_is_not_some _ ∙ ap not (
    event_in event.dtc (leb n.priority 255) (leb n.cycle 255) (leb n.confirm 255) (leb n.heal 255) (leb n.age 255) (leb n.lamp 1) (leb n.needs 255)
    n.priority n.cycle n.confirm n.heal n.age n.lamp n.needs (debounce_held event.debounce)
    ∙ rw (debounce_kept event.debounce) refl)

-- ---- steps

-- A step before the first lane is misplaced, and in a lane one that belongs in none, or in another.
misplaced : (block : Option (List (List Step))) (s : Step)
    → is_step_misplaced block s ≡ (is_some block && (not (has_lane block) || not (is_lane_step s) || is_store_step s && is_store_taken block))
misplaced None s = refl
misplaced (Some []) s = refl
misplaced (Some (lane ∷ lanes)) s = refl

-- What is reported for a step that is read like this, and for a line.
abbrev of_step : Behind → Option Step → Option LineCause
of_step b read =
    cond (is_none read) (Some Range)
    (cond (leb 65536 b.steps || ltb 64 (b.arms + given_by read 0 arms_of_step) || ltb 1024 (b.drains + given_by read 0 drain_count)) (Some Many)
    (cond (given_by read false (is_step_misplaced b.block)) (Some Block) None))

abbrev of_written : Behind → StepLine → Option LineCause
of_written b w =
    cond (not (is_step_written b.config w)) (Some Range)
    (cond (is_one_too_many b (line.Step w)) (Some Many)
    (cond (is_misplaced b (line.Step w)) (Some Block) None))

step_row : (b : Behind) (w : StepLine) (read : Option Step) → IsRead b.config w read → of_step b read ≡ of_written b w
step_row b w None r = rw (← r.some) refl
step_row b w (Some s) r = rw (← r.some, r.said.arms, r.said.drains, misplaced b.block s, r.said.no_lane, r.said.one_lane) refl

-- ---- lines

-- The causes after Form, of a line.
abbrev of_line : List DidUse → Behind → Line → Option LineCause
of_line dids b l =
    cond (configures l && has_begun b || is_set_already b l || has_wrong_event b l) (Some Order)
    (cond (is_out_of_range b.config l) (Some Range)
    (cond (is_one_too_many b l) (Some Many)
    (cond (is_misplaced b l) (Some Block)
    (cond (is_did_unknown dids l) (Some Did) None))))

no_block : (block : Option (List (List Step))) → not (has_lane block) ≡ (is_none block || not (has_lane block))
no_block None = refl
no_block (Some lanes) = refl

line_row : (dids : List DidUse) (b : Behind) (l : Line) → refusal dids b l ≡ of_line dids b l
unfolding refusal setting_refusal flash_refusal event_refusal did_refusal step_refusal power_refusal par_refusal lane_refusal end_refusal
line_row dids b line.Skipped = refl
line_row dids b (line.Config id) = rw (or-false (has_begun b || is_some b.places.config)) refl
line_row dids b (line.Memory entries) = rw (or-false (has_begun b || is_some b.places.memory)) refl
line_row dids b (line.Blocks blocks) = rw (or-false (has_begun b || is_some b.places.blocks)) refl
line_row dids b (line.Flash sectors pages) = rw (or-false (has_begun b || is_some b.places.flash)) refl
line_row dids b (line.Event event) = rw (or-false (has_begun b), event_kept event) refl
line_row dids b (line.Did event id) = rw (or-false (has_begun b), none_found (is_did id) dids) refl
line_row dids b (line.Step s) = step_row b s (step_of b.config s) (is_read b.config s)
line_row dids b line.Power = refl
line_row dids b line.Par = refl
line_row dids b line.Lane = refl
line_row dids b line.End = rw (← no_block b.block) refl

-- What the words say, or why they say nothing.
any_keyword : (found : Option Keyword) (words : List (List ℕ)) → (ok_or found Word >>= λ keyword. ok_or (line_with keyword words) Form)
    ≡ cond (not (is_some found)) (Err Word) (ok_or (found ⇒ λ keyword. line_with keyword words) Form)
any_keyword None words = refl
any_keyword (Some keyword) words = refl

any_word : (comment any : Bool) (found : Option Keyword) (words : List (List ℕ)) → is_some found ≡ any
    → (if comment then Ok line.Skipped else ok_or found Word >>= λ keyword. ok_or (line_with keyword words) Form)
    ≡ cond (not comment && not any) (Err Word) (ok_or (if comment then Some line.Skipped else found ⇒ λ keyword. line_with keyword words) Form)
any_word true any found words e = refl
any_word false any found words e = rw (← e) (any_keyword found words)

word_row : (words : List (List ℕ)) → by_words words ≡ cond (is_unknown words) (Err Word) (ok_or (line_said words) Form)
unfolding by_words keyword_of
word_row [] = refl
word_row (word ∷ words) =
    let spelled = λ (keyword : Keyword). bytes_eq word (spelling keyword) in
    any_word (is_comment word) (list_any spelled keywords) (find spelled keywords) words (found_is_any spelled keywords)

told_unless : (refused : Option LineCause) (l : Line) → cause_told (unless_refused refused l) ≡ refused
told_unless None l = refl
told_unless (Some cause) l = refl

module _ (dids : List DidUse) (b : Behind) where
  on_said : (said : Option Line) → cause_told (ok_or said Form >>= λ l. unless_refused (refusal dids b l) l)
      ≡ cond (is_none said) (Some Form)
      (cond (on_line (λ l. configures l && has_begun b || is_set_already b l || has_wrong_event b l) said) (Some Order)
      (cond (on_line (is_out_of_range b.config) said) (Some Range)
      (cond (on_line (is_one_too_many b) said) (Some Many)
      (cond (on_line (is_misplaced b) said) (Some Block)
      (cond (on_line (is_did_unknown dids) said) (Some Did) None)))))
  on_said None = refl
  on_said (Some l) = told_unless (refusal dids b l) l ∙ line_row dids b l

  on_text : (long odd unknown : Bool) (said : Option Line) (later : Option LineCause)
      → cause_told (ok_or said Form >>= λ l. unless_refused (refusal dids b l) l) ≡ later
      → cause_told ((if long then Err Long else if odd then Err Byte else cond unknown (Err Word) (ok_or said Form)) >>= λ l. unless_refused (refusal dids b l) l)
      ≡ cond long (Some Long) (cond odd (Some Byte) (cond unknown (Some Word) later))
  on_text true odd unknown said later e = refl
  on_text false true unknown said later e = refl
  on_text false false true said later e = refl
  on_text false false false said later e = e

pub first_cause_is_told : FirstCauseIsTold
unfolding line_behind line_of
first_cause_is_told dids past text =
    let b = behind dids past in
    let words = words_of text in
    rw (word_row words, strange text)
    (on_text dids b (ltb 512 (length text)) (list_any is_strange text) (is_unknown words) (line_said words) _ (on_said dids b (line_said words)))
