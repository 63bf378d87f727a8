-- What is kept of lines that were not refused says how many there are of each kind.
use Rattle.std.proofs.Common.{◌≡◌, ℕ, ◌+◌, ◌<◌, List, [], ◌∷◌, ◌++◌, length, Bool, true, false, cond, ◌||◌, ltb, leb, Option, Some, None, refl, sym, ap, ◌∙◌, arith, length-append, inl, inr}
use Rattle.std.specs.Prelude.{count_by, find, is_some, is_none, not, ◌==◌, option_map, option_to_list, slice_get}
use Rattle.std.proofs.lemmas.Bool.{lt-ltb, not-false}
use Rattle.std.proofs.lemmas.List.Sums.{sum_by-cons}
use Rattle.std.proofs.Math.Bool.{or-true}
use Rattle.flt_config.specs.declared.TheConstants.{EVENTS}
use Rattle.flt_config.specs.declared.config.DidUse.{DidUse}
use Rattle.flt_did.specs.Rows.{is_did}
use Rattle.flt_script.specs.declared.event.EventLine.{EventLine}
use Rattle.flt_script.specs.declared.fault.LineCause.{LineCause}
use Rattle.flt_script.specs.declared.fault.LineCause.TheVariants as cause
use Rattle.flt_script.specs.Said.{Line}
use Rattle.flt_script.specs.Said as line
use Rattle.flt_script.specs.declared.line.StepLine.{StepLine}
use Rattle.flt_script.specs.declared.line.StepLine.TheVariants.{Report, Show, Cycle, Tick, Signal, Enable, Request, Save, Post, Drain, Get, Ask, Arming}
use Rattle.flt_step.specs.declared.step.Step.{Step}
use Rattle.flt_script.specs.Behind.{Behind, added_line, behind, event_count, has_begun, lane_count, has_lane, in_last_lane, with_step, step_of, arms_with, drains_with}
use Rattle.flt_script.specs.Causes.{arms_written, drains_written}
use Rattle.flt_script.specs.Counts.{is_step, is_arming, is_drain, is_power, is_event, IsCounted}
use Rattle.flt_script.specs.Event.{event_held}
use Rattle.flt_script.specs.Gives.{given_by}
use Rattle.flt_script.specs.Laws.{AcceptedLinesAreCounted}
use Rattle.flt_step.specs.Part.{PartOf}
use Rattle.flt_script.specs.Refusal.{is_step_misplaced, event_refusal, step_refusal, lane_refusal, end_refusal, refusal}
use Rattle.flt_script.proofs.Accepted.{length_used, of_accepted_lines}
use Rattle.flt_script.proofs.Blocks.{same_some, some_of, as_many_lanes, lane_more}
use Rattle.flt_script.proofs.StepRead.{is_read, arms_read, drains_read, one_lane_read}
use Rattle.flt_script.proofs.Stores.{block_used, block_taken, block_used_with_lane, block_taken_with_lane}

count_more : (p : Line → Bool) (l : Line) (past : List Line) → count_by p (l ∷ past) ≡ cond (p l) 1 0 + count_by p past
count_more p l past = sum_by-cons (λ (x : Line). cond (p x) 1 0) l past

count_yes : (p : Line → Bool) (l : Line) (past : List Line) (n : ℕ) → p l ≡ true → n ≡ count_by p past → n + 1 ≡ count_by p (l ∷ past)
count_yes p l past n is e = let more : count_by p (l ∷ past) ≡ 1 + count_by p past = count_more p l past ∙ rw is refl in omega (arith, more, e)

count_no : (p : Line → Bool) (l : Line) (past : List Line) (n : ℕ) → p l ≡ false → n ≡ count_by p past → n ≡ count_by p (l ∷ past)
count_no p l past n is e = let more : count_by p (l ∷ past) ≡ 0 + count_by p past = count_more p l past ∙ rw is refl in omega (arith, more, e)

-- ---- what an accepted line adds

second_is_false : (a b : Bool) (x y : LineCause) (rest : Option LineCause) → cond a (Some x) (cond b (Some y) rest) ≡ None → b ≡ false
second_is_false true b x y rest e = absurd cc
second_is_false false true x y rest e = absurd cc
second_is_false false false x y rest e = refl

first_is_false : (a : Bool) (x : LineCause) (rest : Option LineCause) → cond a (Some x) rest ≡ None → a ≡ false
first_is_false true x rest e = absurd cc
first_is_false false x rest e = refl

one_held : {X : Type 0} (o : Option X) → is_none o ≡ false → length (option_to_list o) ≡ 1
one_held None e = absurd cc
one_held (Some x) e = refl

event_adds : (b : Behind) (event : EventLine) → event_refusal b event ≡ None
    → length (b.config.events.items ++ option_to_list (event_held event)) ≡ event_count b + 1
unfolding event_refusal
event_adds b event e =
    let held = one_held (event_held event) (second_is_false (has_begun b || not (event.number == event_count b)) (is_none (event_held event)) cause.Order cause.Range
    (cond (leb EVENTS (event_count b)) (Some cause.Many) None) e) in
    length-append b.config.events.items (option_to_list (event_held event)) ∙ ap (λ n. event_count b + n) held

step_read : (b : Behind) (s : StepLine) → step_refusal b s ≡ None → is_none (step_of b.config s) ≡ false
unfolding step_refusal
step_read b s e = first_is_false (is_none (step_of b.config s)) cause.Range _ e

pub third_is_false : (a b c : Bool) (x y z : LineCause) → cond a (Some x) (cond b (Some y) (cond c (Some z) None)) ≡ None → c ≡ false
third_is_false true b c x y z e = absurd cc
third_is_false false true c x y z e = absurd cc
third_is_false false false true x y z e = absurd cc
third_is_false false false false x y z e = refl

step_placed : (b : Behind) (s : StepLine) → step_refusal b s ≡ None → given_by (step_of b.config s) false (is_step_misplaced b.block) ≡ false
unfolding step_refusal
step_placed b s e =
    third_is_false (is_none (step_of b.config s)) (leb 65536 b.steps || ltb 64 (arms_with b s) || ltb 1024 (drains_with b s))
    (given_by (step_of b.config s) false (is_step_misplaced b.block)) cause.Range cause.Many cause.Block e

begun_with : (read : Option Step) (b : Behind) (block : Option (List (List Step))) → is_none read ≡ false
    → (ltb 0 (length (with_step block read b.parts)) || ltb 0 (length b.lives) || is_some (option_map (in_last_lane read) block)) ≡ true
begun_with None b block e = absurd cc
begun_with (Some s) b None e =
    let some : 0 < length (b.parts ++ inl s ∷ []) = rw length-append (omega arith) in rw (lt-ltb 0 (length (b.parts ++ inl s ∷ [])) some) refl
begun_with (Some s) b (Some lanes) e = or-true (ltb 0 (length b.parts) || ltb 0 (length b.lives))

ended_life : (b : Behind) → (ltb 0 0 || ltb 0 (length (b.lives ++ b.parts ∷ [])) || is_some b.block) ≡ true
ended_life b = let some : 0 < length (b.lives ++ b.parts ∷ []) = rw length-append (omega arith) in rw (lt-ltb 0 (length (b.lives ++ b.parts ∷ [])) some) refl

lane_in_block : (b : Behind) → lane_refusal b ≡ None → is_some b.block ≡ true
unfolding lane_refusal
lane_in_block b e = some_of b.block (second_is_false (leb 8 (lane_count b.block)) (is_none b.block) cause.Many cause.Block None e)

end_of_lanes : (b : Behind) → end_refusal b ≡ None → has_lane b.block ≡ true
unfolding end_refusal
end_of_lanes b e = not-false (has_lane b.block) (first_is_false (not (has_lane b.block)) cause.Block None e)

-- A block that ends has begun, and is a part of its life from then on.
begun_by_block : (block : Option (List (List Step))) (parts : List (PartOf Step)) (lives : List (List (PartOf Step))) → has_lane block ≡ true
    → (ltb 0 (length (parts ++ option_to_list (option_map inr block))) || ltb 0 (length lives) || false) ≡ (ltb 0 (length parts) || ltb 0 (length lives) || is_some block)
begun_by_block None parts lives e = absurd cc
begun_by_block (Some lanes) parts lives e =
    let some : 0 < length (parts ++ inr lanes ∷ []) = rw length-append (omega arith) in
    rw (lt-ltb 0 (length (parts ++ inr lanes ∷ [])) some, or-true (ltb 0 (length parts) || ltb 0 (length lives))) refl

-- ---- the arms and drains of a step that was read

arming_line : (s : StepLine) → cond (is_arming (line.Step s)) 1 0 ≡ arms_written s
arming_line (Report event report) = refl
arming_line (Show event) = refl
arming_line (Cycle cycle) = refl
arming_line (Tick ticks) = refl
arming_line (Signal index value) = refl
arming_line (Enable condition value) = refl
arming_line (Request tester bytes) = refl
arming_line Save = refl
arming_line (Post urgent block bytes) = refl
arming_line Drain = refl
arming_line (Get block) = refl
arming_line (Ask block) = refl
arming_line (Arming arm) = refl

drain_line : (s : StepLine) → cond (is_drain (line.Step s)) 1 0 ≡ drains_written s
drain_line (Report event report) = refl
drain_line (Show event) = refl
drain_line (Cycle cycle) = refl
drain_line (Tick ticks) = refl
drain_line (Signal index value) = refl
drain_line (Enable condition value) = refl
drain_line (Request tester bytes) = refl
drain_line Save = refl
drain_line (Post urgent block bytes) = refl
drain_line Drain = refl
drain_line (Get block) = refl
drain_line (Ask block) = refl
drain_line (Arming arm) = refl

arms_counted : (b : Behind) (s : StepLine) (past : List Line) → is_none (step_of b.config s) ≡ false → b.arms ≡ count_by is_arming past
    → arms_with b s ≡ count_by is_arming (line.Step s ∷ past)
arms_counted b s past read e =
    omega (arith, count_more is_arming (line.Step s) past, arming_line s, arms_read b.config s (step_of b.config s) (is_read b.config s) read, e)

drains_counted : (b : Behind) (s : StepLine) (past : List Line) → is_none (step_of b.config s) ≡ false → b.drains ≡ count_by is_drain past
    → drains_with b s ≡ count_by is_drain (line.Step s ∷ past)
drains_counted b s past read e =
    omega (arith, count_more is_drain (line.Step s) past, drain_line s, drains_read b.config s (step_of b.config s) (is_read b.config s) read, e)

-- ---- the counts, line by line

module _ (dids : List DidUse) where
  more : (l : Line) (past : List Line) → refusal dids (behind dids past) l ≡ None → IsCounted dids past → IsCounted dids (l ∷ past)
  unfolding added_line refusal
  more line.Skipped past e c = record {
    steps = count_no is_step line.Skipped past _ refl c.steps;
    arms = count_no is_arming line.Skipped past _ refl c.arms;
    drains = count_no is_drain line.Skipped past _ refl c.drains;
    lives = count_no is_power line.Skipped past _ refl c.lives;
    events = count_no is_event line.Skipped past _ refl c.events;
    block = c.block;
    lanes = c.lanes;
    store = c.store;
    earlier_store = c.earlier_store;
    begun = c.begun;
    config = c.config;
    memory = c.memory;
    blocks = c.blocks;
    flash = c.flash;
  }
  more (line.Config id) past e c = record {
    steps = count_no is_step (line.Config id) past _ refl c.steps;
    arms = count_no is_arming (line.Config id) past _ refl c.arms;
    drains = count_no is_drain (line.Config id) past _ refl c.drains;
    lives = count_no is_power (line.Config id) past _ refl c.lives;
    events = count_no is_event (line.Config id) past _ refl c.events;
    block = c.block;
    lanes = c.lanes;
    store = c.store;
    earlier_store = c.earlier_store;
    begun = c.begun;
    config = refl;
    memory = c.memory;
    blocks = c.blocks;
    flash = c.flash;
  }
  more (line.Memory entries) past e c = record {
    steps = count_no is_step (line.Memory entries) past _ refl c.steps;
    arms = count_no is_arming (line.Memory entries) past _ refl c.arms;
    drains = count_no is_drain (line.Memory entries) past _ refl c.drains;
    lives = count_no is_power (line.Memory entries) past _ refl c.lives;
    events = count_no is_event (line.Memory entries) past _ refl c.events;
    block = c.block;
    lanes = c.lanes;
    store = c.store;
    earlier_store = c.earlier_store;
    begun = c.begun;
    config = c.config;
    memory = refl;
    blocks = c.blocks;
    flash = c.flash;
  }
  more (line.Blocks blocks) past e c = record {
    steps = count_no is_step (line.Blocks blocks) past _ refl c.steps;
    arms = count_no is_arming (line.Blocks blocks) past _ refl c.arms;
    drains = count_no is_drain (line.Blocks blocks) past _ refl c.drains;
    lives = count_no is_power (line.Blocks blocks) past _ refl c.lives;
    events = count_no is_event (line.Blocks blocks) past _ refl c.events;
    block = c.block;
    lanes = c.lanes;
    store = c.store;
    earlier_store = c.earlier_store;
    begun = c.begun;
    config = c.config;
    memory = c.memory;
    blocks = refl;
    flash = c.flash;
  }
  more (line.Flash sectors pages) past e c = record {
    steps = count_no is_step (line.Flash sectors pages) past _ refl c.steps;
    arms = count_no is_arming (line.Flash sectors pages) past _ refl c.arms;
    drains = count_no is_drain (line.Flash sectors pages) past _ refl c.drains;
    lives = count_no is_power (line.Flash sectors pages) past _ refl c.lives;
    events = count_no is_event (line.Flash sectors pages) past _ refl c.events;
    block = c.block;
    lanes = c.lanes;
    store = c.store;
    earlier_store = c.earlier_store;
    begun = c.begun;
    config = c.config;
    memory = c.memory;
    blocks = c.blocks;
    flash = refl;
  }
  more (line.Event event) past e c = record {
    steps = count_no is_step (line.Event event) past _ refl c.steps;
    arms = count_no is_arming (line.Event event) past _ refl c.arms;
    drains = count_no is_drain (line.Event event) past _ refl c.drains;
    lives = count_no is_power (line.Event event) past _ refl c.lives;
    events = event_adds (behind dids past) event e ∙ count_yes is_event (line.Event event) past _ refl c.events;
    block = c.block;
    lanes = c.lanes;
    store = c.store;
    earlier_store = c.earlier_store;
    begun = c.begun;
    config = c.config;
    memory = c.memory;
    blocks = c.blocks;
    flash = c.flash;
  }
  more (line.Did event id) past e c = record {
    steps = count_no is_step (line.Did event id) past _ refl c.steps;
    arms = count_no is_arming (line.Did event id) past _ refl c.arms;
    drains = count_no is_drain (line.Did event id) past _ refl c.drains;
    lives = count_no is_power (line.Did event id) past _ refl c.lives;
    events =
        let items = (behind dids past).config.events.items in
        length_used (find (is_did id) dids) items event (slice_get items event) ∙ count_no is_event (line.Did event id) past _ refl c.events;
    block = c.block;
    lanes = c.lanes;
    store = c.store;
    earlier_store = c.earlier_store;
    begun = c.begun;
    config = c.config;
    memory = c.memory;
    blocks = c.blocks;
    flash = c.flash;
  }
  more (line.Step s) past e c =
      let b = behind dids past in
      let read = step_read b s e in record {
        steps = count_yes is_step (line.Step s) past _ refl c.steps;
        arms = arms_counted b s past read c.arms;
        drains = drains_counted b s past read c.drains;
        lives = count_no is_power (line.Step s) past _ refl c.lives;
        events = count_no is_event (line.Step s) past _ refl c.events;
        block = same_some (in_last_lane (step_of b.config s)) b.block ∙ c.block;
        lanes = as_many_lanes (step_of b.config s) b.block ∙ c.lanes;
        store = block_used (step_of b.config s) b.block _ _ _ read (step_placed b s e) (one_lane_read b.config s (step_of b.config s) (is_read b.config s)) c.block c.store;
        earlier_store = block_taken (step_of b.config s) b.block ∙ c.earlier_store;
        begun = begun_with (step_of b.config s) b b.block read;
        config = c.config;
        memory = c.memory;
        blocks = c.blocks;
        flash = c.flash;
      }
  more line.Power past e c =
      let b = behind dids past in record {
        steps = count_no is_step line.Power past _ refl c.steps;
        arms = count_no is_arming line.Power past _ refl c.arms;
        drains = count_no is_drain line.Power past _ refl c.drains;
        lives = length-append b.lives (b.parts ∷ []) ∙ count_yes is_power line.Power past _ refl c.lives;
        events = count_no is_event line.Power past _ refl c.events;
        block = c.block;
        lanes = c.lanes;
        store = c.store;
        earlier_store = c.earlier_store;
        begun = ended_life b;
        config = c.config;
        memory = c.memory;
        blocks = c.blocks;
        flash = c.flash;
      }
  more line.Par past e c =
      let b = behind dids past in record {
        steps = count_no is_step line.Par past _ refl c.steps;
        arms = count_no is_arming line.Par past _ refl c.arms;
        drains = count_no is_drain line.Par past _ refl c.drains;
        lives = count_no is_power line.Par past _ refl c.lives;
        events = count_no is_event line.Par past _ refl c.events;
        block = refl;
        lanes = refl;
        store = refl;
        earlier_store = refl;
        begun = or-true (ltb 0 (length b.parts) || ltb 0 (length b.lives));
        config = c.config;
        memory = c.memory;
        blocks = c.blocks;
        flash = c.flash;
      }
  more line.Lane past e c =
      let b = behind dids past in
      let same = same_some (λ (lanes : List (List Step)). lanes ++ [] ∷ []) b.block in record {
        steps = count_no is_step line.Lane past _ refl c.steps;
        arms = count_no is_arming line.Lane past _ refl c.arms;
        drains = count_no is_drain line.Lane past _ refl c.drains;
        lives = count_no is_power line.Lane past _ refl c.lives;
        events = count_no is_event line.Lane past _ refl c.events;
        block = same ∙ c.block;
        lanes = lane_more b.block (lane_in_block b e) ∙ ap (λ n. n + 1) c.lanes;
        store = block_used_with_lane b.block ∙ c.store;
        earlier_store = block_taken_with_lane b.block ∙ c.store ∙ rw (sym c.block ∙ lane_in_block b e) refl;
        begun = ap (λ under_way. ltb 0 (length b.parts) || ltb 0 (length b.lives) || under_way) same ∙ c.begun;
        config = c.config;
        memory = c.memory;
        blocks = c.blocks;
        flash = c.flash;
      }
  more line.End past e c =
      let b = behind dids past in record {
        steps = count_no is_step line.End past _ refl c.steps;
        arms = count_no is_arming line.End past _ refl c.arms;
        drains = count_no is_drain line.End past _ refl c.drains;
        lives = count_no is_power line.End past _ refl c.lives;
        events = count_no is_event line.End past _ refl c.events;
        block = refl;
        lanes = refl;
        store = refl;
        earlier_store = refl;
        begun = begun_by_block b.block b.parts b.lives (end_of_lanes b e) ∙ c.begun;
        config = c.config;
        memory = c.memory;
        blocks = c.blocks;
        flash = c.flash;
      }

none_counted : (dids : List DidUse) → IsCounted dids []
none_counted dids = record {
  steps = refl;
  arms = refl;
  drains = refl;
  lives = refl;
  events = refl;
  block = refl;
  lanes = refl;
  store = refl;
  earlier_store = refl;
  begun = refl;
  config = refl;
  memory = refl;
  blocks = refl;
  flash = refl;
}

pub accepted_lines_are_counted : AcceptedLinesAreCounted
accepted_lines_are_counted dids texts lines e =
    of_accepted_lines dids (λ (past : List Line). IsCounted dids past) (more dids) [] texts lines (none_counted dids) e
