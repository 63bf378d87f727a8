-- Lines that a life took, one more, and why it ended.
use Rattle.std.proofs.Common.{◌≡◌, ◌∙◌, ℕ, ◌≤◌, ◌++◌, List, [], ◌∷◌, Option, Some, None, Result, Ok, Err, inl, inr, refl, sym, ap, subst, arith}
use Rattle.std.specs.Prelude.{◌≢◌, ◌⊎◌, IfOk, OnOk}
use Rattle.std.proofs.lemmas.List.{append-nil}
use Rattle.std.specs.Io.KnownBytes.{Appends, Consumes}
use Rattle.flt_config.specs.declared.config.Config.{Config}
use Rattle.flt_dcm.specs.Unit.{UnitView}
use Rattle.flt_flash.specs.Blocks.{BlocksState}
use Rattle.flt_flash.specs.Content.{Content}
use Rattle.flt_flash.specs.declared.blocks.Blocks.{Ghosts}
use Rattle.flt_flash.proofs.CallsInARow.{no_call}
use Rattle.flt_io.specs.Fault.{Rose}
use Rattle.flt_io.specs.Written.{Writes}
use Rattle.flt_io.specs.declared.stream.StreamFault.{StreamFault}
use Rattle.flt_io.specs.declared.stream.StreamFault.TheVariants as streams
use Rattle.flt_queue.specs.declared.queue.JobQueue.{JobQueue}
use Rattle.flt_queue.specs.Stands as standing
use Rattle.flt_store.specs.declared.store.Store.{Store}
use Rattle.flt_store.specs.Store.{driver_of}
use Rattle.flt_store_model.specs.Holding.{Generation, SameApplications}
use Rattle.flt_life_model.specs.declared.answer.StepAnswer.TheVariants.{Dark}
use Rattle.flt_lives.specs.Living.{IsLiving}
use Rattle.flt_live.specs.declared.line.Answered.{Answered}
use Rattle.flt_live.specs.declared.line.Answered.TheVariants as told
use Rattle.flt_live.specs.declared.line.Due.{Due}
use Rattle.flt_live.specs.declared.line.Due.TheVariants as due
use Rattle.flt_live.specs.declared.living.LifeEnd.{LifeEnd}
use Rattle.flt_live.specs.declared.living.LifeEnd.TheVariants as ends
use Rattle.flt_live.specs.declared.reader.Line.{Line}
use Rattle.flt_live.specs.declared.reader.Line.TheVariants.{Fed, Cut, Ended}
use Rattle.flt_live.specs.Ahead.{TakesLine, line_end_of, kept_text}
use Rattle.flt_live.specs.Answered.{Answers, IsDarkLineAnswered, IsLineAnswered, IsToldBy, LeavesAll, dark_line}
use Rattle.flt_live.specs.Due.{due_at}
use Rattle.flt_live.specs.Heard.{AreHeard, LineComesTo, Heard, IsOneLine, Talk, answer_bytes, heard_bytes, talk, text_in}
use Rattle.flt_live.specs.Lived.{AreDark, IfLost, IsCutShort, IsLostFor, TakesDarkLines, TakesLines, UnlessLost, lost_by}
use Rattle.flt_live.specs.Made.{IsMidway, Made}
use Rattle.flt_live.proofs.Taking.{then_takes}
use Rattle.flt_io.specs.Sink.{AppendsFront}
use Rattle.flt_live.proofs.Writings.{appends_more, front_more, front_of, nothing_more, nothing_of}

-- ---- a line that was taken

pub one_line : (before after : Option (List ℕ)) (ended : Line) (kept : List ℕ) (taken : TakesLine before after ended kept) → ended ≢ Ended → IsOneLine ended taken.whole
one_line before after Fed kept taken not_ended = taken.one
one_line before after Cut kept taken not_ended = (taken.one, taken.end.0)
one_line before after Ended kept taken not_ended = absurd (not_ended refl)

-- It is reported as answered, or as a `power`.
not_power : (what : Due) → IsToldBy what told.Line → what ≢ due.Power
not_power due.Nothing is = λ same. absurd (cc same)
not_power (due.Refuse refusal) is = λ same. absurd (cc same)
not_power (due.Make step) is = λ same. absurd (cc same)
not_power due.Power is = absurd (cc is)

is_power : (what : Due) → IsToldBy what told.Power → what ≡ due.Power
is_power due.Nothing is = absurd (cc is)
is_power (due.Refuse refusal) is = absurd (cc is)
is_power (due.Make step) is = absurd (cc is)
is_power due.Power is = refl

told_by : (what : Due) (result : Result Answered StreamFault) (answered : Answered) → result ≡ Ok answered → IfOk result (IsToldBy what) → IsToldBy what answered
told_by what result answered is may = subst (λ r. IfOk r (IsToldBy what)) is may

-- It was written whole.
whole : {K T : Type 0} (held : K → Option (List ℕ)) (count : K → ℕ) (before after : K) (text : List ℕ) (result : Result T StreamFault) (value : T) → result ≡ Ok value
    → Writes held count before after text result → Appends (held before) (held after) text
whole held count before after text result value is writes = subst (λ r. OnOk r (Appends (held before) (held after) text)) is writes.ok

-- Nothing is taken at the end.
none_taken : (before after : Option (List ℕ)) (kept : List ℕ) → TakesLine before after Ended kept → Consumes before after []
none_taken before after kept taken = subst (Consumes before after) (ap (λ l. l ++ []) taken.end.0) taken.taken

-- ---- counts of faults

pub rose_later : (first before after : ℕ) → first ≤ before → Rose before after → Rose first after
rose_later first before after later rose = omega (arith, later, rose)

-- ---- a life that was lost

pub lost_anyway : (fault : StreamFault) (end : LifeEnd) (fact : Type 0) → end ≡ lost_by fault → UnlessLost end fact
lost_anyway streams.Memory end fact is = subst (λ (e : LifeEnd). UnlessLost e fact) (sym is) tt
lost_anyway streams.Failed end fact is = subst (λ (e : LifeEnd). UnlessLost e fact) (sym is) tt

pub lost_for : (first before after : ℕ) (fault : StreamFault) (end : LifeEnd) → end ≡ lost_by fault → first ≤ before → (fault ≡ streams.Failed → Rose before after) → IsLostFor first after end
lost_for first before after streams.Memory end is later rose = subst (IsLostFor first after) (sym is) tt
lost_for first before after streams.Failed end is later rose = subst (IsLostFor first after) (sym is) (rose_later first before after later (rose refl))

pub failed_rose : {K T : Type 0} (held : K → Option (List ℕ)) (count : K → ℕ) (before after : K) (text : List ℕ) (result : Result T StreamFault) (fault : StreamFault)
    → result ≡ Err fault → Writes held count before after text result → fault ≡ streams.Failed → Rose (count before) (count after)
failed_rose held count before after text result fault is writes same = writes.cause (is ∙ ap Err same)

-- A line was not answered whole: a front of the answers so far and of its own was written.
cut_by : (c : Config) (first middle last : Option (List ℕ)) (heard : List Heard) (made : List Made) → AreHeard c heard made → Appends first middle (answer_bytes heard) → (start : Talk) → start.held ≡ first → (next : Talk) → next.held ≡ last
    → (line : Heard) → IsOneLine line.ended line.whole → AppendsFront middle last line.answer → (line.answer ≡ []) ⊎ ((more : List Made) × LineComesTo (due_at c (text_in line)) line.answer made more) → IsCutShort c [] start next
cut_by c first middle last heard made are written start start_is next next_is line one front (inl none) = record {
  heard = heard;
  made = made;
  are = are;
  front = subst (λ a. AppendsFront a next.held (answer_bytes heard)) (sym start_is) (subst (λ b. AppendsFront first b (answer_bytes heard)) (sym next_is)
      (subst (AppendsFront first last) (ap (λ l. answer_bytes heard ++ l) none ∙ append-nil (answer_bytes heard)) (front_more first middle last (answer_bytes heard) line.answer written front)));
}
cut_by c first middle last heard made are written start start_is next next_is line one front (inr come) = record {
  heard = line ∷ heard;
  made = come.0;
  are = (made, are, one, come.1);
  front = subst (λ a. AppendsFront a next.held (answer_bytes (line ∷ heard))) (sym start_is) (subst (λ b. AppendsFront first b (answer_bytes (line ∷ heard))) (sym next_is)
      (front_more first middle last (answer_bytes heard) line.answer written front));
}

-- Nothing was read.
pub cut_at_once : (c : Config) (ahead : Option (List ℕ)) (reads writes : ℕ) (held : Option (List ℕ)) → IsCutShort c [] (talk ahead reads held writes) (talk ahead reads held writes)
cut_at_once c ahead reads writes held = record { heard = []; made = []; are = refl; front = nothing_of held [] }

pub lost_cut : (fault : StreamFault) (end : LifeEnd) (fact : Type 0) → end ≡ lost_by fault → fact → IfLost end fact
lost_cut streams.Memory end fact is holds = subst (λ (e : LifeEnd). IfLost e fact) (sym is) holds
lost_cut streams.Failed end fact is holds = subst (λ (e : LifeEnd). IfLost e fact) (sym is) holds

-- ---- the lines so far, in a life that was started

module _ {B : Type 0} {b : Ghosts B} (c : Config) (first : Generation) (found : ℕ → Content) (begun : BlocksState) where
  pub record IsGoing (before now : Talk) (unit : UnitView) (queue : JobQueue) (store : Store B b) : Type 0 where
    pub heard : List Heard
    pub made : List Made
    pub are : AreHeard c heard made
    pub midway : IsMidway c first found begun made unit queue store
    pub written : Appends before.held now.held (answer_bytes heard)
    pub read : Consumes before.ahead now.ahead (heard_bytes heard)

  -- Nothing changed.
  moved : (made : List Made) (unit next_unit : UnitView) (queue next_queue : JobQueue) (store next_store : Store B b) → next_unit ≡ unit → next_queue ≡ queue → next_store ≡ store
      → IsMidway c first found begun made unit queue store → IsMidway c first found begun made next_unit next_queue next_store
  moved made unit next_unit queue next_queue store next_store unit_is queue_is store_is mid =
      subst (λ (u : UnitView). IsMidway c first found begun made u next_queue next_store) (sym unit_is)
      (subst (λ (q : JobQueue). IsMidway c first found begun made unit q next_store) (sym queue_is)
      (subst (λ (s : Store B b). IsMidway c first found begun made unit queue s) (sym store_is) mid))

  -- What a line comes to, by what is due.
  comes : (made : List Made) (what : Due) (line : List ℕ) (unit next_unit : UnitView) (queue next_queue : JobQueue) (store next_store : Store B b) → what ≢ due.Power
      → Answers c what line unit next_unit queue next_queue store next_store → IsMidway c first found begun made unit queue store
      → (more : List Made) × LineComesTo what line made more × IsMidway c first found begun more next_unit next_queue next_store
  comes made due.Nothing line unit next_unit queue next_queue store next_store other (is, unit_is, queue_is, store_is) mid =
      (made, (is, refl), moved made unit next_unit queue next_queue store next_store unit_is queue_is store_is mid)
  comes made (due.Refuse refusal) line unit next_unit queue next_queue store next_store other (is, unit_is, queue_is, store_is) mid =
      (made, (is, refl), moved made unit next_unit queue next_queue store next_store unit_is queue_is store_is mid)
  comes made (due.Make step) line unit next_unit queue next_queue store next_store other (answer, is, makes) mid =
      ((step, answer) ∷ made, (answer, is, refl), makes first found begun made mid)
  comes made due.Power line unit next_unit queue next_queue store next_store other answers mid = absurd (other refl)

  -- Of a line it is known what it comes to, or it is a `power`.
  may_come : (what : Due) (line : List ℕ) (unit next_unit : UnitView) (queue next_queue : JobQueue) (store next_store : Store B b) (made : List Made) → Answers c what line unit next_unit queue next_queue store next_store
      → (line ≡ []) ⊎ ((more : List Made) × LineComesTo what line made more)
  may_come due.Nothing line unit next_unit queue next_queue store next_store made answers = inr (made, (answers.0, refl))
  may_come (due.Refuse refusal) line unit next_unit queue next_queue store next_store made answers = inr (made, (answers.0, refl))
  may_come (due.Make step) line unit next_unit queue next_queue store next_store made (answer, is, makes) = inr ((step, answer) ∷ made, (answer, is, refl))
  may_come due.Power line unit next_unit queue next_queue store next_store made answers = inl answers.0

  -- A `power` is not answered.
  stays : (made : List Made) (what : Due) (line : List ℕ) (unit next_unit : UnitView) (queue next_queue : JobQueue) (store next_store : Store B b) → what ≡ due.Power
      → Answers c what line unit next_unit queue next_queue store next_store → IsMidway c first found begun made unit queue store
      → (line ≡ []) × IsMidway c first found begun made next_unit next_queue next_store
  stays made due.Nothing line unit next_unit queue next_queue store next_store is answers mid = absurd (cc is)
  stays made (due.Refuse refusal) line unit next_unit queue next_queue store next_store is answers mid = absurd (cc is)
  stays made (due.Make step) line unit next_unit queue next_queue store next_store is answers mid = absurd (cc is)
  stays made due.Power line unit next_unit queue next_queue store next_store is (none, unit_is, queue_is, store_is) mid =
      (none, moved made unit next_unit queue next_queue store next_store unit_is queue_is store_is mid)

  -- An answer that is Ok was given.
  given : (what : Due) (line : List ℕ) (unit next_unit : UnitView) (queue next_queue : JobQueue) (store next_store : Store B b) (result : Result Answered StreamFault) (answered : Answered)
      → result ≡ Ok answered → Answers c what line unit next_unit queue next_queue store next_store ⊎ LeavesAll result line unit next_unit queue next_queue store next_store
      → Answers c what line unit next_unit queue next_queue store next_store
  given what line unit next_unit queue next_queue store next_store result answered is (inl answers) = answers
  given what line unit next_unit queue next_queue store next_store result answered is (inr leaves) = absurd (cc (sym is ∙ leaves.0))

  module _ {K : Type 0} (held : K → Option (List ℕ)) (count : K → ℕ) (sink next_sink : K) (start : Talk) (ahead next_ahead : Option (List ℕ)) (reads next_reads : ℕ)
      (unit next_unit : UnitView) (queue next_queue : JobQueue) (store next_store : Store B b)
      (ended : Line) (kept text : List ℕ) (taken : TakesLine ahead next_ahead ended kept) (not_ended : ended ≢ Ended) (text_is : text ≡ kept_text ended kept)
      (going : IsGoing start (talk ahead reads (held sink) (count sink)) unit queue store)
      (result : Result Answered StreamFault) (answered : IsLineAnswered c (due_at c text) held count sink next_sink unit next_unit queue next_queue store next_store result) where
    abbrev heard : Heard
    heard = record { whole = taken.whole; ended = ended; answer = answered.line }

    due_is : due_at c text ≡ due_at c (text_in heard)
    due_is = ap (due_at c) (text_is ∙ ap (kept_text ended) taken.is)

    -- One line more was answered.
    pub going_more : result ≡ Ok told.Line → IsGoing start (talk next_ahead next_reads (held next_sink) (count next_sink)) next_unit next_queue next_store
    going_more is =
        let answers = given (due_at c text) answered.line unit next_unit queue next_queue store next_store result told.Line is answered.answers in
        let other = not_power (due_at c text) (told_by (due_at c text) result told.Line is answered.told) in
        let come = comes going.made (due_at c text) answered.line unit next_unit queue next_queue store next_store other answers going.midway in
        record {
          heard = heard ∷ going.heard;
          made = come.0;
          are = (going.made, going.are, one_line ahead next_ahead ended kept taken not_ended, subst (λ (what : Due). LineComesTo what answered.line going.made come.0) due_is come.1);
          midway = come.2;
          written = appends_more start.held (held sink) (held next_sink) (answer_bytes going.heard) answered.line going.written (whole held count sink next_sink answered.line result told.Line is answered.written);
          read = then_takes start.ahead ahead next_ahead (heard_bytes going.heard) (taken.whole ++ line_end_of ended) going.read taken.taken;
        }

    -- It was a `power`.
    pub power_ends : result ≡ Ok told.Power → TakesLines c first found begun start (talk next_ahead next_reads (held next_sink) (count next_sink)) next_unit next_store ends.Power
    power_ends is =
        let answers = given (due_at c text) answered.line unit next_unit queue next_queue store next_store result told.Power is answered.answers in
        let power = is_power (due_at c text) (told_by (due_at c text) result told.Power is answered.told) in
        let left = stays going.made (due_at c text) answered.line unit next_unit queue next_queue store next_store power answers going.midway in
        let more = appends_more start.held (held sink) (held next_sink) (answer_bytes going.heard) answered.line going.written (whole held count sink next_sink answered.line result told.Power is answered.written) in
        record {
          heard = going.heard;
          made = going.made;
          queue = next_queue;
          are = going.are;
          midway = left.1;
          written = subst (Appends start.held (held next_sink)) (ap (λ l. answer_bytes going.heard ++ l) left.0 ∙ append-nil (answer_bytes going.heard)) more;
          ended = (
            heard,
            one_line ahead next_ahead ended kept taken not_ended,
            sym due_is ∙ power,
            then_takes start.ahead ahead next_ahead (heard_bytes going.heard) (taken.whole ++ line_end_of ended) going.read taken.taken,
          );
        }

    -- It was not answered whole.
    pub lost_ends : (fault : StreamFault) → result ≡ Err fault → IsCutShort c [] start (talk next_ahead next_reads (held next_sink) (count next_sink))
    lost_ends fault is = cut_by c start.held (held sink) (held next_sink) going.heard going.made going.are going.written start refl (talk next_ahead next_reads (held next_sink) (count next_sink)) refl heard (one_line ahead next_ahead ended kept taken not_ended)
        (front_of held count sink next_sink answered.line result fault is answered.written) (by_answers answered.answers)
      where
        by_answers : Answers c (due_at c text) answered.line unit next_unit queue next_queue store next_store ⊎ LeavesAll result answered.line unit next_unit queue next_queue store next_store
            → (answered.line ≡ []) ⊎ ((more : List Made) × LineComesTo (due_at c (text_in heard)) answered.line going.made more)
        by_answers (inl answers) = subst (λ (what : Due). (answered.line ≡ []) ⊎ ((more : List Made) × LineComesTo what answered.line going.made more)) due_is (may_come (due_at c text) answered.line unit next_unit queue next_queue store next_store going.made answers)
        by_answers (inr leaves) = inl leaves.1

  module _ (start now next : Talk) (unit : UnitView) (queue : JobQueue) (store : Store B b) (going : IsGoing start now unit queue store) (same : next.held ≡ now.held) where
    still : Appends start.held next.held (answer_bytes going.heard)
    still = subst (λ held. Appends start.held held (answer_bytes going.heard)) (sym same) going.written

    -- There was no line more.
    pub end_ends : (kept : List ℕ) → TakesLine now.ahead next.ahead Ended kept → TakesLines c first found begun start next unit store ends.Ended
    end_ends kept taken = record {
      heard = going.heard;
      made = going.made;
      queue = queue;
      are = going.are;
      midway = going.midway;
      written = still;
      ended = (
        subst (Consumes start.ahead next.ahead) (append-nil (heard_bytes going.heard)) (then_takes start.ahead now.ahead next.ahead (heard_bytes going.heard) [] going.read (none_taken now.ahead next.ahead kept taken)),
        taken.end.1,
      );
    }

    -- The source failed.
    pub unread_ends : Rose start.read_faults next.read_faults → TakesLines c first found begun start next unit store ends.Unread
    unread_ends rose = record { heard = going.heard; made = going.made; queue = queue; are = going.are; midway = going.midway; written = still; ended = rose }

none_more : (ahead : Option (List ℕ)) → Consumes ahead ahead []
none_more None = tt
none_more (Some bytes) = refl

-- No line was read.
pub going_first : {B : Type 0} {b : Ghosts B} (c : Config) (first : Generation) (found : ℕ → Content) (now : Talk) (unit : UnitView) (queue : JobQueue) (store : Store B b) → IsLiving c first [] [] unit store
    → SameApplications found (driver_of store).value → standing.QueueStands c.blocks [] queue → IsGoing c first found (driver_of store) now now unit queue store
going_first c first found now unit queue store living same stands = record {
  heard = [];
  made = [];
  are = refl;
  midway = record {
    jobs = [];
    living = living;
    queued = stands;
    answered = refl;
    keeps_driver = no_call (driver_of store);
    caused = record {
      held_now = living.held;
      spare_now = living.spare;
      running = living.running;
      flash = omega arith;
      jobs = λ unspent. omega arith;
      spent = λ failed. absurd failed;
      sequence = λ failed. absurd failed;
    };
    held = record { counts_jobs = refl; held = same; got = tt; told = omega arith };
  };
  written = nothing_more now.held;
  read = none_more now.ahead;
}

-- ---- the lines so far, in a dark life

module _ (c : Config) where
  pub record IsDarkGoing (before now : Talk) : Type 0 where
    pub heard : List Heard
    pub made : List Made
    pub are : AreHeard c heard made
    pub dark : AreDark made
    pub written : Appends before.held now.held (answer_bytes heard)
    pub read : Consumes before.ahead now.ahead (heard_bytes heard)

  pub dark_first : (now : Talk) → IsDarkGoing now now
  dark_first now = record { heard = []; made = []; are = refl; dark = tt; written = nothing_more now.held; read = none_more now.ahead }
    where
      none_more : (ahead : Option (List ℕ)) → Consumes ahead ahead []
      none_more None = tt
      none_more (Some bytes) = refl

  dark_comes : (made : List Made) (what : Due) (line : List ℕ) → what ≢ due.Power → line ≡ dark_line what → AreDark made → (more : List Made) × LineComesTo what line made more × AreDark more
  dark_comes made due.Nothing line other is dark = (made, (is, refl), dark)
  dark_comes made (due.Refuse refusal) line other is dark = (made, (is, refl), dark)
  dark_comes made (due.Make step) line other is dark = ((step, Dark) ∷ made, (Dark, is, refl), (refl, dark))
  dark_comes made due.Power line other is dark = absurd (other refl)

  dark_may_come : (made : List Made) (what : Due) (line : List ℕ) → line ≡ dark_line what → (line ≡ []) ⊎ ((more : List Made) × LineComesTo what line made more)
  dark_may_come made due.Nothing line is = inr (made, (is, refl))
  dark_may_come made (due.Refuse refusal) line is = inr (made, (is, refl))
  dark_may_come made (due.Make step) line is = inr ((step, Dark) ∷ made, (Dark, is, refl))
  dark_may_come made due.Power line is = inl is

  dark_stays : (what : Due) (line : List ℕ) → what ≡ due.Power → line ≡ dark_line what → line ≡ []
  dark_stays what line power is = is ∙ ap dark_line power

  dark_given : (what : Due) (line : List ℕ) (result : Result Answered StreamFault) (answered : Answered) → result ≡ Ok answered → (line ≡ dark_line what) ⊎ ((result ≡ Err streams.Memory) × (line ≡ []))
      → line ≡ dark_line what
  dark_given what line result answered is (inl line_is) = line_is
  dark_given what line result answered is (inr leaves) = absurd (cc (sym is ∙ leaves.0))

  module _ {K : Type 0} (held : K → Option (List ℕ)) (count : K → ℕ) (sink next_sink : K) (start : Talk) (ahead next_ahead : Option (List ℕ)) (reads next_reads : ℕ)
      (ended : Line) (kept text : List ℕ) (taken : TakesLine ahead next_ahead ended kept) (not_ended : ended ≢ Ended) (text_is : text ≡ kept_text ended kept)
      (going : IsDarkGoing start (talk ahead reads (held sink) (count sink)))
      (result : Result Answered StreamFault) (answered : IsDarkLineAnswered (due_at c text) held count sink next_sink result) where
    abbrev dark_heard : Heard
    dark_heard = record { whole = taken.whole; ended = ended; answer = answered.line }

    dark_due_is : due_at c text ≡ due_at c (text_in dark_heard)
    dark_due_is = ap (due_at c) (text_is ∙ ap (kept_text ended) taken.is)

    pub dark_more : result ≡ Ok told.Line → IsDarkGoing start (talk next_ahead next_reads (held next_sink) (count next_sink))
    dark_more is =
        let other = not_power (due_at c text) (told_by (due_at c text) result told.Line is answered.told) in
        let come = dark_comes going.made (due_at c text) answered.line other (dark_given (due_at c text) answered.line result told.Line is answered.is) going.dark in
        record {
          heard = dark_heard ∷ going.heard;
          made = come.0;
          are = (going.made, going.are, one_line ahead next_ahead ended kept taken not_ended, subst (λ (what : Due). LineComesTo what answered.line going.made come.0) dark_due_is come.1);
          dark = come.2;
          written = appends_more start.held (held sink) (held next_sink) (answer_bytes going.heard) answered.line going.written (whole held count sink next_sink answered.line result told.Line is answered.written);
          read = then_takes start.ahead ahead next_ahead (heard_bytes going.heard) (taken.whole ++ line_end_of ended) going.read taken.taken;
        }

    pub dark_power_ends : result ≡ Ok told.Power → TakesDarkLines c start (talk next_ahead next_reads (held next_sink) (count next_sink)) ends.Power
    dark_power_ends is =
        let power = is_power (due_at c text) (told_by (due_at c text) result told.Power is answered.told) in
        let none = dark_stays (due_at c text) answered.line power (dark_given (due_at c text) answered.line result told.Power is answered.is) in
        let more = appends_more start.held (held sink) (held next_sink) (answer_bytes going.heard) answered.line going.written (whole held count sink next_sink answered.line result told.Power is answered.written) in
        record {
          heard = going.heard;
          made = going.made;
          are = going.are;
          dark = going.dark;
          written = subst (Appends start.held (held next_sink)) (ap (λ l. answer_bytes going.heard ++ l) none ∙ append-nil (answer_bytes going.heard)) more;
          ended = (
            dark_heard,
            one_line ahead next_ahead ended kept taken not_ended,
            sym dark_due_is ∙ power,
            then_takes start.ahead ahead next_ahead (heard_bytes going.heard) (taken.whole ++ line_end_of ended) going.read taken.taken,
          );
        }

    pub dark_lost_ends : (fault : StreamFault) → result ≡ Err fault → IsCutShort c [] start (talk next_ahead next_reads (held next_sink) (count next_sink))
    dark_lost_ends fault is = cut_by c start.held (held sink) (held next_sink) going.heard going.made going.are going.written start refl (talk next_ahead next_reads (held next_sink) (count next_sink)) refl dark_heard (one_line ahead next_ahead ended kept taken not_ended)
        (front_of held count sink next_sink answered.line result fault is answered.written) (by_line answered.is)
      where
        by_line : (answered.line ≡ dark_line (due_at c text)) ⊎ ((result ≡ Err streams.Memory) × (answered.line ≡ [])) → (answered.line ≡ []) ⊎ ((more : List Made) × LineComesTo (due_at c (text_in dark_heard)) answered.line going.made more)
        by_line (inl line_is) = subst (λ (what : Due). (answered.line ≡ []) ⊎ ((more : List Made) × LineComesTo what answered.line going.made more)) dark_due_is (dark_may_come going.made (due_at c text) answered.line line_is)
        by_line (inr leaves) = inl leaves.1
