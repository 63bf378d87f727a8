-- What a save on a seat of the lock leaves of the store, by what the seat knows of the journal.
use Rattle.std.proofs.Common.{◌≡◌, ℕ, ◌+◌, ◌≤◌, List, [], ◌∷◌, ◌++◌, All, Some, reverse, map, refl, ap, eq-eqb, subst, sym, arith, ◌∙◌}
use Rattle.std.proofs.lemmas.List.{reverse-append}
use Rattle.std.proofs.lemmas.List.Elements.{All-nil, All-cons}
use Rattle.flt_config.specs.declared.config.Config.{Config}
use Rattle.flt_config.specs.declared.persist.Persist.{Persist}
use Rattle.flt_flash.specs.declared.blocks.Blocks.{Ghosts}
use Rattle.flt_store_model.specs.Holding.{Generation}
use Rattle.flt_model.specs.Durable.{saved_after}
use Rattle.flt_model.specs.declared.call.Op.{Op}
use Rattle.flt_model.specs.declared.call.Op.TheVariants as ops
use Rattle.flt_model.specs.Reply.{Reply}
use Rattle.flt_turn.specs.declared.answer.Answer.{Answer}
use Rattle.flt_turn.specs.declared.vault.Entry.{Entry}
use Rattle.flt_turn.specs.Call.{past}
use Rattle.flt_store.specs.declared.fault.SaveFault.{SaveFault}
use Rattle.flt_store.specs.declared.store.Store.{Store}
use Rattle.flt_store.specs.Store.{IsRunning, MayHaveSaved, Saves, numbered}
use Rattle.flt_life_model.specs.Applications.{answers_of}
use Rattle.flt_life_model.specs.Actions.{IsStepCall}
use Rattle.flt_life_model.specs.Chain.{start_from}
use Rattle.flt_life_model.specs.Journal.{Journal, entry, calls_of, snapshot_of}
use Rattle.flt_life_model.specs.Ordered.{Deed}
use Rattle.flt_life_model.specs.declared.answer.StepAnswer.TheVariants as answers
use Rattle.flt_step.specs.declared.step.Step.TheVariants as steps
use Rattle.flt_shared.specs.Call.{Seat, IsCall}
use Rattle.flt_life_model.specs.SoFar.{IsKeptSince}
use Rattle.flt_lane.specs.Living.{IsLivingOn, save_call, saves_in, saves_of}
use Rattle.flt_fork.proofs.Knowing.{Since, since, knows_all}
use Rattle.flt_life_model.proofs.Keeping.{kept_failed, kept_further, kept_saved, pushed, snapshot_further}

-- ---- how many calls of saves there are

pub saves-append : (journal more : Journal) → saves_in (journal ++ more) ≡ saves_in journal + saves_in more
saves-append [] more = omega arith
saves-append (e ∷ journal) more = let rest = saves-append journal more in omega (arith, rest)

step_call : (op : Op) → save_call op ≡ 0 → IsStepCall op
step_call (ops.Signal index value) is = tt
step_call (ops.Enable condition fulfilled) is = tt
step_call (ops.Report event report) is = tt
step_call (ops.Tick ticks) is = tt
step_call (ops.Cycle cycle) is = tt
step_call (ops.Request tester bytes) is = tt
step_call (ops.Show event) is = tt
step_call ops.Snapshot is = absurd (omega (arith, is))
step_call (ops.Saved number) is = absurd (omega (arith, is))

pub step_calls : (journal : Journal) → saves_in journal ≡ 0 → All (λ (e : Entry Op). IsStepCall e.op) journal
step_calls [] none = All-nil (λ (e : Entry Op). IsStepCall e.op)
step_calls (e ∷ journal) none = All-cons (λ (e : Entry Op). IsStepCall e.op) e journal (step_call e.op (omega (arith, none))) (step_calls journal (omega (arith, none)))

-- ---- what was called since

pub map_reverse : {X Y : Type 0} (f : X → Y) (xs : List X) → reverse (map f xs) ≡ map f (reverse xs)
map_reverse f [] = refl
map_reverse f (x ∷ xs) = reverse-append (f x ∷ []) (map f xs) ∙ ap (λ l. l ++ f x ∷ []) (map_reverse f xs) ∙ sym (map-push f (reverse xs) x) ∙ ap (map f) (sym (reverse-append (x ∷ []) xs))
  where
    map-push : {X Y : Type 0} (f : X → Y) (xs : List X) (x : X) → map f (xs ++ x ∷ []) ≡ map f xs ++ f x ∷ []
    map-push f [] x = refl
    map-push f (y ∷ xs) x = ap (λ l. f y ∷ l) (map-push f xs x)

-- The calls after what was known, the newest first.
pub calls_since : (known : Journal) (before after : Seat) (op : Op) (place : ℕ) (at : Since known before after op place) → past place after.seen ≡ calls_of (reverse (known ++ at.more))
calls_since known before after op place at = ap reverse at.ops_are ∙ map_reverse (λ (e : Entry Op). e.op) (known ++ at.more)

newest : (front : Journal) (seen : Journal) (e : Entry Op) → seen ≡ front ++ e ∷ [] → reverse seen ≡ e ∷ reverse front
newest front seen e is = ap reverse is ∙ pushed front e

many : (known more seen : Journal) (e : Entry Op) → seen ≡ (known ++ more) ++ e ∷ [] → saves_in seen ≡ saves_in known + saves_in more + save_call e.op
many known more seen e is =
    let one = saves-append (known ++ more) (e ∷ []) in
    let two = saves-append known more in
    let all = ap saves_in is in
    omega (arith, one, two, all)

-- ---- a save

module _ {B : Type 0} {b : Ghosts B} (c : Config) (main mid : Seat) (taken : Answer Reply) (state : Persist) (snapshot : IsCall main mid ops.Snapshot taken)
    (is : state ≡ saved_after main.start (past taken.place mid.seen)) (earlier : List Deed) (store now : Store B b) (first : Generation) (start : main.start ≡ start_from c first.state)
    (living : IsLivingOn c first main earlier store) where
  abbrev at : Since living.known main mid ops.Snapshot taken.place
  at = since living.known main mid ops.Snapshot taken.place living.is_known snapshot.place

  abbrev front : Journal
  front = living.known ++ at.more

  state_is : state ≡ saved_after (start_from c first.state) (calls_of (reverse front))
  state_is = is ∙ (λ i. saved_after (start i) (calls_since living.known main mid ops.Snapshot taken.place at i))

  -- The generations as they were kept before the snapshot, where no other save was made.
  ahead : saves_in mid.seen ≤ saves_of earlier + 1 → IsKeptSince c first (reverse front) (answers_of earlier) living.held living.spare
  ahead few =
      let all = many living.known at.more mid.seen (entry main.number ops.Snapshot) at.seen in
      let least = living.least in
      kept_further c first (answers_of earlier) living.held living.spare living.known at.more (step_calls at.more (omega (arith, all, few, least))) (living.kept (omega (arith, all, few)))

  pub living_failed : (fault : SaveFault) → ((held spare : Generation) → IsRunning c held spare store → MayHaveSaved c held spare state store now) → IsLivingOn c first mid ((steps.Save, answers.SaveFailed fault) ∷ earlier) now
  living_failed fault leaves =
      let left = leaves living.held living.spare living.running in
      let held_is = rw state_is at left.held_is in
      let spare_is = rw state_is at left.spare_is in
      let all = many living.known at.more mid.seen (entry main.number ops.Snapshot) at.seen in
      let least = living.least in
      record {
        held = left.now_held;
        spare = left.now_spare;
        running = left.running;
        known = mid.seen;
        is_known = knows_all mid;
        least = omega (arith, all, least);
        kept = λ few.
            subst (λ j. IsKeptSince c first j (answers.SaveFailed fault ∷ answers_of earlier) left.now_held left.now_spare) (sym (newest front mid.seen (entry main.number ops.Snapshot) at.seen))
            (kept_failed c first (reverse front) (answers_of earlier) living.held living.spare (ahead (omega (arith, few))) left.chosen left.is main.number fault left.now_held left.now_spare held_is spare_is);
      }

  pub living_saved : (after : Seat) (number : ℕ) (noted : Answer Reply) → IsCall mid after (ops.Saved number) noted → ((held spare : Generation) → IsRunning c held spare store → Saves c held spare state number store now)
      → IsLivingOn c first after ((steps.Save, answers.Saved number) ∷ earlier) now
  living_saved after number noted note saves =
      let saved = saves living.held living.spare living.running in
      let life = start_from c first.state in
      let behind : Since mid.seen mid after (ops.Saved number) noted.place = since mid.seen mid after (ops.Saved number) noted.place (knows_all mid) note.place in
      let same : mid.number ≡ main.number = snapshot.place.rest.0 in
      let last_seen : after.seen ≡ (mid.seen ++ behind.more) ++ entry main.number (ops.Saved number) ∷ [] = behind.seen ∙ ap (λ n. (mid.seen ++ behind.more) ++ entry n (ops.Saved number) ∷ []) same in
      let all = many living.known at.more mid.seen (entry main.number ops.Snapshot) at.seen in
      let whole = many mid.seen behind.more after.seen (entry main.number (ops.Saved number)) last_seen in
      let least = living.least in
      record {
        held = numbered number state;
        spare = numbered number state;
        running = saved.running;
        known = after.seen;
        is_known = knows_all after;
        least = omega (arith, all, whole, least);
        kept = λ few.
            let between = step_calls behind.more (omega (arith, all, whole, least, few)) in
            let before = ahead (omega (arith, whole, few)) in
            let last : snapshot_of life main.number (reverse (mid.seen ++ behind.more)) ≡ Some (saved_after life (calls_of (reverse front))) =
            snapshot_further life main.number mid.seen behind.more between ∙ ap (snapshot_of life main.number) (newest front mid.seen (entry main.number ops.Snapshot) at.seen) ∙ own_snapshot in
            let kept = kept_saved c first (reverse front) (answers_of earlier) living.held living.spare before saved.chosen saved.is main.number number (reverse (mid.seen ++ behind.more)) saved.next last in
            subst (λ j. IsKeptSince c first j (answers.Saved number ∷ answers_of earlier) (numbered number state) (numbered number state)) (sym (newest (mid.seen ++ behind.more) after.seen (entry main.number (ops.Saved number)) last_seen))
            (subst (λ p. IsKeptSince c first (entry main.number (ops.Saved number) ∷ reverse (mid.seen ++ behind.more)) (answers.Saved number ∷ answers_of earlier) (numbered number p) (numbered number p)) (sym state_is) kept);
      }
    where
      own_snapshot : snapshot_of (start_from c first.state) main.number (entry main.number ops.Snapshot ∷ reverse front) ≡ Some (saved_after (start_from c first.state) (calls_of (reverse front)))
      own_snapshot = rw (eq-eqb main.number main.number refl) refl
