-- What each entry of the journal, and each deed, leaves of the generations that were acknowledged and taken.
use Rattle.std.proofs.Common.{◌≡◌, ◌⊎◌, inl, inr, ⊎_elim, ℕ, ◌+◌, ◌≤◌, List, [], ◌∷◌, ◌++◌, All, Some, reverse, refl, ap, subst, sym, arith, ◌∙◌}
use Rattle.std.proofs.lemmas.List.{append-nil, append_assoc, reverse-append}
use Rattle.std.proofs.lemmas.List.Elements.{All-head, All-tail}
use Rattle.flt_config.specs.declared.config.Config.{Config}
use Rattle.flt_config.specs.declared.persist.Persist.{Persist}
use Rattle.flt_model.specs.Start.{Start}
use Rattle.flt_model.specs.Durable.{saved_after}
use Rattle.flt_model.specs.declared.call.Op.{Op}
use Rattle.flt_model.specs.declared.call.Op.TheVariants as ops
use Rattle.flt_turn.specs.declared.vault.Entry.{Entry}
use Rattle.flt_store_model.specs.Holding.{Generation, IsOneOf}
use Rattle.flt_store.specs.declared.fault.SaveFault.{SaveFault}
use Rattle.flt_store.specs.Store.{numbered}
use Rattle.flt_life_model.specs.Answers.{Told}
use Rattle.flt_life_model.specs.declared.answer.StepAnswer.TheVariants as answers
use Rattle.flt_life_model.specs.Journal.{Journal, entry, calls_of, snapshot_of, AcknowledgesBy, TakesBy}
use Rattle.flt_life_model.specs.Saving.{AreRising, IsLeft, IsUnacknowledged, failures, last_saved_number}
use Rattle.flt_life_model.specs.Actions.{IsStepCall}
use Rattle.flt_life_model.specs.Chain.{start_from}
use Rattle.flt_life_model.specs.SoFar.{IsKeptSince}

-- ---- a call of a step acknowledges nothing and takes nothing

acknowledged_call : (start : Start) (lane : ℕ) (earlier : Journal) (op : Op) (g : Generation) (before : Type 0) → IsStepCall op → before → AcknowledgesBy start lane earlier op g before
acknowledged_call start lane earlier (ops.Signal index value) g before is was = was
acknowledged_call start lane earlier (ops.Enable condition fulfilled) g before is was = was
acknowledged_call start lane earlier (ops.Report event report) g before is was = was
acknowledged_call start lane earlier (ops.Tick ticks) g before is was = was
acknowledged_call start lane earlier (ops.Cycle cycle) g before is was = was
acknowledged_call start lane earlier (ops.Request tester bytes) g before is was = was
acknowledged_call start lane earlier (ops.Show event) g before is was = was
acknowledged_call start lane earlier ops.Snapshot g before is was = was
acknowledged_call start lane earlier (ops.Saved number) g before is was = absurd is

taken_call : (start : Start) (earlier : Journal) (op : Op) (state : Persist) (before : Type 0) → IsStepCall op → before → TakesBy start earlier op state before
taken_call start earlier (ops.Signal index value) state before is was = was
taken_call start earlier (ops.Enable condition fulfilled) state before is was = was
taken_call start earlier (ops.Report event report) state before is was = was
taken_call start earlier (ops.Tick ticks) state before is was = was
taken_call start earlier (ops.Cycle cycle) state before is was = was
taken_call start earlier (ops.Request tester bytes) state before is was = was
taken_call start earlier (ops.Show event) state before is was = was
taken_call start earlier ops.Snapshot state before is was = absurd is
taken_call start earlier (ops.Saved number) state before is was = absurd is

snapshot_call : (start : Start) (lane number : ℕ) (earlier : Journal) (op : Op) → IsStepCall op → snapshot_of start number (entry lane op ∷ earlier) ≡ snapshot_of start number earlier
snapshot_call start lane number earlier (ops.Signal index value) is = refl
snapshot_call start lane number earlier (ops.Enable condition fulfilled) is = refl
snapshot_call start lane number earlier (ops.Report event report) is = refl
snapshot_call start lane number earlier (ops.Tick ticks) is = refl
snapshot_call start lane number earlier (ops.Cycle cycle) is = refl
snapshot_call start lane number earlier (ops.Request tester bytes) is = refl
snapshot_call start lane number earlier (ops.Show event) is = refl
snapshot_call start lane number earlier ops.Snapshot is = absurd is
snapshot_call start lane number earlier (ops.Saved other) is = absurd is

-- An entry more, the newest first.
pub pushed : (journal : Journal) (e : Entry Op) → reverse (journal ++ e ∷ []) ≡ e ∷ reverse journal
pushed journal e = reverse-append journal (e ∷ [])

-- The calls of steps after a journal leave its last snapshot.
pub snapshot_further : (start : Start) (number : ℕ) (journal entries : Journal) → All (λ (e : Entry Op). IsStepCall e.op) entries → snapshot_of start number (reverse (journal ++ entries)) ≡ snapshot_of start number (reverse journal)
snapshot_further start number journal [] are = ap (λ j. snapshot_of start number (reverse j)) (append-nil journal)
snapshot_further start number journal (e ∷ entries) are =
    ap (λ j. snapshot_of start number (reverse j)) (sym (append_assoc journal (e ∷ []) entries))
    ∙ snapshot_further start number (journal ++ e ∷ []) entries (All-tail (λ (e : Entry Op). IsStepCall e.op) e entries are)
    ∙ ap (snapshot_of start number) (pushed journal e) ∙ snapshot_call start e.lane number (reverse journal) e.op (All-head (λ (e : Entry Op). IsStepCall e.op) e entries are)

module _ (start : Start) (journal : Journal) (told : List Told) (last : Generation) where
  left_entry : (lane : ℕ) (op : Op) (g : Generation) → IsStepCall op → IsLeft start journal told last g → IsLeft start (entry lane op ∷ journal) told last g
  left_entry lane op g is = ⊎_elim (λ same. inl same) (λ (more : IsUnacknowledged start journal told last g). inr record { past = more.past; most = more.most; taken = taken_call start journal op g.state _ is more.taken })

  -- A save that failed leaves what was there.
  left_failed : (lane : ℕ) (fault : SaveFault) (g : Generation) → IsLeft start journal told last g → IsLeft start (entry lane ops.Snapshot ∷ journal) (answers.SaveFailed fault ∷ told) last g
  left_failed lane fault g = ⊎_elim (λ same. inl same) (λ (more : IsUnacknowledged start journal told last g). (let most = more.most in inr record { past = more.past; most = omega (arith, most); taken = inr more.taken }))

  at_least : (g : Generation) → IsLeft start journal told last g → last.number ≤ g.number
  at_least g = ⊎_elim (λ same. (let is = ap (λ (d : Generation). d.number) same in omega (arith, is))) (λ (more : IsUnacknowledged start journal told last g). (let past = more.past in omega (arith, past)))

  at_most : (g : Generation) → IsLeft start journal told last g → g.number ≤ last.number + failures told
  at_most g = ⊎_elim (λ same. (let is = ap (λ (d : Generation). d.number) same in omega (arith, is))) (λ (more : IsUnacknowledged start journal told last g). more.most)

  -- Or what it was to write.
  left_new : (lane : ℕ) (fault : SaveFault) (chosen : Generation) → IsLeft start journal told last chosen
      → IsLeft start (entry lane ops.Snapshot ∷ journal) (answers.SaveFailed fault ∷ told) last (numbered (chosen.number + 1) (saved_after start (calls_of journal)))
  left_new lane fault chosen left =
      let least = at_least chosen left in
      let most = at_most chosen left in
      inr record { past = omega (arith, least); most = omega (arith, most); taken = inl refl }

-- The one from which a save went on.
chosen_of : (P : Generation → Type 0) {Q R : Type 0} (h s chosen : Generation) → (chosen ≡ h) ⊎ ((chosen ≡ s) × Q × R) → P h → P s → P chosen
chosen_of P h s chosen is by_held by_spare = ⊎_elim (λ e. subst P (sym e) by_held) (λ more. subst P (sym more.0) by_spare) is

one_of : (P : Generation → Type 0) (g h s new : Generation) → IsOneOf g h s new → P h → P s → P new → P g
one_of P g h s new is by_held by_spare by_new =
    ⊎_elim (λ e. subst P (sym e) by_held) (λ more. ⊎_elim (λ e. subst P (sym e) by_spare) (λ e. subst P (sym e) by_new) more) is

-- The answer of a drain or of a read.
abbrev pub IsNoSave : Told → Type 0
IsNoSave (answers.Drained written failed) = Unit {0}
IsNoSave (answers.Bytes found) = Unit {0}
IsNoSave answers.NoBlock = Unit {0}
IsNoSave answers.BlockFlash = Unit {0}
IsNoSave _ = ⊥

left_beside : (start : Start) (journal : Journal) (told more : List Told) (last g : Generation) → failures more ≡ failures told → IsLeft start journal told last g → IsLeft start journal more last g
left_beside start journal told more last g same =
    ⊎_elim (λ is. inl is) (λ (left : IsUnacknowledged start journal told last g). inr record { past = left.past; most = (let most = left.most in omega (arith, most, same)); taken = left.taken })

module _ (c : Config) (first : Generation) (journal : Journal) (told : List Told) (h s : Generation) (kept : IsKeptSince c first journal told h s) where
  pub kept_entry : (lane : ℕ) (op : Op) → IsStepCall op → IsKeptSince c first (entry lane op ∷ journal) told h s
  kept_entry lane op is = record {
    last = kept.last;
    acknowledged = acknowledged_call (start_from c first.state) lane journal op kept.last _ is kept.acknowledged;
    number = kept.number;
    held_is = left_entry (start_from c first.state) journal told kept.last lane op h is kept.held_is;
    spare_is = left_entry (start_from c first.state) journal told kept.last lane op s is kept.spare_is;
    rising = kept.rising;
  }

  kept_beside : (answer : Told) → failures (answer ∷ told) ≡ failures told → last_saved_number first.number (answer ∷ told) ≡ last_saved_number first.number told → AreRising first.number (answer ∷ told)
      → IsKeptSince c first journal (answer ∷ told) h s
  kept_beside answer same number rising = record {
    last = kept.last;
    acknowledged = kept.acknowledged;
    number = number ∙ kept.number;
    held_is = left_beside (start_from c first.state) journal told (answer ∷ told) kept.last h same kept.held_is;
    spare_is = left_beside (start_from c first.state) journal told (answer ∷ told) kept.last s same kept.spare_is;
    rising = rising;
  }

  -- An answer of a drain or a read.
  pub kept_other : (answer : Told) → IsNoSave answer → IsKeptSince c first journal (answer ∷ told) h s
  kept_other (answers.Drained written failed) is = kept_beside (answers.Drained written failed) refl refl kept.rising
  kept_other (answers.Bytes found) is = kept_beside (answers.Bytes found) refl refl kept.rising
  kept_other answers.NoBlock is = kept_beside answers.NoBlock refl refl kept.rising
  kept_other answers.BlockFlash is = kept_beside answers.BlockFlash refl refl kept.rising
  kept_other (answers.Dem reply) is = absurd is
  kept_other (answers.Saved number) is = absurd is
  kept_other (answers.SaveFailed fault) is = absurd is
  kept_other (answers.Queue reply) is = absurd is
  kept_other answers.Armed is = absurd is
  kept_other answers.Dark is = absurd is

  module _ {Q R : Type 0} (chosen : Generation) (is : (chosen ≡ h) ⊎ ((chosen ≡ s) × Q × R)) where
    chosen_left : IsLeft (start_from c first.state) journal told kept.last chosen
    chosen_left = chosen_of (λ g. IsLeft (start_from c first.state) journal told kept.last g) h s chosen is kept.held_is kept.spare_is

    pub kept_failed : (lane : ℕ) (fault : SaveFault) (now_held now_spare : Generation)
        → IsOneOf now_held h s (numbered (chosen.number + 1) (saved_after (start_from c first.state) (calls_of journal)))
        → IsOneOf now_spare h s (numbered (chosen.number + 1) (saved_after (start_from c first.state) (calls_of journal)))
        → IsKeptSince c first (entry lane ops.Snapshot ∷ journal) (answers.SaveFailed fault ∷ told) now_held now_spare
    kept_failed lane fault now_held now_spare held_is spare_is =
        let by_held = left_failed (start_from c first.state) journal told kept.last lane fault h kept.held_is in
        let by_spare = left_failed (start_from c first.state) journal told kept.last lane fault s kept.spare_is in
        let by_new = left_new (start_from c first.state) journal told kept.last lane fault chosen chosen_left in
        record {
          last = kept.last;
          acknowledged = kept.acknowledged;
          number = kept.number;
          held_is = one_of (λ g. IsLeft (start_from c first.state) (entry lane ops.Snapshot ∷ journal) (answers.SaveFailed fault ∷ told) kept.last g) now_held h s _ held_is by_held by_spare by_new;
          spare_is = one_of (λ g. IsLeft (start_from c first.state) (entry lane ops.Snapshot ∷ journal) (answers.SaveFailed fault ∷ told) kept.last g) now_spare h s _ spare_is by_held by_spare by_new;
          rising = kept.rising;
        }

    -- The snapshot of the state was the last one of the lane, also where calls of other lanes come after it.
    pub kept_saved : (lane number : ℕ) (later : Journal) → number ≡ chosen.number + 1 → snapshot_of (start_from c first.state) lane later ≡ Some (saved_after (start_from c first.state) (calls_of journal))
        → IsKeptSince c first (entry lane (ops.Saved number) ∷ later) (answers.Saved number ∷ told)
        (numbered number (saved_after (start_from c first.state) (calls_of journal))) (numbered number (saved_after (start_from c first.state) (calls_of journal)))
    kept_saved lane number later next taken =
        let least = at_least (start_from c first.state) journal told kept.last chosen chosen_left in
        let most = at_most (start_from c first.state) journal told kept.last chosen chosen_left in
        let last = kept.number in
        record {
          last = numbered number (saved_after (start_from c first.state) (calls_of journal));
          acknowledged = (refl, taken);
          number = refl;
          held_is = inl refl;
          spare_is = inl refl;
          rising = ((omega (arith, least, next, last), omega (arith, most, next, last)), kept.rising);
        }

-- Calls of steps after a journal.
pub kept_further : (c : Config) (first : Generation) (told : List Told) (h s : Generation) (journal entries : Journal) → All (λ (e : Entry Op). IsStepCall e.op) entries → IsKeptSince c first (reverse journal) told h s
    → IsKeptSince c first (reverse (journal ++ entries)) told h s
kept_further c first told h s journal [] are kept = subst (λ j. IsKeptSince c first (reverse j) told h s) (sym (append-nil journal)) kept
kept_further c first told h s journal (e ∷ entries) are kept =
    let one = kept_entry c first (reverse journal) told h s kept e.lane e.op (All-head (λ (e : Entry Op). IsStepCall e.op) e entries are) in
    subst (λ j. IsKeptSince c first (reverse j) told h s) (append_assoc journal (e ∷ []) entries)
    (kept_further c first told h s (journal ++ e ∷ []) entries (All-tail (λ (e : Entry Op). IsStepCall e.op) e entries are) (subst (λ j. IsKeptSince c first j told h s) (sym (pushed journal e)) one))

-- No step.
pub kept_first : (c : Config) (first : Generation) → IsKeptSince c first [] [] first first
kept_first c first = record { last = first; acknowledged = refl; number = refl; held_is = inl refl; spare_is = inl refl; rising = tt }
