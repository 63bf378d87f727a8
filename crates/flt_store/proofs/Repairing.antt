-- What a repair of the commit's copies leaves of a sound image.
use Rattle.std.proofs.Common.{◌≡◌, ◌⊎◌, inl, inr, ⊎_elim, ℕ, ◌≤◌, List, length, take, drop, Some, None, refl, sym, ◌∙◌, ap, subst, arith}
use Rattle.std.proofs.Math.Seq.{take-append_seam}
use Rattle.std.specs.Prelude.{◌≢◌, ◌-◌, IsSome}
use Rattle.std.proofs.lemmas.Bool.{cases_eq}
use Rattle.flt_flash.specs.Content.{Content, missing, invalid, bytes}
use Rattle.flt_flash.specs.Blocks.{pages_of, record_pages}
use Rattle.flt_flash.specs.Calls.{ReadsContent}
use Rattle.flt_flash.specs.declared.blocks.Found.TheVariants.{Bytes}
use Rattle.flt_config.specs.declared.config.Config.{Config}
use Rattle.flt_nvm.specs.Leaves.{HasNoBytes}
use Rattle.flt_store_model.specs.declared.commit.Commit.{Commit}
use Rattle.flt_store_model.specs.Layout.{commit_id, number_of, first_commit, second_commit}
use Rattle.flt_store_model.specs.Reading.{commit_in}
use Rattle.flt_store_model.specs.Excess.{IsBorne, own_pages}
use Rattle.flt_store_model.specs.Holding.{Generation, Names, Holds, IsHeld, IsSpare, IsSound, either_copy, only_bytes, OldOrNew}
use Rattle.flt_store_model.proofs.Commits.{bytes_of_commit_size, commit_read, read_commit}
use Rattle.flt_store_model.specs.Form.{commit_length}
use Rattle.flt_store.specs.Cause.{IsWithinOwn}
use Rattle.flt_store.specs.Started.{HasMark, IsStarted, AgreeButForCommit}
use Rattle.flt_store.proofs.Causes.{own_first, own_second}
use Rattle.flt_store.proofs.Started.{holds_kept, commit_names_kept, mark_kept, applications_kept}

-- What a read of bytes says of the content.
pub content_read : (content : Content) (n : ℕ) (before after : List ℕ) → ReadsContent content (Bytes n) before after → content ≡ bytes (take n after)
content_read missing n before after found = absurd found
content_read invalid n before after found = absurd found
content_read (bytes held) n before after found =
    let seam : take n after ≡ held = ap (λ (m : ℕ). take m after) found.0 ∙ ap (take (length held)) found.1 ∙ take-append_seam held (drop n before) in
    ap bytes (sym seam)

module _ (c : Config) where
  -- From bytes that name a generation a commit is read.
  pub is_read : (value : ℕ → Content) (raw : List ℕ) (g : Generation) → Holds c value (bytes raw) g → IsSome (commit_in c raw)
  is_read value raw g holds = let named = holds.names in let read = commit_read c raw named.0 named.2.form named.1 in subst IsSome (sym read) refl

  module _ (before after : ℕ → Content) (agree : AgreeButForCommit before after) (excess : IsBorne c after) where
    -- Both copies hold the bytes of a commit that names a generation.
    pub repaired : (raw : List ℕ) (commit : Commit) (g : Generation) → HasMark c before → commit_in c raw ≡ Some commit → Holds c before (bytes raw) g
        → after first_commit ≡ bytes raw → after second_commit ≡ bytes raw → IsStarted c after (Some commit) g
    repaired raw commit g mark read holds first second =
        let form = holds.names in
        let found = commit_read c raw form.0 form.2.form form.1 in
        let same : form.0 ≡ commit = cc (read, found) in
        subst (λ (d : Commit). IsStarted c after (Some d) g) same (record {
          mark = mark_kept c before after agree mark;
          first = (raw, first, form.1);
          equal = ap only_bytes second ∙ sym first;
          names = commit_names_kept c before after agree form.0 g form.2;
          applications = applications_kept c before after agree holds.applications;
          excess = excess;
        })

  -- What is held goes by the copies' contents alone, once they are known.
  module _ (value : ℕ → Content) where
    held_by : (content : Content) (g : Generation) → either_copy (value first_commit) (value second_commit) ≡ content → Holds c value content g → IsHeld c value g
    held_by content g is holds = subst (λ (d : Content). Holds c value d g) (sym is) holds

    spare_by : (content : Content) (g : Generation) → only_bytes (value second_commit) ≡ content → Holds c value content g → IsSpare c value g
    spare_by content g is holds = subst (λ (d : Content). Holds c value d g) (sym is) holds

  -- One generation in both.
  one_generation : (value : ℕ → Content) (h s g new : Generation) → IsHeld c value g → IsSpare c value g → (g ≡ h) ⊎ (g ≡ s) → s.number ≤ g.number → OldOrNew c value h s new
  one_generation value h s g new held spare is rises = record {
    held = g;
    spare = g;
    sound = record { holds = held; spares = spare; order = omega arith; step = omega arith; same = λ equal. refl };
    held_is = ⊎_elim (λ e. inl e) (λ e. inr (inl e)) is;
    spare_is = ⊎_elim (λ e. inl e) (λ e. inr (inl e)) is;
    rises = rises;
  }

  pub both_old : (value : ℕ → Content) (h s new : Generation) → IsSound c value h s → OldOrNew c value h s new
  both_old value h s new sound = record { held = h; spare = s; sound = sound; held_is = inl refl; spare_is = inr (inl refl); rises = omega arith }

  pub held_of_first : (value : ℕ → Content) (raw : List ℕ) (h s : Generation) → value first_commit ≡ bytes raw → IsSound c value h s → Holds c value (bytes raw) h
  held_of_first value raw h s is sound = subst (λ (d : Content). Holds c value (either_copy d (value second_commit)) h) is sound.holds

  pub spare_of_second : (value : ℕ → Content) (raw : List ℕ) (h s : Generation) → value second_commit ≡ bytes raw → IsSound c value h s → Holds c value (bytes raw) s
  spare_of_second value raw h s is sound = subst (λ (d : Content). Holds c value (only_bytes d) s) is sound.spares

  -- Copy 1 has bytes, and copy 2 was tried with them.
  pub second_tried : (before after : ℕ → Content) (raw : List ℕ) (h s new : Generation) → IsSound c before h s → before first_commit ≡ bytes raw → AgreeButForCommit before after → IsBorne c after
      → after first_commit ≡ before first_commit → (after second_commit ≡ before second_commit) ⊎ (after second_commit ≡ bytes raw) → OldOrNew c after h s new
  second_tried before after raw h s new sound first agree excess kept tried =
      let holds : Holds c before (bytes raw) h = held_of_first before raw h s first sound in
      let now : IsHeld c after h = held_by after (bytes raw) h (ap (λ (d : Content). either_copy d (after second_commit)) (kept ∙ first)) (holds_kept c before after agree (bytes raw) h excess holds) in
      ⊎_elim
      (λ same. both_old after h s new (record {
        holds = now;
        spares = spare_by after (only_bytes (before second_commit)) s (ap only_bytes same) (holds_kept c before after agree (only_bytes (before second_commit)) s excess sound.spares);
        order = sound.order;
        step = sound.step;
        same = sound.same;
      }))
      (λ equal. one_generation after h s h new now (spare_by after (bytes raw) h (ap only_bytes equal) (holds_kept c before after agree (bytes raw) h excess holds)) (inl refl) sound.order)
      tried

  -- Copy 2 has bytes, and copy 1 was tried with them.
  pub first_tried : (before after : ℕ → Content) (raw : List ℕ) (h s new : Generation) → IsSound c before h s → before second_commit ≡ bytes raw → AgreeButForCommit before after → IsBorne c after
      → after second_commit ≡ before second_commit → (after first_commit ≡ before first_commit) ⊎ (after first_commit ≡ bytes raw) → OldOrNew c after h s new
  first_tried before after raw h s new sound second agree excess kept tried =
      let holds : Holds c before (bytes raw) s = spare_of_second before raw h s second sound in
      let now : IsSpare c after s = spare_by after (bytes raw) s (ap only_bytes (kept ∙ second)) (holds_kept c before after agree (bytes raw) s excess holds) in
      ⊎_elim
      (λ same. both_old after h s new (record {
        holds = held_by after (either_copy (before first_commit) (before second_commit)) h (ap (λ (d : Content). either_copy d (after second_commit)) same ∙ ap (either_copy (before first_commit)) kept)
            (holds_kept c before after agree (either_copy (before first_commit) (before second_commit)) h excess sound.holds);
        spares = now;
        order = sound.order;
        step = sound.step;
        same = sound.same;
      }))
      (λ equal. one_generation after h s s new (held_by after (bytes raw) s (ap (λ (d : Content). either_copy d (after second_commit)) equal) (holds_kept c before after agree (bytes raw) s excess holds)) now (inr refl) (omega arith))
      tried

  -- Reads change nothing.
  pub sound_kept : (before after : ℕ → Content) (h s : Generation) → ((number : ℕ) → after number ≡ before number) → IsSound c before h s → IsSound c after h s
  sound_kept before after h s same sound = let values : before ≡ after = λ i number. sym (same number) i in subst (λ (value : ℕ → Content). IsSound c value h s) values sound

  pub mark_stays : (before after : ℕ → Content) → ((number : ℕ) → after number ≡ before number) → HasMark c before → HasMark c after
  mark_stays before after same mark = same 8 ∙ mark

  one_number : (value : ℕ → Content) (content : Content) (h s : Generation) → Names c value content h → Names c value content s → h.number ≡ s.number
  one_number value missing h s one two = ap (λ (g : Generation). g.number) (one ∙ sym two)
  one_number value invalid h s one two = absurd one
  one_number value (bytes raw) h s one two =
      let first = commit_read c raw one.0 one.2.form one.1 in
      let second = commit_read c raw two.0 two.2.form two.1 in
      let commits : one.0 ≡ two.0 = cc (first, second) in
      sym one.2.number ∙ ap (λ (d : Commit). d.generation) commits ∙ two.2.number

  -- Where both copies give one content, what is held is spare.
  one_of_both : (value : ℕ → Content) (h s : Generation) → IsSound c value h s → either_copy (value first_commit) (value second_commit) ≡ only_bytes (value second_commit) → s ≡ h
  one_of_both value h s sound is =
      let names : Names c value (only_bytes (value second_commit)) h = subst (λ (d : Content). Names c value d h) is sound.holds.names in
      let number : h.number ≡ s.number = one_number value (only_bytes (value second_commit)) h s names sound.spares.names in
      λ i. record { number = sym number i; state = sym (sound.same number) i }

  either_is_only : (value : ℕ → Content) (first second : Content) (h : Generation) → HasNoBytes first → Names c value (either_copy first second) h → either_copy first second ≡ only_bytes second
  either_is_only value missing missing h none names = refl
  either_is_only value missing invalid h none names = refl
  either_is_only value missing (bytes raw) h none names = refl
  either_is_only value invalid missing h none names = absurd names
  either_is_only value invalid invalid h none names = absurd names
  either_is_only value invalid (bytes raw) h none names = refl
  either_is_only value (bytes raw) second h none names = absurd none

  -- Copy 1 has no bytes, so copy 2 names the held generation.
  pub spare_is_held : (value : ℕ → Content) (h s : Generation) → IsSound c value h s → HasNoBytes (value first_commit) → s ≡ h
  spare_is_held value h s sound none = one_of_both value h s sound (either_is_only value (value first_commit) (value second_commit) h none sound.holds.names)

  none_of_second : (second : Content) → HasNoBytes second → only_bytes second ≡ missing
  none_of_second missing none = refl
  none_of_second invalid none = refl
  none_of_second (bytes raw) none = absurd none

  either_none : (second : Content) → HasNoBytes second → either_copy missing second ≡ missing
  either_none missing none = refl
  either_none invalid none = refl
  either_none (bytes raw) none = absurd none

  either_invalid : (second : Content) → HasNoBytes second → either_copy invalid second ≡ invalid
  either_invalid missing none = refl
  either_invalid invalid none = refl
  either_invalid (bytes raw) none = absurd none

  -- Neither copy was written.
  pub no_commit : (value : ℕ → Content) (h s : Generation) → IsSound c value h s → HasMark c value → value first_commit ≡ missing → HasNoBytes (value second_commit) → IsStarted c value None h
  no_commit value h s sound mark first none =
      let is : either_copy (value first_commit) (value second_commit) ≡ missing = ap (λ (d : Content). either_copy d (value second_commit)) first ∙ either_none (value second_commit) none in
      record {
        mark = mark;
        first = first;
        equal = none_of_second (value second_commit) none ∙ sym first;
        names = subst (λ (d : Content). Names c value d h) is sound.holds.names;
        applications = sound.holds.applications;
        excess = sound.holds.excess;
      }

  -- A sound image has no invalid commit.
  pub not_invalid : (value : ℕ → Content) (h s : Generation) → IsSound c value h s → value first_commit ≡ invalid → HasNoBytes (value second_commit) → ⊥
  not_invalid value h s sound first none =
      let is : either_copy (value first_commit) (value second_commit) ≡ invalid = ap (λ (d : Content). either_copy d (value second_commit)) first ∙ either_invalid (value second_commit) none in
      subst (λ (d : Content). Names c value d h) is sound.holds.names

  -- One copy was written, with no more than a commit has.
  pub copy_within : (before after : ℕ → Content) (raw : List ℕ) (copy : ℕ) → 1 ≤ copy → copy ≤ 2 → length raw ≤ commit_length
      → (after (number_of commit_id (2 - copy)) ≡ before (number_of commit_id (2 - copy))) ⊎ (after (number_of commit_id (2 - copy)) ≡ bytes raw)
      → ((other : ℕ) → other ≢ number_of commit_id (2 - copy) → after other ≡ before other) → IsWithinOwn c before after
  copy_within before after raw copy least most size either others other = elim (cases_eq other (number_of commit_id (2 - copy))) [
    | inl same ↦
        subst (λ (n : ℕ). (after n ≡ before n) ⊎ (pages_of (after n) ≤ own_pages c n)) (sym same)
        (⊎_elim (λ kept. inl kept) (λ is. (let pages : pages_of (after (number_of commit_id (2 - copy))) ≡ record_pages (length raw) = ap pages_of is in inr (omega (arith, pages, own, size)))) either)
    | inr apart ↦ inl (others other apart)
  ]
    where
      own : own_pages c (number_of commit_id (2 - copy)) ≡ 3
      own = elim (cases_eq copy 1) [
        | inl one ↦ subst (λ (k : ℕ). own_pages c (number_of commit_id (2 - k)) ≡ 3) (sym one) (own_second c)
        | inr apart ↦ (let two : copy ≡ 2 = omega (arith, least, most, apart) in subst (λ (k : ℕ). own_pages c (number_of commit_id (2 - k)) ≡ 3) (sym two) (own_first c))
      ]

-- Bytes that are read as a commit are some, and no more than a commit may have.
pub bytes_of_commit : (c : Config) (raw : List ℕ) (commit : Commit) → commit_in c raw ≡ Some commit → (1 ≤ length raw) × (length raw ≤ commit_length)
bytes_of_commit c raw commit read = let is = read_commit c raw commit read in bytes_of_commit_size c raw commit is.0 is.1

-- All but one copy agree.
pub but_for_copy : (before after : ℕ → Content) (copy : ℕ) → 1 ≤ copy → copy ≤ 2 → ((other : ℕ) → other ≢ number_of commit_id (2 - copy) → after other ≡ before other) → AgreeButForCommit before after
but_for_copy before after copy least most others number first second =
    others number (λ same. elim (cases_eq copy 1) [ inl one ↦ second (omega (arith, same, one)) | inr apart ↦ first (omega (arith, same, least, most, apart)) ])
