-- A copy of the commit was read, and the other one tried with its bytes.
use Rattle.std.proofs.Common.{◌≡◌, ◌⊎◌, inl, inr, ⊎_elim, ℕ, ◌+◌, ◌-◌, ◌≤◌, List, length, take, drop, Some, None, length-append, refl, sym, ◌∙◌, ap, subst, arith}
use Rattle.std.proofs.lemmas.Bool.{cases_eq}
use Rattle.flt_flash.specs.Content.{Content, missing, invalid, bytes}
use Rattle.flt_flash.specs.State.{HasRisenBy}
use Rattle.flt_flash.specs.Blocks.{BlocksState}
use Rattle.flt_flash.specs.Calls.{ReadsContent, SameValues, OthersKept}
use Rattle.flt_flash.specs.declared.blocks.Found.TheVariants.{Bytes as FoundBytes}
use Rattle.flt_config.specs.declared.config.Config.{Config}
use Rattle.flt_nvm.specs.declared.got.Got.TheVariants.{Bytes, Missing, Invalid}
use Rattle.flt_nvm.specs.Leaves.{HasNoBytes, IsEither, GotOf, GotOfBoth}
use Rattle.flt_store_model.specs.declared.commit.Commit.{Commit}
use Rattle.flt_store_model.specs.Layout.{commit_id, number_of, first_commit, second_commit}
use Rattle.flt_store_model.specs.Reading.{commit_in}
use Rattle.flt_store_model.specs.Excess.{IsBorne}
use Rattle.flt_store_model.specs.Holding.{Generation, Holds, IsSound, OldOrNew}
use Rattle.flt_store.specs.Cause.{FailsThrice, IsWithinOwn}
use Rattle.flt_store.specs.Keeping.{IsOfFirst}
use Rattle.flt_store.specs.Started.{IsStarted, StartsEither, AgreeButForCommit}
use Rattle.flt_store.proofs.Causes.{borne_stays}
use Rattle.flt_store.proofs.Started.{bytes_same}
use Rattle.flt_store.proofs.Repairing.{content_read, held_of_first, spare_of_second, spare_is_held, sound_kept, second_tried, first_tried, but_for_copy}

-- The first copy has these bytes; or the second, where the first has none or could not be read in three tries.
abbrev pub IsCopyRead : BlocksState → BlocksState → List ℕ → ℕ → Type 0
IsCopyRead before after raw copy =
    ((copy ≡ 1) × (before.value first_commit ≡ bytes raw))
    ⊎ ((copy ≡ 2) × (before.value second_commit ≡ bytes raw) × (HasNoBytes (before.value first_commit) ⊎ FailsThrice before after))

-- The copy has these bytes.
abbrev pub IsAt : (ℕ → Content) → List ℕ → ℕ → Type 0
IsAt value raw copy = ((copy ≡ 1) × (value first_commit ≡ bytes raw)) ⊎ ((copy ≡ 2) × (value second_commit ≡ bytes raw))

pub at_copy : (value : ℕ → Content) (raw : List ℕ) (copy : ℕ) → 1 ≤ copy → copy ≤ 2 → value (number_of commit_id (copy - 1)) ≡ bytes raw → IsAt value raw copy
at_copy value raw copy least most holds = elim (cases_eq copy 1) [
  | inl one ↦ inl (one, subst (λ (k : ℕ). value (number_of commit_id (k - 1)) ≡ bytes raw) one holds)
  | inr apart ↦ (let two : copy ≡ 2 = omega (arith, least, most, apart) in inr (two, subst (λ (k : ℕ). value (number_of commit_id (k - 1)) ≡ bytes raw) two holds))
]

got_bytes : (copy : ℕ) (content : Content) (n from : ℕ) (before after : List ℕ) → GotOf copy content (Bytes n from) before after → (from ≡ copy) × (content ≡ bytes (take n after))
got_bytes copy content n from before after got = (got.0, content_read content n before after got.1)

copy_read : (before after : BlocksState) (n copy : ℕ) (out_before out_after : List ℕ) → GotOfBoth before after commit_id (Bytes n copy) out_before out_after → IsCopyRead before after (take n out_after) copy
copy_read before after n copy out_before out_after =
    ⊎_elim
    (λ first. inl (got_bytes 1 (before.value first_commit) n copy out_before out_after first))
    (λ second. (let got = got_bytes 2 (before.value second_commit) n copy out_before out_after second.0 in inr (got.0, got.1, second.1)))

found_short : (content : Content) (n : ℕ) (before after : List ℕ) → ReadsContent content (FoundBytes n) before after → n ≤ length after
found_short missing n before after found = absurd found
found_short invalid n before after found = absurd found
found_short (bytes held) n before after found =
    let size : length after ≡ length held + length (drop n before) = ap (λ (out : List ℕ). length out) found.1 ∙ length-append held (drop n before) in
    omega (arith, size, found.0)

bytes_short : (before after : BlocksState) (n copy : ℕ) (out_before out_after : List ℕ) → GotOfBoth before after commit_id (Bytes n copy) out_before out_after → n ≤ length out_after
bytes_short before after n copy out_before out_after =
    ⊎_elim (λ first. found_short (before.value first_commit) n out_before out_after first.1) (λ second. found_short (before.value second_commit) n out_before out_after second.0.1)

none_held : (raw : List ℕ) (content : Content) → content ≡ bytes raw → HasNoBytes content → ⊥
none_held raw content is none = subst HasNoBytes is none

copy_range : (value : ℕ → Content) (raw : List ℕ) (copy : ℕ) → IsAt value raw copy → (1 ≤ copy) × (copy ≤ 2)
copy_range value raw copy = ⊎_elim (λ one. (let is = one.0 in (omega (arith, is), omega (arith, is)))) (λ two. (let is = two.0 in (omega (arith, is), omega (arith, is))))

-- The other copy was tried with the bytes of this one.
pub tried_by : (c : Config) (before after : BlocksState) (raw : List ℕ) (copy : ℕ) → IsAt before.value raw copy → (h s new : Generation) → IsSound c before.value h s → IsWithinOwn c before.value after.value
    → IsEither before after (number_of commit_id (2 - copy)) (bytes raw) → OthersKept (number_of commit_id (2 - copy)) before after → OldOrNew c after.value h s new
tried_by c before after raw copy at h s new sound within either others =
    let range = copy_range before.value raw copy at in
    let agree = but_for_copy before.value after.value copy range.0 range.1 others in
    let excess : IsBorne c after.value = borne_stays c before.value after.value within sound.holds.excess in
    let tried : ℕ → Type 0 = λ k. (after.value (number_of commit_id (2 - k)) ≡ before.value (number_of commit_id (2 - k))) ⊎ (after.value (number_of commit_id (2 - k)) ≡ bytes raw) in
    ⊎_elim
    (λ one. second_tried c before.value after.value raw h s new sound one.1 agree excess (others first_commit (λ e. (let is = one.0 in omega (arith, e, is)))) (subst tried one.0 either))
    (λ two. first_tried c before.value after.value raw h s new sound two.1 agree excess (others second_commit (λ e. (let is = two.0 in omega (arith, e, is)))) (subst tried two.0 either))
    at

-- A read of the commit changed nothing, and gave this many bytes of this copy.
pub record ReadsCommit (before after : BlocksState) (n copy : ℕ) (out : List ℕ) : Type 0 where
  pub same : SameValues before after
  pub found : IsCopyRead before after (take n out) copy
  pub short : n ≤ length out

pub reads_commit : (before after : BlocksState) (n copy : ℕ) (out_before out_after : List ℕ) → SameValues before after → GotOfBoth before after commit_id (Bytes n copy) out_before out_after
    → ReadsCommit before after n copy out_after
reads_commit before after n copy out_before out_after same got = record {
  same = same;
  found = copy_read before after n copy out_before out_after got;
  short = bytes_short before after n copy out_before out_after got;
}

module _ {before middle : BlocksState} {n copy : ℕ} {out : List ℕ} (reads : ReadsCommit before middle n copy out) where
  at_now : IsAt middle.value (take n out) copy
  at_now = ⊎_elim (λ one. inl (one.0, reads.same first_commit ∙ one.1)) (λ two. inr (two.0, reads.same second_commit ∙ two.1)) reads.found

  pub range_read : (1 ≤ copy) × (copy ≤ 2)
  range_read = copy_range middle.value (take n out) copy at_now

  pub held_at : middle.value (number_of commit_id (copy - 1)) ≡ bytes (take n out)
  held_at =
      ⊎_elim
      (λ one. subst (λ (k : ℕ). middle.value (number_of commit_id (k - 1)) ≡ bytes (take n out)) (sym one.0) one.1)
      (λ two. subst (λ (k : ℕ). middle.value (number_of commit_id (k - 1)) ≡ bytes (take n out)) (sym two.0) two.1)
      at_now

  pub read_kept : (after : BlocksState) → OthersKept (number_of commit_id (2 - copy)) middle after → AgreeButForCommit before.value after.value
  read_kept after others number first second = but_for_copy middle.value after.value copy range_read.0 range_read.1 others number first second ∙ reads.same number

  -- The commit of the bytes is that of the first copy, or the flash failed three times.
  pub of_first : (c : Config) (after : BlocksState) (found : Commit) → HasRisenBy 0 middle.device.faults after.device.faults → commit_in c (take n out) ≡ Some found → IsOfFirst c before after (Some found)
  of_first c after found counts is commit has =
      ⊎_elim
      (λ one. inl (sym is ∙ ap (commit_in c) (bytes_same (take n out) has.0 (sym one.1 ∙ has.1)) ∙ has.2))
      (λ two. ⊎_elim (λ none. absurd (none_held has.0 (before.value first_commit) has.1 none)) (λ rose. inr (omega (arith, rose, counts))) two.2)
      reads.found

  module _ (c : Config) (h s : Generation) (sound : IsSound c before.value h s) where
    sound_now : IsSound c middle.value h s
    sound_now = sound_kept c before.value middle.value h s reads.same sound

    -- The bytes name a generation.
    pub some_holds : (g : Generation) × Holds c middle.value (bytes (take n out)) g
    some_holds =
        ⊎_elim
        (λ one. (h, held_of_first c middle.value (take n out) h s one.1 sound_now))
        (λ two. (s, spare_of_second c middle.value (take n out) h s two.1 sound_now))
        at_now

    pub started_by : (after : BlocksState) (commit : Commit) → HasRisenBy 0 middle.device.faults after.device.faults
        → ((g : Generation) → Holds c middle.value (bytes (take n out)) g → IsStarted c after.value (Some commit) g) → StartsEither c before after (Some commit) h s
    started_by after commit counts start =
        ⊎_elim
        (λ one. inl (start h (held_of_first c middle.value (take n out) h s (reads.same first_commit ∙ one.1) sound_now)))
        (λ two.
        let by_spare : IsStarted c after.value (Some commit) s = start s (spare_of_second c middle.value (take n out) h s (reads.same second_commit ∙ two.1) sound_now) in
        ⊎_elim
        (λ none. inl (subst (λ (g : Generation). IsStarted c after.value (Some commit) g) (spare_is_held c before.value h s sound none) by_spare))
        (λ rose. inr (by_spare, omega (arith, rose, counts))) two.2)
        reads.found

    pub read_tried : (after : BlocksState) (new : Generation) → IsWithinOwn c middle.value after.value → IsEither middle after (number_of commit_id (2 - copy)) (bytes (take n out))
        → OthersKept (number_of commit_id (2 - copy)) middle after → OldOrNew c after.value h s new
    read_tried after new = tried_by c middle after (take n out) copy at_now h s new sound_now

pub missing_read : (content : Content) (before after : List ℕ) → GotOf 1 content Missing before after → content ≡ missing
missing_read missing before after got = refl
missing_read invalid before after got = absurd got
missing_read (bytes held) before after got = absurd got

pub invalid_read : (content : Content) (before after : List ℕ) → GotOf 1 content Invalid before after → content ≡ invalid
invalid_read missing before after got = absurd got
invalid_read invalid before after got = refl
invalid_read (bytes held) before after got = absurd got

-- A first copy without bytes has no commit.
pub none_of_first : (c : Config) (before after : BlocksState) → HasNoBytes (before.value first_commit) → IsOfFirst c before after None
none_of_first c before after none commit has = absurd (none_held has.0 (before.value first_commit) has.1 none)
