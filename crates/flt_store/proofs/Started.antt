-- What a started image holds, and what leaves it so.
use Rattle.std.proofs.Common.{◌≡◌, inl, ℕ, ◌<◌, ◌≤◌, List, Option, Some, None, refl, sym, ◌∙◌, ap, subst, arith}
use Rattle.std.specs.Prelude.{IsTrue}
use Rattle.flt_flash.specs.Content.{Content, missing, invalid, bytes}
use Rattle.flt_config.specs.declared.config.Config.{Config}
use Rattle.flt_store_model.specs.declared.commit.Commit.{Commit}
use Rattle.flt_store_model.specs.Layout.{number_of, mark_number, first_commit, second_commit, application_number, applications, is_used, index_in}
use Rattle.flt_store_model.specs.Excess.{IsBorne}
use Rattle.flt_store_model.specs.Holding.{Generation, CommitNames, Names, MarkAllows, either_copy, only_bytes, is_application, Holds, IsSound}
use Rattle.flt_store_model.specs.Successor.{IsContentOf, number_in}
use Rattle.flt_store.specs.Started.{HasMark, NamesOf, IsStarted, AgreeButForCommit}
use Rattle.flt_store_model.proofs.Pages.{used_range}

pub bytes_same : (one two : List ℕ) → bytes one ≡ bytes two → one ≡ two
bytes_same one two same = cc same

-- The application blocks are good.
abbrev pub AreApplications : (ℕ → Content) → Type 0
AreApplications value = (block : ℕ) → block < applications → IsTrue (is_application (value (application_number block)))

module _ (c : Config) (value : ℕ → Content) where
  names_content : (commit : Option Commit) (content : Content) (g : Generation) → IsContentOf commit content → NamesOf c value commit g → Names c value content g
  names_content None content g is names = subst (λ (held : Content). Names c value held g) (sym is) names
  names_content (Some commit) content g is names = subst (λ (held : Content). Names c value held g) (sym is.1) (commit, is.2, names)

  mark_allows : (content : Content) → HasMark c value → MarkAllows c (value mark_number) content
  mark_allows content mark = subst (λ (held : Content). MarkAllows c held content) (sym mark) (inl refl)

  pub holds_of : (content : Content) (commit : Option Commit) (g : Generation) → IsContentOf commit content → HasMark c value → NamesOf c value commit g → AreApplications value → IsBorne c value
      → Holds c value content g
  holds_of content commit g is mark names applications excess = record {
    mark = mark_allows content mark;
    names = names_content commit content g is names;
    applications = applications;
    excess = excess;
  }

  pub numbered : (commit : Option Commit) (g : Generation) → NamesOf c value commit g → g.number ≡ number_in commit
  numbered None g names = ap (λ (h : Generation). h.number) names
  numbered (Some commit) g names = sym names.number

pub either_content : (first second : Content) (commit : Option Commit) → IsContentOf commit first → IsContentOf commit (only_bytes second) → IsContentOf commit (either_copy first second)
either_content first second (Some commit) one two = (one.0, ap (λ (held : Content). either_copy held second) one.1, one.2)
either_content first (bytes held) None one two = absurd (cc two)
either_content first missing None one two = ap (λ (content : Content). either_copy content missing) one
either_content first invalid None one two = ap (λ (content : Content). either_copy content invalid) one

-- The second copy is of the same commit.
pub second_of : {c : Config} {value : ℕ → Content} {commit : Option Commit} {g : Generation} → IsStarted c value commit g → IsContentOf commit (only_bytes (value second_commit))
second_of {commit = commit} started = subst (IsContentOf commit) (sym started.equal) started.first

-- The copies are the same bytes, where each of them stayed.
pub equal_still : {first second first_now second_now : Content} → first_now ≡ first → second_now ≡ second → only_bytes second ≡ first → only_bytes second_now ≡ first_now
equal_still one two equal = ap only_bytes two ∙ equal ∙ sym one

-- Both copies name the generation.
pub sound_started : (c : Config) (value : ℕ → Content) (commit : Option Commit) (g : Generation) → IsStarted c value commit g → IsSound c value g g
sound_started c value commit g started = record {
  holds = holds_of c value (either_copy (value first_commit) (value second_commit)) commit g (either_content (value first_commit) (value second_commit) commit started.first (second_of started)) started.mark started.names started.applications started.excess;
  spares = holds_of c value (only_bytes (value second_commit)) commit g (second_of started) started.mark started.names started.applications started.excess;
  order = omega arith;
  step = omega arith;
  same = λ equal. refl;
}

-- What is named and held where the used blocks are as they were.
module _ (c : Config) (before after : ℕ → Content) (above : (id index : ℕ) → IsTrue (is_used c id) → index ≤ 1 → after (number_of id index) ≡ before (number_of id index)) where
  commit_names_on : (commit : Commit) (g : Generation) → CommitNames c before commit g → CommitNames c after commit g
  commit_names_on commit g is = record {
    form = is.form;
    number = is.number;
    blocks = λ id used. (let range = used_range c id used in above id (index_in commit id) used ((is.form.indices id range.0 range.1).used used) ∙ is.blocks id used);
    fits = is.fits;
  }

  names_on : (commit : Option Commit) (g : Generation) → NamesOf c before commit g → NamesOf c after commit g
  names_on None g is = is
  names_on (Some commit) g is = commit_names_on commit g is

  content_names_on : (content : Content) (g : Generation) → Names c before content g → Names c after content g
  content_names_on missing g is = is
  content_names_on invalid g is = is
  content_names_on (bytes held) g is = (is.0, is.1, commit_names_on is.0 g is.2)

  holds_on : (content : Content) (g : Generation) → (MarkAllows c (before mark_number) content → MarkAllows c (after mark_number) content) → AreApplications after → IsBorne c after → Holds c before content g
      → Holds c after content g
  holds_on content g allows applications excess is = record { mark = allows is.mark; names = content_names_on content g is.names; applications = applications; excess = excess }

-- What was written is no copy of the commit and no used block; the mark allows what it did, the application blocks stay good, and there is
-- still room.
pub record KeepsGenerations (c : Config) (before after : ℕ → Content) : Type 0 where
  pub low : (number : ℕ) → first_commit ≤ number → number < 512 → after number ≡ before number
  pub mark : (commit : Content) → MarkAllows c (before mark_number) commit → MarkAllows c (after mark_number) commit
  pub applications : AreApplications before → AreApplications after
  pub excess : IsBorne c before → IsBorne c after

module _ {c : Config} {before after : ℕ → Content} (keeps : KeepsGenerations c before after) where
  used_same : (id index : ℕ) → IsTrue (is_used c id) → index ≤ 1 → after (number_of id index) ≡ before (number_of id index)
  used_same id index used small = let range = used_range c id used in keeps.low (number_of id index) (omega (arith, range.0)) (omega (arith, range.1, small))

  first_same : after first_commit ≡ before first_commit
  first_same = keeps.low first_commit (omega arith) (omega arith)

  second_same : after second_commit ≡ before second_commit
  second_same = keeps.low second_commit (omega arith) (omega arith)

  pub holds_still : (content : Content) (g : Generation) → Holds c before content g → Holds c after content g
  holds_still content g is = holds_on c before after used_same content g (keeps.mark content) (keeps.applications is.applications) (keeps.excess is.excess) is

  -- No generation changes.
  pub sound_still : (h s : Generation) → IsSound c before h s → IsSound c after h s
  sound_still h s sound = record {
    holds = subst (λ (content : Content). Holds c after content h) (ap (λ (d : Content). either_copy d (before second_commit)) (sym first_same) ∙ ap (either_copy (after first_commit)) (sym second_same))
        (holds_still (either_copy (before first_commit) (before second_commit)) h sound.holds);
    spares = subst (λ (content : Content). Holds c after content s) (ap only_bytes (sym second_same)) (holds_still (only_bytes (before second_commit)) s sound.spares);
    order = sound.order;
    step = sound.step;
    same = sound.same;
  }

  pub started_still : (commit : Option Commit) (g : Generation) → HasMark c after → IsStarted c before commit g → IsStarted c after commit g
  started_still commit g mark started = record {
    mark = mark;
    first = subst (IsContentOf commit) (sym first_same) started.first;
    equal = equal_still first_same second_same started.equal;
    names = names_on c before after used_same commit g started.names;
    applications = keeps.applications started.applications;
    excess = keeps.excess started.excess;
  }

-- What holds where the two images agree but for the copies of the commit.
module _ (c : Config) (before after : ℕ → Content) (agree : AgreeButForCommit before after) where
  above_commit : (id index : ℕ) → IsTrue (is_used c id) → index ≤ 1 → after (number_of id index) ≡ before (number_of id index)
  above_commit id index used small = let range = used_range c id used in agree (number_of id index) (λ same. omega (arith, range.0, same)) (λ same. omega (arith, range.0, same))

  below_commit : after mark_number ≡ before mark_number
  below_commit = agree mark_number (λ same. omega (arith, same)) (λ same. omega (arith, same))

  pub commit_names_kept : (commit : Commit) (g : Generation) → CommitNames c before commit g → CommitNames c after commit g
  commit_names_kept = commit_names_on c before after above_commit

  pub names_kept : (commit : Option Commit) (g : Generation) → NamesOf c before commit g → NamesOf c after commit g
  names_kept = names_on c before after above_commit

  pub mark_kept : HasMark c before → HasMark c after
  mark_kept mark = below_commit ∙ mark

  pub applications_kept : AreApplications before → AreApplications after
  applications_kept are block within =
      subst (λ (content : Content). IsTrue (is_application content)) (sym (agree (application_number block) (λ same. omega (arith, same)) (λ same. omega (arith, same)))) (are block within)

  pub holds_kept : (content : Content) (g : Generation) → IsBorne c after → Holds c before content g → Holds c after content g
  holds_kept content g excess is =
      holds_on c before after above_commit content g (subst (λ (mark : Content). MarkAllows c mark content) (sym below_commit)) (applications_kept is.applications) excess is

-- Reads leave a started image as it is.
pub started_kept : (c : Config) (before after : ℕ → Content) → ((number : ℕ) → after number ≡ before number) → (commit : Option Commit) (g : Generation) → IsStarted c before commit g → IsStarted c after commit g
started_kept c before after same commit g started = let values : before ≡ after = λ i number. sym (same number) i in subst (λ (value : ℕ → Content). IsStarted c value commit g) values started
