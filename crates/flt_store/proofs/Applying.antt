-- One application block was written, or read.
use Rattle.std.proofs.Common.{◌≡◌, ◌⊎◌, inl, inr, ⊎_elim, ℕ, ◌+◌, ◌/◌, ◌<◌, ◌≤◌, true, false, List, [], length, take, drop, Option, refl, sym, ◌∙◌, ap, subst, arith}
use Rattle.std.proofs.Math.Seq.{take-append_seam}
use Rattle.std.specs.Prelude.{IsTrue, nat_lt}
use Rattle.std.proofs.lemmas.Bool.{cases_eq, le-leb, leb-true, lt-ltb}
use Rattle.flt_flash.specs.Content.{Content, missing, invalid, bytes}
use Rattle.flt_flash.specs.Blocks.{BlocksState, pages_of, record_pages}
use Rattle.flt_flash.specs.Calls.{Follows, OthersKept}
use Rattle.flt_flash.specs.declared.blocks.Blocks.{Ghosts}
use Rattle.flt_config.specs.declared.config.Config.{Config}
use Rattle.flt_nvm.specs.declared.got.Got.TheVariants.{Bytes, Missing}
use Rattle.flt_nvm.specs.Leaves.{IsEither, GotOf}
use Rattle.flt_store_model.specs.declared.commit.Commit.{Commit}
use Rattle.flt_store_model.specs.Layout.{mark_number, application_number, applications}
use Rattle.flt_store_model.specs.Excess.{own_pages, IsBorne}
use Rattle.flt_store_model.specs.Holding.{Generation, MarkAllows, is_application}
use Rattle.flt_store_model.proofs.Pages.{applications_of}
use Rattle.flt_store_model.proofs.Choices.{chosen}
use Rattle.flt_store.specs.Cause.{IsWithinOwn}
use Rattle.flt_store.specs.Started.{IsStarted}
use Rattle.flt_store.specs.declared.store.Store.{Store}
use Rattle.flt_store.specs.Known.{Knows}
use Rattle.flt_store.specs.Store.{driver_of, commit_of, kept_of, is_settled, IsAlive, IsRunning, Gets}
use Rattle.flt_store.proofs.Causes.{borne_stays}
use Rattle.flt_store.proofs.Running.{served_on}
use Rattle.flt_store.proofs.Started.{AreApplications, KeepsGenerations, sound_still, started_still}

-- A block of the configuration of a store that runs is below the limit of all configurations.
pub below_limit : {B : Type 0} {b : Ghosts B} {block : ℕ} {store : Store B b} → (c : Config) × (block < c.blocks) × IsAlive c store → block < applications
below_limit (c, below, alive) = let most = alive.running.served.valid_config.valid.blocks in omega (arith, below, most)

-- Bytes were put into an application block of the configuration, and nothing else was written.
pub record Puts (c : Config) (block : ℕ) (raw : List ℕ) (before after : BlocksState) : Type 0 where
  pub own : block < c.blocks
  pub within : block < applications
  pub short : length raw ≤ 32
  pub either : IsEither before after (application_number block) (bytes raw)
  pub others : OthersKept (application_number block) before after

module _ {c : Config} {block : ℕ} {raw : List ℕ} {before after : BlocksState} (puts : Puts c block raw before after) where
  low : (number : ℕ) → number < 512 → after.value number ≡ before.value number
  low number below = puts.others number (λ same. omega (arith, below, same))

  mark_same : after.value mark_number ≡ before.value mark_number
  mark_same = low mark_number (omega arith)

  own_three : own_pages c (application_number block) ≡ 3
  own_three =
      let at : application_number (0 + block) ≡ application_number block = omega arith in
      ap (own_pages c) (sym at) ∙ applications_of c block puts.within ∙ chosen (nat_lt block c.blocks) 3 0 (lt-ltb block c.blocks puts.own)

  within_own : IsWithinOwn c before.value after.value
  within_own other = elim (cases_eq other (application_number block)) [
    | inl same ↦
        subst (λ (n : ℕ). (after.value n ≡ before.value n) ⊎ (pages_of (after.value n) ≤ own_pages c n)) (sym same)
        (⊎_elim
        (λ kept. inl kept)
        (λ is. (let pages : pages_of (after.value (application_number block)) ≡ record_pages (length raw) = ap pages_of is in
        let short = puts.short in let most : (length raw + 31) / 32 ≤ 1 = omega (arith, short) in inr (omega (arith, pages, own_three, most))))
        puts.either)
    | inr apart ↦ inl (puts.others other apart)
  ]

  pub borne_on : IsBorne c before.value → IsBorne c after.value
  borne_on = borne_stays c before.value after.value within_own

  good : AreApplications before.value → AreApplications after.value
  good are other below = elim (cases_eq other block) [
    | inl same ↦
        subst (λ (n : ℕ). IsTrue (is_application (after.value (application_number n)))) (sym same)
        (⊎_elim
        (λ kept. subst (λ (content : Content). IsTrue (is_application content)) (sym kept) (are block puts.within))
        (λ is. subst (λ (content : Content). IsTrue (is_application content)) (sym is) (le-leb (length raw) 32 puts.short))
        puts.either)
    | inr apart ↦ subst (λ (content : Content). IsTrue (is_application content)) (sym (puts.others (application_number other) (λ same. apart (omega (arith, same))))) (are other below)
  ]

  keeps_put : KeepsGenerations c before.value after.value
  keeps_put = record {
    low = λ number from below. low number below;
    mark = λ commit. subst (λ (mark : Content). MarkAllows c mark commit) (sym mark_same);
    applications = good;
    excess = borne_on;
  }

-- A store runs on after a put.
pub put_runs : {B : Type 0} {b : Ghosts B} {c : Config} {block : ℕ} {raw : List ℕ} (before after : Store B b) → Puts c block raw (driver_of before) (driver_of after) → Follows (driver_of before) (driver_of after)
    → (is_settled after ≡ is_settled before) × (commit_of after ≡ commit_of before) × (kept_of after ≡ kept_of before) → (h s : Generation) → IsRunning c h s before → IsRunning c h s after
put_runs {c = c} before after puts follows (settled, commit, kept) h s running = record {
  served = served_on c (driver_of before) (driver_of after) follows running.served;
  mark = mark_same puts ∙ running.mark;
  sound = sound_still (keeps_put puts) h s running.sound;
  settled = λ is. subst (λ (d : Option Commit). IsStarted c (driver_of after).value d h) (sym commit) (started_still (keeps_put puts) (commit_of before) h (mark_same puts ∙ running.mark) (running.settled (sym settled ∙ is)));
  known = λ is. subst (λ (bytes_of : ℕ → List ℕ). Knows c bytes_of h.state) (sym kept) (running.known (sym settled ∙ is));
}

pub gets_nothing : (content : Content) (before after out : List ℕ) → GotOf 1 content Missing before after → out ≡ [] → Gets content false out
gets_nothing missing before after out got empty = (refl, empty)
gets_nothing invalid before after out got empty = absurd got
gets_nothing (bytes held) before after out got empty = absurd got

pub gets_bytes : (content : Content) (n copy : ℕ) (before after out : List ℕ) → GotOf 1 content (Bytes n copy) before after → out ≡ take n after → Gets content true out
gets_bytes missing n copy before after out got is = absurd got.1
gets_bytes invalid n copy before after out got is = absurd got.1
gets_bytes (bytes held) n copy before after out got is =
    let found = got.1 in
    (refl, is ∙ ap (λ (m : ℕ). take m after) found.0 ∙ ap (take (length held)) found.1 ∙ take-append_seam held (drop n before))

-- An application block that was read is no longer than one may be.
pub gets_short : (content : Content) (n copy : ℕ) (before after : List ℕ) → IsTrue (is_application content) → GotOf 1 content (Bytes n copy) before after → n ≤ 32
gets_short missing n copy before after is got = absurd got.1
gets_short invalid n copy before after is got = absurd got.1
gets_short (bytes held) n copy before after is got = let found = got.1 in omega (arith, found.0, leb-true (length held) 32 is)
