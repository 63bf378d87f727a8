-- The mark of the configuration was read, and written where it was missing or of version 1.
use Rattle.std.proofs.Common.{◌≡◌, ◌⊎◌, inl, inr, ⊎_elim, ℕ, ◌≤◌, length, refl, sym, ap, subst, arith}
use Rattle.std.specs.Prelude.{IsTrue}
use Rattle.std.proofs.lemmas.Bool.{cases_eq}
use Rattle.flt_flash.specs.Content.{Content, missing, invalid, bytes}
use Rattle.flt_flash.specs.Blocks.{BlocksState, pages_of, record_pages}
use Rattle.flt_flash.specs.Calls.{Follows, OthersKept}
use Rattle.flt_config.specs.declared.config.Config.{Config}
use Rattle.flt_store_model.specs.Layout.{mark_number, application_number}
use Rattle.flt_store_model.specs.Form.{mark_of, mark_bytes}
use Rattle.flt_store_model.specs.Excess.{IsBorne, own_pages}
use Rattle.flt_store_model.specs.Holding.{MarkAllows, SameApplications, is_application}
use Rattle.flt_store_model.proofs.Marks.{mark_size}
use Rattle.flt_store.specs.Cause.{IsWithinOwn}
use Rattle.flt_store.specs.Started.{IsMarkTried}
use Rattle.flt_store.proofs.Causes.{borne_stays}
use Rattle.flt_store.proofs.Started.{AreApplications, KeepsGenerations}
use Rattle.flt_restore.specs.Restored.{IsMarkDue}

-- Nothing was written but the mark, and that only where it was due.
pub record TriesMark (c : Config) (before after : BlocksState) : Type 0 where
  pub tried : IsMarkTried c before.value after.value
  pub others : OthersKept mark_number before after
  pub keeps_driver : Follows before after

module _ {c : Config} {before after : BlocksState} (tries : TriesMark c before after) where
  own_mark : own_pages c mark_number ≡ 3
  unfolding own_pages
  own_mark = refl

  within_mark : IsWithinOwn c before.value after.value
  within_mark other = elim (cases_eq other mark_number) [
    | inl same ↦
        subst (λ (n : ℕ). (after.value n ≡ before.value n) ⊎ (pages_of (after.value n) ≤ own_pages c n)) (sym same)
        (⊎_elim
        (λ kept. inl kept)
        (λ wrote. (let pages : pages_of (after.value mark_number) ≡ record_pages (length (mark_bytes (mark_of c))) = ap pages_of wrote.1 in
        inr (omega (arith, pages, own_mark, mark_size (mark_of c)))))
        tries.tried)
    | inr apart ↦ inl (tries.others other apart)
  ]

  pub borne_marked : IsBorne c before.value → IsBorne c after.value
  borne_marked = borne_stays c before.value after.value within_mark

  pub applications_marked : SameApplications before.value after.value
  applications_marked block below = tries.others (application_number block) (λ same. omega (arith, same))

  good_marked : AreApplications before.value → AreApplications after.value
  good_marked are block below = subst (λ (content : Content). IsTrue (is_application content)) (sym (applications_marked block below)) (are block below)

  mark_by : (commit : Content) → MarkAllows c (before.value mark_number) commit → MarkAllows c (after.value mark_number) commit
  mark_by commit allows =
      ⊎_elim
      (λ kept. subst (λ (mark : Content). MarkAllows c mark commit) (sym kept) allows)
      (λ wrote. subst (λ (mark : Content). MarkAllows c mark commit) (sym wrote.1) (inl refl))
      tries.tried

  -- What the image holds it holds with the mark written anew.
  pub keeps_marked : KeepsGenerations c before.value after.value
  keeps_marked = record { low = λ number from below. tries.others number (λ same. omega (arith, same, from)); mark = mark_by; applications = good_marked; excess = borne_marked }

-- A mark that is allowed and need not be written is there in the version that is written.
pub stands_anew : (c : Config) (content commit : Content) → MarkAllows c content commit → (IsMarkDue (mark_of c) content → ⊥) → content ≡ bytes (mark_bytes (mark_of c))
stands_anew c missing commit allows never = absurd (never (inl refl))
stands_anew c invalid commit allows never = absurd allows
stands_anew c (bytes held) commit allows never = ⊎_elim (λ new. ap bytes new) (λ old. absurd (never (inr (ap bytes old)))) allows
