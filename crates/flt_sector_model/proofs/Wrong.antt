-- The fault of a log is what is wrong at a page that it reaches.
use Rattle.std.proofs.Common.{◌≡◌, ◌⊎◌, ◌+◌, ◌-◌, ◌<◌, ◌≤◌, ℕ, zero, suc, true, List, [], get_or, Some, Result, Ok, Err, inl, inr, ◌∙◌, ap, subst, arith}
use Rattle.std.proofs.lemmas.Bool.{cases_eq}
use Rattle.flt_flash.specs.Blocks.{byte_pages, record_pages}
use Rattle.flt_sector_model.specs.Page.{is_blank}
use Rattle.flt_sector_model.specs.Log.{LogFrom, item_at, log_after, log_from, log}
use Rattle.flt_sector_model.specs.declared.log.Item.{Item}
use Rattle.flt_sector_model.specs.declared.log.Item.TheVariants.{End, Torn, Kept}
use Rattle.flt_sector_model.specs.Reached.{IsReached, begins, behind_torn, behind_record}
use Rattle.flt_sector_model.specs.Damage.{IsWrongAt, begins_nothing, other_gate, behind_end}
use Rattle.flt_sector_model.proofs.Items.{ends, torn, kept, nothing, other, stands}
use Rattle.flt_sector_model.proofs.Told.{at_nothing, at_other, at_blank}
use Rattle.flt_sector_model.proofs.Logged.{log_on, log_step, goes_on, written_found, IsFirstWritten, found_written}

module _ (used : ℕ) (numbers : List ℕ) (pages : List (List ℕ)) where
  -- What is reported from a page on is wrong.
  wrong_from : (left page wrong : ℕ) → page ≤ used → IsReached used numbers pages page → (log_from used numbers pages page left).fault ≡ Some wrong → IsWrongAt used numbers pages wrong
  unfolding log_from
  wrong_from zero page wrong below reached is = absurd (cc is)
  wrong_from (suc left) page wrong below reached is = elim (stands used numbers pages page below) [
    | ends how told ↦
        let found = written_found used numbers pages (used - page) page used wrong (omega (arith, below)) (by (Ok End) told) in
        behind_end page reached (record { behind = later how found; within = found.below; blank = found.blank; written = found.is })
    | torn none told ↦ wrong_from left (page + 1) wrong (omega (arith, none.within)) (behind_torn reached none) (by (Ok Torn) told)
    | kept block size valid complete also told ↦
        let next : page + 2 + byte_pages size ≡ page + record_pages size = omega arith in
        wrong_from left (page + record_pages size) wrong also.head.within (behind_record reached also)
        (subst (λ (n : ℕ). (log_from used numbers pages n left).fault ≡ Some wrong) next (by (Ok (Kept block size valid complete)) told))
    | nothing no_head told ↦ let here : page ≡ wrong = cc (by (Err page) told) in subst (IsWrongAt used numbers pages) here (begins_nothing reached no_head)
    | other block size valid gate told ↦ let here : page + 1 + byte_pages size ≡ wrong = cc (by (Err (page + 1 + byte_pages size)) told) in other_gate page block size valid reached gate here
  ]
    where
      by : (item : Result Item ℕ) → item_at used numbers pages page ≡ item → (log_after used pages page (λ next. log_from used numbers pages next left) item).fault ≡ Some wrong
      by item told = subst (λ (i : Result Item ℕ). (log_after used pages page (λ next. log_from used numbers pages next left) i).fault ≡ Some wrong) told is

      later : (page ≡ used) ⊎ (is_blank (get_or pages page []) ≡ true) → IsFirstWritten used numbers pages page used wrong → page < wrong
      later (inl last) found = absurd (omega (arith, last, found.from, found.below))
      later (inr blank) found = elim (cases_eq page wrong) [
        | inl here ↦ absurd (let also : is_blank (get_or pages wrong []) ≡ true = subst (λ (n : ℕ). is_blank (get_or pages n []) ≡ true) here blank in let written = found.is in cc)
        | inr apart ↦ omega (arith, apart, found.from)
      ]

  pub wrong_where_told : 2 ≤ used → (wrong : ℕ) → (log used numbers pages).fault ≡ Some wrong → IsWrongAt used numbers pages wrong
  wrong_where_told least wrong is = wrong_from (used + 1) 2 wrong least begins is

  -- What is wrong is reported.
  told_by : (page : ℕ) (item : Result Item ℕ) → page ≤ used → (log used numbers pages).fault ≡ (log_on used numbers pages page).fault → item_at used numbers pages page ≡ item
      → (log used numbers pages).fault ≡ (log_after used pages page (log_on used numbers pages) item).fault
  told_by page item below is told = is ∙ ap (λ (l : LogFrom). l.fault) (log_step used numbers pages page item below told)

  pub told_where_wrong : 2 ≤ used → (wrong : ℕ) → IsWrongAt used numbers pages wrong → (log used numbers pages).fault ≡ Some wrong
  told_where_wrong least wrong (begins_nothing reached is) =
      let was = goes_on used numbers pages wrong least reached in
      told_by wrong (Err wrong) was.below was.fault (at_nothing used numbers pages wrong is)
  told_where_wrong least wrong (other_gate page block size valid reached is there) =
      let was = goes_on used numbers pages page least reached in
      told_by page (Err (page + 1 + byte_pages size)) was.below was.fault (at_other used numbers pages page block size valid is) ∙ ap Some there
  told_where_wrong least wrong (behind_end end reached is) =
      let was = goes_on used numbers pages end least reached in
      let here : is_blank (get_or pages end []) ≡ true = is.blank end (omega arith) is.behind in
      told_by end (Ok End) was.below was.fault (at_blank used numbers pages end was.below here)
      ∙ found_written used numbers pages (used - end) end used wrong (omega (arith, was.below))
      (record { from = omega (arith, is.behind); below = is.within; blank = is.blank; is = is.written })
