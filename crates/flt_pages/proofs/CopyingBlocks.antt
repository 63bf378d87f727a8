-- The current records of all blocks, copied one after another.
use Rattle.std.proofs.Common.{◌≡◌, ◌≢◌, ◌+◌, ◌-◌, ◌<◌, ◌≤◌, ℕ, zero, suc, Bool, true, false, List, [], ◌∷◌, get_or, length, Option, Some, None, Result, Ok, Err, inl, inr, refl, sym, ◌∙◌, ap, subst, arith}
use Rattle.std.specs.Prelude.{◌==◌, if◌then◌else◌, Contains, IsErr, sum_by}
use Rattle.std.specs.List.{list_any}
use Rattle.std.proofs.lemmas.Bool.{cases_lt, cases_eq, eqb-true, eqb-false, lt-ltb, le-ltb, false_from_ne_true}
use Rattle.std.proofs.lemmas.List.{set-get_or, get_or_default}
use Rattle.std.proofs.lemmas.List.Sums.{sum_by-cons}
use Rattle.std.proofs.lemmas.List.Folds.{Any-from_list_any}
use Rattle.flt_flash.specs.Image.{sector_at}
use Rattle.flt_flash.specs.Content.{Content, missing}
use Rattle.flt_flash.specs.Blocks.{pages_of}
use Rattle.flt_flash.specs.State.{FlashState, HasShape}
use Rattle.flt_flash.specs.declared.flash.FlashFailed.{FlashFailed}
use Rattle.flt_flash.proofs.Following.{no_run}
use Rattle.flt_sector_model.specs.Log.{log}
use Rattle.flt_sector_model.specs.Blocks.{content_of}
use Rattle.flt_pages.specs.Blank.{AreBlank}
use Rattle.flt_pages.specs.LogHolds.{LogHolds, given}
use Rattle.flt_pages.specs.Live.{held_in, current_pages}
use Rattle.flt_pages.specs.Recorded.{OnSector}
use Rattle.flt_pages.specs.declared.current.CurrentSector.{CurrentSector}
use Rattle.flt_pages.specs.declared.place.RecordPlace.{RecordPlace}
use Rattle.flt_pages.specs.RecordPlace.{IsAt, IsPlaceOf, TellsPlaces}
use Rattle.flt_pages.proofs.Telling.{farther_at, still_at}
use Rattle.flt_pages.proofs.Begun.{holds_nothing}
use Rattle.flt_pages.proofs.Copying.{other_stays}
use Rattle.flt_pages.proofs.Counting.{unnumbered}
use Rattle.flt_pages.proofs.LogOn.{end_least, blank_behind}
use Rattle.flt_pages.proofs.Recording.{on_sector, pages_on}
use Rattle.flt_pages.specs.Next.{IsLeastFrom}
use Rattle.flt_pages.specs.Switch.{copied_below, KeepsGates, CopiesBlock, CopiesBlocks, Replaces}
use Rattle.flt_pages.proofs.CopyingBlock.{same_kept}

-- Sums of the pages of what is copied.
sum_grows : (f g : ℕ → ℕ) → ((x : ℕ) → f x ≤ g x) → (n pages : ℕ) → f n + pages ≤ g n → (xs : List ℕ) (k : ℕ) → k < length xs → get_or xs k n ≡ n → sum_by f xs + pages ≤ sum_by g xs
sum_grows f g less n pages more [] k within here = absurd (omega arith)
sum_grows f g less n pages more (x ∷ xs) zero within here =
    let at_first : f x + pages ≤ g x = subst (λ y. f y + pages ≤ g y) (sym here) more in
    omega (arith, sum_by-cons f x xs, sum_by-cons g x xs, at_first, all_less xs)
  where
    all_less : (ys : List ℕ) → sum_by f ys ≤ sum_by g ys
    all_less [] = omega arith
    all_less (y ∷ ys) = omega (arith, sum_by-cons f y ys, sum_by-cons g y ys, less y, all_less ys)
sum_grows f g less n pages more (x ∷ xs) (suc k) within here =
    omega (arith, sum_by-cons f x xs, sum_by-cons g x xs, less x, sum_grows f g less n pages more xs k (omega arith) here)

-- What is copied so far.
module _ (value : ℕ → Content) where
  below_in : (from block : ℕ) → block < from → copied_below from value block ≡ value block
  below_in from block lt = ap (λ b. if b then value block else missing) (lt-ltb block from lt)

  below_out : (from block : ℕ) → from ≤ block → copied_below from value block ≡ missing
  below_out from block le = ap (λ b. if b then value block else missing) (le-ltb block from le)

  below_less : (from to : ℕ) → from ≤ to → (block : ℕ) → pages_of (copied_below from value block) ≤ pages_of (copied_below to value block)
  below_less from to le block = elim (cases_lt block from) [
    | inl lt ↦ omega (arith, ap pages_of (below_in from block lt), ap pages_of (below_in to block (omega arith)))
    | inr out ↦ omega (arith, ap pages_of (below_out from block out))
  ]

  below_all : (from : ℕ) (block : ℕ) → pages_of (copied_below from value block) ≤ pages_of (value block)
  below_all from block = elim (cases_lt block from) [
    | inl lt ↦ omega (arith, ap pages_of (below_in from block lt))
    | inr out ↦ omega (arith, ap pages_of (below_out from block out))
  ]

  pub sum_all : (from : ℕ) (numbers : List ℕ) → sum_by (λ n. pages_of (copied_below from value n)) numbers ≤ sum_by (λ n. pages_of (value n)) numbers
  sum_all from [] = omega arith
  sum_all from (x ∷ xs) = omega (arith, sum_by-cons (λ n. pages_of (copied_below from value n)) x xs, sum_by-cons (λ n. pages_of (value n)) x xs, below_all from x, sum_all from xs)

  pub sum_next : (from number : ℕ) (numbers : List ℕ) → from ≤ number → Contains numbers number
      → sum_by (λ n. pages_of (copied_below from value n)) numbers + pages_of (value number) ≤ sum_by (λ n. pages_of (copied_below (number + 1) value n)) numbers
  sum_next from number numbers le (k, within, here) = sum_grows (λ n. pages_of (copied_below from value n)) (λ n. pages_of (copied_below (number + 1) value n)) (below_less from (number + 1) (omega arith)) number (pages_of (value number))
      (omega (arith, ap pages_of (below_out from number le), ap pages_of (below_in (number + 1) number (omega arith)))) numbers k within here

  -- The blocks between one number and the next are none.
  pub given_next : (from number : ℕ) → from ≤ number → ((block : ℕ) → from ≤ block → block < number → value block ≡ missing) → (block : ℕ) → given number (value number) (copied_below from value) block ≡ copied_below (number + 1) value block
  given_next from number le none block = by_test (number == block) refl
    where
      by_test : (test : Bool) → test ≡ (number == block) → (if test then value number else copied_below from value block) ≡ copied_below (number + 1) value block
      by_test true is = (let one : number ≡ block = eqb-true number block (sym is) in ap value one ∙ sym (below_in (number + 1) block (omega (arith, one))))
      by_test false is = elim (cases_lt block from) [
        | inl lt ↦ below_in from block lt ∙ sym (below_in (number + 1) block (omega arith))
        | inr out ↦ elim (cases_lt block number) [
          | inl between ↦ below_out from block out ∙ sym (none block out between) ∙ sym (below_in (number + 1) block (omega arith))
          | inr above ↦ (let other : number ≢ block = eqb-false number block (sym is) in below_out from block out ∙ sym (below_out (number + 1) block (omega arith)))
        ]
      ]

-- The blocks that are none of the numbers.
pub no_number : (numbers : List ℕ) (block : ℕ) → ((k : ℕ) → k < length numbers → get_or numbers k 0 ≢ block) → list_any (λ number. number == block) numbers ≡ false
no_number numbers block apart = false_from_ne_true _ (λ is.
    let found = Any-from_list_any (λ number. number == block) numbers is in
    apart found.0 found.2 (get_or_default numbers found.0 0 found.1 found.2 ∙ found.3 ∙ eqb-true found.1 block found.4))

-- The numbers below one are done, and the log of the other sector ends here.
pub record Copying (at : CurrentSector) (numbers : List ℕ) (start now : FlashState) (end from : ℕ) : Type 0 where
  pub on : OnSector start now (1 - at.sector) (sector_at now.image (1 - at.sector))
  pub gates : KeepsGates (sector_at start.image (1 - at.sector)) (sector_at now.image (1 - at.sector))
  pub holds : LogHolds at.used numbers (sector_at now.image (1 - at.sector)) end (copied_below from (held_in at.used numbers (sector_at start.image at.sector)))
  pub room : end ≤ 2 + sum_by (λ n. pages_of (copied_below from (held_in at.used numbers (sector_at start.image at.sector)) n)) numbers

-- The places of the numbers below one are in the log of the other sector, which ends here, and the others are where they were.
pub record Moves (at : CurrentSector) (numbers : List ℕ) (places : List (Option RecordPlace)) (start now : FlashState) (end from : ℕ) (value : ℕ → Content) : Type 0 where
  pub moved : (k : ℕ) → k < length numbers → get_or numbers k 0 < from → IsAt (sector_at now.image (1 - at.sector)) end (value (get_or numbers k 0)) (get_or places k None)
  pub waits : (k : ℕ) → k < length numbers → from ≤ get_or numbers k 0 → IsAt (sector_at start.image at.sector) at.used (value (get_or numbers k 0)) (get_or places k None)

pub nothing_moved : (at : CurrentSector) (numbers : List ℕ) (places : List (Option RecordPlace)) (start now : FlashState) (end : ℕ) (value : ℕ → Content) → TellsPlaces numbers places (sector_at start.image at.sector) at.used value
    → Moves at numbers places start now end 0 value
nothing_moved at numbers places start now end value tells = record { moved = λ k within lt. absurd (omega (arith, lt)); waits = λ k within le. tells k within }

module _ (at : CurrentSector) (numbers : List ℕ) (start : FlashState) (shape : HasShape start) (fine : (log at.used numbers (sector_at start.image at.sector)).fault ≡ None) where
  in_other : 1 - at.sector < 2
  in_other = omega arith

  apart : 1 - at.sector ≢ at.sector
  apart e = omega (arith, e, at.one_of_two)

  abbrev value : ℕ → Content
  value = held_in at.used numbers (sector_at start.image at.sector)

  none_of : (block : ℕ) → ((k : ℕ) → k < length numbers → get_or numbers k 0 ≢ block) → held_in at.used numbers (sector_at start.image at.sector) block ≡ missing
  none_of block apart_of = ap (content_of (sector_at start.image at.sector)) (unnumbered at.used numbers (sector_at start.image at.sector) block at.least fine (no_number numbers block apart_of))

  none_between : (from number : ℕ) → IsLeastFrom from numbers (Some number) → (block : ℕ) → from ≤ block → block < number → held_in at.used numbers (sector_at start.image at.sector) block ≡ missing
  none_between from number next block low high = none_of block (λ k within same. (let above = next.found.2 k within (omega (arith, same)) in omega (arith, same, above)))

  pub copying : AreBlank (sector_at start.image (1 - at.sector)) 2 at.used → Copying at numbers start start 2 0
  copying blank =
      let nothing = holds_nothing at.used numbers (sector_at start.image (1 - at.sector)) at.least blank in
      record {
        on = record { image = sym (set-get_or start.image (1 - at.sector) []); wear = refl; runs = no_run start };
        gates = same_kept (sector_at start.image (1 - at.sector));
        holds = record { entries = nothing.entries; is = nothing.is; gives = λ block. nothing.gives block ∙ sym (below_out value 0 block (omega arith)) };
        room = omega arith;
      }

  -- One block more.
  module _ (now : FlashState) (shape_now : HasShape now) (end from : ℕ) (is : Copying at numbers start now end from) where
    pub source_now : sector_at now.image at.sector ≡ sector_at start.image at.sector
    source_now = other_stays start now at.sector (1 - at.sector) (sector_at now.image (1 - at.sector)) apart is.on

    pub end_begun : 2 ≤ end
    end_begun = end_least at.used numbers (sector_at now.image (1 - at.sector)) (sector_at now.image (1 - at.sector)) is.holds.entries end at.least is.holds.is (λ k low lt. refl)

    pub end_blank : AreBlank (sector_at now.image (1 - at.sector)) end at.used
    end_blank = blank_behind at.used numbers (sector_at now.image (1 - at.sector)) (sector_at now.image (1 - at.sector)) is.holds.entries end at.least is.holds.is (λ k low lt. refl)

    abbrev content : ℕ → Content
    content number = held_in at.used numbers (sector_at now.image at.sector) number

    content_now : (number : ℕ) → held_in at.used numbers (sector_at now.image at.sector) number ≡ held_in at.used numbers (sector_at start.image at.sector) number
    content_now number = ap (λ (pages : List (List ℕ)). held_in at.used numbers pages number) source_now

    module _ (number : ℕ) (next : IsLeastFrom from numbers (Some number)) where
      pub number_room : end + pages_of (held_in at.used numbers (sector_at now.image at.sector) number) ≤ 2 + current_pages at.used numbers (sector_at start.image at.sector)
      number_room = omega (arith, is.room, ap pages_of (content_now number), sum_next value from number numbers next.found.1 next.found.0, sum_all value (number + 1) numbers)

      joined : (after : FlashState) (pages : List (List ℕ)) → OnSector now after (1 - at.sector) pages → OnSector start after (1 - at.sector) pages
      joined after pages on = on_sector start now after (1 - at.sector) (sector_at now.image (1 - at.sector)) pages is.on on

      kept : (pages : List (List ℕ)) → KeepsGates (sector_at now.image (1 - at.sector)) pages → KeepsGates (sector_at start.image (1 - at.sector)) pages
      kept pages gates = record {
        size = gates.size ∙ is.gates.size;
        before = λ k lt. gates.before k lt ∙ is.gates.before k lt;
        behind = λ k le. gates.behind k (omega (arith, le, is.gates.size)) ∙ is.gates.behind k le;
      }

      pub block_failed : (after : FlashState) (failed : FlashFailed) (result : Result ℕ FlashFailed) → IsErr result
          → CopiesBlock now after at numbers number end (Err failed) → CopiesBlocks start after at numbers result
      block_failed after failed (Ok x) fails does = absurd (cc fails)
      block_failed after failed (Err e) fails does =
          record {
            written = record {
              pages = does.written.pages;
              on = joined after does.written.pages does.written.on;
              gates = kept does.written.pages does.written.gates;
              cause = omega (arith, does.written.cause, is.on.runs.counts);
            };
            room = tt;
            holds = tt;
          }

      pub block_done : (after : FlashState) (last : ℕ) → CopiesBlock now after at numbers number end (Ok last) → Copying at numbers start after last (number + 1)
      block_done after last does =
          let there = pages_on now after (1 - at.sector) does.written.pages shape_now in_other does.written.on in
          let here = does.holds (copied_below from value) (below_out value from number next.found.1) is.holds in
          let same = given_next value from number next.found.1 (none_between from number next) in
          let holds : LogHolds at.used numbers does.written.pages last (copied_below (number + 1) (held_in at.used numbers (sector_at start.image at.sector))) = record {
            entries = here.entries;
            is = here.is;
            gives = λ block. here.gives block ∙ ap (λ (c : Content). given number c (copied_below from value) block) (content_now number) ∙ same block;
          } in
          record {
            on = subst (λ (pages : List (List ℕ)). OnSector start after (1 - at.sector) pages) (sym there) (joined after does.written.pages does.written.on);
            gates = subst (λ (pages : List (List ℕ)). KeepsGates (sector_at start.image (1 - at.sector)) pages) (sym there) (kept does.written.pages does.written.gates);
            holds = subst (λ (pages : List (List ℕ)). LogHolds at.used numbers pages last (copied_below (number + 1) (held_in at.used numbers (sector_at start.image at.sector)))) (sym there) holds;
            room = omega (arith, does.place, is.room, ap pages_of (content_now number), sum_next value from number numbers next.found.1 next.found.0);
          }

    -- The table, while the blocks are copied.
    module _ (places : List (Option RecordPlace)) (moves : Moves at numbers places start now end from value) where
      -- The place of the block that comes next is in the log that is copied.
      pub place_waits : (number : ℕ) → from ≤ number → (found : Option RecordPlace) → IsPlaceOf numbers places number found
          → IsAt (sector_at now.image at.sector) at.used (held_in at.used numbers (sector_at now.image at.sector) number) found
      place_waits number low found is =
          subst (λ (place : Option RecordPlace). IsAt (sector_at now.image at.sector) at.used (held_in at.used numbers (sector_at now.image at.sector) number) place) is.place
          (subst (λ n. IsAt (sector_at now.image at.sector) at.used (held_in at.used numbers (sector_at now.image at.sector) n) (get_or places is.index None)) is.number
          (subst (λ (pages : List (List ℕ)). IsAt pages at.used (held_in at.used numbers pages (get_or numbers is.index 0)) (get_or places is.index None)) (sym source_now)
          (moves.waits is.index is.within (omega (arith, low, is.number)))))

      pub moves_on : (number : ℕ) → IsLeastFrom from numbers (Some number) → (after : FlashState) (last : ℕ)
          → CopiesBlock now after at numbers number end (Ok last) → (then_places : List (Option RecordPlace))
          → Replaces numbers (sector_at after.image (1 - at.sector)) places then_places number last (held_in at.used numbers (sector_at now.image at.sector) number)
          → Moves at numbers then_places start after last (number + 1) value
      moves_on number next after last does then_places replaces = record {
        moved = λ k within lt. elim (cases_eq (get_or numbers k 0) number) [
          | inl same ↦
              subst (λ (c : Content). IsAt (sector_at after.image (1 - at.sector)) last c (get_or then_places k None)) (content_now number ∙ ap value (sym same)) (replaces.own k within same)
          | inr apart ↦
              subst (λ (place : Option RecordPlace). IsAt (sector_at after.image (1 - at.sector)) last (value (get_or numbers k 0)) place) (sym (replaces.others k within apart))
              (farther_at (sector_at after.image (1 - at.sector)) end last (omega (arith, does.place)) (value (get_or numbers k 0)) (get_or places k None)
              (still_at (sector_at now.image (1 - at.sector)) (sector_at after.image (1 - at.sector)) end size (λ j low copied_below. ap (λ (p : List (List ℕ)). get_or p j []) there ∙ does.stays j copied_below) (value (get_or numbers k 0)) (get_or places k None)
              (moves.moved k within (lower k within lt apart))))
        ];
        waits = λ k within le.
            subst (λ (place : Option RecordPlace). IsAt (sector_at start.image at.sector) at.used (value (get_or numbers k 0)) place) (sym (replaces.others k within (λ same. omega (arith, same, le))))
            (moves.waits k within (omega (arith, le, next.found.1)));
      }
        where
          there : sector_at after.image (1 - at.sector) ≡ does.written.pages
          there = pages_on now after (1 - at.sector) does.written.pages shape_now in_other does.written.on

          size : length (sector_at after.image (1 - at.sector)) ≡ length (sector_at now.image (1 - at.sector))
          size = ap length there ∙ does.written.gates.size

          lower : (k : ℕ) → k < length numbers → get_or numbers k 0 < number + 1 → get_or numbers k 0 ≢ number → get_or numbers k 0 < from
          lower k within lt apart_of = elim (cases_lt (get_or numbers k 0) from) [
            | inl less ↦ less
            | inr more ↦ absurd (let least_of = next.found.2 k within more in apart_of (omega (arith, least_of, lt)))
          ]

      pub moved_all : IsLeastFrom from numbers None → TellsPlaces numbers places (sector_at now.image (1 - at.sector)) end (held_in at.used numbers (sector_at start.image at.sector))
      moved_all none k within = moves.moved k within (none.none k within)

    -- All blocks are copied.
    pub all_done : IsLeastFrom from numbers None → CopiesBlocks start now at numbers (Ok end)
    all_done none = record {
      written = record { pages = sector_at now.image (1 - at.sector); on = is.on; gates = is.gates; cause = tt };
      room = omega (arith, is.room, sum_all value from numbers);
      holds = record {
        entries = is.holds.entries;
        is = is.holds.is;
        gives = λ block. is.holds.gives block ∙ elim (cases_lt block from) [
          | inl lt ↦ below_in value from block lt
          | inr out ↦ below_out value from block out ∙ sym (none_of block (λ k within same. (let under = none.none k within in omega (arith, same, under))))
        ];
      };
    }
