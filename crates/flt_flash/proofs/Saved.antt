-- A power-up more is saved: those before it stay as they were.
use Rattle.std.proofs.Common.{◌≡◌, ℕ, ◌≤◌, ◌<◌, ◌+◌, List, [], ◌∷◌, ◌++◌, All, map, length, take, get_or, refl, sym, ◌∙◌, ap, arith}
use Rattle.std.proofs.lemmas.List.{take-append-le, length_push, map_push, get_or-map, get_or-take, get_or-drop}
use Rattle.std.proofs.lemmas.List.Elements.{All-head, All-tail, All-push, All-weaker}
use Rattle.std.proofs.Math.Seq.{take-length}
use Rattle.flt_flash.specs.State.{PowerUp}
use Rattle.flt_flash.specs.Changes.{blank_image, changed_by, AreReached}
use Rattle.flt_flash.specs.Image.{page_at}
use Rattle.flt_flash.specs.PageArrays.{all_pages}
use Rattle.flt_flash.specs.Boots.{two_sectors, pages_then, power_up_of, boots_of, AddsOne, boot_at, no_boot}
use Rattle.flt_flash.specs.declared.boot.BootMark.{BootMark}
use Rattle.flt_flash.specs.declared.boot.PageChange.{PageChange}
use Rattle.flt_flash.specs.declared.boot.Boots.{Boots}

map_same : {X Y : Type 0} (f g : X → Y) (xs : List X) → All (λ x. f x ≡ g x) xs → map f xs ≡ map g xs
map_same f g [] same = refl
map_same f g (x ∷ xs) same = ap (λ y. y ∷ map f xs) (All-head (λ x. f x ≡ g x) x xs same) ∙ ap (λ ys. g x ∷ ys) (map_same f g xs (All-tail (λ x. f x ≡ g x) x xs same))

-- More changes reach what fewer reached, and the last power-up.
pub reached_more : (few many : ℕ) (marks : List BootMark) (mark : BootMark) → few ≤ many → mark.changes ≤ many → AreReached few marks → AreReached many (marks ++ mark ∷ [])
reached_more few many marks mark more last reached =
    All-push (λ (x : BootMark). x.changes ≤ many) marks mark (All-weaker (λ (x : BootMark). x.changes ≤ few) (λ (x : BootMark). x.changes ≤ many) (weaker few many more) marks reached) last
  where
    weaker : (few many : ℕ) → few ≤ many → (x : BootMark) → x.changes ≤ few → x.changes ≤ many
    weaker few many more x le = omega (arith, more, le)

module _ (before after : Boots) (faults count : ℕ) (added : List PageChange)
    (marks : after.marks.items ≡ before.marks.items ++ record { faults = faults; changes = count } ∷ [])
    (counts : count ≡ length after.changes.items)
    (changes : after.changes.items ≡ before.changes.items ++ added)
    (first : after.first.count ≡ before.first.count) (second : after.second.count ≡ before.second.count) where
  size : after.first.count + after.second.count ≡ before.first.count + before.second.count
  size = omega (arith, first, second)

  pages_stay : (mark : BootMark) → mark.changes ≤ length before.changes.items → pages_then after mark.changes ≡ pages_then before mark.changes
  pages_stay mark within =
      ap (λ (n : ℕ). changed_by (blank_image n) (take mark.changes after.changes.items)) size
      ∙ ap (changed_by (blank_image (before.first.count + before.second.count))) (ap (take mark.changes) changes ∙ take-append-le mark.changes before.changes.items added within)

  last_pages : pages_then after count ≡ all_pages after.first ++ all_pages after.second
  last_pages = ap (changed_by (blank_image (after.first.count + after.second.count))) (ap (λ n. take n after.changes.items) counts ∙ take-length after.changes.items) ∙ sym after.last_is

  boot_stays : (divided : List (List ℕ) → List (List (List ℕ))) (mark : BootMark) → mark.changes ≤ length before.changes.items → power_up_of divided after mark ≡ power_up_of divided before mark
  boot_stays divided mark within = ap {B = PowerUp} (λ pages. record { faults = mark.faults; image = divided pages }) (pages_stay mark within)

  boots_stay : (divided : List (List ℕ) → List (List (List ℕ))) → map (power_up_of divided after) before.marks.items ≡ boots_of divided before
  boots_stay divided = map_same (power_up_of divided after) (power_up_of divided before) before.marks.items
      (All-weaker (λ (mark : BootMark). mark.changes ≤ length before.changes.items) (λ (mark : BootMark). power_up_of divided after mark ≡ power_up_of divided before mark) (boot_stays divided) before.marks.items before.reached)

  pub adds_one : (pages : List (List ℕ)) → all_pages after.first ++ all_pages after.second ≡ pages → after.most ≡ before.most → AddsOne faults pages before after
  adds_one pages is most = record {
    boots = λ divided.
        ap (map (power_up_of divided after)) marks
        ∙ map_push (power_up_of divided after) before.marks.items (record { faults = faults; changes = count })
        ∙ ap (λ earlier. earlier ++ power_up_of divided after (record { faults = faults; changes = count }) ∷ []) (boots_stay divided)
        ∙ ap (λ (image : List (List ℕ)). boots_of divided before ++ record { faults = faults; image = divided image } ∷ []) (last_pages ∙ is);
    one_fewer = omega (arith, most, ap length marks ∙ length_push before.marks.items (record { faults = faults; changes = count }));
    first = first;
    second = second;
  }

-- No power-up.
pub no_mark : BootMark
no_mark = record { faults = 0; changes = 0 }

-- A page of a boot of two sectors.
module _ (pages number page : ℕ) (boots : Boots) (within : number < length boots.marks.items) where
  here : boot_at (boots_of (two_sectors pages) boots) number ≡ power_up_of (two_sectors pages) boots (get_or boots.marks.items number no_mark)
  here = get_or-map (power_up_of (two_sectors pages) boots) boots.marks.items number no_mark no_boot within

  pub first_page : page < pages → get_or (pages_then boots (get_or boots.marks.items number no_mark).changes) page [] ≡ page_at (boot_at (boots_of (two_sectors pages) boots) number).image 0 page
  first_page inside = sym (get_or-take pages (pages_then boots (get_or boots.marks.items number no_mark).changes) page [] inside) ∙ ap (λ (boot : PowerUp). page_at boot.image 0 page) (sym here)

  pub second_page : get_or (pages_then boots (get_or boots.marks.items number no_mark).changes) (pages + page) [] ≡ page_at (boot_at (boots_of (two_sectors pages) boots) number).image 1 page
  second_page = sym (get_or-drop pages (pages_then boots (get_or boots.marks.items number no_mark).changes) page []) ∙ ap (λ (boot : PowerUp). page_at boot.image 1 page) (sym here)
