-- What is put of the events below a number, and how many bytes it has.
use Rattle.std.proofs.Common.{◌≡◌, ◌∙◌, ℕ, zero, suc, ◌+◌, ◌*◌, ◌<◌, ◌≤◌, Bool, true, false, nat_eq, cond, List, [], ◌∷◌, ◌++◌, length, map, filter, take, get_or, Option, Some, None, arith, refl, sym, ap, inl, inr, ⊎_elim}
use Rattle.std.proofs.lemmas.Bool.{cases_Bool, cases_eq, ne_eqb}
use Rattle.std.proofs.lemmas.List.{map-append, length-append, length-map, append-nil, drop_more, drop_all, get_or-map}
use Rattle.std.proofs.lemmas.List.Concat.{flat_map-append}
use Rattle.std.specs.List.{flat_map, find}
use Rattle.std.specs.Prelude.{is_some}
use Rattle.flt_config.specs.declared.TheConstants.{EVENTS, ENTRIES}
use Rattle.flt_model.specs.declared.TheConstants.{RESPONSE}
use Rattle.flt_config.specs.declared.persist.EntryState.{EntryState}
use Rattle.flt_config.specs.Durable.{is_of_event}
use Rattle.flt_model.specs.Durable.{below}
use Rattle.flt_model.proofs.Common.{length_below, at_below}
use Rattle.flt_model.specs.Response.{EventView, is_masked, is_prefailed, dtc_bytes, with_status, with_counter, records_of, noted_bytes}
use Rattle.flt_dem.specs.Manager.{Manager}
use Rattle.flt_dem.specs.View.{rules_of, event_seen}
use Rattle.flt_dcm.specs.Listing.{listed, head_of}
use Rattle.flt_dcm.specs.declared.listing.Listing.{Listing}
use Rattle.flt_dcm.specs.declared.listing.Listing.TheVariants.{ByMask, Supported, Counters}

-- The events below a number.
abbrev pub seen_to : Manager → ℕ → List EventView
seen_to manager n = map (event_seen manager) (below n)

seen_more : (manager : Manager) (n : ℕ) → seen_to manager (suc n) ≡ seen_to manager n ++ event_seen manager n ∷ []
seen_more manager n = map-append (event_seen manager) (below n) (n ∷ [])

-- One event more.
pub listed_more : (f : EventView → List ℕ) (manager : Manager) (n : ℕ) →
    flat_map f (seen_to manager (suc n)) ≡ flat_map f (seen_to manager n) ++ f (event_seen manager n)
listed_more f manager n =
    ap (flat_map f) (seen_more manager n)
    ∙ flat_map-append f (seen_to manager n) (event_seen manager n ∷ [])
    ∙ ap (λ xs. flat_map f (seen_to manager n) ++ xs) (append-nil (f (event_seen manager n)))

length_more : (f : EventView → List ℕ) (manager : Manager) (n : ℕ) →
    length (flat_map f (seen_to manager (suc n))) ≡ length (flat_map f (seen_to manager n)) + length (f (event_seen manager n))
length_more f manager n = ap length (listed_more f manager n) ∙ length-append (flat_map f (seen_to manager n)) (f (event_seen manager n))

-- What is put of the events up to one is no more than what is put of all.
pub part_fits : (f : EventView → List ℕ) (manager : Manager) (k n : ℕ) → k < n →
    length (flat_map f (seen_to manager k)) + length (f (event_seen manager k)) ≤ length (flat_map f (seen_to manager n))
part_fits f manager k zero h = absurd (omega (arith, h))
part_fits f manager k (suc n) h =
    let more = length_more f manager n in
    ⊎_elim
    (λ same. rw same (omega (arith, more)))
    (λ ne. let before = part_fits f manager k n (omega (arith, h, ne)) in omega (arith, before, more))
    (cases_eq k n)

-- ---- how many bytes there are at most

four_each : (f : EventView → List ℕ) (manager : Manager) (n : ℕ) → ((event : EventView) → length (f event) ≤ 4) → length (flat_map f (seen_to manager n)) ≤ 4 * n
four_each f manager zero each = omega arith
four_each f manager (suc n) each =
    let more = length_more f manager n in
    let own = each (event_seen manager n) in
    let before = four_each f manager n each in
    omega (arith, more, own, before)

if_masked : (test : Bool) (event : EventView) → length (cond test (with_status event) []) ≤ 4
if_masked true event = omega arith
if_masked false event = omega arith

if_prefailed : (test : Bool) (event : EventView) → length (cond test (with_counter event) []) ≤ 4
if_prefailed true event = omega arith
if_prefailed false event = omega arith

-- The sum over the numbers below one.
abbrev total : (ℕ → ℕ) → ℕ → ℕ
total f zero = 0
total f (suc n) = total f n + f n

total_le : (f g h : ℕ → ℕ) (n : ℕ) → ((k : ℕ) → f k ≤ g k + h k) → total f n ≤ total g n + total h n
total_le f g h zero each = omega arith
total_le f g h (suc n) each =
    let own = each n in
    let before = total_le f g h n each in
    omega (arith, own, before)

-- Eight at one place.
abbrev own_at : ℕ → ℕ → ℕ
own_at place k = cond (nat_eq place k) 8 0

none_yet : (place n : ℕ) → n ≤ place → total (own_at place) n ≡ 0
none_yet place zero h = refl
none_yet place (suc n) h =
    let before = none_yet place n (omega (arith, h)) in
    let other : own_at place n ≡ 0 = ap (λ b. cond b 8 0) (ne_eqb place n (λ e. absurd (omega (arith, e, h)))) in
    omega (arith, before, other)

at_one : (place n : ℕ) → total (own_at place) n ≤ 8
at_one place zero = omega arith
at_one place (suc n) =
    ⊎_elim
    (λ same.
    let before = none_yet place n (omega (arith, same)) in
    let own : own_at place n ≤ 8 = eight (nat_eq place n) in omega (arith, before, own))
    (λ ne.
    let other : own_at place n ≡ 0 = ap (λ b. cond b 8 0) (ne_eqb place n ne) in
    let before = at_one place n in omega (arith, before, other))
    (cases_eq place n)
  where
    eight : (b : Bool) → cond b 8 0 ≤ 8
    eight true = omega arith
    eight false = omega arith

-- Eight for each event with an entry.
abbrev records_at : List EntryState → ℕ → ℕ
records_at entries event = cond (is_some (find (is_of_event event) entries)) 8 0

one_entry_more : (entry : EntryState) (entries : List EntryState) (event : ℕ) → records_at (entry ∷ entries) event ≤ own_at entry.event event + records_at entries event
one_entry_more entry entries event =
    elim (cases_Bool (nat_eq entry.event event)) [
      | inl e ↦ rw e (omega arith)
      | inr e ↦ rw e (omega arith)
    ]

no_entries : (n : ℕ) → total (records_at []) n ≡ 0
no_entries zero = refl
no_entries (suc n) = let before = no_entries n in omega (arith, before)

entries_at_most : (entries : List EntryState) (n : ℕ) → total (records_at entries) n ≤ 8 * length entries
entries_at_most [] n = let none = no_entries n in omega (arith, none)
entries_at_most (entry ∷ entries) n =
    let more = total_le (records_at (entry ∷ entries)) (own_at entry.event) (records_at entries) n (one_entry_more entry entries) in
    let own = at_one entry.event n in
    let before = entries_at_most entries n in
    omega (arith, more, own, before)

records_length : (manager : Manager) (event : ℕ) → length (records_of (event_seen manager event)) ≡ records_at manager.durable.memory.entries event
records_length manager event = by_test (is_some (find (is_of_event event) manager.durable.memory.entries)) (rules_of manager event).dtc
  where
    by_test : (test : Bool) (dtc : ℕ) → length (cond test ((dtc_bytes dtc ++ 0x01 ∷ []) ++ (dtc_bytes dtc ++ 0x02 ∷ [])) []) ≡ cond test 8 0
    by_test true dtc = refl
    by_test false dtc = refl

records_total : (manager : Manager) (n : ℕ) → length (flat_map records_of (seen_to manager n)) ≡ total (records_at manager.durable.memory.entries) n
records_total manager zero = refl
records_total manager (suc n) =
    let more = length_more records_of manager n in
    let own = records_length manager n in
    let before = records_total manager n in
    omega (arith, more, own, before)

all_records_fit : (manager : Manager) (n : ℕ) → length manager.durable.memory.entries ≤ ENTRIES → length (flat_map records_of (seen_to manager n)) ≤ 128
all_records_fit manager n room =
    let sum = records_total manager n in
    let at_most = entries_at_most manager.durable.memory.entries n in
    omega (arith, sum, at_most, room)

-- The records of one more event fit after those before it.
pub records_fit : (manager : Manager) (k n : ℕ) (out : List ℕ) → out ≡ (0x59 ∷ 0x03 ∷ []) ++ flat_map records_of (seen_to manager k) → k < n →
    length manager.durable.memory.entries ≤ ENTRIES → length out + length (records_of (event_seen manager k)) ≤ RESPONSE
records_fit manager k n out is h room =
    let all = all_records_fit manager n room in
    let part = part_fits records_of manager k n h in
    let length_is = ap length is in
    omega (arith, all, part, length_is)

whole_list_fits : (listing : Listing) (manager : Manager) (n : ℕ) → n ≤ EVENTS →
    length (head_of listing) + length (flat_map (listed listing) (seen_to manager n)) ≤ RESPONSE
whole_list_fits (ByMask mask) manager n few = let at_most = four_each (listed (ByMask mask)) manager n (λ event. if_masked (is_masked mask event) event) in omega (arith, at_most, few)
whole_list_fits Supported manager n few = let at_most = four_each (listed Supported) manager n (λ event. omega arith) in omega (arith, at_most, few)
whole_list_fits Counters manager n few = let at_most = four_each (listed Counters) manager n (λ event. if_prefailed (is_prefailed event) event) in omega (arith, at_most, few)

-- One more event fits after those before it.
pub list_fits : (listing : Listing) (manager : Manager) (k n : ℕ) (out : List ℕ) → out ≡ head_of listing ++ flat_map (listed listing) (seen_to manager k) → k < n → n ≤ EVENTS →
    length out + length (listed listing (event_seen manager k)) ≤ RESPONSE
list_fits listing manager k n out is h few =
    let all = whole_list_fits listing manager n few in
    let part = part_fits (listed listing) manager k n h in
    let length_is = ap length is ∙ length-append (head_of listing) (flat_map (listed listing) (seen_to manager k)) in
    omega (arith, all, part, length_is)

-- ---- one of them

length_seen : (manager : Manager) (n : ℕ) → length (seen_to manager n) ≡ n
length_seen manager n = length-map (below n) (event_seen manager) ∙ length_below n

-- The status of a noted event.
pub noted_seen : (manager : Manager) (n event : ℕ) → event < n → noted_bytes (seen_to manager n) (Some event) ≡ with_status (event_seen manager event)
noted_seen manager n event h =
    let size = length_below n in
    let long = length_seen manager n in
    let own = event_seen manager event in
    let at : get_or (seen_to manager n) event own ≡ own =
    get_or-map (event_seen manager) (below n) event event own (omega (arith, h, size)) ∙ ap (event_seen manager) (at_below n event event h) in
    let front = drop_more (seen_to manager n) event own (omega (arith, h, long)) in
    ap (λ xs. flat_map with_status (take 1 xs)) front ∙ append-nil (with_status (get_or (seen_to manager n) event own)) ∙ ap with_status at

pub noted_past : (manager : Manager) (n event : ℕ) → n ≤ event → noted_bytes (seen_to manager n) (Some event) ≡ []
noted_past manager n event h =
    let long = length_seen manager n in
    ap (λ xs. flat_map with_status (take 1 xs)) (drop_all event (seen_to manager n) (omega (arith, h, long)))

-- ---- the event of a DTC

module _ (p : EventView → Bool) where
  abbrev or_push : Option EventView → EventView → Option EventView
  or_push (Some x) y = Some x
  or_push None y = cond (p y) (Some y) None

  found_push : (xs : List EventView) (y : EventView) → find p (xs ++ y ∷ []) ≡ or_push (find p xs) y
  found_push [] y = refl
  found_push (x ∷ xs) y =
      elim (cases_Bool (p x)) [
        | inl e ↦ rw e refl
        | inr e ↦ rw e (found_push xs y)
      ]

  module _ (manager : Manager) where
    pub unknown_dtc : (n : ℕ) → ((k : ℕ) → k < n → p (event_seen manager k) ≡ false) → find p (seen_to manager n) ≡ None
    unknown_dtc zero none = refl
    unknown_dtc (suc n) none =
        ap (find p) (seen_more manager n) ∙ found_push (seen_to manager n) (event_seen manager n)
        ∙ ap (λ o. or_push o (event_seen manager n)) (unknown_dtc n (λ k h. none k (omega (arith, h))))
        ∙ ap (λ b. cond b (Some (event_seen manager n)) None) (none n (omega arith))

    pub first_found : (n event : ℕ) → event < n → p (event_seen manager event) ≡ true → ((k : ℕ) → k < event → p (event_seen manager k) ≡ false) →
        find p (seen_to manager n) ≡ Some (event_seen manager event)
    first_found zero event h own before = absurd (omega (arith, h))
    first_found (suc n) event h own before =
        ap (find p) (seen_more manager n) ∙ found_push (seen_to manager n) (event_seen manager n)
        ∙ ⊎_elim
        (λ same. ap (λ o. or_push o (event_seen manager n)) (unknown_dtc n (λ k below_n. before k (omega (arith, same, below_n))))
        ∙ ap (λ k. cond (p (event_seen manager k)) (Some (event_seen manager k)) None) (sym same)
        ∙ ap (λ b. cond b (Some (event_seen manager event)) None) own)
        (λ ne. ap (λ o. or_push o (event_seen manager n)) (first_found n event (omega (arith, h, ne)) own before))
        (cases_eq event n)

-- ---- a list of those that pass a test

pub flat_map_of_filtered : (p : EventView → Bool) (f : EventView → List ℕ) (xs : List EventView) →
    flat_map f (filter p xs) ≡ flat_map (λ x. cond (p x) (f x) []) xs
flat_map_of_filtered p f [] = refl
flat_map_of_filtered p f (x ∷ xs) =
    elim (cases_Bool (p x)) [
      | inl e ↦ rw e (ap (λ rest. f x ++ rest) (flat_map_of_filtered p f xs))
      | inr e ↦ rw e (flat_map_of_filtered p f xs)
    ]
