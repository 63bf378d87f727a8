-- A driver that is not stale, at the position of one of its blocks.
use Rattle.std.proofs.Common.{◌≡◌, ◌≢◌, ◌⊎◌, inl, inr, ⊎_elim, ◌+◌, ◌*◌, ◌^◌, ◌<◌, ◌≤◌, ℕ, Bool, true, false, List, [], get_or, set, length, get_or-set_same, get_or-set_other, Option, Some, None, Result, Ok, Err, refl, sym, ◌∙◌, ap, subst, arith}
use Rattle.std.specs.Prelude.{OnOk, IsErrOf, if◌then◌else◌}
use Rattle.std.specs.List.{AllPairs, list_any}
use Rattle.std.proofs.lemmas.Bool.{cases_eq}
use Rattle.std.proofs.lemmas.List.{get_or_read}
use Rattle.flt_flash.specs.Content.{Content, invalid, bytes}
use Rattle.flt_flash.specs.Image.{sector_at}
use Rattle.flt_flash.specs.State.{FlashState, MakesOperations, HasRisenBy}
use Rattle.flt_flash.specs.Calls.{Follows, BlockCalls, Changes, found_of}
use Rattle.flt_flash.specs.declared.blocks.BlockFault.{BlockFault}
use Rattle.flt_flash.specs.declared.blocks.BlockFault.TheVariants.{Flash, Damaged, SequenceSpent}
use Rattle.flt_flash.specs.declared.blocks.Found.TheVariants.{Bytes}
use Rattle.flt_flash.specs.declared.flash.FlashFailed.{FlashFailed}
use Rattle.flt_flash.proofs.Answering.{sound_calls, changes_done, changes_failed}
use Rattle.flt_code.specs.Spoiled.{is_spoiled}
use Rattle.flt_pages.specs.LogHolds.{record_content}
use Rattle.flt_pages.specs.Record.{KeptApart}
use Rattle.flt_ea.specs.State.{HasUnits}
use Rattle.flt_code.specs.Word.{is_length}
use Rattle.flt_ea.specs.Gate.{IsGate, gate_bytes, gate_of}
use Rattle.flt_ea.specs.Image.{gate_unit, gate_at, bytes_after_gate, place_content, current_place, gate_in, newer, has_last_sequence, next_place, next_sequence, judged_places, value_in, damage_in, is_spent_in, is_stuck_in, spent_from}
use Rattle.flt_ea.specs.Scan.{IsTable}
use Rattle.flt_ea.specs.Driver.{state_by}
use Rattle.flt_ea.specs.Written.{HoldsRecord, UnitRecordLeft, WritesRecord}
use Rattle.flt_ea.specs.Proper.{IsHeldPlace, current_held}
use Rattle.flt_ea.specs.Laws.{held_size}
use Rattle.flt_ea.specs.declared.ea.Ea.{Ea}
use Rattle.flt_ea.specs.declared.gate.Gate.{Gate}
use Rattle.flt_ea.specs.declared.place.Held.{Held}
use Rattle.flt_ea.proofs.Device.{units_on}
use Rattle.flt_ea.proofs.Judging.{held_at, place_cases, none_spoiled}
use Rattle.flt_ea.proofs.Units.{SameAt, IsAt, StaysAt, is_at, other_same, gate_stood, gate_emptied, gate_given, content_given}
use Rattle.flt_ea.proofs.Listed.{SoundAt, sound_at, sound_all, value_at, stuck_at, same_value, stays_spent, spent_told}

at_zero : (P : ℕ → Type 0) (k : ℕ) → P (0 + k) → P k
at_zero P k is = subst P (let e : 0 + k ≡ k = omega arith in e) is

from_zero : (P : ℕ → Type 0) (k : ℕ) → P k → P (0 + k)
from_zero P k is = subst P (let e : k ≡ 0 + k = omega arith in e) is

next_least : (held : Option Held) → 1 ≤ next_sequence held
next_least None = omega arith
next_least (Some held) = omega arith

-- The gate that is written next.
pub is_gate : (gate : Gate) (held : Option Held) → gate.block < 2 ^ 16 → gate.length ≤ 128 → gate.sequence < 2 ^ 32 → gate.sequence ≡ next_sequence held → is_length gate.valid gate.length ≡ true → IsGate gate
is_gate gate held block size most next kind = record { block = block; size = omega arith; most = most; least = omega (arith, next, next_least held); kind = kind }

-- The table has the current place of a position.
pub current_read : (numbers : List ℕ) (units : List (List ℕ)) (table : List (Option Held)) (position : ℕ) (found : Option Held) → IsTable (length numbers) units table → position < length numbers → length table ≡ length numbers
    → found ≡ get_or table position found → current_place units position ≡ found
current_read numbers units table position found tells lt sized read = sym (tells position lt) ∙ sym (get_or_read table position found (omega arith) read None)

-- It says whether some block is spent.
pub told_spent : (numbers : List ℕ) (units : List (List ℕ)) (table : List (Option Held)) → length table ≡ length numbers → IsTable (length numbers) units table → list_any has_last_sequence table ≡ spent_from 0 numbers units
told_spent numbers units table sized tells = spent_told units 0 numbers table sized (λ k less. from_zero (λ n. get_or table k None ≡ current_place units n) k (tells k less))

-- A call that leaves an image without a fault, of a driver that has mounted.
module _ (numbers : List ℕ) (before after : FlashState) (runs : MakesOperations before after) (sound : damage_in numbers before.image ≡ None) (stays_sound : damage_in numbers after.image ≡ None)
    (spent : is_spent_in numbers before.image ≡ true → is_spent_in numbers after.image ≡ true) (was_stale has_mounted is_stale : Bool) where
  pub quiet_follows : Follows (state_by numbers was_stale has_mounted before) (state_by numbers is_stale has_mounted after)
  quiet_follows = record {
    numbers = refl;
    room = refl;
    once_mounted = λ is. is;
    stays_spent = spent;
    damage_stays = λ place is. absurd (cc (sound, is));
    no_new_damage = λ none. stays_sound;
    counts = runs.counts;
    operations = omega (arith, runs.operations);
    erases = runs.erases;
    bench = runs.bench;
  }

  pub quiet_calls : {T : Type 0} (result : Result T BlockFault) → (IsErrOf result Flash → HasRisenBy 1 before.faults after.faults)
      → ((sector page : ℕ) → IsErrOf result (Damaged sector page) → ⊥) → BlockCalls (state_by numbers was_stale has_mounted before) (state_by numbers is_stale has_mounted after) result
  quiet_calls result = sound_calls result quiet_follows sound

-- An image has no fault, and this is the current place of a block of it, which is at this position.
pub record StandsAt (device : FlashState) (numbers : List ℕ) (position block : ℕ) (found : Option Held) : Type 0 where
  pub shape : HasUnits device
  pub within : 10 * length numbers ≤ device.pages
  pub distinct : AllPairs (λ a b. a ≢ b) numbers
  pub sound : damage_in numbers device.image ≡ None
  pub lt : position < length numbers
  pub is : get_or numbers position 0 ≡ block
  pub here : current_place (sector_at device.image 0) position ≡ found

-- A driver that is not stale knows the current place of each block.
pub stands_at : {E : Type 0} {g : _} (driver : Ea E g) → HasUnits (g.state driver.device) → driver.is_stale ≡ false → (position block : ℕ) (found : Option Held) → position < length driver.numbers → get_or driver.numbers position 0 ≡ block
    → found ≡ get_or driver.table.items position found → StandsAt (g.state driver.device) driver.numbers position block found
stands_at {E} {g} driver shape settled position block found lt is read = record {
  shape = shape;
  within = driver.within;
  distinct = driver.distinct;
  sound = driver.mounted.undamaged (driver.mounted.mounted settled);
  lt = lt;
  is = is;
  here = current_read driver.numbers (sector_at (g.state driver.device).image 0) driver.table.items position found (driver.mounted.places settled) lt driver.size read;
}

-- A record of a block is written to its place that is not current.
pub record WritesNext (device after : FlashState) (position block : ℕ) (found : Option Held) (new : Gate) (written : List ℕ) (result : Result (Unit {0}) FlashFailed) : Type 0 where
  pub left_over : has_last_sequence found ≡ false
  pub size : new.length ≡ length written
  pub number : new.block ≡ block
  pub next : new.sequence ≡ next_sequence found
  pub read : gate_of (gate_bytes new) ≡ Some new
  pub writes : WritesRecord device after (gate_unit position (next_place found)) new written result

module _ {device : FlashState} {numbers : List ℕ} {position block : ℕ} {found : Option Held} (stands : StandsAt device numbers position block found) where
  abbrev units : List (List ℕ)
  units = sector_at device.image 0

  pub value_is : value_in numbers device.image block ≡ place_content units position found
  value_is =
      at_zero (λ n. value_in numbers device.image block ≡ place_content units n (current_place units n)) position (value_at units 0 numbers block stands.distinct position stands.lt stands.is)
      ∙ ap (place_content units position) stands.here

  pub stuck_is : is_stuck_in numbers device.image block ≡ has_last_sequence found
  stuck_is = at_zero (λ n. is_stuck_in numbers device.image block ≡ has_last_sequence (current_place units n)) position (stuck_at units 0 numbers block stands.distinct position stands.lt stands.is) ∙ ap has_last_sequence stands.here

  stood : IsAt block units position found
  stood = subst (λ (h : Option Held). IsAt block units position h) stands.here
      (is_at block units position (current_place units position)
      (subst (λ n. SoundAt n units position) stands.is (at_zero (SoundAt (get_or numbers position 0) units) position (sound_at units 0 numbers stands.sound position stands.lt))))

  -- The gate unit that is written next is not spoiled.
  pub unspoiled : is_spoiled (get_or units (gate_unit position (next_place found)) []) ≡ false
  unspoiled =
      let both = none_spoiled block (gate_at units position 0) (gate_at units position 1) found stood.sound in
      ⊎_elim (λ zero. ap (λ n. is_spoiled (get_or units (gate_unit position n) [])) zero ∙ both.0) (λ one. ap (λ n. is_spoiled (get_or units (gate_unit position n) [])) one ∙ both.1) (place_cases found)

  -- A record is current.
  module _ (held : Held) (is : found ≡ Some held) where
    pub current_is : IsHeldPlace held
    current_is = current_held units position held (stands.here ∙ is)

    -- As many bytes are after its gate as it says.
    pub size_is : length (bytes_after_gate units (gate_unit position held.place) held.gate.length) ≡ held.gate.length
    size_is =
        let lt = stands.lt in
        let within = stands.within in
        held_size device stands.shape position held (omega arith) current_is

    record_value : value_in numbers device.image block ≡ (if held.gate.valid then bytes (bytes_after_gate units (gate_unit position held.place) held.gate.length) else invalid)
    record_value = value_is ∙ ap (place_content units position) is

    pub valid_value : held.gate.valid ≡ true → value_in numbers device.image block ≡ bytes (bytes_after_gate units (gate_unit position held.place) held.gate.length)
    valid_value valid = record_value ∙ ap (λ v. if v then bytes (bytes_after_gate units (gate_unit position held.place) held.gate.length) else invalid) valid

    pub invalid_value : held.gate.valid ≡ false → value_in numbers device.image block ≡ invalid
    invalid_value valid = record_value ∙ ap (λ v. if v then bytes (bytes_after_gate units (gate_unit position held.place) held.gate.length) else invalid) valid

    -- What is found of a valid record.
    pub valid_found : held.gate.valid ≡ true → Bytes held.gate.length ≡ found_of (value_in numbers device.image block)
    valid_found valid = ap Bytes (sym size_is) ∙ sym (ap found_of (valid_value valid))

  -- A record that is stuck.
  module _ (last : has_last_sequence found ≡ true) (asked : Content) (size : ℕ) (is_stale has_mounted : Bool) where
    pub spent_changes : Changes (state_by numbers is_stale has_mounted device) (state_by numbers is_stale has_mounted device) block asked size (Err SequenceSpent)
    spent_changes = record {
      holds_asked = tt;
      failed = λ told. absurd (cc told);
      others = λ other differ. refl;
      full = λ live needed told. absurd (cc told);
      spent = λ told. (stuck_is ∙ last, λ b. refl);
      damaged = λ s p told. absurd (cc told);
    }

  -- A record is written to the place that is not current.
  module _ {after : FlashState} {new : Gate} {written : List ℕ} {result : Result (Unit {0}) FlashFailed} (put : WritesNext device after position block found new written result) where
    abbrev unit : ℕ
    unit = gate_unit position (next_place found)

    abbrev now : List (List ℕ)
    now = sector_at after.image 0

    now_is : put.writes.units ≡ now
    now_is = sym (units_on device after put.writes.units stands.shape put.writes.on)

    apart : KeptApart units now unit (unit + 5)
    apart = subst (λ (p : List (List ℕ)). KeptApart units p unit (unit + 5)) now_is put.writes.apart

    -- Every other position is as it was.
    same : (k : ℕ) → k ≢ position → SameAt units now k
    same k differ = other_same block position units now found stood apart k differ

    same_current : (k : ℕ) → k ≢ position → current_place now k ≡ current_place units k
    same_current k differ = (λ i. newer (gate_in ((same k differ).first i)) (gate_in ((same k differ).second i)))

    -- Its own has this current place now.
    module _ (held : Option Held) (at : IsAt block now position held) where
      sound_each : (k : ℕ) → k < length numbers → SoundAt (get_or numbers k 0) now k
      sound_each k less = elim (cases_eq k position) [
        | inl own ↦ subst (λ n. SoundAt (get_or numbers n 0) now n) (sym own) (subst (λ n. SoundAt n now position) (sym stands.is) (at.sound ∙ ap Ok (sym at.current)))
        | inr other ↦ (
            (λ i. judged_places (get_or numbers k 0) ((same k other).first i) ((same k other).second i))
            ∙ at_zero (SoundAt (get_or numbers k 0) units) k (sound_at units 0 numbers stands.sound k less) ∙ ap Ok (sym (same_current k other)))
      ]

      sound_now : damage_in numbers after.image ≡ None
      sound_now = sound_all now 0 numbers (λ k less. from_zero (SoundAt (get_or numbers k 0) now) k (sound_each k less))

      value_now : value_in numbers after.image block ≡ place_content now position held
      value_now = at_zero (λ n. value_in numbers after.image block ≡ place_content now n (current_place now n)) position (value_at now 0 numbers block stands.distinct position stands.lt stands.is) ∙ ap (place_content now position) at.current

    others : (other : ℕ) → other ≢ block → value_in numbers after.image other ≡ value_in numbers device.image other
    others other differ = same_value units now 0 numbers other (λ k less that. from_zero (λ n. place_content now n (current_place now n) ≡ place_content units n (current_place units n)) k
        (same k (λ own. differ (sym that ∙ ap (λ n. get_or numbers n 0) own ∙ stands.is))).content)

    spent : is_spent_in numbers device.image ≡ true → is_spent_in numbers after.image ≡ true
    spent = stays_spent units now 0 numbers (λ k less. from_zero (λ n. has_last_sequence (current_place units n) ≡ true → has_last_sequence (current_place now n) ≡ true) k (each k))
      where
        each : (k : ℕ) → has_last_sequence (current_place units k) ≡ true → has_last_sequence (current_place now k) ≡ true
        each k last = elim (cases_eq k position) [
          | inl own ↦ absurd (let no : has_last_sequence (current_place units k) ≡ false = ap (λ n. has_last_sequence (current_place units n)) own ∙ ap has_last_sequence stands.here ∙ put.left_over in cc (no, last))
          | inr other ↦ ap has_last_sequence (same_current k other) ∙ last
        ]

    pub record Stored : Type 0 where
      pub held : Option Held
      pub at : IsAt block now position held
      pub either : (value_in numbers after.image block ≡ value_in numbers device.image block) ⊎ (value_in numbers after.image block ≡ record_content new.valid written)

    stays : StaysAt block position units now found stood apart → Stored
    stays kept = record { held = found; at = kept.is_held; either = inl (value_now found kept.is_held ∙ kept.content ∙ sym value_is) }

    whole_at : HoldsRecord now unit new written → IsAt block now position (held_at (next_place found) new)
    whole_at whole = gate_given block position units now found stood apart new written put.size put.number put.next put.read whole

    whole_value : HoldsRecord now unit new written → value_in numbers after.image block ≡ record_content new.valid written
    whole_value whole = value_now (held_at (next_place found) new) (whole_at whole) ∙ content_given block position units now found stood apart new written put.size put.number put.next put.read whole

    pub stored : Stored
    stored = by_left (subst (λ (p : List (List ℕ)). UnitRecordLeft units p unit new written) now_is put.writes.one_of_forms)
      where
        by_left : UnitRecordLeft units now unit new written → Stored
        by_left (inl as_before) = stays (gate_stood block position units now found stood apart as_before)
        by_left (inr (inl empty)) = stays (gate_emptied block position units now found stood apart empty)
        by_left (inr (inr whole)) = record { held = held_at (next_place found) new; at = whole_at whole; either = inr (whole_value whole) }

    pub stored_sound : damage_in numbers after.image ≡ None
    stored_sound = sound_now stored.held stored.at

    module _ (was_stale has_mounted : Bool) where
      pub failed_calls : HasRisenBy 1 device.faults after.faults → (answer : Result (Unit {0}) BlockFault) → answer ≡ Err Flash → BlockCalls (state_by numbers was_stale has_mounted device) (state_by numbers true has_mounted after) answer
      failed_calls cause answer told = quiet_calls numbers device after put.writes.on.runs stands.sound stored_sound spent was_stale has_mounted true answer (λ flash. cause) (λ s p damaged. cc (told, damaged))

      pub failed_changes : (answer : Result (Unit {0}) BlockFault) → answer ≡ Err Flash → Changes (state_by numbers was_stale has_mounted device) (state_by numbers true has_mounted after) block (record_content new.valid written) (length written) answer
      failed_changes answer told = changes_failed (state_by numbers was_stale has_mounted device) (state_by numbers true has_mounted after) block (record_content new.valid written) (length written) answer told stored.either others

      -- It holds the record whole.
      module _ (whole : HoldsRecord now unit new written) where
        pub done_calls : BlockCalls {T = Unit {0}} (state_by numbers was_stale has_mounted device) (state_by numbers false has_mounted after) (Ok tt)
        done_calls = quiet_calls numbers device after put.writes.on.runs stands.sound stored_sound spent was_stale has_mounted false {T = Unit {0}} (Ok tt) (λ told. absurd (cc told)) (λ s p told. cc told)

        pub done_changes : Changes (state_by numbers was_stale has_mounted device) (state_by numbers false has_mounted after) block (record_content new.valid written) (length written) (Ok tt)
        done_changes = changes_done (state_by numbers was_stale has_mounted device) (state_by numbers false has_mounted after) block (record_content new.valid written) (length written) (whole_value whole) others

        -- The table has the new place.
        pub table_now : (table : List (Option Held)) → length table ≡ length numbers → IsTable (length numbers) units table → IsTable (length numbers) now (set table position (held_at (next_place found) new))
        table_now table sized tells k less = elim (cases_eq k position) [
          | inl own ↦ (
              ap (λ n. get_or (set table position (held_at (next_place found) new)) n None) own
              ∙ get_or-set_same table position (held_at (next_place found) new) None (omega arith) ∙ sym (ap (current_place now) own ∙ (whole_at whole).current))
          | inr other ↦ get_or-set_other table position k (held_at (next_place found) new) None other ∙ tells k less ∙ sym (same_current k other)
        ]

    -- What is there after a write that answered Ok.
    pub whole_now : OnOk result (HoldsRecord now unit new written)
    whole_now = by_result result put.writes.holds_record
      where
        by_result : (r : Result (Unit {0}) FlashFailed) → OnOk r (HoldsRecord put.writes.units unit new written) → OnOk r (HoldsRecord now unit new written)
        by_result (Ok x) whole = subst (λ (p : List (List ℕ)). HoldsRecord p unit new written) now_is whole
        by_result (Err e) whole = tt
