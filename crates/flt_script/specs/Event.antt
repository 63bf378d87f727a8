-- The event line: a number, and pairs in any order, each at most once.
use Rattle.std.specs.Prelude.{ℕ, ℤ, pos, neg_ℤ, negsuc, int_lt, List, [], ◌∷◌, Bool, not, ◌||◌, ◌==◌, Option, Some, None, option_map, is_some, if◌then◌else◌}
use Rattle.flt_config.specs.declared.config.Debounce.{Debounce}
use Rattle.flt_config.specs.declared.config.Debounce.TheVariants as rules
use Rattle.flt_config.specs.declared.config.EventCfg.{EventCfg}
use Rattle.flt_script.specs.declared.pair.Key.{Key}
use Rattle.flt_script.specs.declared.pair.Key.TheVariants.{Dtc, Priority, Cycle, Confirm, Heal, Age, Lamp, Needs, Count, JumpUp, JumpDown, Time}
use Rattle.flt_script.specs.declared.event.Thresholds.{Thresholds}
use Rattle.flt_script.specs.declared.event.Numbers.{Numbers}
use Rattle.flt_script.specs.declared.event.EventLine.{EventLine}
use Rattle.flt_script.specs.declared.event.DebounceLine.{DebounceLine}
use Rattle.flt_script.specs.declared.event.DebounceLine.TheVariants as line
use Rattle.flt_script.specs.Gives.{◌⇒◌, given_by}
use Rattle.flt_script.specs.Numeral.{number, signed, hexadecimal, up_to}
use Rattle.flt_script.specs.Pair.{starts_with_key, any_twice, values_of}

-- One word, and what it spells.
abbrev pub only : {A : Type 0} → (List ℕ → Option A) → List (List ℕ) → Option A
only spelled [] = None
only spelled (word ∷ []) = spelled word
only spelled (word ∷ next ∷ more) = None

-- What is spelled, or the default where nothing is there.
abbrev pub spelled_or : {A : Type 0} → A → (List (List ℕ) → Option A) → Option (List (List ℕ)) → Option A
spelled_or default spelled None = Some default
spelled_or default spelled (Some values) = spelled values

-- The pair is there.
abbrev pub has_pair : Key → List (List ℕ) → Bool
has_pair key pairs = is_some (values_of key pairs)

-- The one number of a pair, or its default.
unfoldable pub number_or : ℕ → Key → List (List ℕ) → Option ℕ
number_or default key pairs = spelled_or default (only number) (values_of key pairs)

-- The value to which a report jumps, if the pair is there.
unfoldable pub jump_of : Key → List (List ℕ) → Option (Option ℤ)
jump_of key pairs = spelled_or None (λ values. option_map Some (only signed values)) (values_of key pairs)

-- The four words of count: F, P, U and D.
unfoldable pub threshold_words : List (List ℕ) → Option Thresholds
threshold_words (f ∷ p ∷ u ∷ d ∷ []) =
    number f ⇒ λ fail. number p ⇒ λ pass. number u ⇒ λ up. number d ⇒ λ down.
    Some (record { fail = fail; pass = pass; up = up; down = down })
threshold_words _ = None

-- What count says, or its defaults.
unfoldable pub thresholds_of : List (List ℕ) → Option Thresholds
thresholds_of pairs = spelled_or (record { fail = 1; pass = 1; up = 1; down = 1 }) threshold_words (values_of Count pairs)

-- The two words of time: F and P.
unfoldable pub times_of : List (List ℕ) → Option DebounceLine
times_of (f ∷ p ∷ []) = number f ⇒ λ fail. number p ⇒ λ pass. Some (line.Time fail pass)
times_of _ = None

-- A counter with its jumps.
unfoldable pub counter_of : List (List ℕ) → Option DebounceLine
counter_of pairs =
    thresholds_of pairs ⇒ λ thresholds. jump_of JumpUp pairs ⇒ λ up. jump_of JumpDown pairs ⇒ λ down.
    Some (line.Counter thresholds up down)

-- By times, which exclude what belongs to a counter, or by a counter.
unfoldable pub debounce_of : List (List ℕ) → Option DebounceLine
debounce_of pairs = given_by (values_of Time pairs) (counter_of pairs)
    (λ values. if has_pair Count pairs || has_pair JumpUp pairs || has_pair JumpDown pairs then None else times_of values)

-- The pairs of one number, with their defaults.
unfoldable pub numbers_of : List (List ℕ) → Option Numbers
numbers_of pairs =
    number_or 1 Priority pairs ⇒ λ priority. number_or 0 Cycle pairs ⇒ λ cycle. number_or 1 Confirm pairs ⇒ λ confirm.
    number_or 3 Heal pairs ⇒ λ heal. number_or 40 Age pairs ⇒ λ age. number_or 0 Lamp pairs ⇒ λ lamp.
    number_or 0 Needs pairs ⇒ λ needs.
    Some (record { priority = priority; cycle = cycle; confirm = confirm; heal = heal; age = age; lamp = lamp; needs = needs })

-- The one word of dtc, which must be there: six hexadecimal digits.
unfoldable pub spelled_dtc : List (List ℕ) → Option ℕ
spelled_dtc pairs = values_of Dtc pairs ⇒ only (hexadecimal 6)

-- What the words after the word event say.
unfoldable pub event_line_of : List (List ℕ) → Option EventLine
event_line_of [] = None
event_line_of (n ∷ pairs) =
    if not (starts_with_key pairs) || any_twice pairs then None
    else number n ⇒ λ number. spelled_dtc pairs ⇒ λ dtc. numbers_of pairs ⇒ λ numbers. debounce_of pairs ⇒ λ debounce.
    Some (record { number = number; dtc = dtc; numbers = numbers; debounce = debounce })

-- A jump that an integer of 16 bits holds.
abbrev pub jump_to : ℤ → Option ℤ
jump_to jump = if int_lt jump (negsuc 32767) || int_lt (pos 32767) jump then None else Some jump

-- A jump that an integer of 16 bits holds, if there is one.
unfoldable pub jump_held : Option ℤ → Option (Option ℤ)
jump_held None = Some None
jump_held (Some jump) = option_map Some (jump_to jump)

-- The debouncing that the configuration holds; a counter passes at the negative of the number that is written.
unfoldable pub debounce_held : DebounceLine → Option Debounce
debounce_held (line.Counter thresholds up down) =
    up_to 32767 thresholds.fail ⇒ λ fail. up_to 32768 thresholds.pass ⇒ λ pass.
    up_to 32767 thresholds.up ⇒ λ step_up. up_to 32767 thresholds.down ⇒ λ step_down.
    jump_held up ⇒ λ jump_up. jump_held down ⇒ λ jump_down.
    Some (rules.Counter (pos fail) (neg_ℤ (pos pass)) (pos step_up) (pos step_down) jump_up jump_down)
debounce_held (line.Time fail pass) = up_to 65535 fail ⇒ λ fail. up_to 65535 pass ⇒ λ pass. Some (rules.Time fail pass)

-- The event that the configuration holds, or nothing where a number is too large for it.
unfoldable pub event_held : EventLine → Option EventCfg
event_held event =
    up_to 255 event.numbers.priority ⇒ λ priority. up_to 255 event.numbers.cycle ⇒ λ cycle.
    up_to 255 event.numbers.confirm ⇒ λ confirm. up_to 255 event.numbers.heal ⇒ λ heal. up_to 255 event.numbers.age ⇒ λ age.
    up_to 1 event.numbers.lamp ⇒ λ lamp. up_to 255 event.numbers.needs ⇒ λ needs. debounce_held event.debounce ⇒ λ debounce.
    Some (record {
      dtc = event.dtc;
      priority = priority;
      cycle = cycle;
      confirm = confirm;
      heal = heal;
      age = age;
      indicator = lamp == 1;
      needs = needs;
      debounce = debounce;
      dids = record { items = [] };
    })
