-- Event lines that are not of their form.
use Rattle.std.proofs.Common.{◌≡◌, ℕ, List, Bool, true, false, ◌||◌, Option, Some, None, refl, if◌then◌else◌}
use Rattle.std.specs.Prelude.{not, is_some}
use Rattle.std.proofs.Math.Bool.{or-true}
use Rattle.flt_script.specs.declared.event.DebounceLine.{DebounceLine}
use Rattle.flt_script.specs.declared.event.EventLine.{EventLine}
use Rattle.flt_script.specs.declared.event.Numbers.{Numbers}
use Rattle.flt_script.specs.declared.pair.Key.TheVariants.{Dtc, Count, JumpUp, JumpDown, Time}
use Rattle.flt_script.specs.Event.{has_pair, times_of, counter_of, debounce_of, numbers_of, spelled_dtc, event_line_of}
use Rattle.flt_script.specs.Gives.{◌⇒◌, given_by}
use Rattle.flt_script.specs.Laws.{OddEventsAreRefused}
use Rattle.flt_script.specs.Numeral.{number}
use Rattle.flt_script.specs.Pair.{starts_with_key, any_twice, values_of}
use Rattle.flt_script.proofs.Limits.{none_of}

-- An event line, by its parts.
abbrev made : Bool → Option ℕ → Option ℕ → Option Numbers → Option DebounceLine → Option EventLine
made odd n d p b =
    if odd then None
    else n ⇒ λ number. d ⇒ λ dtc. p ⇒ λ numbers. b ⇒ λ debounce.
    Some (record { number = number; dtc = dtc; numbers = numbers; debounce = debounce })

without_dtc : (odd : Bool) (n : Option ℕ) (p : Option Numbers) (b : Option DebounceLine) → made odd n None p b ≡ None
without_dtc true n p b = refl
without_dtc false None p b = refl
without_dtc false (Some number) p b = refl

without_debounce : (odd : Bool) (n d : Option ℕ) (p : Option Numbers) → made odd n d p None ≡ None
without_debounce true n d p = refl
without_debounce false None d p = refl
without_debounce false (Some number) None p = refl
without_debounce false (Some number) (Some dtc) None = refl
without_debounce false (Some number) (Some dtc) (Some numbers) = refl

dtc_missing : (pairs : List (List ℕ)) → has_pair Dtc pairs ≡ false → spelled_dtc pairs ≡ None
unfolding spelled_dtc
dtc_missing pairs e = rw (none_of (values_of Dtc pairs) e) refl

clash : (times : Option (List (List ℕ))) (other : Bool) (counter : Option DebounceLine) → is_some times ≡ true → other ≡ true
    → given_by times counter (λ values. if other then None else times_of values) ≡ None
clash None other counter some e = absurd cc
clash (Some values) other counter some e = rw e refl

debounce_clashes : (pairs : List (List ℕ)) → has_pair Time pairs ≡ true → (has_pair Count pairs || has_pair JumpUp pairs || has_pair JumpDown pairs) ≡ true
    → debounce_of pairs ≡ None
unfolding debounce_of
debounce_clashes pairs time other =
    clash (values_of Time pairs) (has_pair Count pairs || has_pair JumpUp pairs || has_pair JumpDown pairs) (counter_of pairs) time other

pub odd_events_are_refused : OddEventsAreRefused
unfolding event_line_of
odd_events_are_refused = record {
  twice = λ n pairs e. rw (e, or-true (not (starts_with_key pairs))) refl;
  no_dtc = λ n pairs e.
      rw (dtc_missing pairs e) (without_dtc (not (starts_with_key pairs) || any_twice pairs) (number n) (numbers_of pairs) (debounce_of pairs));
  both = λ n pairs time other.
      rw (debounce_clashes pairs time other) (without_debounce (not (starts_with_key pairs) || any_twice pairs) (number n) (spelled_dtc pairs) (numbers_of pairs));
}
