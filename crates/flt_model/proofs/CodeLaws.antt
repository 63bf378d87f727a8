-- The order of the negative response codes.
use Rattle.std.proofs.Common.{◌≡◌, ℕ, ◌+◌, ◌%◌, ◌<◌, ◌∙◌, ◌≢◌, eq-eqb, nat_eq, nat_le, Bool, true, false, not, ◌&&◌, ◌||◌, cond, List, [], ◌∷◌, length, Option, Some, None, Ok, Err, is_some, refl, sym, subst, arith, inl, inr, eqb-true}
use Rattle.std.specs.Prelude.{option_map, MatchOption, slice_get, is_none, ◌↔◌, IsBitSet}
use Rattle.std.specs.List.{find, list_any}
use Rattle.std.proofs.lemmas.Bool.{cases_Bool, and_parts, and_from, ne_eqb, leb-true, leb-false}
use Rattle.std.proofs.lemmas.Nat.Bits.{and_pow}
use Rattle.flt_model.specs.Happening.{all_dtcs}
use Rattle.flt_model.specs.NegativeCode.{sub_function_not_supported, incorrect_length, request_out_of_range}
use Rattle.flt_model.specs.Request.{Form, Plain, Masked, Recorded, Optioned, sub_functions, has_sub_functions, form_of, dtc_of, is_record_number, accepted, asked_in}
use Rattle.flt_model.specs.Response.{EventView, View, is_of_dtc, positive, responded, response_to, response, negative, unless_silent}
use Rattle.flt_model.specs.CodeLaws.{Condition, where_, first_code, conditions, lengths_of, names_unknown, IsPositive, CodesComeInOrder, SilentWhereAsked}
use Rattle.flt_model.specs.Reply.{Reply}
use Rattle.flt_model.specs.declared.call.ReplyOf.TheVariants.{Silent}
use Rattle.flt_model.specs.declared.request.Request.{Request}
use Rattle.flt_model.proofs.BytesLemmas.{AllRows, row_of}

-- ---- each row of the table answers for its service

abbrev pub Begins : ℕ → Option (List ℕ) → Type 0
Begins byte None = ⊥
Begins byte (Some bytes) = slice_get bytes 0 ≡ Some byte

-- A request of this form is answered, but for an unknown DTC.
abbrev pub IsSound : ℕ → Form → Type 0
IsSound service (Plain request) = (view : View) → Begins (service + 0x40) (positive view request)
IsSound service (Masked request) = (view : View) (mask : ℕ) → Begins (service + 0x40) (positive view (request mask))
IsSound service (Recorded request) = (view : View) (dtc number : ℕ) →
    MatchOption (find (is_of_dtc dtc) view.events) (positive view (request dtc number) ≡ None) (λ event. Begins (service + 0x40) (positive view (request dtc number)))
IsSound service (Optioned request) = (view : View) → Begins (service + 0x40) (positive view request)

known_or_none : (found : Option EventView) (bytes : EventView → List ℕ) → ((event : EventView) → slice_get (bytes event) 0 ≡ Some 0x59) →
    MatchOption found (option_map bytes found ≡ None) (λ event. Begins 0x59 (option_map bytes found))
known_or_none None bytes begins = refl
known_or_none (Some event) bytes begins = begins event

all_sound : AllRows IsSound sub_functions
all_sound = (
  λ view. refl,
  (
    λ view. refl,
    (
      λ view mask. refl,
      (
        λ view mask. refl,
        (
          λ view. refl,
          (
            λ view dtc number. known_or_none (find (is_of_dtc dtc) view.events) _ (λ event. refl),
            (
              λ view dtc number. known_or_none (find (is_of_dtc dtc) view.events) _ (λ event. refl),
              (
                λ view. refl,
                (
                  λ view. refl,
                  (
                    λ view. refl,
                    (
                      λ view. refl,
                      (
                        λ view. refl,
                        (
                          λ view. refl,
                          (
                            λ view. refl,
                            (
                              λ view. refl,
                              (
                                λ view. refl,
                                tt,
                              ),
                            ),
                          ),
                        ),
                      ),
                    ),
                  ),
                ),
              ),
            ),
          ),
        ),
      ),
    ),
  ),
)

-- ---- a positive response

-- A positive response, which is sent or suppressed.
record IsResponse (service : ℕ) (silent : Bool) (reply : Reply) : Type 0 where
  bytes : List ℕ
  begins : slice_get bytes 0 ≡ Some (service + 0x40)
  is : reply ≡ unless_silent silent bytes

answered : (service : ℕ) (silent : Bool) (bytes : Option (List ℕ)) → Begins (service + 0x40) bytes → IsResponse service silent (responded service silent bytes)
answered service silent None begins = absurd begins
answered service silent (Some bytes) begins = record { bytes = bytes; begins = begins; is = refl }

is_positive : (service : ℕ) (silent : Bool) (reply : Reply) → IsResponse service silent reply → IsPositive service reply
is_positive service true reply response = subst (IsPositive service) (sym response.is) tt
is_positive service false reply response = subst (IsPositive service) (sym response.is) response.begins

-- ---- lengths

shorter : (a b : ℕ) → a < b → nat_eq a b ≡ false
shorter a b less = ne_eqb a b (λ same. absurd (omega (arith, less, same)))

longer : (a b : ℕ) → a < b → nat_eq b a ≡ false
longer a b less = ne_eqb b a (λ same. absurd (omega (arith, less, same)))

-- ---- a clear

-- What follows where no earlier condition holds.
abbrev Ordered : View → ℕ → Bool → List Condition → Reply → Type 0
Ordered view service silent rows reply = MatchOption (first_code rows) (IsResponse service silent reply) (λ code. reply ≡ negative service code)

clear_known : (view : View) (extended all known : Bool) →
    Ordered view 0x14 false (where_ (not all && not known) request_out_of_range ∷ []) (responded 0x14 false (cond (all || known) (Some (0x54 ∷ [])) None))
clear_known view extended true known = record { bytes = 0x54 ∷ []; begins = refl; is = refl }
clear_known view extended false true = record { bytes = 0x54 ∷ []; begins = refl; is = refl }
clear_known view extended false false = refl

none_is_not_some : (found : Option EventView) → is_none found ≡ not (is_some found)
none_is_not_some None = refl
none_is_not_some (Some event) = refl

clear_case : (view : View) (extended : Bool) (rest : List ℕ) → Ordered view 0x14 false (conditions view extended (0x14 ∷ rest)) (response view extended (0x14 ∷ rest))
clear_case view extended [] = refl
clear_case view extended (a ∷ []) = refl
clear_case view extended (a ∷ b ∷ []) = refl
clear_case view extended (a ∷ b ∷ c ∷ []) =
    rw (none_is_not_some (find (is_of_dtc (dtc_of a b c)) view.events))
    (clear_known view extended (nat_eq (dtc_of a b c) all_dtcs) (is_some (find (is_of_dtc (dtc_of a b c)) view.events)))
clear_case view extended (a ∷ b ∷ c ∷ d ∷ rest) = rw (shorter 4 (length (0x14 ∷ a ∷ b ∷ c ∷ d ∷ rest)) (omega arith)) refl

-- ---- a service with sub-functions

-- A DTC and a record number: both are to be known.
record_case : (view : View) (service : ℕ) (silent : Bool) (request : Request) (is_record : Bool) (found : Option EventView) →
    MatchOption found (positive view request ≡ None) (λ event. Begins (service + 0x40) (positive view request)) →
    Ordered view service silent (where_ (not is_record || is_none found) request_out_of_range ∷ [])
    (response_to view service (accepted service silent (cond is_record (Ok request) (Err request_out_of_range))))
record_case view service silent request false found sound = refl
record_case view service silent request true None sound = rw sound refl
record_case view service silent request true (Some event) sound = answered service silent (positive view request) sound

-- Option bytes.
option_case : (view : View) (service : ℕ) (silent : Bool) (request : Request) (is_known : Bool) → Begins (service + 0x40) (positive view request) →
    Ordered view service silent (where_ (not is_known) request_out_of_range ∷ [])
    (response_to view service (accepted service silent (cond is_known (Ok request) (Err request_out_of_range))))
option_case view service silent request false sound = refl
option_case view service silent request true sound = answered service silent (positive view request) sound

-- The conditions on what follows the service.
abbrev pub rows_behind : View → List ℕ → Option Form → List ℕ → List Condition
rows_behind view bytes form rest =
    where_ (is_none form) sub_function_not_supported
    ∷ where_ (not (list_any (λ n. nat_eq n (length bytes)) (lengths_of form))) incorrect_length
    ∷ where_ (names_unknown view form rest) request_out_of_range
    ∷ []

form_case : (view : View) (service sub : ℕ) (silent : Bool) (form : Option Form) (rest : List ℕ) → ((f : Form) → form ≡ Some f → IsSound service f) →
    Ordered view service silent (rows_behind view (service ∷ sub ∷ rest) form rest) (response_to view service (asked_in service silent form rest))
form_case view service sub silent None rest sound = refl
form_case view service sub silent (Some (Plain request)) [] sound = answered service silent (positive view request) (sound (Plain request) refl view)
form_case view service sub silent (Some (Plain request)) (a ∷ rest) sound = rw (shorter 2 (length (service ∷ sub ∷ a ∷ rest)) (omega arith)) refl
form_case view service sub silent (Some (Masked request)) [] sound = refl
form_case view service sub silent (Some (Masked request)) (mask ∷ []) sound = answered service silent (positive view (request mask)) (sound (Masked request) refl view mask)
form_case view service sub silent (Some (Masked request)) (a ∷ b ∷ rest) sound = rw (shorter 3 (length (service ∷ sub ∷ a ∷ b ∷ rest)) (omega arith)) refl
form_case view service sub silent (Some (Recorded request)) [] sound = refl
form_case view service sub silent (Some (Recorded request)) (a ∷ []) sound = refl
form_case view service sub silent (Some (Recorded request)) (a ∷ b ∷ []) sound = refl
form_case view service sub silent (Some (Recorded request)) (a ∷ b ∷ c ∷ []) sound = refl
form_case view service sub silent (Some (Recorded request)) (a ∷ b ∷ c ∷ number ∷ []) sound =
    record_case view service silent (request (dtc_of a b c) number) (is_record_number number) (find (is_of_dtc (dtc_of a b c)) view.events)
    (sound (Recorded request) refl view (dtc_of a b c) number)
form_case view service sub silent (Some (Recorded request)) (a ∷ b ∷ c ∷ d ∷ e ∷ rest) sound =
    rw (shorter 6 (length (service ∷ sub ∷ a ∷ b ∷ c ∷ d ∷ e ∷ rest)) (omega arith)) refl
form_case view service sub silent (Some (Optioned request)) [] sound = answered service silent (positive view request) (sound (Optioned request) refl view)
form_case view service sub silent (Some (Optioned request)) (a ∷ []) sound = refl
form_case view service sub silent (Some (Optioned request)) (a ∷ b ∷ []) sound = refl
form_case view service sub silent (Some (Optioned request)) (a ∷ b ∷ c ∷ []) sound =
    option_case view service silent request (nat_eq a 0xFF && nat_eq b 0xFF && nat_eq c 0xFF) (sound (Optioned request) refl view)
form_case view service sub silent (Some (Optioned request)) (a ∷ b ∷ c ∷ d ∷ rest) sound =
    let length_of = length (service ∷ sub ∷ a ∷ b ∷ c ∷ d ∷ rest) in
    rw (shorter 2 length_of (omega arith), shorter 5 length_of (omega arith)) refl

-- The second byte suppresses the response: it is a sub-function with bit 7.
abbrev suppresses : ℕ → ℕ → Bool
suppresses service second = not (nat_eq service 0x14) && nat_le 128 second

abbrev is_silent : List ℕ → Bool
is_silent (service ∷ second ∷ rest) = suppresses service second
is_silent _ = false

sub_case : (view : View) (extended : Bool) (service : ℕ) (rest : List ℕ) → nat_eq service 0x14 ≡ false → has_sub_functions service ≡ true → (nat_eq service 0x85 && not extended) ≡ false →
    Ordered view service (is_silent (service ∷ rest)) (conditions view extended (service ∷ rest)) (response view extended (service ∷ rest))
sub_case view extended service [] other some on = rw (other, some, on) refl
sub_case view extended service (sub ∷ rest) other some on =
    rw (other, some, on, longer 1 (length (service ∷ sub ∷ rest)) (omega arith)) (form_case view service sub (nat_le 128 sub) (form_of service (sub % 128)) rest (λ form is. row_of IsSound all_sound service (sub % 128) form is))

ordered : (view : View) (extended : Bool) (service : ℕ) (rest : List ℕ) →
    Ordered view service (is_silent (service ∷ rest)) (conditions view extended (service ∷ rest)) (response view extended (service ∷ rest))
ordered view extended service rest =
    elim (cases_Bool (nat_eq service 0x14)) [
      | inl at ↦
          subst (λ s. Ordered view s (is_silent (s ∷ rest)) (conditions view extended (s ∷ rest)) (response view extended (s ∷ rest))) (sym (eqb-true service 0x14 at))
          (clear_ordered rest)
      | inr other ↦ elim (cases_Bool (has_sub_functions service)) [
        | inr none ↦ rw (other, none) refl
        | inl some ↦ elim (cases_Bool (nat_eq service 0x85 && not extended)) [
          | inl off ↦ rw (other, some, off) refl
          | inr on ↦ sub_case view extended service rest other some on
        ]
      ]
    ]
  where
    clear_ordered : (rest : List ℕ) → Ordered view 0x14 (is_silent (0x14 ∷ rest)) (conditions view extended (0x14 ∷ rest)) (response view extended (0x14 ∷ rest))
    clear_ordered [] = clear_case view extended []
    clear_ordered (second ∷ rest) = clear_case view extended (second ∷ rest)

pub codes_come_in_order : CodesComeInOrder
codes_come_in_order view extended service rest =
    by_code (first_code (conditions view extended (service ∷ rest))) (ordered view extended service rest)
  where
    by_code : (code : Option ℕ) → MatchOption code (IsResponse service (is_silent (service ∷ rest)) (response view extended (service ∷ rest)))
        (λ code. response view extended (service ∷ rest) ≡ negative service code)
        → MatchOption code (IsPositive service (response view extended (service ∷ rest))) (λ code. response view extended (service ∷ rest) ≡ negative service code)
    by_code None is = is_positive service (is_silent (service ∷ rest)) (response view extended (service ∷ rest)) is
    by_code (Some code) is = is

-- ---- a response that is suppressed

silent_bit : (second : ℕ) → second < 256 → (nat_le 128 second ≡ true) ↔ IsBitSet second 7
silent_bit second byte = (
  λ most. (let great = leb-true 128 second most in λ zero. omega (arith, byte, great, and_pow second 7, zero)),
  λ set. elim (cases_Bool (nat_le 128 second)) [
    | inl most ↦ most
    | inr less ↦ let small = leb-false 128 second less in absurd (set (and_pow second 7 ∙ omega (arith, small)))
  ],
)

is_suppressed : (silent : Bool) (bytes : List ℕ) → (unless_silent silent bytes ≡ Silent) ↔ (silent ≡ true)
is_suppressed true bytes = (λ e. refl, λ e. refl)
is_suppressed false bytes = (λ e. absurd (cc), λ e. absurd (cc))

suppresses_where : (service second : ℕ) → second < 256 → (suppresses service second ≡ true) ↔ ((service ≢ 0x14) × IsBitSet second 7)
suppresses_where service second byte = (
  λ both. (let parts = and_parts (not (nat_eq service 0x14)) (nat_le 128 second) both in
      (λ clear. absurd (let at = eq-eqb service 0x14 clear in cc (parts.0, at)), (silent_bit second byte).0 parts.1)),
  λ both. and_from (not (nat_eq service 0x14)) (nat_le 128 second) (rw (ne_eqb service 0x14 both.0) refl) ((silent_bit second byte).1 both.1),
)

silent_by_code : (service second : ℕ) → second < 256 → (reply : Reply) (code : Option ℕ) →
    MatchOption code (IsResponse service (suppresses service second) reply) (λ code. reply ≡ negative service code) →
    (reply ≡ Silent) ↔ ((code ≡ None) × (service ≢ 0x14) × IsBitSet second 7)
silent_by_code service second byte reply (Some code) is = (λ e. absurd (cc (e, is)), λ all. absurd (let none = all.0 in cc (none)))
silent_by_code service second byte reply None is = (
  λ e. (let both = (suppresses_where service second byte).0 ((is_suppressed (suppresses service second) is.bytes).0 (sym is.is ∙ e)) in (refl, both.0, both.1)),
  λ all. is.is ∙ (is_suppressed (suppresses service second) is.bytes).1 ((suppresses_where service second byte).1 (all.1, all.2)),
)

pub silent_where_asked : SilentWhereAsked
silent_where_asked view extended service second rest byte =
    silent_by_code service second byte (response view extended (service ∷ second ∷ rest)) (first_code (conditions view extended (service ∷ second ∷ rest)))
    (ordered view extended service (second ∷ rest))
