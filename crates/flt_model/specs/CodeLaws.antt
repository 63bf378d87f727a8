-- When a request is refused, and with which code (ISO 14229-1; the conditions and their order are this profile's).
use Rattle.std.specs.Prelude.{◌≡◌, ◌≢◌, ◌↔◌, ℕ, ◌+◌, ◌%◌, ◌<◌, IsBitSet, ◌==◌, Bool, false, not, ◌&&◌, ◌||◌, if◌then◌else◌, List, [], ◌∷◌, length, find, slice_get, Option, Some, None, option_map, is_none, MatchOption}
use Rattle.std.specs.List.{list_any}
use Rattle.flt_model.specs.Happening.{all_dtcs}
use Rattle.flt_model.specs.NegativeCode.{service_not_supported, sub_function_not_supported, incorrect_length, request_out_of_range, service_not_supported_in_session}
use Rattle.flt_model.specs.Request.{Form, Plain, Masked, Recorded, Optioned, has_sub_functions, form_of, dtc_of, is_record_number}
use Rattle.flt_model.specs.Response.{View, is_of_dtc, service_of, response, negative}
use Rattle.flt_model.specs.Reply.{Reply}
use Rattle.flt_model.specs.declared.call.ReplyOf.TheVariants.{Response, Silent}

-- ---- the conditions

-- The service is not one of this profile.
abbrev pub is_unknown_service : List ℕ → Bool
is_unknown_service bytes = not (service_of bytes == 0x14) && not (has_sub_functions (service_of bytes))

-- The DTC setting is asked for in the default session.
abbrev pub is_not_in_session : Bool → List ℕ → Bool
is_not_in_session extended bytes = (service_of bytes == 0x85) && not extended

-- A service with sub-functions is asked for without one.
abbrev pub is_without_sub_function : List ℕ → Bool
is_without_sub_function bytes = has_sub_functions (service_of bytes) && (length bytes == 1)

-- What follows the sub-function, which is the second byte without its bit 7.
abbrev pub form_asked : List ℕ → Option Form
form_asked (service ∷ sub ∷ rest) = form_of service (sub % 128)
form_asked _ = None

-- A service with sub-functions is asked for with another one.
abbrev pub is_unknown_sub_function : List ℕ → Bool
is_unknown_sub_function bytes = has_sub_functions (service_of bytes) && is_none (form_asked bytes)

-- The whole lengths that a request of a form may have.
abbrev pub lengths_of : Option Form → List ℕ
lengths_of None = []
lengths_of (Some (Plain request)) = 2 ∷ []
lengths_of (Some (Masked request)) = 3 ∷ []
lengths_of (Some (Recorded request)) = 6 ∷ []
lengths_of (Some (Optioned request)) = 2 ∷ 5 ∷ []

-- The length is not that of the request; a clear has four bytes.
abbrev pub has_wrong_length : List ℕ → Bool
has_wrong_length bytes =
    not (list_any (λ n. n == length bytes) (if service_of bytes == 0x14 then 4 ∷ [] else lengths_of (form_asked bytes)))

-- No event has the DTC.
abbrev pub is_unknown_dtc : View → ℕ → Bool
is_unknown_dtc view dtc = is_none (find (is_of_dtc dtc) view.events)

-- After the service of a clear: a DTC that is neither known nor the group of all.
abbrev pub clears_unknown : View → List ℕ → Bool
clears_unknown view (high ∷ middle ∷ low ∷ rest) =
    not (dtc_of high middle low == all_dtcs) && is_unknown_dtc view (dtc_of high middle low)
clears_unknown view _ = false

-- After a sub-function: an unknown DTC or record number, or option bytes other than FF FF FF.
abbrev pub names_unknown : View → Option Form → List ℕ → Bool
names_unknown view (Some (Recorded request)) (high ∷ middle ∷ low ∷ number ∷ rest) =
    not (is_record_number number) || is_unknown_dtc view (dtc_of high middle low)
names_unknown view (Some (Optioned request)) (a ∷ b ∷ c ∷ rest) = not ((a == 0xFF) && (b == 0xFF) && (c == 0xFF))
names_unknown view _ _ = false

-- What the request names does not exist.
abbrev pub has_wrong_contents : View → List ℕ → Bool
has_wrong_contents view (service ∷ sub ∷ rest) =
    if service == 0x14 then clears_unknown view (sub ∷ rest) else names_unknown view (form_of service (sub % 128)) rest
has_wrong_contents view _ = false

-- ---- their order

-- A condition, and the code of a request that meets it.
pub record Condition : Type 0 where
  pub holds : Bool
  pub code : ℕ

abbrev pub where_ : Bool → ℕ → Condition
where_ holds code = record { holds = holds; code = code }

-- The conditions in order.
abbrev pub conditions : View → Bool → List ℕ → List Condition
conditions view extended bytes =
    where_ (is_unknown_service bytes) service_not_supported
    ∷ where_ (is_not_in_session extended bytes) service_not_supported_in_session
    ∷ where_ (is_without_sub_function bytes) incorrect_length
    ∷ where_ (is_unknown_sub_function bytes) sub_function_not_supported
    ∷ where_ (has_wrong_length bytes) incorrect_length
    ∷ where_ (has_wrong_contents view bytes) request_out_of_range
    ∷ []

-- The code of the first condition that holds.
abbrev pub first_code : List Condition → Option ℕ
first_code rows = option_map (λ row. row.code) (find (λ row. row.holds) rows)

-- A positive response is suppressed, or begins with the service and bit 6.
abbrev pub IsPositive : ℕ → Reply → Type 0
IsPositive service Silent = Unit {0}
IsPositive service (Response bytes) = slice_get bytes.items 0 ≡ Some (service + 0x40)
IsPositive service _ = ⊥

-- A request is refused with a code if and only if its condition holds and no earlier one does, and is otherwise answered.
abbrev pub CodesComeInOrder : Type 0
CodesComeInOrder = (view : View) (extended : Bool) (service : ℕ) (rest : List ℕ) →
    MatchOption (first_code (conditions view extended (service ∷ rest)))
    (IsPositive service (response view extended (service ∷ rest)))
    (λ code. response view extended (service ∷ rest) ≡ negative service code)

-- No condition holds under which a request is refused.
abbrev pub IsAccepted : View → Bool → List ℕ → Type 0
IsAccepted view extended bytes = first_code (conditions view extended bytes) ≡ None

-- A response is suppressed if and only if it is positive and bit 7 of the sub-function is set; a clear has no sub-function.
abbrev pub SilentWhereAsked : Type 0
SilentWhereAsked = (view : View) (extended : Bool) (service second : ℕ) (rest : List ℕ) → second < 256 →
    (response view extended (service ∷ second ∷ rest) ≡ Silent)
    ↔ (IsAccepted view extended (service ∷ second ∷ rest) × (service ≢ 0x14) × IsBitSet second 7)
