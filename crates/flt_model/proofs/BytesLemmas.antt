-- What the bytes of a request ask for, by the table of sub-functions.
use Rattle.std.proofs.Common.{◌≡◌, ◌∙◌, ℕ, ◌%◌, nat_eq, nat_le, Bool, true, false, not, ◌&&◌, ◌||◌, cond, List, [], ◌∷◌, Option, Some, None, Result, Ok, Err, refl, sym, ap, subst, inl, inr, eq-eqb, eqb-true}
use Rattle.std.specs.Prelude.{option_map, find}
use Rattle.std.proofs.lemmas.Bool.{cases_Bool, and_parts, ne_eqb, false_from_ne_true}
use Rattle.flt_model.specs.NegativeCode.{request_out_of_range, service_not_supported, service_not_supported_in_session}
use Rattle.flt_model.specs.Request.{Form, Plain, Masked, Recorded, Optioned, SubFunction, sub_functions, has_sub_functions, form_of, is_record_number, dtc_of, row, contents, refused, accepted, asked_in, asked_with_sub, asked_clear, asked}
use Rattle.flt_model.specs.SessionLaws.{spells_request}
use Rattle.flt_model.specs.declared.request.Asked.{Asked}
use Rattle.flt_model.specs.declared.request.Negative.{Negative}
use Rattle.flt_model.specs.declared.request.Request.{Request}
use Rattle.flt_model.specs.declared.request.Request.TheVariants.{Session, Present, Clear, Setting}

-- ---- the rows of the table

-- It holds of the service and the form of each row.
abbrev pub AllRows : (ℕ → Form → Type 0) → List SubFunction → Type 0
AllRows P [] = Unit {0}
AllRows P (row ∷ rows) = P row.service row.form × AllRows P rows

-- A form that is found in the table is that of a row.
row_in : (P : ℕ → Form → Type 0) (rows : List SubFunction) (service sub : ℕ) (form : Form) → AllRows P rows →
    option_map (λ (r : SubFunction). r.form) (find (λ (r : SubFunction). nat_eq r.service service && nat_eq r.sub sub) rows) ≡ Some form → P service form
row_in P [] service sub form all e = absurd (cc)
row_in P (row ∷ rows) service sub form all e =
    elim (cases_Bool (nat_eq row.service service && nat_eq row.sub sub)) [
      | inl at ↦
          let parts = and_parts (nat_eq row.service service) (nat_eq row.sub sub) at in
          let here : Some row.form ≡ Some form = rw at at e in
          let same : row.form ≡ form = cc in
          subst (λ f. P service f) same (subst (λ s. P s row.form) (eqb-true row.service service parts.0) all.0)
      | inr other ↦ row_in P rows service sub form all.1 (rw other at e)
    ]

pub row_of : (P : ℕ → Form → Type 0) → AllRows P sub_functions → (service sub : ℕ) (form : Form) → form_of service sub ≡ Some form → P service form
row_of P all service sub form e = row_in P sub_functions service sub form all e

-- ---- the service of a request

-- The service that a request belongs to.
abbrev pub service_in : Request → ℕ
service_in (Session extended) = 0x10
service_in Present = 0x3E
service_in (Clear dtc) = 0x14
service_in (Setting on) = 0x85
service_in _ = 0x19

-- The requests of a form belong to the service.
abbrev IsFormIn : ℕ → Form → Type 0
IsFormIn service (Plain request) = service_in request ≡ service
IsFormIn service (Masked request) = (mask : ℕ) → service_in (request mask) ≡ service
IsFormIn service (Recorded request) = (dtc number : ℕ) → service_in (request dtc number) ≡ service
IsFormIn service (Optioned request) = service_in request ≡ service

all_in : AllRows IsFormIn sub_functions
all_in = (refl, (refl, (λ mask. refl, (λ mask. refl, (refl, (λ dtc number. refl, (λ dtc number. refl, (refl, (refl, (refl, (refl, (refl, (refl, (refl, (refl, (refl, tt))))))))))))))))

-- A request that is accepted belongs to the service.
abbrev IsIn : ℕ → Result Asked Negative → Type 0
IsIn service (Ok request) = service_in request.request ≡ service
IsIn service (Err negative) = Unit {0}

-- What is accepted belongs to the service of its row, and so to that of the bytes.
tested_in : (service : ℕ) (silent test : Bool) (request : Request) → service_in request ≡ service → IsIn service (accepted service silent (cond test (Ok request) (Err request_out_of_range)))
tested_in service silent true request is = is
tested_in service silent false request is = tt

contents_in : (service : ℕ) (silent : Bool) (form : Form) (rest : List ℕ) → IsFormIn service form → IsIn service (accepted service silent (contents form rest))
contents_in service silent (Plain request) [] is = is
contents_in service silent (Masked request) (mask ∷ []) is = is mask
contents_in service silent (Recorded request) (a ∷ b ∷ c ∷ number ∷ []) is = tested_in service silent (is_record_number number) (request (dtc_of a b c) number) (is (dtc_of a b c) number)
contents_in service silent (Optioned request) [] is = is
contents_in service silent (Optioned request) (a ∷ b ∷ c ∷ []) is = tested_in service silent (nat_eq a 0xFF && nat_eq b 0xFF && nat_eq c 0xFF) request is
contents_in service silent form rest is = tt

found_in : (service : ℕ) (silent : Bool) (form : Option Form) (rest : List ℕ) → ((found : Form) → form ≡ Some found → IsFormIn service found) → IsIn service (asked_in service silent form rest)
found_in service silent None rest is = tt
found_in service silent (Some form) rest is = contents_in service silent form rest (is form refl)

with_sub_in : (service : ℕ) (rest : List ℕ) → IsIn service (asked_with_sub service rest)
with_sub_in service [] = tt
with_sub_in service (sub ∷ rest) = found_in service (nat_le 128 sub) (form_of service (sub % 128)) rest (λ form e. row_of IsFormIn all_in service (sub % 128) form e)

clear_in : (service : ℕ) (rest : List ℕ) → 0x14 ≡ service → IsIn service (asked_clear rest)
clear_in service (a ∷ b ∷ c ∷ []) is = is
clear_in service rest is = tt

by_tests : (service : ℕ) (rest : List ℕ) (clears known late : Bool) → (clears ≡ true → 0x14 ≡ service) →
    IsIn service (cond clears (asked_clear rest) (cond (not known) (refused service service_not_supported) (cond late (refused service service_not_supported_in_session) (asked_with_sub service rest))))
by_tests service rest true known late is = clear_in service rest (is refl)
by_tests service rest false false late is = tt
by_tests service rest false true true is = tt
by_tests service rest false true false is = with_sub_in service rest

asked_of_service : (extended : Bool) (service : ℕ) (rest : List ℕ) → IsIn service (asked extended (service ∷ rest))
asked_of_service extended service rest =
    by_tests service rest (nat_eq service 0x14) (has_sub_functions service) (nat_eq service 0x85 && not extended) (λ e. sym (eqb-true service 0x14 e))

-- ---- a service with two sub-functions

same_test : (a b : ℕ) → nat_eq a b ≡ nat_eq b a
same_test a b =
    elim (cases_Bool (nat_eq a b)) [
      | inl e ↦ e ∙ sym (eq-eqb b a (sym (eqb-true a b e)))
      | inr e ↦ e ∙ sym (ne_eqb b a (λ same. absurd (cc (e, eq-eqb a b (sym same)))))
    ]

-- True where the one is asked for, and false where the other is.
abbrev pub either : Bool → Bool → Option Bool
either high low = cond high (Some true) (cond low (Some false) None)

-- What was asked for, from the answer.
pub high_from : (high low : Bool) → either high low ≡ Some true → high ≡ true
high_from true low e = refl
high_from false true e = absurd (cc)
high_from false false e = absurd (cc)

pub none_from : (high low : Bool) → either high low ≡ None → (low || high) ≡ false
none_from true low e = absurd (cc)
none_from false true e = absurd (cc)
none_from false false e = refl

-- The two rows, in the order of the table.
rows_either : (low high follows : Bool) → (low && high) ≡ false → cond low (cond follows (Some false) None) (cond high (cond follows (Some true) None) None) ≡ either (high && follows) (low && follows)
rows_either true true follows e = absurd (cc)
rows_either true false follows e = refl
rows_either false true follows e = refl
rows_either false false follows e = refl

-- What `look` reads of a request of this service, and of no other.
module _ (look : Result Asked Negative → Option Bool) (none : (negative : Negative) → look (Err negative) ≡ None) (service : ℕ)
    (other : (request : Asked) → nat_eq (service_in request.request) service ≡ false → look (Ok request) ≡ None) where
  -- It reads nothing of other services.
  none_in : (request : Result Asked Negative) (first : ℕ) → IsIn first request → nat_eq first service ≡ false → look request ≡ None
  none_in (Ok request) first is apart = other request (ap (λ s. nat_eq s service) is ∙ apart)
  none_in (Err negative) first is apart = none negative

  pub none_elsewhere : (extended : Bool) (first : ℕ) (rest : List ℕ) → nat_eq first service ≡ false → look (asked extended (first ∷ rest)) ≡ None
  none_elsewhere extended first rest apart = none_in (asked extended (first ∷ rest)) first (asked_of_service extended first rest) apart

  -- Its two rows, the form of their requests, and what may follow them.
  module _ (low high : ℕ) (apart : nat_eq low high ≡ false) (form : Bool → Form) (follows : List ℕ → Bool)
      (reads : (value silent : Bool) (rest : List ℕ) → look (accepted service silent (contents (form value) rest)) ≡ cond (follows rest) (Some value) None) where
    -- The row that the tests choose.
    abbrev found : Bool → Bool → Option Form
    found is_low is_high = option_map (λ (r : SubFunction). r.form) (cond is_low (Some (row service low (form false))) (cond is_high (Some (row service high (form true))) None))

    by_rows : (silent is_low is_high : Bool) (rest : List ℕ) →
        look (asked_in service silent (found is_low is_high) rest) ≡ cond is_low (cond (follows rest) (Some false) None) (cond is_high (cond (follows rest) (Some true) None) None)
    by_rows silent true is_high rest = reads false silent rest
    by_rows silent false true rest = reads true silent rest
    by_rows silent false false rest = none _

    not_both : (sub : ℕ) → (nat_eq low sub && nat_eq high sub) ≡ false
    not_both sub = false_from_ne_true (nat_eq low sub && nat_eq high sub) (λ both.
        let parts = and_parts (nat_eq low sub) (nat_eq high sub) both in
        absurd (cc (apart, eq-eqb low high (eqb-true low sub parts.0 ∙ sym (eqb-true high sub parts.1)))))

    -- What it reads of the bytes.
    pub by_bytes : (extended : Bool) → look (asked extended (service ∷ [])) ≡ None →
        ((sub : ℕ) (rest : List ℕ) → look (asked extended (service ∷ sub ∷ rest)) ≡ look (asked_in service (nat_le 128 sub) (found (nat_eq low (sub % 128)) (nat_eq high (sub % 128))) rest)) →
        (bytes : List ℕ) → look (asked extended bytes) ≡ either (spells_request service high follows bytes) (spells_request service low follows bytes)
    by_bytes extended alone table [] = none _
    by_bytes extended alone table (first ∷ rest) =
        elim (cases_Bool (nat_eq first service)) [
          | inl e ↦
              subst (λ s. look (asked extended (s ∷ rest)) ≡ either (spells_request service high follows (s ∷ rest)) (spells_request service low follows (s ∷ rest)))
              (sym (eqb-true first service e)) (own rest)
          | inr e ↦ none_elsewhere extended first rest e ∙ neither first e rest
        ]
      where
        own : (rest : List ℕ) → look (asked extended (service ∷ rest)) ≡ either (spells_request service high follows (service ∷ rest)) (spells_request service low follows (service ∷ rest))
        own [] = alone
        own (sub ∷ rest) =
            table sub rest
            ∙ by_rows (nat_le 128 sub) (nat_eq low (sub % 128)) (nat_eq high (sub % 128)) rest
            ∙ rows_either (nat_eq low (sub % 128)) (nat_eq high (sub % 128)) (follows rest) (not_both (sub % 128))
            ∙ rw (eq-eqb service service refl, same_test low (sub % 128), same_test high (sub % 128)) refl

        neither : (first : ℕ) → nat_eq first service ≡ false → (rest : List ℕ) → None ≡ either (spells_request service high follows (first ∷ rest)) (spells_request service low follows (first ∷ rest))
        neither first e [] = refl
        neither first e (sub ∷ rest) = rw e refl
