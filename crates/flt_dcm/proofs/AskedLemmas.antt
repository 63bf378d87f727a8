-- What bytes ask for, as far as sessions and clears go, is the same in both sessions.
use Rattle.std.proofs.Common.{◌≡◌, ◌∙◌, ℕ, Bool, true, false, not, ◌&&◌, nat_eq, nat_le, cond, List, [], ◌∷◌, Option, Some, None, Result, Ok, Err, refl, sym, ap, eqb-true}
use Rattle.std.specs.Prelude.{option_map, ◌%◌}
use Rattle.flt_model.specs.Happening.{clear_asked, dtc_of_clear}
use Rattle.flt_model.specs.Session.{session_asked}
use Rattle.flt_model.specs.Request.{Optioned, SubFunction, row, has_sub_functions, contents, refused, accepted, asked_in, asked_with_sub, asked_clear, asked}
use Rattle.flt_model.specs.NegativeCode.{service_not_supported, service_not_supported_in_session}
use Rattle.flt_model.specs.declared.request.Asked.{Asked}
use Rattle.flt_model.specs.declared.request.Negative.{Negative}
use Rattle.flt_model.specs.declared.request.Request.{Request}
use Rattle.flt_model.specs.declared.request.Request.TheVariants as requests

-- ---- the DTC setting is no session and no clear

module _ {A : Type 0} (look : Result Asked Negative → Option A) (none : (negative : Negative) → look (Err negative) ≡ None)
    (other : (on silent : Bool) → look (Ok (record { request = requests.Setting on; silent = silent })) ≡ None) where
  by_options : (service : ℕ) (on silent test : Bool) → look (accepted service silent (cond test (Ok (requests.Setting on)) (Err 0x31))) ≡ None
  by_options service on silent true = other on silent
  by_options service on silent false = none _

  setting_form : (service : ℕ) (on silent : Bool) (rest : List ℕ) → look (accepted service silent (contents (Optioned (requests.Setting on)) rest)) ≡ None
  setting_form service on silent [] = other on silent
  setting_form service on silent (a ∷ []) = none _
  setting_form service on silent (a ∷ b ∷ []) = none _
  setting_form service on silent (a ∷ b ∷ c ∷ []) = by_options service on silent (nat_eq a 0xFF && nat_eq b 0xFF && nat_eq c 0xFF)
  setting_form service on silent (a ∷ b ∷ c ∷ d ∷ rest) = none _

  by_sub : (silent first second : Bool) (rest : List ℕ) →
      look (asked_in 0x85 silent (option_map (λ (r : SubFunction). r.form) (cond first (Some (row 0x85 0x01 (Optioned (requests.Setting true)))) (cond second (Some (row 0x85 0x02 (Optioned (requests.Setting false)))) None))) rest) ≡ None
  by_sub silent true second rest = setting_form 0x85 true silent rest
  by_sub silent false true rest = setting_form 0x85 false silent rest
  by_sub silent false false rest = none _

  of_setting : (rest : List ℕ) → look (asked_with_sub 0x85 rest) ≡ None
  of_setting [] = none _
  of_setting (sub ∷ rest) = by_sub (nat_le 128 sub) (nat_eq 1 (sub % 128)) (nat_eq 2 (sub % 128)) rest

  -- The tests of a request, in both sessions.
  by_service : (service : ℕ) (rest : List ℕ) (clears known setting : Bool) → (setting ≡ true → look (asked_with_sub service rest) ≡ None) →
      look (cond clears (asked_clear rest) (cond (not known) (refused service service_not_supported) (cond (setting && true) (refused service service_not_supported_in_session) (asked_with_sub service rest))))
      ≡ look (cond clears (asked_clear rest) (cond (not known) (refused service service_not_supported) (cond (setting && false) (refused service service_not_supported_in_session) (asked_with_sub service rest))))
  by_service service rest true known setting is = refl
  by_service service rest false false setting is = refl
  by_service service rest false true true is = none _ ∙ sym (is refl)
  by_service service rest false true false is = refl

  pub same_in_both : (extended : Bool) (bytes : List ℕ) → look (asked false bytes) ≡ look (asked extended bytes)
  same_in_both false bytes = refl
  same_in_both true [] = refl
  same_in_both true (service ∷ rest) =
      by_service service rest (nat_eq service 0x14) (has_sub_functions service) (nat_eq service 0x85)
      (λ e. ap (λ s. look (asked_with_sub s rest)) (eqb-true service 0x85 e) ∙ of_setting rest)

pub session_same : (extended : Bool) (bytes : List ℕ) → session_asked (asked false bytes) ≡ session_asked (asked extended bytes)
session_same extended bytes = same_in_both session_asked (λ negative. refl) (λ on silent. refl) extended bytes

pub clear_same : (extended : Bool) (bytes : List ℕ) → clear_asked (asked false bytes) ≡ clear_asked (asked extended bytes)
clear_same extended bytes = same_in_both clear_asked (λ negative. refl) (λ on silent. refl) extended bytes

-- A request that is no clear clears nothing.
pub no_clear : (request : Request) → ((dtc : ℕ) → request ≡ requests.Clear dtc → ⊥) → dtc_of_clear request ≡ None
no_clear (requests.Clear dtc) other = absurd (other dtc refl)
no_clear (requests.Session extended) other = refl
no_clear requests.Present other = refl
no_clear (requests.Setting on) other = refl
no_clear (requests.Count mask) other = refl
no_clear (requests.ByMask mask) other = refl
no_clear requests.Snapshots other = refl
no_clear (requests.Snapshot dtc number) other = refl
no_clear (requests.Extended dtc number) other = refl
no_clear requests.Supported other = refl
no_clear (requests.Noted sub) other = refl
no_clear requests.Counters other = refl
