-- What is read is what is spelled.
use Rattle.std.proofs.Common.{◌≡◌, ℕ, suc, get_or, length, take, drop, ◌-◌, ◌/◌, ◌%◌, ◌<◌, nat_eq, nat_le, ltb, Bool, true, false, cond, not, ◌&&◌, List, [], ◌∷◌, ◌++◌, Option, Some, None, Result, Ok, Err, refl, sym, ap, subst, ◌∙◌, arith, inl, inr, eqb-true}
use Rattle.std.specs.Prelude.{option_map, IfOk}
use Rattle.std.specs.List.{find, list_all}
use Rattle.std.proofs.lemmas.Bool.{cases_Bool, and_parts, ltb-true, lt-ltb}
use Rattle.std.proofs.lemmas.Bool.Decides.{nat_tests}
use Rattle.std.proofs.lemmas.List.{take_all}
use Rattle.flt_model.specs.NegativeCode.{request_out_of_range}
use Rattle.flt_model.specs.Request.{Form, Plain, Masked, Recorded, Optioned, SubFunction, sub_functions, has_sub_functions, form_of, dtc_of, is_record_number, contents, accepted, asked_in, asked_with_sub, asked_clear, asked}
use Rattle.flt_model.specs.Response.{dtc_bytes}
use Rattle.flt_model.specs.declared.request.Request.{Request}
use Rattle.flt_model.specs.declared.request.Request.TheVariants.{Session, Present, Clear, Setting, Count, ByMask, Snapshots, Snapshot, Extended, Supported, Noted, Counters}
use Rattle.flt_model.specs.declared.request.Asked.{Asked}
use Rattle.flt_model.specs.declared.request.Negative.{Negative}
use Rattle.flt_uds.specs.Spelling.{with_bit_7, spelled, is_known, is_open, IsEnd, IsRequest}

-- ---- a DTC

dtc_is_read : (dtc : ℕ) → dtc_of (dtc / 65536) (dtc / 256 % 256) (dtc % 256) ≡ dtc
dtc_is_read dtc = omega arith

dtc_is_spelled : (high middle low : ℕ) → middle < 256 → low < 256 → dtc_bytes (dtc_of high middle low) ≡ high ∷ middle ∷ low ∷ []
dtc_is_spelled high middle low m l =
    let first : dtc_of high middle low / 65536 ≡ high = omega arith in
    let second : dtc_of high middle low / 256 % 256 ≡ middle = omega arith in
    let third : dtc_of high middle low % 256 ≡ low = omega arith in
    rw (first, second, third) refl

-- ---- what is spelled is read

abbrev IsReadNoted : ℕ → Type 0
IsReadNoted sub = (extended silent : Bool) → asked extended (spelled silent (Noted sub)) ≡ Ok (record { request = Noted sub; silent = silent })

read_0B : IsReadNoted 0x0B
read_0B extended true = refl
read_0B extended false = refl

read_0C : IsReadNoted 0x0C
read_0C extended true = refl
read_0C extended false = refl

read_0D : IsReadNoted 0x0D
read_0D extended true = refl
read_0D extended false = refl

read_0E : IsReadNoted 0x0E
read_0E extended true = refl
read_0E extended false = refl

read_noted : (sub : ℕ) → is_known false (Noted sub) ≡ true → IsReadNoted sub
read_noted sub known =
    elim (cases_Bool (nat_eq sub 0x0B)) [
      | inl at ↦ subst IsReadNoted (sym (eqb-true sub 0x0B at)) read_0B
      | inr not_0B ↦ elim (cases_Bool (nat_eq sub 0x0C)) [
        | inl at ↦ subst IsReadNoted (sym (eqb-true sub 0x0C at)) read_0C
        | inr not_0C ↦ elim (cases_Bool (nat_eq sub 0x0D)) [
          | inl at ↦ subst IsReadNoted (sym (eqb-true sub 0x0D at)) read_0D
          | inr not_0D ↦ elim (cases_Bool (nat_eq sub 0x0E)) [
            | inl at ↦ subst IsReadNoted (sym (eqb-true sub 0x0E at)) read_0E
            | inr not_0E ↦ let none = rw (not_0B, not_0C, not_0D, not_0E) at known in absurd cc
          ]
        ]
      ]
    ]

read_setting : (silent on : Bool) → asked true (spelled silent (Setting on)) ≡ Ok (record { request = Setting on; silent = silent })
read_setting true true = refl
read_setting true false = refl
read_setting false true = refl
read_setting false false = refl

read_optioned : (silent on : Bool) → asked true (spelled silent (Setting on) ++ 0xFF ∷ 0xFF ∷ 0xFF ∷ []) ≡ Ok (record { request = Setting on; silent = silent })
read_optioned true true = refl
read_optioned true false = refl
read_optioned false true = refl
read_optioned false false = refl

is_read : (extended silent : Bool) (request : Request) (end : List ℕ) → IsEnd request end → is_known silent request ≡ true → is_open extended request ≡ true
    → asked extended (spelled silent request ++ end) ≡ Ok (record { request = request; silent = silent })
is_read extended true (Session true) [] ends known opened = refl
is_read extended false (Session true) [] ends known opened = refl
is_read extended true (Session false) [] ends known opened = refl
is_read extended false (Session false) [] ends known opened = refl
is_read extended true Present [] ends known opened = refl
is_read extended false Present [] ends known opened = refl
is_read extended true (Clear dtc) [] ends known opened = absurd cc
is_read extended false (Clear dtc) [] ends known opened = rw (dtc_is_read dtc) refl
is_read true silent (Setting on) [] ends known opened = read_setting silent on
is_read false silent (Setting on) end ends known opened = absurd cc
is_read true silent (Setting on) (a ∷ more) ends known opened =
    subst (λ (end : List ℕ). asked true (spelled silent (Setting on) ++ end) ≡ Ok (record { request = Setting on; silent = silent })) (sym ends) (read_optioned silent on)
is_read extended true (Count mask) [] ends known opened = refl
is_read extended false (Count mask) [] ends known opened = refl
is_read extended true (ByMask mask) [] ends known opened = refl
is_read extended false (ByMask mask) [] ends known opened = refl
is_read extended true Snapshots [] ends known opened = refl
is_read extended false Snapshots [] ends known opened = refl
is_read extended true (Snapshot dtc number) [] ends known opened = rw (known, dtc_is_read dtc) refl
is_read extended false (Snapshot dtc number) [] ends known opened = rw (known, dtc_is_read dtc) refl
is_read extended true (Extended dtc number) [] ends known opened = rw (known, dtc_is_read dtc) refl
is_read extended false (Extended dtc number) [] ends known opened = rw (known, dtc_is_read dtc) refl
is_read extended true Supported [] ends known opened = refl
is_read extended false Supported [] ends known opened = refl
is_read extended silent (Noted sub) [] ends known opened = read_noted sub known extended silent
is_read extended true Counters [] ends known opened = refl
is_read extended false Counters [] ends known opened = refl
is_read extended silent (Session other) (a ∷ more) ends known opened = absurd ends
is_read extended silent Present (a ∷ more) ends known opened = absurd ends
is_read extended silent (Clear dtc) (a ∷ more) ends known opened = absurd ends
is_read extended silent (Count mask) (a ∷ more) ends known opened = absurd ends
is_read extended silent (ByMask mask) (a ∷ more) ends known opened = absurd ends
is_read extended silent Snapshots (a ∷ more) ends known opened = absurd ends
is_read extended silent (Snapshot dtc number) (a ∷ more) ends known opened = absurd ends
is_read extended silent (Extended dtc number) (a ∷ more) ends known opened = absurd ends
is_read extended silent Supported (a ∷ more) ends known opened = absurd ends
is_read extended silent (Noted sub) (a ∷ more) ends known opened = absurd ends
is_read extended silent Counters (a ∷ more) ends known opened = absurd ends

-- ---- what is read is spelled

abbrev pub are_bytes : List ℕ → Bool
are_bytes bytes = list_all (λ byte. ltb byte 256) bytes

-- What is asked after a sub-function of this form is spelled in this way.
abbrev IsSpelled : ℕ → ℕ → Form → Type 0
IsSpelled service sub form = (extended silent : Bool) (rest : List ℕ) (request : Request) → are_bytes rest ≡ true → (nat_eq service 0x85 && not extended) ≡ false
    → contents form rest ≡ Ok request → IsRequest extended (service ∷ with_bit_7 silent sub ∷ rest) (record { request = request; silent = silent })

-- A request is spelled by these bytes and no others.
abbrev IsSpelledBy : ℕ → ℕ → Request → List ℕ → Type 0
IsSpelledBy service sub request rest = (silent : Bool) → spelled silent request ≡ service ∷ with_bit_7 silent sub ∷ rest

abbrev IsOpen : ℕ → Request → Type 0
IsOpen service request = (extended : Bool) → (nat_eq service 0x85 && not extended) ≡ false → is_open extended request ≡ true

module _ (service sub : ℕ) where
  plain : (request : Request) → IsSpelledBy service sub request [] → ((silent : Bool) → is_known silent request ≡ true) → IsOpen service request
      → IsSpelled service sub (Plain request)
  plain request same known opened extended silent [] other small on e =
      let is : request ≡ other = cc in
      subst (λ r. IsRequest extended (service ∷ with_bit_7 silent sub ∷ []) (record { request = r; silent = silent })) is
      record { end = []; spells = rw (same silent) refl; ends = tt; known = known silent; opened = opened extended on }
  plain request same known opened extended silent (a ∷ rest) other small on e = absurd cc

  masked : (request : ℕ → Request) → ((mask : ℕ) → IsSpelledBy service sub (request mask) (mask ∷ [])) → ((mask : ℕ) (silent : Bool) → is_known silent (request mask) ≡ true)
      → ((mask : ℕ) → IsOpen service (request mask)) → IsSpelled service sub (Masked request)
  masked request same known opened extended silent [] other small on e = absurd cc
  masked request same known opened extended silent (mask ∷ []) other small on e =
      let is : request mask ≡ other = cc in
      subst (λ r. IsRequest extended (service ∷ with_bit_7 silent sub ∷ mask ∷ []) (record { request = r; silent = silent })) is
      record { end = []; spells = rw (same mask silent) refl; ends = tt; known = known mask silent; opened = opened mask extended on }
  masked request same known opened extended silent (a ∷ b ∷ rest) other small on e = absurd cc

  recorded_as : (request : ℕ → ℕ → Request) → ((dtc number : ℕ) → IsSpelledBy service sub (request dtc number) (dtc_bytes dtc ++ number ∷ []))
      → ((dtc number : ℕ) (silent : Bool) → is_known silent (request dtc number) ≡ is_record_number number)
      → ((dtc number : ℕ) → IsOpen service (request dtc number))
      → (extended silent : Bool) (high middle low number : ℕ) (other : Request) → middle < 256 → low < 256
      → (nat_eq service 0x85 && not extended) ≡ false → (is_record : Bool) → is_record_number number ≡ is_record
      → cond is_record (Ok (request (dtc_of high middle low) number)) (Err request_out_of_range) ≡ Ok other
      → IsRequest extended (service ∷ with_bit_7 silent sub ∷ high ∷ middle ∷ low ∷ number ∷ []) (record { request = other; silent = silent })
  recorded_as request same known opened extended silent high middle low number other m l on false not_known e = absurd cc
  recorded_as request same known opened extended silent high middle low number other m l on true is_record e =
      let dtc = dtc_of high middle low in
      let is : request dtc number ≡ other = cc in
      subst (λ r. IsRequest extended (service ∷ with_bit_7 silent sub ∷ high ∷ middle ∷ low ∷ number ∷ []) (record { request = r; silent = silent })) is
      record {
        end = [];
        spells = rw (same dtc number silent)
            (sym (ap (λ (three : List ℕ). (service ∷ with_bit_7 silent sub ∷ (three ++ number ∷ [])) ++ []) (dtc_is_spelled high middle low m l)));
        ends = tt;
        known = known dtc number silent ∙ is_record;
        opened = opened dtc number extended on;
      }

  recorded : (request : ℕ → ℕ → Request) → ((dtc number : ℕ) → IsSpelledBy service sub (request dtc number) (dtc_bytes dtc ++ number ∷ []))
      → ((dtc number : ℕ) (silent : Bool) → is_known silent (request dtc number) ≡ is_record_number number)
      → ((dtc number : ℕ) → IsOpen service (request dtc number)) → IsSpelled service sub (Recorded request)
  recorded request same known opened extended silent [] other small on e = absurd cc
  recorded request same known opened extended silent (a ∷ []) other small on e = absurd cc
  recorded request same known opened extended silent (a ∷ b ∷ []) other small on e = absurd cc
  recorded request same known opened extended silent (a ∷ b ∷ c ∷ []) other small on e = absurd cc
  recorded request same known opened extended silent (high ∷ middle ∷ low ∷ number ∷ []) other small on e =
      let first = and_parts (ltb high 256) (are_bytes (middle ∷ low ∷ number ∷ [])) small in
      let second = and_parts (ltb middle 256) (are_bytes (low ∷ number ∷ [])) first.1 in
      let third = and_parts (ltb low 256) (are_bytes (number ∷ [])) second.1 in
      recorded_as request same known opened extended silent high middle low number other (ltb-true middle 256 second.0) (ltb-true low 256 third.0) on (is_record_number number) refl e
  recorded request same known opened extended silent (a ∷ b ∷ c ∷ d ∷ f ∷ rest) other small on e = absurd cc

  optioned_as : (request : Request) → IsSpelledBy service sub request [] → ((silent : Bool) → is_known silent request ≡ true) → IsOpen service request
      → IsEnd request (0xFF ∷ 0xFF ∷ 0xFF ∷ []) → (extended silent : Bool) (a b c : ℕ) (other : Request) → (nat_eq service 0x85 && not extended) ≡ false
      → (all : Bool) → (nat_eq a 0xFF && nat_eq b 0xFF && nat_eq c 0xFF) ≡ all → cond all (Ok request) (Err request_out_of_range) ≡ Ok other
      → IsRequest extended (service ∷ with_bit_7 silent sub ∷ a ∷ b ∷ c ∷ []) (record { request = other; silent = silent })
  optioned_as request same known opened end extended silent a b c other on false options e = absurd cc
  optioned_as request same known opened end extended silent a b c other on true options e =
      let two = and_parts (nat_eq a 0xFF && nat_eq b 0xFF) (nat_eq c 0xFF) options in
      let one = and_parts (nat_eq a 0xFF) (nat_eq b 0xFF) two.0 in
      let is : request ≡ other = cc in
      rw (eqb-true a 0xFF one.0, eqb-true b 0xFF one.1, eqb-true c 0xFF two.1)
      (subst (λ r. IsRequest extended (service ∷ with_bit_7 silent sub ∷ 0xFF ∷ 0xFF ∷ 0xFF ∷ []) (record { request = r; silent = silent })) is
      record { end = 0xFF ∷ 0xFF ∷ 0xFF ∷ []; spells = rw (same silent) refl; ends = end; known = known silent; opened = opened extended on })

  optioned : (request : Request) → IsSpelledBy service sub request [] → ((silent : Bool) → is_known silent request ≡ true) → IsOpen service request
      → IsEnd request (0xFF ∷ 0xFF ∷ 0xFF ∷ []) → IsSpelled service sub (Optioned request)
  optioned request same known opened end extended silent [] other small on e = plain request same known opened extended silent [] other small on e
  optioned request same known opened end extended silent (a ∷ []) other small on e = absurd cc
  optioned request same known opened end extended silent (a ∷ b ∷ []) other small on e = absurd cc
  optioned request same known opened end extended silent (a ∷ b ∷ c ∷ []) other small on e =
      optioned_as request same known opened end extended silent a b c other on (nat_eq a 0xFF && nat_eq b 0xFF && nat_eq c 0xFF) refl e
  optioned request same known opened end extended silent (a ∷ b ∷ c ∷ d ∷ rest) other small on e = absurd cc

-- Each row of the table is spelled.
abbrev AllSpelled : List SubFunction → Type 0
AllSpelled [] = Unit {0}
AllSpelled (row ∷ rows) = IsSpelled row.service row.sub row.form × AllSpelled rows

setting_is_open : (on : Bool) → IsOpen 0x85 (Setting on)
setting_is_open on true e = refl
setting_is_open on false e = absurd cc

noted_is_spelled : (sub : ℕ) → ((silent : Bool) → is_known silent (Noted sub) ≡ true) → IsSpelled 0x19 sub (Plain (Noted sub))
noted_is_spelled sub known = plain 0x19 sub (Noted sub) (λ silent. refl) known (λ extended on. refl)

all_spelled : AllSpelled sub_functions
all_spelled = (
  plain 0x10 0x01 (Session false) (λ silent. refl) (λ silent. refl) (λ extended on. refl),
  (
    plain 0x10 0x03 (Session true) (λ silent. refl) (λ silent. refl) (λ extended on. refl),
    (
      masked 0x19 0x01 (λ mask. Count mask) (λ mask silent. refl) (λ mask silent. refl) (λ mask extended on. refl),
      (
        masked 0x19 0x02 (λ mask. ByMask mask) (λ mask silent. refl) (λ mask silent. refl) (λ mask extended on. refl),
        (
          plain 0x19 0x03 Snapshots (λ silent. refl) (λ silent. refl) (λ extended on. refl),
          (
            recorded 0x19 0x04 (λ dtc number. Snapshot dtc number) (λ dtc number silent. refl) (λ dtc number silent. refl) (λ dtc number extended on. refl),
            (
              recorded 0x19 0x06 (λ dtc number. Extended dtc number) (λ dtc number silent. refl) (λ dtc number silent. refl) (λ dtc number extended on. refl),
              (
                plain 0x19 0x0A Supported (λ silent. refl) (λ silent. refl) (λ extended on. refl),
                (
                  noted_is_spelled 0x0B (λ silent. refl),
                  (
                    noted_is_spelled 0x0C (λ silent. refl),
                    (
                      noted_is_spelled 0x0D (λ silent. refl),
                      (
                        noted_is_spelled 0x0E (λ silent. refl),
                        (
                          plain 0x19 0x14 Counters (λ silent. refl) (λ silent. refl) (λ extended on. refl),
                          (
                            plain 0x3E 0x00 Present (λ silent. refl) (λ silent. refl) (λ extended on. refl),
                            (
                              optioned 0x85 0x01 (Setting true) (λ silent. refl) (λ silent. refl) (setting_is_open true) refl,
                              (
                                optioned 0x85 0x02 (Setting false) (λ silent. refl) (λ silent. refl) (setting_is_open false) refl,
                                tt,
                              ),
                            ),
                          ),
                        ),
                      ),
                    ),
                  ),
                ),
              ),
            ),
          ),
        ),
      ),
    ),
  ),
)

spelled_in : (rows : List SubFunction) (service sub : ℕ) (form : Form) → AllSpelled rows →
    option_map (λ (r : SubFunction). r.form) (find (λ (r : SubFunction). nat_eq r.service service && nat_eq r.sub sub) rows) ≡ Some form → IsSpelled service sub form
spelled_in [] service sub form all e = absurd cc
spelled_in (row ∷ rows) service sub form all e =
    elim (cases_Bool (nat_eq row.service service && nat_eq row.sub sub)) [
      | inl at ↦
          let parts = and_parts (nat_eq row.service service) (nat_eq row.sub sub) at in
          let here : Some row.form ≡ Some form = rw at at e in
          let same : row.form ≡ form = cc in
          subst (λ f. IsSpelled service sub f) same
          (subst (λ s. IsSpelled service s row.form) (eqb-true row.sub sub parts.1) (subst (λ s. IsSpelled s row.sub row.form) (eqb-true row.service service parts.0) all.0))
      | inr other ↦ spelled_in rows service sub form all.1 (rw other at e)
    ]

bit_7 : (sub : ℕ) → sub < 256 → with_bit_7 (nat_le 128 sub) (sub % 128) ≡ sub
bit_7 sub small = grind (arith, nat_tests)

-- What follows a service with sub-functions.
contents_are_spelled : (extended : Bool) (service sub : ℕ) (form : Form) (rest : List ℕ) (told : Result Request ℕ) (answer : Asked) → IsSpelled service (sub % 128) form → sub < 256
    → are_bytes rest ≡ true → (nat_eq service 0x85 && not extended) ≡ false → contents form rest ≡ told → accepted service (nat_le 128 sub) told ≡ Ok answer
    → IsRequest extended (service ∷ sub ∷ rest) answer
contents_are_spelled extended service sub form rest (Err code) answer row small others on told e = absurd cc
contents_are_spelled extended service sub form rest (Ok request) answer row small others on told e =
    let is : record { request = request; silent = nat_le 128 sub } ≡ answer = cc in
    let found = row extended (nat_le 128 sub) rest request others on told in
    subst (λ a. IsRequest extended (service ∷ sub ∷ rest) a) is (rw (bit_7 sub small) at found)

form_is_spelled : (extended : Bool) (service sub : ℕ) (rest : List ℕ) (form : Option Form) (answer : Asked) → form_of service (sub % 128) ≡ form → sub < 256
    → are_bytes rest ≡ true → (nat_eq service 0x85 && not extended) ≡ false → asked_in service (nat_le 128 sub) form rest ≡ Ok answer
    → IsRequest extended (service ∷ sub ∷ rest) answer
form_is_spelled extended service sub rest None answer is small others on e = absurd cc
form_is_spelled extended service sub rest (Some form) answer is small others on e =
    contents_are_spelled extended service sub form rest (contents form rest) answer (spelled_in sub_functions service (sub % 128) form all_spelled is) small others on refl e

sub_is_spelled : (extended : Bool) (service : ℕ) (rest : List ℕ) (answer : Asked) → are_bytes rest ≡ true → (nat_eq service 0x85 && not extended) ≡ false
    → asked_with_sub service rest ≡ Ok answer → IsRequest extended (service ∷ rest) answer
sub_is_spelled extended service [] answer small on e = absurd cc
sub_is_spelled extended service (sub ∷ rest) answer small on e =
    let parts = and_parts (ltb sub 256) (are_bytes rest) small in
    form_is_spelled extended service sub rest (form_of service (sub % 128)) answer refl (ltb-true sub 256 parts.0) parts.1 on e

clear_is_spelled : (extended : Bool) (rest : List ℕ) (answer : Asked) → are_bytes rest ≡ true → asked_clear rest ≡ Ok answer → IsRequest extended (0x14 ∷ rest) answer
clear_is_spelled extended [] answer small e = absurd cc
clear_is_spelled extended (a ∷ []) answer small e = absurd cc
clear_is_spelled extended (a ∷ b ∷ []) answer small e = absurd cc
clear_is_spelled extended (high ∷ middle ∷ low ∷ []) answer small e =
    let first = and_parts (ltb high 256) (are_bytes (middle ∷ low ∷ [])) small in
    let second = and_parts (ltb middle 256) (are_bytes (low ∷ [])) first.1 in
    let third = and_parts (ltb low 256) (are_bytes []) second.1 in
    let is : record { request = Clear (dtc_of high middle low); silent = false } ≡ answer = cc in
    subst (λ a. IsRequest extended (0x14 ∷ high ∷ middle ∷ low ∷ []) a) is
    record {
      end = [];
      spells = rw (dtc_is_spelled high middle low (ltb-true middle 256 second.0) (ltb-true low 256 third.0)) refl;
      ends = tt;
      known = refl;
      opened = refl;
    }
clear_is_spelled extended (a ∷ b ∷ c ∷ d ∷ rest) answer small e = absurd cc

is_spelled : (extended : Bool) (bytes : List ℕ) (answer : Asked) → are_bytes bytes ≡ true → asked extended bytes ≡ Ok answer → IsRequest extended bytes answer
is_spelled extended [] answer small e = absurd cc
is_spelled extended (service ∷ rest) answer small e =
    let parts = and_parts (ltb service 256) (are_bytes rest) small in
    elim (cases_Bool (nat_eq service 0x14)) [
      | inl at ↦
          let clear : asked_clear rest ≡ Ok answer = rw at at e in
          subst (λ s. IsRequest extended (s ∷ rest) answer) (sym (eqb-true service 0x14 at)) (clear_is_spelled extended rest answer parts.1 clear)
      | inr other ↦ elim (cases_Bool (has_sub_functions service)) [
        | inr none ↦ let refused = rw (other, none) at e in absurd cc
        | inl some ↦ elim (cases_Bool (nat_eq service 0x85 && not extended)) [
          | inl off ↦ let refused = rw (other, some, off) at e in absurd cc
          | inr on ↦ sub_is_spelled extended service rest answer parts.1 on (rw (other, some, on) at e)
        ]
      ]
    ]

pub each_is_read : (extended : Bool) (bytes : List ℕ) (answer : Asked) → IsRequest extended bytes answer → asked extended bytes ≡ Ok answer
each_is_read extended bytes answer request = rw request.spells (is_read extended answer.silent answer.request request.end request.ends request.known request.opened)

pub told_is_spelled : (extended : Bool) (bytes : List ℕ) (result : Result Asked Negative) → are_bytes bytes ≡ true → result ≡ asked extended bytes
    → IfOk result (λ answer. IsRequest extended bytes answer)
told_is_spelled extended bytes (Ok answer) small e = is_spelled extended bytes answer small (sym e)
told_is_spelled extended bytes (Err refused) small e = tt

pub all_bytes : (bytes : List ℕ) → ((i : ℕ) → get_or bytes i 0 < 256) → are_bytes bytes ≡ true
all_bytes [] small = refl
all_bytes (byte ∷ bytes) small = rw (lt-ltb byte 256 (small 0), all_bytes bytes (λ i. small (suc i))) refl

-- The first byte and those after it.
pub cons_again : (bytes : List ℕ) → 0 < length bytes → get_or bytes 0 0 ∷ take (length bytes - 1) (drop 1 bytes) ≡ bytes
cons_again [] some = absurd (omega (arith, some))
cons_again (byte ∷ bytes) some = ap (λ (rest : List ℕ). byte ∷ rest) (take_all (length (byte ∷ bytes) - 1) bytes (omega arith))
