-- What the bytes of a request ask for (ISO 14229-1).
use Rattle.std.specs.Prelude.{ℕ, ◌+◌, ◌*◌, ◌%◌, nat_le, ◌==◌, Bool, true, false, not, ◌&&◌, ◌||◌, if◌then◌else◌, List, [], ◌∷◌, find, Option, Some, None, option_map, is_some, Result, Ok, Err}
use Rattle.arrayvec.specs.ArrayVec.{ArrayVec}
use Rattle.flt_model.specs.declared.request.Request.{Request}
use Rattle.flt_model.specs.declared.request.Request.TheVariants.{Session, Present, Clear, Setting, Count, ByMask, Snapshots, Snapshot, Extended, Supported, Noted, Counters}
use Rattle.flt_model.specs.declared.request.Asked.{Asked}
use Rattle.flt_model.specs.declared.request.Negative.{Negative}
use Rattle.flt_model.specs.NegativeCode.{service_not_supported, sub_function_not_supported, incorrect_length, request_out_of_range, service_not_supported_in_session}

-- The bytes of a tester's request.
abbrev pub RequestBytes : Type 0
RequestBytes = ArrayVec ℕ

-- What follows a sub-function.
pub data Form : Type 0 where
  -- Nothing.
  Plain : Request → Form
  -- A status mask.
  Masked : (ℕ → Request) → Form
  -- A DTC of three bytes, and a record number.
  Recorded : (ℕ → ℕ → Request) → Form
  -- Nothing, or three option bytes.
  Optioned : Request → Form

-- A row of the table: a service, a sub-function, and what follows it.
pub record SubFunction : Type 0 where
  pub service : ℕ
  pub sub : ℕ
  pub form : Form

-- A row of the table.
abbrev pub row : ℕ → ℕ → Form → SubFunction
row service sub form = record { service = service; sub = sub; form = form }

-- The services with sub-functions: diagnostic session control, read DTC information, tester present, control DTC setting.
abbrev pub sub_functions : List SubFunction
sub_functions =
    row 0x10 0x01 (Plain (Session false))
    ∷ row 0x10 0x03 (Plain (Session true))
    ∷ row 0x19 0x01 (Masked (λ mask. Count mask))
    ∷ row 0x19 0x02 (Masked (λ mask. ByMask mask))
    ∷ row 0x19 0x03 (Plain Snapshots)
    ∷ row 0x19 0x04 (Recorded (λ dtc number. Snapshot dtc number))
    ∷ row 0x19 0x06 (Recorded (λ dtc number. Extended dtc number))
    ∷ row 0x19 0x0A (Plain Supported)
    ∷ row 0x19 0x0B (Plain (Noted 0x0B))
    ∷ row 0x19 0x0C (Plain (Noted 0x0C))
    ∷ row 0x19 0x0D (Plain (Noted 0x0D))
    ∷ row 0x19 0x0E (Plain (Noted 0x0E))
    ∷ row 0x19 0x14 (Plain Counters)
    ∷ row 0x3E 0x00 (Plain Present)
    ∷ row 0x85 0x01 (Optioned (Setting true))
    ∷ row 0x85 0x02 (Optioned (Setting false))
    ∷ []

-- The service is one of those with sub-functions.
abbrev pub has_sub_functions : ℕ → Bool
has_sub_functions service = is_some (find (λ r. r.service == service) sub_functions)

-- What follows a sub-function of a service, if the service has it.
abbrev pub form_of : ℕ → ℕ → Option Form
form_of service sub = option_map (λ r. r.form) (find (λ r. (r.service == service) && (r.sub == sub)) sub_functions)

-- A DTC of three bytes, big-endian.
abbrev pub dtc_of : ℕ → ℕ → ℕ → ℕ
dtc_of high middle low = high * 65536 + middle * 256 + low

-- The record number: the first, the second or both.
abbrev pub is_record_number : ℕ → Bool
is_record_number number = (number == 0x01) || (number == 0x02) || (number == 0xFF)

-- What is asked by the bytes after the sub-function, or the negative code.
abbrev pub contents : Form → List ℕ → Result Request ℕ
contents (Plain request) [] = Ok request
contents (Masked request) (mask ∷ []) = Ok (request mask)
contents (Recorded request) (high ∷ middle ∷ low ∷ number ∷ []) =
    if is_record_number number then Ok (request (dtc_of high middle low) number) else Err request_out_of_range
contents (Optioned request) [] = Ok request
contents (Optioned request) (a ∷ b ∷ c ∷ []) =
    if (a == 0xFF) && (b == 0xFF) && (c == 0xFF) then Ok request else Err request_out_of_range
contents _ _ = Err incorrect_length

-- A negative response of a service.
abbrev pub refused : ℕ → ℕ → Result Asked Negative
refused service code = Err (record { service = service; code = code })

-- A request whose contents were read, or the negative code.
abbrev pub accepted : ℕ → Bool → Result Request ℕ → Result Asked Negative
accepted service silent (Ok request) = Ok (record { request = request; silent = silent })
accepted service silent (Err code) = refused service code

-- What is asked by a sub-function of this form, or by an unknown one.
abbrev pub asked_in : ℕ → Bool → Option Form → List ℕ → Result Asked Negative
asked_in service silent None rest = refused service sub_function_not_supported
asked_in service silent (Some form) rest = accepted service silent (contents form rest)

-- Bit 7 of the sub-function suppresses a positive response.
abbrev pub asked_with_sub : ℕ → List ℕ → Result Asked Negative
asked_with_sub service [] = refused service incorrect_length
asked_with_sub service (sub ∷ rest) = asked_in service (nat_le 128 sub) (form_of service (sub % 128)) rest

-- A clear of a DTC (service 0x14), which has no sub-function.
abbrev pub asked_clear : List ℕ → Result Asked Negative
asked_clear (high ∷ middle ∷ low ∷ []) = Ok (record { request = Clear (dtc_of high middle low); silent = false })
asked_clear _ = refused 0x14 incorrect_length

-- What the bytes ask for in a session, the extended or the default one, or the first negative code, except for an
-- unknown DTC.
abbrev pub asked : Bool → List ℕ → Result Asked Negative
asked extended [] = refused 0 incorrect_length
asked extended (service ∷ rest) =
    if service == 0x14 then asked_clear rest
    else if not (has_sub_functions service) then refused service service_not_supported
    else if (service == 0x85) && not extended then refused service service_not_supported_in_session
    else asked_with_sub service rest
