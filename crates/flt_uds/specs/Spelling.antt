-- How each request is spelled (ISO 14229-1, in this profile): the inverse of how it is read.
use Rattle.std.specs.Prelude.{◌≡◌, ℕ, ◌+◌, ◌==◌, Bool, true, not, ◌||◌, if◌then◌else◌, List, [], ◌∷◌, ◌++◌}
use Rattle.flt_model.specs.Request.{is_record_number}
use Rattle.flt_model.specs.Response.{dtc_bytes, sub_of_session, sub_of_setting}
use Rattle.flt_model.specs.declared.request.Request.{Request}
use Rattle.flt_model.specs.declared.request.Request.TheVariants.{Session, Present, Clear, Setting, Count, ByMask, Snapshots, Snapshot, Extended, Supported, Noted, Counters}
use Rattle.flt_model.specs.declared.request.Asked.{Asked}

-- A sub-function, with bit 7 if the positive response is suppressed.
abbrev pub with_bit_7 : Bool → ℕ → ℕ
with_bit_7 silent sub = if silent then sub + 128 else sub

-- The bytes of a request, row by row, without option bytes.
abbrev pub spelled : Bool → Request → List ℕ
spelled silent (Session extended) = 0x10 ∷ with_bit_7 silent (sub_of_session extended) ∷ []
spelled silent Present = 0x3E ∷ with_bit_7 silent 0x00 ∷ []
spelled silent (Clear dtc) = 0x14 ∷ dtc_bytes dtc
spelled silent (Setting on) = 0x85 ∷ with_bit_7 silent (sub_of_setting on) ∷ []
spelled silent (Count mask) = 0x19 ∷ with_bit_7 silent 0x01 ∷ mask ∷ []
spelled silent (ByMask mask) = 0x19 ∷ with_bit_7 silent 0x02 ∷ mask ∷ []
spelled silent Snapshots = 0x19 ∷ with_bit_7 silent 0x03 ∷ []
spelled silent (Snapshot dtc number) = 0x19 ∷ with_bit_7 silent 0x04 ∷ dtc_bytes dtc ++ number ∷ []
spelled silent (Extended dtc number) = 0x19 ∷ with_bit_7 silent 0x06 ∷ dtc_bytes dtc ++ number ∷ []
spelled silent Supported = 0x19 ∷ with_bit_7 silent 0x0A ∷ []
spelled silent (Noted sub) = 0x19 ∷ with_bit_7 silent sub ∷ []
spelled silent Counters = 0x19 ∷ with_bit_7 silent 0x14 ∷ []

-- The request is one of the profile: its record number or its sub-function is known, and a clear is never suppressed.
abbrev pub is_known : Bool → Request → Bool
is_known silent (Clear dtc) = not silent
is_known silent (Snapshot dtc number) = is_record_number number
is_known silent (Extended dtc number) = is_record_number number
is_known silent (Noted sub) = (sub == 0x0B) || (sub == 0x0C) || (sub == 0x0D) || (sub == 0x0E)
is_known silent _ = true

-- The request may be made in this session: the DTC setting only in the extended one.
abbrev pub is_open : Bool → Request → Bool
is_open extended (Setting on) = extended
is_open extended _ = true

-- What may follow these bytes: nothing, or the three option bytes FF of a setting.
abbrev pub IsEnd : Request → List ℕ → Type 0
IsEnd request [] = Unit {0}
IsEnd (Setting on) rest = rest ≡ 0xFF ∷ 0xFF ∷ 0xFF ∷ []
IsEnd _ rest = ⊥

-- The bytes are a request of the profile, in this session.
pub record IsRequest (extended : Bool) (bytes : List ℕ) (asked : Asked) : Type 0 where
  pub end : List ℕ
  pub spells : bytes ≡ spelled asked.silent asked.request ++ end
  pub ends : IsEnd asked.request end
  pub known : is_known asked.silent asked.request ≡ true
  pub opened : is_open extended asked.request ≡ true
