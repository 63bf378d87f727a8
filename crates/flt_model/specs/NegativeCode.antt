-- The negative response codes (ISO 14229-1).
use Rattle.std.specs.Prelude.{ℕ}

-- The service is not one of this profile.
abbrev pub service_not_supported : ℕ
service_not_supported = 0x11

-- The sub-function is not one of the service.
abbrev pub sub_function_not_supported : ℕ
sub_function_not_supported = 0x12

-- The length is not that of the request (incorrectMessageLengthOrInvalidFormat).
abbrev pub incorrect_length : ℕ
incorrect_length = 0x13

-- What the request names does not exist.
abbrev pub request_out_of_range : ℕ
request_out_of_range = 0x31

-- The service is not available in the tester's session.
abbrev pub service_not_supported_in_session : ℕ
service_not_supported_in_session = 0x7F
