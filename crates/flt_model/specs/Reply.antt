-- The answer to a call, whatever it has in the place of a response.
use Rattle.std.specs.Prelude.{ℕ}
use Rattle.arrayvec.specs.ArrayVec.{ArrayVec}
use Rattle.flt_model.specs.declared.call.ReplyOf.{ReplyOf}
use Rattle.flt_model.specs.declared.call.ReplyOf.TheVariants.{Taken, Ignored, Shown, Response, Silent}

-- The answer with the bytes of a response.
abbrev pub Reply : Type 0
Reply = ReplyOf (ArrayVec ℕ)

-- The same answer, in which a response is what the function makes of it.
abbrev pub map_reply : {B C : Type 0} → (B → C) → ReplyOf B → ReplyOf C
map_reply f Taken = Taken
map_reply f (Ignored cause) = Ignored cause
map_reply f (Shown shown) = Shown shown
map_reply f (Response response) = Response (f response)
map_reply f Silent = Silent

-- What the function makes of a response, or else this.
abbrev pub of_response : {B C : Type 0} → C → (B → C) → ReplyOf B → C
of_response otherwise f (Response response) = f response
of_response otherwise f _ = otherwise
