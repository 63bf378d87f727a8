-- The answer to a call, without the bytes of a response.
use Rattle.std.specs.Prelude.{ℕ, List}
use Rattle.flt_model.specs.Reply.{Reply, map_reply}
use Rattle.flt_model.specs.declared.call.ReplyOf.{ReplyOf}

-- An answer whose response is kept elsewhere.
abbrev pub ReplyKind : Type 0
ReplyKind = ReplyOf (Unit {0})

-- The whole answer, with these bytes if it is a response.
abbrev pub reply_with : {B : Type 0} → ReplyOf B → List ℕ → Reply
reply_with reply bytes = map_reply (λ _. record { items = bytes }) reply
