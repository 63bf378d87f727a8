-- The calls and the answer of each step of a life without other lanes; all lists begin with the newest.
use Rattle.std.specs.Prelude.{◌≡◌, ◌∷◌, ℕ, length}
use Rattle.flt_turn.specs.declared.answer.Answer.{Answer}
use Rattle.flt_model.specs.Start.{Start}
use Rattle.flt_model.specs.Answer.{answer}
use Rattle.flt_model.specs.declared.call.Op.{Op}
use Rattle.flt_model.specs.declared.call.Op.TheVariants as ops
use Rattle.flt_model.specs.Reply.{Reply}
use Rattle.flt_life_model.specs.declared.action.Action.{Action}
use Rattle.flt_life_model.specs.declared.action.Action.TheVariants as actions
use Rattle.flt_life_model.specs.Answers.{Told}
use Rattle.flt_life_model.specs.declared.answer.StepAnswer.TheVariants as answers
use Rattle.flt_life_model.specs.Journal.{Journal, entry, calls_of}

-- The machine's answer to a call after these, at its place.
abbrev pub answer_at : Start → Journal → Op → Answer Reply
answer_at start before op = record { place = length before; reply = answer start (calls_of before) op }

-- The answer is the machine's to a call after these.
abbrev pub IsReply : Start → Journal → Op → Told → Type 0
IsReply start journal op (answers.Dem told) = told.reply ≡ answer start (calls_of journal) op
IsReply start journal op _ = ⊥

-- A save is answered with a number, or with why there is none.
abbrev pub IsSave : Told → Type 0
IsSave (answers.Saved number) = Unit {0}
IsSave (answers.SaveFailed fault) = Unit {0}
IsSave _ = ⊥

-- The answer to a step after these calls; the queue and the application blocks are left alone.
abbrev pub IsAnsweredBy : Start → Journal → Action → Told → Type 0
IsAnsweredBy start journal (actions.Call op) told = IsReply start journal op told
IsAnsweredBy start journal actions.Save told = IsSave told
IsAnsweredBy start journal (actions.Arm arm) told = told ≡ answers.Armed
IsAnsweredBy start journal _ told = ⊥

-- An answer of the machine is at this place.
abbrev pub IsAtPlace : ℕ → Told → Type 0
IsAtPlace place (answers.Dem told) = told.place ≡ place
IsAtPlace place _ = Unit {0}

-- The calls of a save: a snapshot, and then the number, if it was answered with one.
abbrev pub with_save : Told → Journal → Journal
with_save (answers.Saved number) before = entry 0 (ops.Saved number) ∷ entry 0 ops.Snapshot ∷ before
with_save _ before = entry 0 ops.Snapshot ∷ before

-- The calls of the status machine that a step with this answer adds.
abbrev pub with_calls : Action → Told → Journal → Journal
with_calls (actions.Call op) told before = entry 0 op ∷ before
with_calls actions.Save told before = with_save told before
with_calls _ told before = before

-- A save takes a snapshot, and then, where it is answered with a number, is acknowledged by it.
abbrev pub SaveIsCarriedOut : Journal → Journal → Told → Type 0
SaveIsCarriedOut before journal (answers.Saved number) = journal ≡ entry 0 (ops.Saved number) ∷ entry 0 ops.Snapshot ∷ before
SaveIsCarriedOut before journal (answers.SaveFailed fault) = journal ≡ entry 0 ops.Snapshot ∷ before
SaveIsCarriedOut before journal _ = ⊥

-- A step adds its calls to the journal, and its answer is the machine's or the store's; the queue and the application blocks are left
-- alone.
abbrev pub IsCarriedOut : Start → Journal → Action → Journal → Told → Type 0
IsCarriedOut start before (actions.Call op) journal told = (journal ≡ entry 0 op ∷ before) × (told ≡ answers.Dem (answer_at start before op))
IsCarriedOut start before actions.Save journal told = SaveIsCarriedOut before journal told
IsCarriedOut start before (actions.Queue op) journal told = ⊥
IsCarriedOut start before actions.Drain journal told = ⊥
IsCarriedOut start before (actions.Get block) journal told = ⊥
IsCarriedOut start before (actions.Arm arm) journal told = (journal ≡ before) × (told ≡ answers.Armed)
