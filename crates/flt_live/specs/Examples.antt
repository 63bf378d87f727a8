-- Worked sessions, whose definitions are computed.
use Rattle.std.specs.Prelude.{◌≡◌, ℕ, Bool, List, [], ◌∷◌, length, codes, true, false, Some, None}
use Rattle.std.proofs.Common.{inl}
use Rattle.flt_config.specs.declared.config.Config.{Config}
use Rattle.flt_config.specs.declared.persist.Persist.{Persist}
use Rattle.flt_file.specs.declared.opening.OpenFault.TheVariants as shelves
use Rattle.flt_restore.specs.declared.fault.StartFault.TheVariants as faults
use Rattle.flt_store.specs.declared.fault.SaveFault.TheVariants as save_faults
use Rattle.flt_model.specs.Reply.{Reply}
use Rattle.flt_model.specs.declared.call.ReplyOf.TheVariants as replies
use Rattle.flt_queue.specs.Reply.{QueueReply}
use Rattle.flt_queue.specs.declared.job.LastResult.TheVariants.{Never, Written}
use Rattle.flt_queue.specs.declared.job.QueueOp.TheVariants as queue
use Rattle.flt_queue.specs.declared.job.QueueReplyOf.TheVariants as queue_replies
use Rattle.flt_step.specs.declared.step.Step.TheVariants as steps
use Rattle.flt_life_model.specs.Answers.{Told}
use Rattle.flt_life_model.specs.Chain.{LifeView}
use Rattle.flt_life_model.specs.declared.answer.StepAnswer.TheVariants as answers
use Rattle.flt_life_model.specs.declared.life.Boot.TheVariants as boots
use Rattle.flt_live.specs.declared.living.LifeEnd.TheVariants.{Power}
use Rattle.flt_live.specs.declared.reader.Line.TheVariants.{Fed, Cut, Ended}
use Rattle.flt_live.specs.declared.line.Due.TheVariants as due
use Rattle.flt_live.specs.Ahead.{ahead_with, kept_text}
use Rattle.flt_live.specs.Due.{due_at}
use Rattle.flt_live.specs.Heard.{AreHeard, Heard, Talk, answer_bytes, heard_bytes}
use Rattle.flt_live.specs.Laws.{IsPlayedInPlaces, without_place}
use Rattle.flt_live.specs.Made.{Made}
use Rattle.flt_live.specs.Session.{Closed, Other, Refused, Unread, Unreadable, session_in, status_due}
use Rattle.flt_live.specs.Session as sessions
use Rattle.flt_live.specs.Span.{ArePassed, LifeSpan, next_life}

-- A line that a line feed ends, and one that the end of the source cuts off.
abbrev pub fed : List ℕ → List ℕ → Heard
fed whole answer = record { whole = whole; ended = Fed; answer = answer }

abbrev pub cut : List ℕ → List ℕ → Heard
cut whole answer = record { whole = whole; ended = Cut; answer = answer }

-- An empty line, and after it a comment that no line feed ends, which is the newest. Neither says anything.
abbrev pub two_lines : List Heard
two_lines = cut (35 ∷ 120 ∷ []) (10 ∷ []) ∷ fed [] (10 ∷ []) ∷ []

pub record SayNothing (c : Config) : Type 0 where
  pub empty : due_at c (kept_text Fed []) ≡ due.Nothing
  pub comment : due_at c (35 ∷ 120 ∷ []) ≡ due.Nothing

-- They make no step; each is answered by an empty line. A line that is not answered, one that is answered twice, and the end of the source
-- are no lines that were heard so.
pub record LinesAreHeard (c : Config) : Type 0 where
  pub two : AreHeard c two_lines []
  pub taken : heard_bytes two_lines ≡ 10 ∷ 35 ∷ 120 ∷ []
  pub written : answer_bytes two_lines ≡ 10 ∷ 10 ∷ []
  pub silent : (made : List Made) → ¬ AreHeard c (fed [] [] ∷ []) made
  pub twice : (made : List Made) → ¬ AreHeard c (fed [] (10 ∷ 10 ∷ []) ∷ []) made
  pub at_end : (made : List Made) → ¬ AreHeard c (record { whole = []; ended = Ended; answer = 10 ∷ [] } ∷ []) made
  pub none_made : (told : Told) → ¬ AreHeard c two_lines ((steps.Save, told) ∷ [])

-- Lives are counted from 1 on, and the count stays at its end. Of two lives the second begins where the first ended.
pub record LivesFollow (tells : Bool) (c : Config) (start : Talk) : Type 0 where
  pub first : next_life [] ≡ 1
  pub second : (life : LifeSpan) → next_life (life ∷ []) ≡ 2
  pub last : (lives : List LifeSpan) → length lives ≡ 4294967295 → next_life lives ≡ 4294967295
  pub before_last : (lives : List LifeSpan) → length lives ≡ 4294967293 → next_life lives ≡ 4294967294
  pub joined : (one two : LifeSpan) (to : Talk) → ArePassed tells c start (two ∷ one ∷ []) to → (one.from ≡ start) × (two.from ≡ one.after) × (to ≡ two.after)
  pub numbered : (one two : LifeSpan) (to : Talk) → ArePassed tells c start (two ∷ one ∷ []) to → (one.number ≡ 1) × (two.number ≡ 2)
  pub powered : (one two : LifeSpan) (to : Talk) → ArePassed tells c start (two ∷ one ∷ []) to → (one.end ≡ Power) × (two.end ≡ Power)
  pub found : (one two : LifeSpan) (to : Talk) → ArePassed true c start (two ∷ one ∷ []) to → two.before.value ≡ one.last.value

-- The status of each end.
pub record EndsAreTold : Type 0 where
  pub unreadable : status_due Unreadable ≡ 3
  pub other : status_due Other ≡ 2
  pub size : status_due (Closed (shelves.Size 64 128)) ≡ 14
  pub in_use : status_due (Closed shelves.InUse) ≡ 15
  pub memory : status_due (Closed shelves.Memory) ≡ 7
  pub no_file : status_due (Closed shelves.NoFile) ≡ 16
  pub read_only : status_due (Closed shelves.ReadOnly) ≡ 16
  pub unread : status_due Unread ≡ 3
  pub started : (state : Persist) → status_due (sessions.Ended (boots.Started 7 state)) ≡ 0
  pub dark : status_due (sessions.Ended boots.Dark) ≡ 5
  pub spent : status_due (sessions.Ended (boots.Refused faults.SequenceSpent)) ≡ 8

-- The words that ask for a session, after the program's name.
pub record WordsAsk : Type 0 where
  pub none : session_in [] ≡ None
  pub word : session_in (codes "live" ∷ []) ≡ None
  pub config : session_in (codes "live" ∷ codes "a" ∷ []) ≡ Some true
  pub image : session_in (codes "live" ∷ codes "a" ∷ codes "b" ∷ []) ≡ Some false
  pub more : session_in (codes "live" ∷ codes "a" ∷ codes "b" ∷ codes "c" ∷ []) ≡ None
  pub other : session_in (codes "lives" ∷ codes "a" ∷ []) ≡ None
  pub prefix : session_in (codes "liv" ∷ codes "a" ∷ codes "b" ∷ []) ≡ None

-- What was pulled comes before what is left.
pub record PulledComesFirst : Type 0 where
  pub told : ahead_with (1 ∷ 2 ∷ []) (Some (3 ∷ [])) ≡ Some (1 ∷ 2 ∷ 3 ∷ [])
  pub untold : ahead_with (1 ∷ []) None ≡ None

-- An answer of the status machine, and one of the queue, at a place.
abbrev pub replied : ℕ → Reply → Told
replied place reply = answers.Dem (record { place = place; reply = reply })

abbrev pub queued : ℕ → QueueReply → Told
queued place reply = answers.Queue (record { place = place; reply = reply })

-- An answer of the machine or of the queue loses its place and nothing else; each other answer stays as it is. Answers that differ in more
-- than their places do so without them.
pub record PlacesAreLeftOut : Type 0 where
  pub dem : without_place (replied 7 replies.Taken) ≡ replied 0 replies.Taken
  pub queue : without_place (queued 3 queue_replies.Accepted) ≡ queued 0 queue_replies.Accepted
  pub saved : without_place (answers.Saved 5) ≡ answers.Saved 5
  pub save_failed : without_place (answers.SaveFailed save_faults.Flash) ≡ answers.SaveFailed save_faults.Flash
  pub drained : without_place (answers.Drained 2 1) ≡ answers.Drained 2 1
  pub bytes : without_place (answers.Bytes (record { items = 4 ∷ 9 ∷ [] })) ≡ answers.Bytes (record { items = 4 ∷ 9 ∷ [] })
  pub no_block : without_place answers.NoBlock ≡ answers.NoBlock
  pub block_flash : without_place answers.BlockFlash ≡ answers.BlockFlash
  pub armed : without_place answers.Armed ≡ answers.Armed
  pub dark : without_place answers.Dark ≡ answers.Dark
  pub other_reply : ¬ (without_place (replied 7 replies.Taken) ≡ without_place (replied 7 replies.Silent))
  pub other_queue_reply : ¬ (without_place (queued 3 queue_replies.Accepted) ≡ without_place (queued 3 queue_replies.QueueFull))
  pub other_number : ¬ (without_place (answers.Saved 5) ≡ without_place (answers.Saved 6))
  pub other_machine : ¬ (without_place (replied 0 replies.Taken) ≡ without_place (queued 0 queue_replies.Accepted))

-- A started life that asks the queue once of block 2, with these answers.
abbrev pub one_question : Persist → List Told → LifeView
one_question state own = record {
  parts = inl (steps.Ask 2) ∷ [];
  boot = boots.Started 7 state;
  journal = [];
  queue = record { lane = 0; op = queue.Ask 2 } ∷ [];
  own = own;
  lanes = [];
}

-- It is played with the answer that no job of the block was ever accepted, whatever place the answer has; with another reply it is not, nor
-- without an answer, nor with one more.
pub record OneQuestionIsPlayed (c : Config) (state : Persist) : Type 0 where
  pub played : (place : ℕ) → IsPlayedInPlaces c (one_question state (queued place (queue_replies.Last Never) ∷ []))
  pub other_reply : ¬ IsPlayedInPlaces c (one_question state (queued 0 (queue_replies.Last Written) ∷ []))
  pub no_answer : ¬ IsPlayedInPlaces c (one_question state [])
  pub one_more : ¬ IsPlayedInPlaces c (one_question state (queued 0 (queue_replies.Last Never) ∷ queued 1 (queue_replies.Last Never) ∷ []))
