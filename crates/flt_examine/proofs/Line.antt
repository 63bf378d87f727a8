-- What is reported about a run: the line of its last life.
use Rattle.std.proofs.Common.{◌≡◌, inl, inr, ℕ, List, [], ◌∷◌, Ok, Err, Vec, Global, length, map, replicate, arith, refl, sym, ap, ◌∙◌}
use Rattle.std.proofs.lemmas.List.{length-map}
use Rattle.std.proofs.lemmas.List.Folds.{list_all-map}
use Rattle.flt_flash.specs.declared.memory.FlashMem.{FlashMem}
use Rattle.flt_config.specs.declared.config.DidUse.{DidUse}
use Rattle.flt_config.specs.declared.persist.Persist.{Persist}
use Rattle.flt_script.specs.Script.{ScriptContent, content, script_of}
use Rattle.flt_step.specs.Part.{PartOf, parts_of}
use Rattle.flt_step.specs.declared.step.Step.{Step}
use Rattle.flt_script.specs.declared.fault.ScriptFault.{ScriptFault}
use Rattle.flt_script.specs.declared.script.Script.{Script}
use Rattle.flt_step.specs.declared.step.Part.{Part}
use Rattle.flt_step.specs.Step.{are_parts_in}
use Rattle.flt_life_model.specs.Chain.{start_from}
use Rattle.flt_life_model.specs.Lives.{lanes_told, own_told}
use Rattle.flt_life_model.specs.Room.{told_in}
use Rattle.flt_life_model.specs.declared.life.Life.{Life}
use Rattle.flt_life_model.specs.declared.replies.LaneReplies.{LaneReplies}
use Rattle.flt_run.specs.declared.running.Outcome.{Outcome}
use Rattle.flt_trace.specs.Answered.{taken_text, with_lanes}
use Rattle.flt_trace.specs.Laws.{CallsCanBeMade, ToldAnswersAreDue}
use Rattle.flt_trace.proofs.Due.{due_length}
use Rattle.flt_audit.specs.Audit.{due_texts}
use Rattle.flt_audit.specs.Shape.{TellsLife, ToldLife}
use Rattle.flt_examine.specs.Lines.{IsLastLine, IsLineOf, IsNoScript, IsReadAs, LastFits, LastStarts}
use Rattle.flt_examine.specs.Traced.{IsTraceDue, IsTraceOf, RunsOnBlank}
use Rattle.flt_examine.proofs.LastLife.{HasRun, has_run, none_started, started_fits, started_played, started_status}
use Rattle.flt_audit.proofs.Shapes.{as_many}
use Rattle.flt_examine.proofs.Yes.{is_yes}

abbrev parts_in : Vec Part Global → List (PartOf Step)
parts_in life = parts_of life.items

-- A script that was read is of its bytes, and has a life, and its steps are in their ranges.
pub read_as : (dids : List DidUse) (bytes : List ℕ) (script : Script) → script_of dids bytes ≡ Ok (content script) → IsReadAs dids bytes (content script)
read_as dids bytes script is = record {
  is = is;
  some = let same = length-map script.lives.items parts_in in omega (arith, script.some_life, same);
  within = list_all-map (are_parts_in script.config) parts_in script.lives.items ∙ script.in_range;
}

pub no_script : (dids : List DidUse) (bytes : List ℕ) (fault : ScriptFault) → script_of dids bytes ≡ Err fault → IsNoScript dids bytes
no_script dids bytes fault is script wrong = let both : Err fault ≡ Ok script = sym is ∙ wrong in absurd (cc both)

-- The answers of lane 0 and then those of the other lanes are those of all lanes.
with_all : (texts : List (List ℕ)) (replies : List LaneReplies) → with_lanes texts (own_told replies ∷ lanes_told replies) ≡ with_lanes texts (map told_in replies)
with_all texts [] = refl
with_all texts (lane ∷ lanes) = refl

module _ (answers_due : ToldAnswersAreDue) (can_be_made : CallsCanBeMade) (dids : List DidUse) (bytes : List ℕ) (outcome : Outcome FlashMem) (script : ScriptContent)
    (is : IsReadAs dids bytes script) (ran : HasRun dids bytes outcome script) (life : Life) (start : Persist) (starts : LastStarts outcome.lives.items life start) (line : List ℕ)
    (of : IsLineOf script.config bytes start life line) where
  abbrev told : ToldLife
  told = record { config = script.config; base = start; journal = life.journal.items }

  answers_are : of.texts.answers ≡ due_texts told
  answers_are =
      of.are.answers ∙ sym (with_all (replicate (length life.journal.items) taken_text) life.replies.items)
      ∙ answers_due (start_from script.config start) _ (own_told life.replies.items) (lanes_told life.replies.items) life.journal.items life.queue.items
      (started_played dids bytes outcome script ran is.within life start starts)

  tells : TellsLife dids of.texts told
  tells =
      let journal = of.are.journal
      (can_be_made (start_from script.config start) _ (own_told life.replies.items) (lanes_told life.replies.items) life.journal.items life.queue.items
      (started_played dids bytes outcome script ran is.within life start starts)) in
      record {
        script = script;
        reads = ap (script_of dids) of.are.script ∙ is.is;
        config = refl;
        base = of.are.base;
        journal = journal;
        answers = ap length answers_are ∙ due_length (start_from script.config start) [] life.journal.items ∙ as_many script.config life.journal.items of.texts.journal journal;
      }

  pub is_traced : IsTraceOf dids bytes outcome.lives.items line
  is_traced = record {
    earlier = starts.earlier;
    life = life;
    last = starts.last;
    number = starts.number;
    start = start;
    begun = starts.begun;
    config = script.config;
    texts = of.texts;
    printed = of.printed;
    script = of.are.script;
    shape = tells;
    answers = of.are.answers;
    audited = is_yes dids of.texts told line tells answers_are of.utf8 of.reads;
  }

-- The state with which the last life of a script was started fits.
pub last_fits : (dids : List DidUse) (bytes : List ℕ) (outcome : Outcome FlashMem) (script : ScriptContent) → IsReadAs dids bytes script → RunsOnBlank dids bytes outcome → LastFits script.config outcome.lives.items
last_fits dids bytes outcome script is run = λ life start starts. started_fits dids bytes outcome script (has_run dids bytes outcome script is.is run) is.within life start starts

-- The line of its last life is what is due of its run.
pub line_due : ToldAnswersAreDue → CallsCanBeMade → (dids : List DidUse) (bytes : List ℕ) (outcome : Outcome FlashMem) (script : ScriptContent) (line : List ℕ) → IsReadAs dids bytes script → RunsOnBlank dids bytes outcome
    → IsLastLine script.config bytes outcome.lives.items line → IsTraceDue dids bytes outcome (record { status = outcome.status; text = line })
line_due answers_due can_be_made dids bytes outcome script line is run (inl started) =
    let ran = has_run dids bytes outcome script is.is run in
    record {
      status = refl;
      text = inl (
        started_status dids bytes outcome script ran is.within started.0 started.1 started.2,
        is_traced answers_due can_be_made dids bytes outcome script is ran started.0 started.1 started.2 line started.3,
      );
    }
line_due answers_due can_be_made dids bytes outcome script line is run (inr none) =
    let ran = has_run dids bytes outcome script is.is run in
    record { status = refl; text = inr (none_started dids bytes outcome script ran is.within is.some none.0, none.1) }
