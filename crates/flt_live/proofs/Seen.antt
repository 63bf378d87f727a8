-- A life of a session, in the words of a life of a run.
use Rattle.std.proofs.Common.{◌≡◌, ◌∙◌, inl, List, [], ◌∷◌, ◌++◌, length, map, reverse, refl, sym, ap, arith}
use Rattle.std.proofs.lemmas.List.{append-nil, length-reverse, map-append, reverse-append, reverse-reverse}
use Rattle.flt_queue.specs.Queue.{History}
use Rattle.flt_step.specs.declared.step.Step.{Step}
use Rattle.flt_step.specs.Part.{PartOf}
use Rattle.flt_life_model.specs.Actions.{action_of}
use Rattle.flt_life_model.specs.Answers.{Told}
use Rattle.flt_life_model.specs.Chain as chain
use Rattle.flt_life_model.specs.Ordered as ordered
use Rattle.flt_life_model.specs.Ordered.{Deed, deed_if, with_deed}
use Rattle.flt_life_model.specs.Parts.{own_steps}
use Rattle.flt_life_model.specs.declared.action.Action.{Action}
use Rattle.flt_life_model.specs.declared.action.Action.TheVariants as actions
use Rattle.flt_life_model.specs.declared.life.Boot.{Boot}
use Rattle.flt_life_model.proofs.ByAction.{touches_by, touches_store}
use Rattle.flt_lives.proofs.Deeds.{deeds_more}
use Rattle.flt_turn.specs.declared.vault.Entry.{Entry}
use Rattle.flt_queue.specs.declared.job.QueueOp.{QueueOp}
use Rattle.flt_live.specs.Made.{Made, deeds_made, answers_of_made, with_deed_by}
use Rattle.flt_live.specs.Span.{seen_as}

abbrev parts_made : List Made → List (PartOf Step)
parts_made made = map inl (reverse (map (λ (m : Made). m.0) made))

abbrev own_made : List Made → List Told
own_made made = reverse (map (λ (m : Made). m.1) made)

parts_more : (one : Made) (earlier : List Made) → parts_made (one ∷ earlier) ≡ parts_made earlier ++ inl one.0 ∷ []
parts_more one earlier = ap (map inl) (reverse-append (one.0 ∷ []) (map (λ (m : Made). m.0) earlier)) ∙ map-append inl (reverse (map (λ (m : Made). m.0) earlier)) (one.0 ∷ [])

own_more : (one : Made) (earlier : List Made) → own_made (one ∷ earlier) ≡ own_made earlier ++ one.1 ∷ []
own_more one earlier = reverse-append (one.1 ∷ []) (map (λ (m : Made). m.1) earlier)

-- Each part is one step.
steps_in : (steps : List Step) → length (own_steps {T = Step} (map inl steps)) ≡ length steps
steps_in [] = refl
steps_in (step ∷ steps) = let rest = steps_in steps in omega (arith, rest)

length_made : {T : Type 0} (f : Made → T) (made : List Made) → length (map f made) ≡ length made
length_made f [] = refl
length_made f (one ∷ made) = let rest = length_made f made in omega (arith, rest)

as_many : (made : List Made) → length (own_made made) ≡ length (own_steps (parts_made made))
as_many made =
    let own = length-reverse (map (λ (m : Made). m.1) made) in
    let steps = length-reverse (map (λ (m : Made). m.0) made) in
    let parts = steps_in (reverse (map (λ (m : Made). m.0) made)) in
    let first = length_made (λ (m : Made). m.1) made in
    let second = length_made (λ (m : Made). m.0) made in
    omega (arith, own, steps, parts, first, second)

-- A deed of one step more.
deed_by : (does : Action) (step : Step) (told : Told) (earlier : List Deed) → reverse earlier ++ deed_if (touches_store does) step told [] ≡ reverse (with_deed_by does step told earlier)
deed_by (actions.Call op) step told earlier = append-nil (reverse earlier)
deed_by (actions.Queue op) step told earlier = append-nil (reverse earlier)
deed_by actions.Save step told earlier = sym (reverse-append ((step, told) ∷ []) earlier)
deed_by actions.Drain step told earlier = sym (reverse-append ((step, told) ∷ []) earlier)
deed_by (actions.Get block) step told earlier = sym (reverse-append ((step, told) ∷ []) earlier)
deed_by (actions.Arm arm) step told earlier = append-nil (reverse earlier)

deeds_seen : (made : List Made) → ordered.deeds_in (parts_made made) (own_made made) [] ≡ reverse (deeds_made made)
deeds_seen [] = refl
deeds_seen (one ∷ earlier) =
    ap (λ parts. ordered.deeds_in parts (own_made (one ∷ earlier)) []) (parts_more one earlier)
    ∙ ap (λ own. ordered.deeds_in (parts_made earlier ++ inl one.0 ∷ []) own []) (own_more one earlier)
    ∙ deeds_more (parts_made earlier) (own_made earlier) [] one.0 one.1 (as_many earlier)
    ∙ ap (λ l. l ++ with_deed one.0 one.1 []) (deeds_seen earlier)
    ∙ ap (λ is. reverse (deeds_made earlier) ++ deed_if is one.0 one.1 []) (touches_by one.0)
    ∙ deed_by (action_of one.0) one.0 one.1 (deeds_made earlier)

-- The deeds of the life, their answers, and its calls of the queue.
pub deeds_are : (boot : Boot) (made : List Made) (jobs : History) → chain.deeds_of (seen_as boot made jobs) ≡ deeds_made made
deeds_are boot made jobs = ap reverse (deeds_seen made) ∙ reverse-reverse (deeds_made made)

pub told_are : (boot : Boot) (made : List Made) (jobs : History) → chain.told_of (seen_as boot made jobs) ≡ answers_of_made made
told_are boot made jobs = ap (map (λ (d : Deed). d.1)) (deeds_are boot made jobs)

pub queue_is : (boot : Boot) (made : List Made) (jobs : History) → chain.queue_of (seen_as boot made jobs) ≡ jobs
queue_is boot made jobs = entries jobs
  where
    entries : (l : History) → map (λ (e : Entry QueueOp). e.op) (map (λ (op : QueueOp). record { lane = 0; op = op }) l) ≡ l
    entries [] = refl
    entries (op ∷ l) = ap (λ rest. op ∷ rest) (entries l)
