use Rattle.std.proofs.Common.{◌≡◌, List, [], ◌∷◌, ◌++◌, inl, sym, ap, ◌∙◌, arith, rules}
use Rattle.std.specs.Prelude.{option_map}
use Rattle.std.proofs.lemmas.List.{map-append}
use Rattle.flt_script.specs.declared.block.OpenBlock.{OpenBlock}
use Rattle.flt_step.specs.declared.step.Part.{Part}
use Rattle.flt_step.specs.declared.step.Part.TheVariants.{One}
use Rattle.flt_script.specs.Next.{state, line_cause_of}
use Rattle.flt_step.specs.Part.{part_of, parts_of}
use Rattle.flt_step.specs.Step.{arms_of_step, drain_count}
use Rattle.flt_script.proofs.InMemory.{steps_of_lanes}
use Rattle.flt_script.proofs.Misplaced.{put_alone, put_in_lane, refused_in_lane}
use Rattle.flt_script.proofs.draft.Draft.add_step.Goals as goal
use Rattle.flt_script.proofs.draft.Draft.add_step.Goals.{in-None+in_ok-reserve-in-None, in-Some-block+in_ok-add_step-in-Some-block}

pub returns-in_err-add_step-in-Some-block : goal.returns-in_err-add_step-in-Some-block
returns-in_err-add_step-in-Some-block c =
    let fault = c.in_err-add_step-in-Some-block in
    let arms : c.from.result ≡ arms_of_step c.in-Some.step = search rules in
    let drains : c.from-2.result ≡ drain_count c.in-Some.step = search rules in
    let read = sym c.step_in.ensures.value ∙ c.in-Some.is in
    let there = ap (option_map (λ (block : OpenBlock). steps_of_lanes block.lanes.items)) c.in-Some-block.is in
    let told = refused_in_lane c.args.step c.in-Some.step (state c.args.self.now) read (omega arith) (omega (arith, arms)) (omega (arith, drains))
    (steps_of_lanes c.in-Some-block.block.lanes.items) there (line_cause_of fault.field-0.0) fault.ensures in
    search (rules, told)

pub returns : goal.returns
returns c =
    let arms : c.from.result ≡ arms_of_step c.in-Some.step = search rules in
    let drains : c.from-2.result ≡ drain_count c.in-Some.step = search rules in
    let read = sym c.step_in.ensures.value ∙ c.in-Some.is in
    elim c.match-self.branch [
      | in-None+in_ok-reserve-in-None w ↦
          let parts = c.args.self.now.parts.items in
          let alone = One c.in-Some.step ∷ [] in
          let put : parts_of w.push_reserved.new.self.items ≡ parts_of parts ++ inl c.in-Some.step ∷ [] =
          ap parts_of (w.push_reserved.ensures.items ∙ ap (λ (items : List Part). items ++ alone) w.in_ok-reserve-in-None.ensures.items) ∙ map-append part_of parts alone in
          let there = ap (option_map (λ (block : OpenBlock). steps_of_lanes block.lanes.items)) w.in-None.is in
          rw (w.self-is, arms, drains, put)
          (put_alone c.args.step c.in-Some.step (state c.args.self.now) read (omega arith) (omega (arith, arms)) (omega (arith, drains)) there)
      | in-Some-block+in_ok-add_step-in-Some-block w ↦
          let there = ap (option_map (λ (block : OpenBlock). steps_of_lanes block.lanes.items)) w.in-Some-block.is in
          rw (w.self-is, arms, drains)
          (put_in_lane c.args.step c.in-Some.step (state c.args.self.now) read (omega arith) (omega (arith, arms)) (omega (arith, drains))
          (steps_of_lanes w.in-Some-block.block.lanes.items) there _ w.in_ok-add_step-in-Some-block.ensures)
    ]
