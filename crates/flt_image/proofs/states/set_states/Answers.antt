use Rattle.std.proofs.Common.{refl, ◌∙◌, ◌+◌, ap, sym, arith, List, length, length-set}
use Rattle.std.specs.Prelude.{slice_set, slice_index_or, false}
use Rattle.flt_config.specs.declared.persist.EventState.{EventState}
use Rattle.flt_store_model.specs.Reading.{with_states}
use Rattle.flt_store_model.proofs.States.{with_states_more, no_states_set}
use Rattle.flt_image.proofs.Takings.{block_state_at}
use Rattle.flt_image.proofs.states.set_states.Goals as goal

-- The state where there is none.
abbrev none : EventState
none = record { status = 0; failed = 0; clean = 0; lit = false }

pub loop-place-init : goal.loop-place-init
loop-place-init c = record {
  states = λ held is. sym (no_states_set held c.args.first c.args.into.now.items);
  size = refl;
}

pub loop-place-preserved : goal.loop-place-preserved
loop-place-preserved c = record {
  states = λ held is.
      let at = c.args.first + c.loop-place.place in
      c.set_state.ensures
      ∙ ap (λ (states : List EventState). slice_set states at (slice_index_or c.args.states.now c.loop-place.place none)) (c.loop-place.invariant.states held is)
      ∙ ap (λ (state : EventState). slice_set (with_states held c.args.first c.loop-place.place c.args.into.now.items) at state) (block_state_at held c.args.states.now is c.loop-place.place none (omega arith))
      ∙ sym (with_states_more held c.args.first c.args.into.now.items c.loop-place.place);
  size = ap length c.set_state.ensures ∙ length-set c.loop-place.into.items (c.args.first + c.loop-place.place) (slice_index_or c.args.states.now c.loop-place.place none) ∙ c.loop-place.invariant.size;
}
