use Rattle.std.proofs.Common.{◌≡◌, ℕ, ◌+◌, ◌++◌, List, length, sym, ◌∙◌, ap, length-append, arith}
use Rattle.std.proofs.lemmas.List.{nil_from_length}
use Rattle.flt_config.specs.declared.persist.EventState.{EventState}
use Rattle.flt_store_model.specs.Form.{state_bytes, first_states}
use Rattle.flt_store_model.proofs.Sizes.{state_size}
use Rattle.flt_store_model.proofs.States.{first_states_more, no_states}
use Rattle.flt_image.proofs.states.put_states.Goals as goal

pub loop-place-init : goal.loop-place-init
loop-place-init c = record {
  size = c.requires.empty;
  items = nil_from_length c.args.out.now.items c.requires.empty ∙ sym (no_states c.args.states.now c.args.first);
}

pub loop-place-preserved : goal.loop-place-preserved
loop-place-preserved c =
    let count : length c.put_state.new.out.items ≡ length c.loop-place.out.items + length (state_bytes c.state_at.result) =
    ap length c.put_state.ensures ∙ length-append c.loop-place.out.items (state_bytes c.state_at.result) in
    record {
      size = omega (arith, count, state_size c.state_at.result, c.loop-place.invariant.size);
      items = c.put_state.ensures
          ∙ ap (λ (bytes : List ℕ). bytes ++ state_bytes c.state_at.result) c.loop-place.invariant.items
          ∙ ap (λ (state : EventState). first_states c.args.states.now c.args.first c.loop-place.place ++ state_bytes state) c.state_at.ensures
          ∙ sym (first_states_more c.args.states.now c.args.first c.loop-place.place);
    }
