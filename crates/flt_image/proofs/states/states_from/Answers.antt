use Rattle.std.proofs.Common.{◌∙◌, ◌++◌, [], ◌∷◌, List, sym, ap, arith}
use Rattle.std.proofs.lemmas.List.FromFn.{map-range_with_len_more}
use Rattle.flt_config.specs.declared.persist.EventState.{EventState}
use Rattle.flt_store_model.specs.Reading.{state_from}
use Rattle.flt_image.specs.Taking.{block_states}
use Rattle.flt_image.proofs.states.states_from.Goals as goal

pub loop-place-preserved : goal.loop-place-preserved
loop-place-preserved c = record {
  states = c.push.ensures.items
      ∙ ap (λ (states : List EventState). states ++ c.state_from.result ∷ []) c.loop-place.invariant.states
      ∙ ap (λ (state : EventState). block_states c.args.bytes.now c.loop-place.place ++ state ∷ []) c.state_from.ensures
      ∙ sym (map-range_with_len_more (state_from c.args.bytes.now) 0 c.loop-place.place c.loop-place.place (omega arith));
  size = (let len = c.push.ensures.len in omega (arith, len, c.loop-place.invariant.size));
}
