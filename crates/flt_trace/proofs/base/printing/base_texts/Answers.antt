use Rattle.std.proofs.Common.{◌≡◌, ◌∙◌, sym, ap, true, false, arith}
use Rattle.std.specs.Prelude.{map}
use Rattle.std.specs.String.{string_bytes}
use Rattle.std.proofs.lemmas.List.{map-append}
use Rattle.flt_store_model.specs.Layout.{end_part, is_used}
use Rattle.flt_trace.proofs.Blocks.{all_texts, bytes_more, no_text_more, one_text_more, used_below}
use Rattle.flt_trace.proofs.base.printing.base_texts.Goals as goal
use Rattle.flt_trace.proofs.base.printing.base_texts.Goals.{then-is_used+in_ok-block_text+in_ok-push, else-is_used}

pub loop-id-preserved : goal.loop-id-preserved
loop-id-preserved c =
    let config = c.args.config.now in
    let state = c.args.state.now in
    let id = c.loop-id.id in
    elim c.if-is_used.branch [
      | then-is_used+in_ok-block_text+in_ok-push w ↦
          let used : is_used config id ≡ true = sym c.is_used.ensures ∙ w.if-is_used.true in
          record {
            printed = ap (λ texts. map string_bytes texts.items) w.texts-is ∙ ap (map string_bytes) w.in_ok-push.ensures.items
                ∙ map-append string_bytes c.loop-id.texts.items _
                ∙ one_text_more config state id (omega (arith, c.loop-id.auto.id)) used _ _ c.loop-id.invariant.printed w.in_ok-block_text.ensures.text;
            bytes = bytes_more config state id c.loop-id.invariant.bytes (λ _. w.block_text.ensures.bytes);
          }
      | else-is_used w ↦
          let unused : is_used config id ≡ false = sym c.is_used.ensures ∙ w.if-is_used.false in
          record {
            printed = ap (λ texts. map string_bytes texts.items) w.texts-is ∙ c.loop-id.invariant.printed ∙ no_text_more config state id (omega (arith, c.loop-id.auto.id)) unused;
            bytes = bytes_more config state id c.loop-id.invariant.bytes (λ used. absurd (cc (sym unused ∙ used)));
          }
    ]

pub returns : goal.returns
returns c =
    let config = c.args.config.now in
    let state = c.args.state.now in
    let end : c.loop-id.id ≡ end_part = omega (arith, c.loop-id.auto.id-end, c.loop-id-test.false) in
    record {
      fits = c.requires;
      bytes = λ id used. c.loop-id.invariant.bytes id used (omega (arith, used_below config state id used, end));
      printed = c.loop-id.invariant.printed ∙ all_texts config state c.loop-id.id end;
    }
