use Rattle.std.proofs.Common.{◌∙◌, ◌+◌, ◌-◌, ◌∷◌, ◌++◌, length, take, drop, sym, subst}
use Rattle.flt_model.specs.declared.call.Op.{Op}
use Rattle.flt_trace.specs.Call.{IsOpText}
use Rattle.flt_trace.proofs.Calls.{if_none, if_some, no_space, parted}
use Rattle.flt_trace.proofs.Numbers.{all_behind, split_at}
use Rattle.flt_trace.proofs.journal.reading.read_call.Goals as goal

pub returns-in_default : goal.returns-in_default
returns-in_default c = no_space c.args.config.now c.args.text.now c.in_default.ensures

pub returns-in_default-read_plain : goal.returns-in_default-read_plain
returns-in_default-read_plain c =
    λ call is. c.in_default-read_plain.ensures call.lane is.lane (parted c.args.config.now c.args.text.now c.in-Some.at c.in-Some.ensures call is).0

pub returns-in-Some-2 : goal.returns-in-Some-2
returns-in-Some-2 c =
    let text = c.args.text.now in
    let at = c.in-Some.at in
    let config = c.args.config.now in
    let behind = take (length text - (at + 1)) (drop (at + 1) text) in
    let lane = c.in-Some-read_plain.ensures in
    record {
      lane = lane.0;
      words = behind;
      op = if_some ((op : Op) → IsOpText config op behind → ⊥) (λ op. IsOpText config op behind) c.in_ok-op.field-0 c.in-Some-2.op c.in-Some-2.is c.in_ok-op.ensures;
      printed = split_at text at c.in-Some.ensures ∙ (λ i. lane.1 i ++ 32 ∷ sym (all_behind text (at + 1)) i);
    }

pub returns-in-None : goal.returns-in-None
returns-in-None c =
    λ call is.
    let text = c.args.text.now in
    let at = c.in-Some.at in
    let config = c.args.config.now in
    let behind = take (length text - (at + 1)) (drop (at + 1) text) in
    if_none ((op : Op) → IsOpText config op behind → ⊥) (λ op. IsOpText config op behind) c.in_ok-op.field-0 c.in-None.is c.in_ok-op.ensures
    call.op (subst (IsOpText config call.op) (sym (all_behind text (at + 1) ∙ (parted config text at c.in-Some.ensures call is).1)) is.op)
