use Rattle.std.proofs.Common.{rules, ◌≡◌, subst, sym}
use Rattle.std.specs.String.{string_bytes}
use Rattle.flt_trace.specs.Call.{IsOpText}
use Rattle.flt_trace.proofs.journal.printing.call_text.Goals as goal

pub returns : goal.returns
returns c = λ k can.
    let same : c.deref.result.now ≡ string_bytes c.in_ok-words.words = search rules in
    record {
      lane = c.lane_text.ensures.within;
      words = c.deref.result.now;
      op = subst (IsOpText k c.args.call.now.op) (sym same) (c.in_ok-words.ensures k can);
      printed = c.in_ok-text.ensures.text;
    }
