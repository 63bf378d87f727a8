use Rattle.std.proofs.Common.{arith, ◌∙◌}
use Rattle.std.proofs.lemmas.List.{take_rest}
use Rattle.std.proofs.Math.Seq.{take-add}
use Rattle.std.proofs.KnownBytes.{Appends-trans}
use Rattle.flt_io.proofs.write_sink.WriteSinkSink.push.Goals as goal

pub loop-sent-preserved : goal.loop-sent-preserved
loop-sent-preserved g c =
    let here = rw take_rest at c.in_ok-sent.ensures.bytes in
    record {
      within = omega (arith, c.in_ok-sent.ensures.bound);
      sound = c.in_ok-sent.ensures.counted ∙ c.loop-sent.invariant.sound;
      front = rw take-add (Appends-trans _ _ _ _ _ c.loop-sent.invariant.front here);
    }
