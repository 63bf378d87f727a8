use Rattle.std.proofs.Common.{inr}
use Rattle.flt_trace.proofs.Printed.{ok_so}
use Rattle.flt_trace.proofs.journal.printing.save_words.Goals as goal

pub returns-in-Saved : goal.returns-in-Saved
returns-in-Saved c =
    ok_so _ _ (λ words printed. inr (record { number = c.in-Saved.generation; within = c.saved_words.ensures.within; calls = c.in-Saved.is; printed = printed })) c.saved_words.result c.saved_words.ensures.words
