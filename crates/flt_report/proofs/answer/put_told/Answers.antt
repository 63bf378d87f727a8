use Rattle.std.proofs.Common.{rules}
use Rattle.flt_report.proofs.answer.put_told.Goals as goal

pub returns-in-Queue : goal.returns-in-Queue
returns-in-Queue c = let puts = c.put_queue_reply.ensures c.args.responses.now in search (rules, puts)
