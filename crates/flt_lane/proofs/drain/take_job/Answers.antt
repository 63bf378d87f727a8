use Rattle.std.proofs.Common.{◌∙◌, ap, sym}
use Rattle.flt_queue.specs.Call.{whole}
use Rattle.flt_queue.specs.Reply.{job_reply_with}
use Rattle.flt_queue.proofs.Handing.{none_handed}
use Rattle.flt_lane.proofs.Takes.{finds_none, takes_job}
use Rattle.flt_lane.proofs.drain.take_job.Goals as goal

pub write_job-requires-clause-alive : goal.write_job-requires-clause-alive
write_job-requires-clause-alive g c = (c.args.config.now, sym (c.in-Ok.ensures.call.call.place.rest.1 ∙ c.requires.ready.blocks), c.requires.alive)

pub returns-in-Job-clause-looks : goal.returns-in-Job-clause-looks
returns-in-Job-clause-looks g c =
    let noted = c.write_job.ensures.noted in
    let job = c.take_into.new.job in
    takes_job c.args.config.now c.args.seat.now c.take_into.new.seat c.write_job.new.seat (whole c.in-Ok.taken job) noted.0 job c.write_job.result c.args.store.now c.write_job.new.store c.in-Ok.ensures.call.call
    (ap (λ kind. job_reply_with kind job) c.in-Job.is) noted.1
    (c.write_job.ensures.wrote c.args.config.now (sym (c.in-Ok.ensures.call.call.place.rest.1 ∙ c.requires.ready.blocks)))

pub returns-in_default-reply : goal.returns-in_default-reply
returns-in_default-reply g c = record {
  looks = finds_none c.args.config.now c.args.seat.now c.take_into.new.seat (whole c.in-Ok.taken c.take_into.new.job) c.args.store.now c.in-Ok.ensures.call.call
      (none_handed c.in-Ok.taken.reply c.take_into.new.job c.in_default-reply.not-Job);
  lock = c.in-Ok.ensures.call.call.place.lock ∙ c.requires.ready.lock;
}
