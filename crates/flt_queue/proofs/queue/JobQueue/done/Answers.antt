use Rattle.std.proofs.Common.{rules, ◌≡◌, ◌<◌, refl, true, false, length, slice_index_or, slice_set, ap}
use Rattle.flt_queue.specs.Queue.{taken}
use Rattle.flt_queue.specs.Stands.{block_state}
use Rattle.flt_queue.proofs.Steps.{done_counts, done_idles, resting}
use Rattle.flt_queue.proofs.queue.JobQueue.done.Goals as goal

pub returns-then-not-self-block-clause-stands : goal.returns-then-not-self-block-clause-stands
returns-then-not-self-block-clause-stands c = λ past s.
    let less : c.args.block < 40 = search rules in
    let here : slice_index_or c.args.self.now.table c.args.block resting ≡ block_state c.args.block past = s.table c.args.block resting less in
    let idle : taken c.args.block past ≡ false = search rules in
    done_idles _ _ _ past _ s idle

pub returns-clause-stands : goal.returns-clause-stands
returns-clause-stands c = λ past s.
    let less : c.args.block < 40 = search rules in
    let within : c.args.block < length c.args.self.now.table = search rules in
    let here : slice_index_or c.args.self.now.table c.args.block resting ≡ block_state c.args.block past = s.table c.args.block resting less in
    let counts : taken c.args.block past ≡ true = search rules in
    done_counts _ c.args.block c.args.written past c.args.self.now _ s within counts refl refl
    (ap (λ last. slice_set c.args.self.now.table c.args.block (record { pending = false; taken = false; last = last })) c.result_of.ensures)
