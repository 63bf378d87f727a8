use Rattle.std.proofs.lemmas.List.{take_rest}
use Rattle.flt_io.proofs.Moved.{moved}
use Rattle.flt_io.proofs.mem_source.MemSourceSource.pull.Goals as goal

pub returns-clause-bytes : goal.returns-clause-bytes
returns-clause-bytes c =
    let s = c.args.self.now in
    let part = rw (take_rest, c.deref-2.ensures.value) at c.copy_from_slice.ensures.after in
    let least = rw (take_rest, c.deref-2.ensures.value) at c.min-count.ensures in
    moved s.bytes.items c.args.out.now c.copy_from_slice.new.self s.taken c.min-count.result part least
