use Rattle.std.proofs.Common.{arith}
use Rattle.flt_dump.proofs.Passed.{few_lines}
use Rattle.flt_dump.proofs.reading.read_dump.Goals as goal

pub overflow_add-image : goal.overflow_add-image
overflow_add-image g c =
    let few = few_lines c.args.bytes.now c.in-Some.image c.in-Some.ensures.found c.in-Ok.ensures.short in
    omega (arith, few)

pub read_pages-requires : goal.read_pages-requires
read_pages-requires g c =
    let few = few_lines c.args.bytes.now c.in-Some.image c.in-Some.ensures.found c.in-Ok.ensures.short in
    omega (arith, few, c.from-count.ensures, c.config.ensures.valid.pages)
