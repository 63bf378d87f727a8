use Rattle.std.proofs.Common.{◌≤◌, inr, sym, ap, arith}
use Rattle.flt_flash.specs.Image.{sector_at}
use Rattle.flt_flash.proofs.Following.{no_reads, reads_on}
use Rattle.flt_sector_model.specs.declared.log.Item.{Item}
use Rattle.flt_sector_model.specs.declared.log.Item.TheVariants.{End, Torn, Kept}
use Rattle.flt_pages.specs.First.{reads_of}
use Rattle.flt_pages.specs.Told.{told}
use Rattle.flt_pages.proofs.items.item.Goals as goal

pub returns-then-page-used-clause-reads : goal.returns-then-page-used-clause-reads
returns-then-page-used-clause-reads g c = no_reads (g.F.Flash.state c.args.flash.now)

pub read-requires-clause-page : goal.read-requires-clause-page
read-requires-clause-page g c = omega (arith, c.requires.used, c.requires.page)

pub returns-in_err-head-clause-reads : goal.returns-in_err-head-clause-reads
returns-in_err-head-clause-reads g c = c.in_err-head.ensures.reads

pub returns-in_err-head-clause-operations : goal.returns-in_err-head-clause-operations
returns-in_err-head-clause-operations g c = omega (arith, c.in_err-head.ensures.operations)

pub read-requires-in-Record-clause-page : goal.read-requires-in-Record-clause-page
read-requires-in-Record-clause-page g c = omega (arith, c.in-Record.ensures.gate, c.in_ok-head.ensures.reads.runs.pages, c.requires.used)

pub returns-in_err-bytes-in-Record-clause-reads : goal.returns-in_err-bytes-in-Record-clause-reads
returns-in_err-bytes-in-Record-clause-reads g c = reads_on c.in_ok-head.ensures.reads c.in_err-bytes-in-Record.ensures.reads

pub returns-in_err-bytes-in-Record-clause-operations : goal.returns-in_err-bytes-in-Record-clause-operations
returns-in_err-bytes-in-Record-clause-operations g c = omega (arith, c.in_ok-head.ensures.operations, c.in_err-bytes-in-Record.ensures.operations)

pub returns-in-Whole-clause-item : goal.returns-in-Whole-clause-item
returns-in-Whole-clause-item g c =
    inr (sym (ap (told c.args.sector) (c.in-Whole.ensures.means (sector_at (g.F.Flash.state c.args.flash.now).image c.args.sector) (sym c.in_ok-head.ensures.read))))

pub returns-in-Whole-clause-reads : goal.returns-in-Whole-clause-reads
returns-in-Whole-clause-reads g c = c.in_ok-head.ensures.reads

pub returns-in-Whole-clause-operations : goal.returns-in-Whole-clause-operations
returns-in-Whole-clause-operations g c = omega (arith, c.in_ok-head.ensures.operations)

pub returns-in-Damaged-clause-item : goal.returns-in-Damaged-clause-item
returns-in-Damaged-clause-item g c =
    inr (sym (ap (told c.args.sector) (c.in-Damaged.ensures.means (sector_at (g.F.Flash.state c.args.flash.now).image c.args.sector) (sym c.in_ok-head.ensures.read))))

pub returns-in-Damaged-clause-reads : goal.returns-in-Damaged-clause-reads
returns-in-Damaged-clause-reads g c = c.in_ok-head.ensures.reads

pub returns-in-Damaged-clause-operations : goal.returns-in-Damaged-clause-operations
returns-in-Damaged-clause-operations g c = omega (arith, c.in_ok-head.ensures.operations)

pub returns-in-Some-clause-reads : goal.returns-in-Some-clause-reads
returns-in-Some-clause-reads g c = reads_on c.in_ok-head.ensures.reads c.in_ok-bytes-in-Record.ensures.reads

pub returns-in-Some-clause-operations : goal.returns-in-Some-clause-operations
returns-in-Some-clause-operations g c = omega (arith, c.in_ok-head.ensures.operations, c.in_ok-bytes-in-Record.ensures.operations)

pub returns-in-None-clause-reads : goal.returns-in-None-clause-reads
returns-in-None-clause-reads g c = reads_on c.in_ok-head.ensures.reads c.in_ok-bytes-in-Record.ensures.reads

pub returns-in-None-clause-operations : goal.returns-in-None-clause-operations
returns-in-None-clause-operations g c = omega (arith, c.in_ok-head.ensures.operations, c.in_ok-bytes-in-Record.ensures.operations)

one_at_least : (item : Item) → 1 ≤ reads_of item
one_at_least End = omega arith
one_at_least Torn = omega arith
one_at_least (Kept block length valid complete) = omega arith

pub returns-in-Whole-clause-costs : goal.returns-in-Whole-clause-costs
returns-in-Whole-clause-costs g c = omega (arith, c.in_ok-head.ensures.operations, one_at_least c.in-Whole.item)

pub returns-in-Some-clause-costs : goal.returns-in-Some-clause-costs
returns-in-Some-clause-costs g c = omega (arith, c.in_ok-head.ensures.operations, c.in_ok-bytes-in-Record.ensures.operations)
