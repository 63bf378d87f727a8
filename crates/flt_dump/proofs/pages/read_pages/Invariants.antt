use Rattle.std.proofs.Common.{◌≡◌, ◌+◌, ◌-◌, vec_len}
use Rattle.std.specs.Vec.{vec_capacity}
use Rattle.flt_script.specs.Text.{lines_of}
use Rattle.flt_dump.specs.Dump.{pages_spelled}
use Rattle.flt_dump.proofs.Paging.{before_pages}
use Rattle.flt_dump.proofs.pages.read_pages.Given as goal

abbrev pub invariant-loop-index : goal.invariant-loop-index
invariant-loop-index l = record {
  many : vec_len l.pages ≡ l.index;
  room : vec_capacity l.pages ≡ l.fn.count;
  pages : pages_spelled l.fn.first l.fn.count (lines_of l.fn.text) ≡ before_pages l.pages.items (pages_spelled (l.fn.first + l.index) (l.fn.count - l.index) (lines_of l.rest));
}
