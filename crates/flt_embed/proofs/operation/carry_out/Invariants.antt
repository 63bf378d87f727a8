use Rattle.std.proofs.Common.{◌≡◌, drop, length}
use Rattle.flt_embed.specs.Carried.{carried}
use Rattle.flt_embed.proofs.operation.carry_out.Given as goal

abbrev pub invariant-loop-operation : goal.invariant-loop-operation
invariant-loop-operation l = record {
  image : carried l.pages (drop l.operation-index l.operations) l.image.items ≡ carried l.pages l.operations l.initial.image.items;
  size : length l.image.items ≡ length l.initial.image.items;
}
