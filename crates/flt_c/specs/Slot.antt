-- What a slot owns: the same as a box.
use base.Fml.{Fml}
use denote.RawPtr.{Ptr}
use Rattle.std.specs.Box.Ownership.{box_owns}
use Rattle.std.specs.Global.{Global}
use Rattle.std_heap.specs.contracts.GlobalAllocator.TheImpl.{ghosts}
use Rattle.flt_c.specs.contracts.inner.Inner.{the_row}

abbrev pub slot_owns : Global → Ptr → the_row.Denot → Fml
slot_owns alloc = box_owns (ghosts.dealloc_token alloc) the_row
