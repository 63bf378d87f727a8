use Rattle.std.proofs.Common.{ℕ, List, ◌++◌, drop, length, ap}
use Rattle.flt_flash.specs.Image.{blank_page}
use Rattle.flt_pages.proofs.append.fill_up.Goals as goal

pub returns : goal.returns
unfolding blank_page
returns c = ap (λ (l : List ℕ). l ++ drop (length c.args.bytes.now) blank_page) c.copy_from_slice.ensures.after
