use Rattle.std.proofs.Common.{◌≡◌, ◌∙◌, ℕ, take, sym, subst, arith}
use Rattle.std.proofs.lemmas.List.{length-take-le}
use Rattle.flt_flash.specs.Content.{bytes}
use Rattle.flt_nvm.specs.Driver.{driver_of}
use Rattle.flt_store.proofs.TableUse.{commit_twice, commit_fits}
use Rattle.flt_store.proofs.Repairing.{content_read}
use Rattle.flt_store_tests.proofs.tests.rows.repair_first_copy.Goals as goal

pub read_copy-requires-clause-redundant : goal.read_copy-requires-clause-redundant
read_copy-requires-clause-redundant g c = commit_twice _ c.requires

pub slice_bounds-repair-end : goal.slice_bounds-repair-end
slice_bounds-repair-end g c = sym (length-take-le 10 c.read_copy.new.out (omega (arith, c.read_copy.array_long)))

pub repair-requires-clause-redundant : goal.repair-requires-clause-redundant
repair-requires-clause-redundant g c = commit_twice _ (c.read_copy.ensures.table ∙ c.requires)

pub repair-requires-clause-holds : goal.repair-requires-clause-holds
repair-requires-clause-holds g c =
    let got = rw c.in-Bytes-eq10-default.is at c.in_ok-read_copy.ensures.got in
    let size : c.in-Bytes-eq10-default.length ≡ 10 = omega (arith, c.in-Bytes-eq10-default.length-is) in
    c.read_copy.ensures.reads.values 17 ∙ subst (λ (n : ℕ). (driver_of c.args.nvm.now).value 17 ≡ bytes (take n c.read_copy.new.out)) size (content_read _ _ _ _ got.1)

pub repair-requires-clause-fits : goal.repair-requires-clause-fits
repair-requires-clause-fits g c = commit_fits _ (c.read_copy.ensures.table ∙ c.requires) _ (omega (arith, length-take-le 10 c.read_copy.new.out (omega (arith, c.read_copy.array_long))))
