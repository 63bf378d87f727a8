use Rattle.std.proofs.Common.{◌∙◌, ℕ, List, length, sym, ap, arith}
use Rattle.flt_flash.specs.Content.{bytes}
use Rattle.flt_flash.specs.Blocks.{record_pages}
use Rattle.flt_nvm.specs.Driver.{driver_of}
use Rattle.flt_store_model.specs.Layout.{number_of, part_of_block}
use Rattle.flt_store_model.proofs.Pages.{own_part}
use Rattle.flt_store_model.specs.Successor.{is_written}
use Rattle.flt_store_model.proofs.Choices.{chosen}
use Rattle.flt_image.specs.Blocks.{bytes_at}
use Rattle.flt_image.proofs.Sizing.{part_short}
use Rattle.flt_store.proofs.TableUse.{part_index, part_fits, part_alone}
use Rattle.flt_store.proofs.Causes.{given_within, no_write, none_written, one_write}
use Rattle.flt_store.proofs.Costs.{job_spends, spends_less, spends_nothing}
use Rattle.flt_store.proofs.Running.{fresh_on_ok, on_ok}
use Rattle.flt_store.proofs.Successors.{some_length, used_of}
use Rattle.flt_store.proofs.Writing.{only_written}
use Rattle.flt_store.proofs.generation.write_moved.Goals as goal

pub write-requires-clause-index : goal.write-requires-clause-index
write-requires-clause-index g c =
    let moves = c.requires.writable.indices c.args.id (sym c.is_written.ensures ∙ c.if-is_written.true) in
    part_index _ c.requires.table c.args.id c.requires.first c.requires.end _ (omega (arith, moves, c.index_of.ensures))

pub write-requires-clause-least : goal.write-requires-clause-least
write-requires-clause-least g c =
    let used = used_of c.args.config.now c.args.current.now c.args.next.now c.args.id (sym c.is_written.ensures ∙ c.if-is_written.true) in
    let size = ap (λ (raw : List ℕ). length raw) c.get.ensures ∙ c.requires.writable.sizes c.args.id used in
    let some = some_length (part_of_block c.args.id) in
    omega (arith, some, size)

pub write-requires-clause-fits : goal.write-requires-clause-fits
write-requires-clause-fits g c =
    let used = used_of c.args.config.now c.args.current.now c.args.next.now c.args.id (sym c.is_written.ensures ∙ c.if-is_written.true) in
    let size = ap (λ (raw : List ℕ). length raw) c.get.ensures ∙ c.requires.writable.sizes c.args.id used in
    part_fits _ c.requires.table c.args.id c.requires.first c.requires.end _ (omega (arith, size))

pub returns-then-is_written-clause-written : goal.returns-then-is_written-clause-written
returns-then-is_written-clause-written g c =
    let after = driver_of c.write.new.self in
    let gives = part_alone _ c.requires.table c.args.id c.requires.first c.requires.end _ _ c.write.ensures.gives in
    on_ok c.write.result (λ is written. ap (λ (index : ℕ). after.value (number_of c.args.id index)) (sym c.index_of.ensures) ∙ is ∙ ap bytes c.get.ensures) gives.holds_asked

pub returns-then-is_written-clause-only : goal.returns-then-is_written-clause-only
returns-then-is_written-clause-only g c =
    let written = sym c.is_written.ensures ∙ c.if-is_written.true in
    let gives = part_alone _ c.requires.table c.args.id c.requires.first c.requires.end _ _ c.write.ensures.gives in
    only_written c.args.config.now c.args.current.now c.args.next.now (bytes_at c.args.blocks.now) c.args.id written (c.requires.writable.indices c.args.id written) (driver_of c.args.nvm.now) (driver_of c.write.new.self) c.index_of.result c.get.result.now _ c.write.result
    c.index_of.ensures c.get.ensures gives

pub returns-then-is_written-clause-own : goal.returns-then-is_written-clause-own
returns-then-is_written-clause-own g c =
    let before = driver_of c.args.nvm.now in
    let after = driver_of c.write.new.self in
    let written = sym c.is_written.ensures ∙ c.if-is_written.true in
    let used = used_of c.args.config.now c.args.current.now c.args.next.now c.args.id written in
    let index = c.index_of.result in
    let moves = c.requires.writable.indices c.args.id written in
    let own = own_part c.args.config.now c.args.id index used (omega (arith, moves, c.index_of.ensures)) in
    let size = ap (λ (raw : List ℕ). length raw) c.get.ensures ∙ c.requires.writable.sizes c.args.id used in
    let pages = ap record_pages size in
    let short = part_short (part_of_block c.args.id) in
    let gives = part_alone _ c.requires.table c.args.id c.requires.first c.requires.end _ _ c.write.ensures.gives in
    record {
      within = given_within c.args.config.now before after (number_of c.args.id index) _ _ c.write.result gives (omega (arith, own, pages));
      not_stale = λ fresh. fresh_on_ok c.write.result after c.write.ensures.stale;
      writes = one_write before after c.write.result c.write.ensures.calls c.write.ensures.three _ _ _ (omega (arith, size, short)) gives;
    }

pub returns-else-is_written-clause-own : goal.returns-else-is_written-clause-own
returns-else-is_written-clause-own g c =
    let state = driver_of c.args.nvm.now in
    record { within = none_written c.args.config.now state.value; not_stale = λ fresh. fresh; writes = no_write state }

pub returns-then-is_written-clause-spends : goal.returns-then-is_written-clause-spends
returns-then-is_written-clause-spends g c = λ most.
    let written = sym c.is_written.ensures ∙ c.if-is_written.true in
    let used = used_of c.args.config.now c.args.current.now c.args.next.now c.args.id written in
    let short = part_short (part_of_block c.args.id) in
    let size = ap (λ (raw : List ℕ). length raw) c.get.ensures in
    let sized = c.requires.writable.sizes c.args.id used in
    let pages = chosen (is_written c.args.config.now c.args.current.now c.args.next.now c.args.id) (record_pages (length (bytes_at c.args.blocks.now c.args.id))) 0 written in
    let limit = chosen (is_written c.args.config.now c.args.current.now c.args.next.now c.args.id) most 0 written in
    let job = part_alone _ c.requires.table c.args.id c.requires.first c.requires.end _ _ c.write.ensures.jobs in
    spends_less most (driver_of c.args.nvm.now) (driver_of c.write.new.self) _ _ _ _ (omega (arith, ap record_pages size, pages)) (omega (arith, limit))
    (job_spends _ _ _ most (omega (arith, size, sized, short)) (driver_of c.args.nvm.now) (driver_of c.write.new.self) c.write.result job)

pub returns-else-is_written-clause-spends : goal.returns-else-is_written-clause-spends
returns-else-is_written-clause-spends g c = λ most. spends_less most (driver_of c.args.nvm.now) (driver_of c.args.nvm.now) 0 _ 0 _ (omega arith) (omega arith) (spends_nothing most (driver_of c.args.nvm.now))
