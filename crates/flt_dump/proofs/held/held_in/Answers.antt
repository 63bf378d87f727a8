use Rattle.std.proofs.Common.{◌≡◌, ◌∙◌, ℕ, Some, None, Err, sym, ap, arith, rules}
use Rattle.flt_flash.specs.Blocks.{BlocksState}
use Rattle.flt_sector_model.specs.Blocks.{block_value, first_fault}
use Rattle.flt_nvm.specs.Driver.{driver_of}
use Rattle.flt_store_model.specs.Image.{image_blocks, image_damage}
use Rattle.flt_dump.specs.Copy.{copy_state}
use Rattle.flt_dump.proofs.Holding.{told_damage, told_judged}
use Rattle.flt_dump.proofs.held.held_in.Goals as goal

pub returns-in-Err-Damaged : goal.returns-in-Err-Damaged
returns-in-Err-Damaged c =
    let image = (copy_state c.args.copy).image in
    let made = ap (λ (b : BlocksState). b.damage) c.in-Ok.ensures.made in
    let at : image_damage c.args.config.now image ≡ Some (c.in-Err-Damaged.sector, c.in-Err-Damaged.page) =
    sym (λ i. first_fault (c.config.ensures.value i).pages (c.in_ok-numbers.ensures i) image) ∙ sym made ∙ (c.in-Err-Damaged.ensures.calls.damaged c.in-Err-Damaged.sector c.in-Err-Damaged.page (ap Err c.in-Err-Damaged.field-0-is)).0 in
    told_damage c.args.config.now image c.in-Err-Damaged.sector c.in-Err-Damaged.page at

pub unreachable-requires-in-Err-Full : goal.unreachable-requires-in-Err-Full
unreachable-requires-in-Err-Full c = c.in-Err-Full.ensures.never_full.full c.in-Err-Full.field-0-0 c.in-Err-Full.field-0-1 (ap Err c.in-Err-Full.field-0-is)

pub returns : goal.returns
returns c =
    let config = c.args.config.now in
    let image = (copy_state c.args.copy).image in
    let before = driver_of c.make-nvm.result in
    let after = driver_of c.judge.new.nvm in
    let fine : image_damage config image ≡ None =
    sym (λ i. first_fault (c.config.ensures.value i).pages (c.in_ok-numbers.ensures i) image)
    ∙ sym (ap (λ (b : BlocksState). b.damage) c.in-Ok.ensures.made) ∙ c.in-Ok-mount.ensures.calls.refuses_damage in
    let same : (number : ℕ) → before.value number ≡ image_blocks config image number = λ number.
    ap (λ (b : BlocksState). b.value number) c.make-nvm.ensures.driver ∙ c.in-Ok-mount.ensures.values number
    ∙ ap (λ (b : BlocksState). b.value number) c.in-Ok.ensures.made
    ∙ (λ i. block_value (c.config.ensures.value i).pages (c.in_ok-numbers.ensures i) image number) in
    told_judged config image before after fine same (λ rose. omega (arith, rose)) c.judge.result c.map.result c.judge.new.out _ (λ found number counts. search rules)
    c.map.ensures.cases c.judge.ensures.restored c.judge.ensures.refused c.judge.ensures.unspent
