use Rattle.std.proofs.Common.{◌≡◌, ℕ, ◌<◌, ap, ◌∙◌, get_or, arith}
use Rattle.flt_model.specs.Request.{asked}
use Rattle.flt_uds.proofs.Spelled.{each_is_read, told_is_spelled, all_bytes, cons_again}
use Rattle.flt_uds.proofs.reading.read.Goals as goal

pub returns-clause-spelled : goal.returns-clause-spelled
returns-clause-spelled c =
    let bytes = c.args.bytes.now in
    let exact : c.asked_of.result ≡ asked c.args.extended bytes = c.asked_of.ensures ∙ ap (asked c.args.extended) (cons_again bytes c.requires) in
    let small : (i : ℕ) → get_or bytes i 0 < 256 = λ i. let h = c.type_inv.bytes i in omega (arith, h) in
    told_is_spelled c.args.extended bytes c.asked_of.result (all_bytes bytes small) exact

pub returns-clause-every : goal.returns-clause-every
returns-clause-every c = λ answer request.
    let exact : c.asked_of.result ≡ asked c.args.extended c.args.bytes.now = c.asked_of.ensures ∙ ap (asked c.args.extended) (cons_again c.args.bytes.now c.requires) in
    exact ∙ each_is_read c.args.extended c.args.bytes.now answer request
