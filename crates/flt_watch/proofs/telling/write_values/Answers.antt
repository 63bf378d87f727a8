use Rattle.std.proofs.Common.{◌++◌, rules}
use Rattle.flt_notify.specs.Table.{value_of_kind}
use Rattle.flt_report.proofs.Written.{front_behind, front_first, writes_next}
use Rattle.flt_watch.specs.Text.{value_text}
use Rattle.flt_watch.proofs.telling.write_values.Goals as goal

pub returns-in_err-write_value : goal.returns-in_err-write_value
returns-in_err-write_value g c =
    let value = value_of_kind c.args.subs.now in
    let front = front_first _ _ (value_text 0 (value 0)) (value_text 1 (value 1) ++ value_text 2 (value 2)) c.in_err-write_value.ensures.err in
    search (rules, front)

pub returns-in_err-write_value-2 : goal.returns-in_err-write_value-2
returns-in_err-write_value-2 g c =
    let value = value_of_kind c.args.subs.now in
    let front = front_behind _ _ _ (value_text 0 (value 0)) (value_text 1 (value 1)) (value_text 2 (value 2)) c.in_ok-write_value.ensures.ok c.in_err-write_value-2.ensures.err in
    search (rules, front)

pub returns : goal.returns
returns g c =
    let value = value_of_kind c.args.subs.now in
    let first = c.in_ok-write_value.ensures in
    let second = c.in_ok-write_value-2.ensures in
    writes_next (value_text 0 (value 0)) first.ok first.later (writes_next (value_text 1 (value 1)) second.ok second.later c.write_value-3.ensures)
