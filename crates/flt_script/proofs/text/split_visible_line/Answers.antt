use Rattle.std.proofs.Common.{◌≡◌, ◌+◌, ◌-◌, length, take, drop, get_or, sym, ◌∙◌, arith, length-drop, rules}
use Rattle.std.proofs.lemmas.List.{take_all}
use Rattle.flt_script.proofs.Lines.{plain_line, lines_of_visible}
use Rattle.flt_script.proofs.text.split_visible_line.Goals as goal

pub invariant_of-line : goal.invariant_of-line
invariant_of-line c = record {
  told = sym (plain_line c.args.text.now c.in_ok-end.end (sym c.end_of_visible.ensures ∙ c.in_ok-end.was));
}

pub returns : goal.returns
returns c =
    let text = c.args.text.now in
    let end = c.in_ok-end.end in
    let behind = drop (end + 1) text in
    let all : take (length text - (end + 1)) behind ≡ behind = take_all (length text - (end + 1)) behind (omega (arith, length-drop (end + 1) text)) in
    let feed : get_or text end 0 ≡ 10 = search rules in
    rw all (lines_of_visible text end (sym c.end_of_visible.ensures ∙ c.in_ok-end.was) feed)
