use Rattle.std.proofs.Common.{◌≡◌, ◌<◌, ◌+◌, ◌-◌, length, take, drop, ap, sym, ◌∙◌, arith, length-drop, rules}
use Rattle.std.proofs.lemmas.List.{nil_from_length, take_all}
use Rattle.flt_script.specs.Text.{lines_of}
use Rattle.flt_script.proofs.Lines.{lines_of-nil, lines_of_ended, lines_of_rest}
use Rattle.flt_script.proofs.text.split_line.Goals as goal

pub returns-then-is_empty : goal.returns-then-is_empty
returns-then-is_empty c = ap lines_of (nil_from_length c.args.text.now (search rules)) ∙ lines_of-nil

pub returns-in-Some-place_of_feed : goal.returns-in-Some-place_of_feed
returns-in-Some-place_of_feed c =
    let text = c.args.text.now in
    let end = c.in-Some-place_of_feed.end in
    let behind = drop (end + 1) text in
    let all : take (length text - (end + 1)) behind ≡ behind = take_all (length text - (end + 1)) behind (omega (arith, length-drop (end + 1) text)) in
    rw (all, c.new.ensures, c.without_return.ensures) (lines_of_ended text end (sym c.place_of_feed.ensures ∙ c.in-Some-place_of_feed.is))

pub returns-in-None : goal.returns-in-None
returns-in-None c =
    let some : 0 < length c.args.text.now = search rules in
    rw c.new-in-None.ensures (lines_of_rest c.args.text.now some (sym c.place_of_feed.ensures ∙ c.in-None.is))
