use Rattle.std.proofs.Common.{◌≡◌, List, length, get_or, ap, arith, ◌∙◌}
use Rattle.std.specs.Prelude.{Vec}
use Rattle.std.specs.List.{list_all}
use Rattle.flt_step.specs.declared.step.Part.{Part}
use Rattle.flt_step.specs.Part.{part_of}
use Rattle.flt_watch.specs.Asked.{is_watched_part}
use Rattle.flt_watch.proofs.Watchable.{one_watched}
use Rattle.flt_watch.proofs.asking.is_watchable.Goals as goal

pub returns-in-len1 : goal.returns-in-len1
returns-in-len1 c =
    let lives = c.args.script.now.lives.items in
    let life = c.life-item.result in
    let value = c.as_slice.ensures.value in
    let size = ap length value in
    let one : length lives ≡ 1 = omega (arith, size, c.in-len1.len_at_least, c.in-len1.len_below) in
    let is : life ≡ get_or lives 0 life = c.life-item.is ∙ ap (λ (l : List (Vec Part _)). get_or l 0 life) value in
    c.are_watched.ensures ∙ ap (λ (parts : List Part). list_all (λ part. is_watched_part (part_of part)) parts) c.deref.ensures.value ∙ one_watched lives life one is
