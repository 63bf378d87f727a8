use Rattle.std.specs.String.{string_bytes}
use Rattle.std.proofs.lemmas.List.{map-set}
use Rattle.flt_trace.proofs.answers.answering.put_at.Goals as goal

pub returns-then-place-len : goal.returns-then-place-len
returns-then-place-len c = map-set string_bytes c.args.texts.now.items c.args.place c.args.text
