use Rattle.std.proofs.Common.{◌≡◌, ◌∙◌, Bool, Option, Some, inr, ap, map, subst, sym}
use Rattle.std.specs.Prelude.{is_none, option_map}
use Rattle.std.specs.String.{string_bytes}
use Rattle.flt_did.specs.Table.{dids_of}
use Rattle.flt_io.specs.Status.{status_number}
use Rattle.flt_live.specs.Heard.{talk}
use Rattle.flt_live.specs.Session.{IsProgram, session_in}
use Rattle.flt_live.proofs.program.run_live.Goals as goal

pub returns-in-Ok-open : goal.returns-in-Ok-open
returns-in-Ok-open g c =
    let before = talk (g.S.Source.left c.args.source.now) (g.S.Source.faults c.args.source.now) (g.K.Sink.held c.args.sink.now) (g.K.Sink.faults c.args.sink.now) in
    let after = talk (g.S.Source.left c.hold.new.source) (g.S.Source.faults c.hold.new.source) (g.K.Sink.held c.hold.new.sink) (g.K.Sink.faults c.hold.new.sink) in
    let asked : session_in (map string_bytes c.args.words.now) ≡ Some (is_none c.in-Some.image) = sym c.read_words.ensures ∙ ap (option_map (λ w. is_none w.1)) c.in-Some.is in
    subst (λ (o : Option Bool). IsProgram (dids_of c.args.dids) o before after (status_number c.hold.result)) (sym asked) (inr c.hold.ensures)
