use Rattle.std.proofs.Common.{Bool, sym, ap, subst}
use Rattle.std.specs.Prelude.{is_none}
use Rattle.flt_did.specs.Table.{dids_of}
use Rattle.flt_io.specs.Status.{status_number}
use Rattle.flt_live.specs.Heard.{talk}
use Rattle.flt_live.specs.Session.{IsSession, reading}
use Rattle.flt_live.proofs.program.hold.Goals as goal

pub returns-in-Some : goal.returns-in-Some
returns-in-Some g c =
    let before = talk (g.S.Source.left c.args.source.now) (g.S.Source.faults c.args.source.now) (g.K.Sink.held c.args.sink.now) (g.K.Sink.faults c.args.sink.now) in
    let after = talk (g.S.Source.left c.run_session.new.source) (g.S.Source.faults c.run_session.new.source) (g.K.Sink.held c.run_session.new.sink) (g.K.Sink.faults c.run_session.new.sink) in
    let config = reading (g.C.Source.left c.args.configuration.now) (g.C.Source.left c.run_session.new.configuration) (g.C.Source.faults c.args.configuration.now) (g.C.Source.faults c.run_session.new.configuration) in
    (config, subst (λ (tells : Bool). IsSession tells (dids_of c.args.dids) config before after (status_number c.run_session.result)) (sym (ap is_none c.in-Some.is)) c.run_session.ensures)

pub returns-in-None : goal.returns-in-None
returns-in-None g c =
    let before = talk (g.S.Source.left c.args.source.now) (g.S.Source.faults c.args.source.now) (g.K.Sink.held c.args.sink.now) (g.K.Sink.faults c.args.sink.now) in
    let after = talk (g.S.Source.left c.run_session-in-None.new.source) (g.S.Source.faults c.run_session-in-None.new.source) (g.K.Sink.held c.run_session-in-None.new.sink) (g.K.Sink.faults c.run_session-in-None.new.sink) in
    let config = reading (g.C.Source.left c.args.configuration.now) (g.C.Source.left c.run_session-in-None.new.configuration) (g.C.Source.faults c.args.configuration.now) (g.C.Source.faults c.run_session-in-None.new.configuration) in
    (config, subst (λ (tells : Bool). IsSession tells (dids_of c.args.dids) config before after (status_number c.run_session-in-None.result)) (sym (ap is_none c.in-None.is)) c.run_session-in-None.ensures)
