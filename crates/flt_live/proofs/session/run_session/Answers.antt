use Rattle.std.proofs.Common.{inl, inr, refl}
use Rattle.flt_did.specs.Table.{dids_of}
use Rattle.flt_io.specs.Status.{status_number}
use Rattle.flt_script.specs.Fault.{script_fault_line, unread_line}
use Rattle.flt_script.specs.Script.{content}
use Rattle.flt_live.specs.Heard.{talk}
use Rattle.flt_live.specs.Session.{SessionHasCause, IsCutWith, Refused, Unreadable, reading}
use Rattle.flt_live.proofs.Closings.{line_told, session_of}
use Rattle.flt_live.proofs.Writings.{nothing_of}
use Rattle.flt_live.proofs.session.run_session.Goals as goal

pub returns-in-Script : goal.returns-in-Script
returns-in-Script g c =
    let config = reading (g.C.Source.left c.args.configuration.now) (g.C.Source.left c.fetch.new.source) (g.C.Source.faults c.args.configuration.now) (g.C.Source.faults c.fetch.new.source) in
    let before = talk (g.S.Source.left c.args.source.now) (g.S.Source.faults c.args.source.now) (g.K.Sink.held c.args.sink.now) (g.K.Sink.faults c.args.sink.now) in
    let after = talk (g.S.Source.left c.live_by.new.source) (g.S.Source.faults c.live_by.new.source) (g.K.Sink.held c.live_by.new.sink) (g.K.Sink.faults c.live_by.new.sink) in
    let fetched = c.in-Script.ensures in
    session_of g.H.Shelf.tells (dids_of c.args.dids) config before after (status_number c.live_by.result) (content c.in-Script.script) fetched.0 fetched.1 c.live_by.ensures

pub returns-in-Refused : goal.returns-in-Refused
returns-in-Refused g c =
    let config = reading (g.C.Source.left c.args.configuration.now) (g.C.Source.left c.fetch.new.source) (g.C.Source.faults c.args.configuration.now) (g.C.Source.faults c.fetch.new.source) in
    let left = g.S.Source.left c.args.source.now in
    let reads = g.S.Source.faults c.args.source.now in
    let before = talk left reads (g.K.Sink.held c.args.sink.now) (g.K.Sink.faults c.args.sink.now) in
    let after = talk left reads (g.K.Sink.held c.write_script_fault.new.sink) (g.K.Sink.faults c.write_script_fault.new.sink) in
    line_told g.K.Sink.held g.K.Sink.faults c.args.sink.now c.write_script_fault.new.sink reads reads left left (SessionHasCause g.H.Shelf.tells (dids_of c.args.dids) config before after) (IsCutWith g.H.Shelf.tells (dids_of c.args.dids) config before after) (Refused c.in-Refused.fault)
    (script_fault_line c.in-Refused.fault) c.write_script_fault.result (status_number c.status_told.result) (λ told. (c.in-Refused.ensures.0, c.in-Refused.ensures.1, told)) (λ front. inr (inl (c.in-Refused.fault, front))) c.write_script_fault.ensures c.status_told.ensures

pub returns-in-Failed : goal.returns-in-Failed
returns-in-Failed g c =
    let config = reading (g.C.Source.left c.args.configuration.now) (g.C.Source.left c.fetch.new.source) (g.C.Source.faults c.args.configuration.now) (g.C.Source.faults c.fetch.new.source) in
    let left = g.S.Source.left c.args.source.now in
    let reads = g.S.Source.faults c.args.source.now in
    let before = talk left reads (g.K.Sink.held c.args.sink.now) (g.K.Sink.faults c.args.sink.now) in
    let after = talk left reads (g.K.Sink.held c.write_unread.new.sink) (g.K.Sink.faults c.write_unread.new.sink) in
    line_told g.K.Sink.held g.K.Sink.faults c.args.sink.now c.write_unread.new.sink reads reads left left (SessionHasCause g.H.Shelf.tells (dids_of c.args.dids) config before after) (IsCutWith g.H.Shelf.tells (dids_of c.args.dids) config before after)
    Unreadable unread_line c.write_unread.result _ (λ told. (c.in-Failed.ensures, told)) (λ front. inl front) c.write_unread.ensures c.status_told-in-Failed.ensures

pub returns-in-Memory : goal.returns-in-Memory
returns-in-Memory g c = inr (inl refl, inl (nothing_of (g.K.Sink.held c.args.sink.now) unread_line))
