use Rattle.std.proofs.Common.{List, inl, inr, refl, subst, rules, Global}
use Rattle.std.specs.Prelude.{IsTrue, Vec}
use Rattle.flt_step.specs.declared.step.Part.{Part}
use Rattle.flt_life_model.specs.Lives.{lists}
use Rattle.flt_script.specs.Script.{content}
use Rattle.flt_live.specs.Heard.{talk}
use Rattle.flt_live.specs.Session.{HasFailed, AreIdleLives, Ended, Unread}
use Rattle.flt_live.proofs.Closings.{cut_for_memory, shelf_ends}
use Rattle.flt_live.proofs.session.live_by.Goals as goal

pub returns-in-Ok-live_on : goal.returns-in-Ok-live_on
returns-in-Ok-live_on g c =
    let yes : IsTrue c.is_idle.result = search rules in
    let idle = subst (λ (l : List (Vec Part Global)). AreIdleLives (lists l)) c.deref.ensures.value (c.is_idle.ensures.0 yes) in
    let lived = c.in-Ok-live_on.ensures.lived in
    inl (record { end = Ended lived.0; cause = (idle, lived.2); status_is = lived.1 })

pub returns-in-Err-Unread : goal.returns-in-Err-Unread
returns-in-Err-Unread g c =
    let yes : IsTrue c.is_idle.result = search rules in
    let idle = subst (λ (l : List (Vec Part Global)). AreIdleLives (lists l)) c.deref.ensures.value (c.is_idle.ensures.0 yes) in
    let before = talk (g.S.Source.left c.args.source.now) (g.S.Source.faults c.args.source.now) (g.K.Sink.held c.args.sink.now) (g.K.Sink.faults c.args.sink.now) in
    let after = talk (g.S.Source.left c.live_on.new.source) (g.S.Source.faults c.live_on.new.source) (g.K.Sink.held c.live_on.new.sink) (g.K.Sink.faults c.live_on.new.sink) in
    let failed = subst (HasFailed g.H.Shelf.tells c.args.script.now.config before after) c.in-Err-Unread.field-0-is c.in-Err-Unread.ensures.failed in
    inl (record { end = Unread; cause = (idle, failed); status_is = refl })

pub returns-in-Err-Shelf : goal.returns-in-Err-Shelf
returns-in-Err-Shelf g c =
    let yes : IsTrue c.is_idle.result = search rules in
    let idle = subst (λ (l : List (Vec Part Global)). AreIdleLives (lists l)) c.deref.ensures.value (c.is_idle.ensures.0 yes) in
    let before = talk (g.S.Source.left c.args.source.now) (g.S.Source.faults c.args.source.now) (g.K.Sink.held c.args.sink.now) (g.K.Sink.faults c.args.sink.now) in
    let between = talk (g.S.Source.left c.live_on.new.source) (g.S.Source.faults c.live_on.new.source) (g.K.Sink.held c.live_on.new.sink) (g.K.Sink.faults c.live_on.new.sink) in
    let after = talk (g.S.Source.left c.live_on.new.source) (g.S.Source.faults c.live_on.new.source) (g.K.Sink.held c.tell_shelf.new.sink) (g.K.Sink.faults c.tell_shelf.new.sink) in
    let failed = subst (HasFailed g.H.Shelf.tells c.args.script.now.config before between) c.in-Err-Shelf.field-0-is c.in-Err-Shelf.ensures.failed in
    shelf_ends g.H.Shelf.tells (content c.args.script.now) c.in-Err-Shelf.fault before between after _ idle failed.0 refl failed.1 c.tell_shelf.ensures.written c.tell_shelf.ensures.status

pub returns-in-Err-Unwritten : goal.returns-in-Err-Unwritten
returns-in-Err-Unwritten g c =
    let before = talk (g.S.Source.left c.args.source.now) (g.S.Source.faults c.args.source.now) (g.K.Sink.held c.args.sink.now) (g.K.Sink.faults c.args.sink.now) in
    let after = talk (g.S.Source.left c.live_on.new.source) (g.S.Source.faults c.live_on.new.source) (g.K.Sink.held c.live_on.new.sink) (g.K.Sink.faults c.live_on.new.sink) in
    let failed = subst (HasFailed g.H.Shelf.tells c.args.script.now.config before after) c.in-Err-Unwritten.field-0-is c.in-Err-Unwritten.ensures.failed in
    inr (inr (refl, failed.0), inl failed.1)

pub returns-in-Err-Memory : goal.returns-in-Err-Memory
returns-in-Err-Memory g c =
    let before = talk (g.S.Source.left c.args.source.now) (g.S.Source.faults c.args.source.now) (g.K.Sink.held c.args.sink.now) (g.K.Sink.faults c.args.sink.now) in
    let after = talk (g.S.Source.left c.live_on.new.source) (g.S.Source.faults c.live_on.new.source) (g.K.Sink.held c.live_on.new.sink) (g.K.Sink.faults c.live_on.new.sink) in
    let failed = subst (HasFailed g.H.Shelf.tells c.args.script.now.config before after) c.in-Err-Memory.field-0-is c.in-Err-Memory.ensures.failed in
    inr (inl refl, cut_for_memory g.H.Shelf.tells (content c.args.script.now) before after failed)
