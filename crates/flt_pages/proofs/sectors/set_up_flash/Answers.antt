use Rattle.std.proofs.Common.{inl, ◌∙◌, arith}
use Rattle.flt_flash.proofs.Following.{runs_on, one_run}
use Rattle.flt_pages.proofs.Recording.{never_ok, on_fault}
use Rattle.flt_pages.proofs.SettingUp.{begin_failed, activated_fresh, done_fresh, wear_on}
use Rattle.flt_pages.proofs.sectors.set_up_flash.Goals as goal

pub returns-in_err-begin-clause-holds_nothing : goal.returns-in_err-begin-clause-holds_nothing
returns-in_err-begin-clause-holds_nothing g c =
    inl (begin_failed c.args.used c.requires.least (omega arith) (g.F.Flash.state c.args.flash.now) (g.met.F.Flash.shape c.args.flash.now) c.requires.most c.requires.none
    (g.F.Flash.state c.begin.new.flash) c.in_err-begin.ensures.begins.torn)

pub returns-clause-fresh : goal.returns-clause-fresh
returns-clause-fresh g c =
    done_fresh c.args.used c.requires.least (omega arith) (g.F.Flash.state c.args.flash.now) (g.met.F.Flash.shape c.args.flash.now) c.requires.most c.requires.none
    (g.F.Flash.state c.begin.new.flash) c.in_ok-begin.ensures.begins.holds_asked (g.F.Flash.state c.activate.new.flash) c.activate.result c.activate.ensures.appends

pub returns-clause-holds_nothing : goal.returns-clause-holds_nothing
returns-clause-holds_nothing g c =
    activated_fresh c.args.used c.requires.least (omega arith) (g.F.Flash.state c.args.flash.now) (g.met.F.Flash.shape c.args.flash.now) c.requires.most c.requires.none
    (g.F.Flash.state c.begin.new.flash) c.in_ok-begin.ensures.begins.holds_asked (g.F.Flash.state c.activate.new.flash) c.activate.result c.activate.ensures.appends

pub returns-clause-wear : goal.returns-clause-wear
returns-clause-wear g c = wear_on c.activate.result (c.activate.ensures.appends.wear ∙ c.in_ok-begin.ensures.begins.wear)

pub activate-requires-clause-page : goal.activate-requires-clause-page
activate-requires-clause-page g c = omega (arith, c.in_ok-begin.ensures.begins.runs.pages, c.requires.least, c.requires.most)

pub returns-in_err-begin-clause-fresh : goal.returns-in_err-begin-clause-fresh
returns-in_err-begin-clause-fresh g c = never_ok _ c.from_residual.result c.from_residual.ensures.0

pub returns-in_err-begin-clause-wear : goal.returns-in_err-begin-clause-wear
returns-in_err-begin-clause-wear g c = never_ok _ c.from_residual.result c.from_residual.ensures.0

pub returns-in_err-begin-clause-runs : goal.returns-in_err-begin-clause-runs
returns-in_err-begin-clause-runs g c = c.in_err-begin.ensures.begins.runs

pub returns-in_err-begin-clause-cause : goal.returns-in_err-begin-clause-cause
returns-in_err-begin-clause-cause g c = on_fault c.from_residual.result c.in_err-begin.ensures.begins.cause

pub returns-clause-runs : goal.returns-clause-runs
returns-clause-runs g c = runs_on c.in_ok-begin.ensures.begins.runs (one_run c.activate.ensures.appends.operation)
