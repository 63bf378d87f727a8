use Rattle.std.proofs.Common.{◌≡◌, ◌+◌, ◌≤◌, ◌∙◌, ℕ, List, None, sym, subst, arith}
use Rattle.flt_flash.proofs.Following.{runs_on, one_run}
use Rattle.flt_sector_model.specs.Log.{log}
use Rattle.flt_pages.specs.LogHolds.{LogHolds}
use Rattle.flt_pages.specs.Live.{held_in, current_pages}
use Rattle.flt_pages.specs.RecordPlace.{TellsPlaces}
use Rattle.flt_pages.proofs.Recording.{never_if, on_fault}
use Rattle.flt_pages.proofs.Switching.{switch_unbegun, begun_blank, source_stays, keeps_inactive, active_blank, goes_over, table_over, activation_left}
use Rattle.flt_pages.proofs.sectors.switch_sectors.Goals as goal

pub returns-in_err-begin-clause-values : goal.returns-in_err-begin-clause-values
returns-in_err-begin-clause-values g c =
    switch_unbegun c.args.at c.args.numbers.now (g.F.Flash.state c.args.flash.now) (g.met.F.Flash.shape c.args.flash.now) c.requires.can.least (omega arith) c.requires.can.source.log.most
    c.requires.can.current c.requires.can.source.log.sound c.requires.can.next (g.F.Flash.state c.begin.new.flash) c.in_err-begin.ensures.begins.torn

pub copy_blocks-requires-clause-other : goal.copy_blocks-requires-clause-other
copy_blocks-requires-clause-other g c =
    begun_blank c.args.at c.args.numbers.now (g.F.Flash.state c.args.flash.now) (g.met.F.Flash.shape c.args.flash.now) c.requires.can.least (omega arith) c.requires.can.source.log.most
    c.requires.can.current c.requires.can.source.log.sound c.requires.can.next (g.F.Flash.state c.begin.new.flash) (g.met.F.Flash.shape c.begin.new.flash) c.in_ok-begin.ensures.begins.holds_asked

pub returns-in_err-end-clause-values : goal.returns-in_err-end-clause-values
returns-in_err-end-clause-values g c =
    let copies = c.in_err-end.ensures.copies in
    keeps_inactive c.args.at c.args.numbers.now (g.F.Flash.state c.args.flash.now) (g.met.F.Flash.shape c.args.flash.now) c.requires.can.least (omega arith) c.requires.can.source.log.most
    c.requires.can.current c.requires.can.source.log.sound c.requires.can.next (g.F.Flash.state c.begin.new.flash) (g.met.F.Flash.shape c.begin.new.flash) c.in_ok-begin.ensures.begins.holds_asked
    (g.F.Flash.state c.copy_blocks.new.flash) copies.written.pages copies.written.on copies.written.gates

pub activate-requires-clause-blank : goal.activate-requires-clause-blank
activate-requires-clause-blank g c =
    let copies = c.in_ok-end.ensures.copies in
    active_blank c.args.at c.args.numbers.now (g.F.Flash.state c.args.flash.now) (g.met.F.Flash.shape c.args.flash.now) c.requires.can.least (omega arith) c.requires.can.source.log.most
    c.requires.can.current c.requires.can.source.log.sound c.requires.can.next (g.F.Flash.state c.begin.new.flash) (g.met.F.Flash.shape c.begin.new.flash) c.in_ok-begin.ensures.begins.holds_asked
    (g.F.Flash.state c.copy_blocks.new.flash) copies.written.pages copies.written.on copies.written.gates

pub returns-in_err-activate-clause-values : goal.returns-in_err-activate-clause-values
returns-in_err-activate-clause-values g c =
    let copies = c.in_ok-end.ensures.copies in
    let source = source_stays c.args.at c.args.numbers.now (g.F.Flash.state c.args.flash.now) (g.met.F.Flash.shape c.args.flash.now) c.requires.can.least (omega arith) c.requires.can.source.log.most
    c.requires.can.current c.requires.can.source.log.sound c.requires.can.next (g.F.Flash.state c.begin.new.flash) (g.met.F.Flash.shape c.begin.new.flash) c.in_ok-begin.ensures.begins.holds_asked in
    activation_left c.args.at c.args.numbers.now (g.F.Flash.state c.args.flash.now) (g.met.F.Flash.shape c.args.flash.now) c.requires.can.least (omega arith) c.requires.can.source.log.most
    c.requires.can.current c.requires.can.source.log.sound c.requires.can.next (g.F.Flash.state c.begin.new.flash) (g.met.F.Flash.shape c.begin.new.flash) c.in_ok-begin.ensures.begins.holds_asked
    (g.F.Flash.state c.copy_blocks.new.flash) copies.written.pages copies.written.on copies.written.gates c.in_ok-end.end
    (subst (λ (p : List (List ℕ)). LogHolds c.args.at.used c.args.numbers.now copies.written.pages c.in_ok-end.end (held_in c.args.at.used c.args.numbers.now p)) source copies.holds)
    (g.F.Flash.state c.activate.new.flash) c.activate.result c.activate.ensures.appends

pub returns-clause-switched : goal.returns-clause-switched
returns-clause-switched g c =
    let copies = c.in_ok-end.ensures.copies in
    let source = source_stays c.args.at c.args.numbers.now (g.F.Flash.state c.args.flash.now) (g.met.F.Flash.shape c.args.flash.now) c.requires.can.least (omega arith) c.requires.can.source.log.most
    c.requires.can.current c.requires.can.source.log.sound c.requires.can.next (g.F.Flash.state c.begin.new.flash) (g.met.F.Flash.shape c.begin.new.flash) c.in_ok-begin.ensures.begins.holds_asked in
    let room = subst (λ (p : List (List ℕ)). c.in_ok-end.end ≤ 2 + current_pages c.args.at.used c.args.numbers.now p) source copies.room in
    record {
      stands = goes_over c.args.at c.args.numbers.now (g.F.Flash.state c.args.flash.now) (g.met.F.Flash.shape c.args.flash.now) c.requires.can.least (omega arith) c.requires.can.source.log.most
          c.requires.can.current c.requires.can.source.log.sound c.requires.can.next (g.F.Flash.state c.begin.new.flash) (g.met.F.Flash.shape c.begin.new.flash) c.in_ok-begin.ensures.begins.holds_asked
          (g.F.Flash.state c.copy_blocks.new.flash) copies.written.pages copies.written.on copies.written.gates c.in_ok-end.end
          (subst (λ (p : List (List ℕ)). LogHolds c.args.at.used c.args.numbers.now copies.written.pages c.in_ok-end.end (held_in c.args.at.used c.args.numbers.now p)) source copies.holds)
          (g.F.Flash.state c.activate.new.flash) c.in_ok-activate.ensures.appends.holds_asked;
      table = table_over c.args.at c.args.numbers.now (g.F.Flash.state c.args.flash.now) (g.met.F.Flash.shape c.args.flash.now) c.requires.can.least (omega arith) c.requires.can.source.log.most
          c.requires.can.current c.requires.can.source.log.sound c.requires.can.next (g.F.Flash.state c.begin.new.flash) (g.met.F.Flash.shape c.begin.new.flash) c.in_ok-begin.ensures.begins.holds_asked
          (g.F.Flash.state c.copy_blocks.new.flash) copies.written.pages copies.written.on copies.written.gates c.in_ok-end.end c.copy_blocks.new.places c.in_ok-end.ensures.table
          (g.F.Flash.state c.activate.new.flash) c.in_ok-activate.ensures.appends.holds_asked;
      moves = record {
        room = room;
        erases = record {
          operations = omega (arith, c.in_ok-begin.ensures.begins.operations, c.in_ok-end.ensures.operations, room, c.in_ok-activate.ensures.appends.operation.operations);
          wear = c.in_ok-activate.ensures.appends.wear ∙ copies.written.on.wear ∙ c.in_ok-begin.ensures.begins.wear;
        };
      };
    }

pub returns-clause-values : goal.returns-clause-values
returns-clause-values g c =
    let copies = c.in_ok-end.ensures.copies in
    let source = source_stays c.args.at c.args.numbers.now (g.F.Flash.state c.args.flash.now) (g.met.F.Flash.shape c.args.flash.now) c.requires.can.least (omega arith) c.requires.can.source.log.most
    c.requires.can.current c.requires.can.source.log.sound c.requires.can.next (g.F.Flash.state c.begin.new.flash) (g.met.F.Flash.shape c.begin.new.flash) c.in_ok-begin.ensures.begins.holds_asked in
    activation_left c.args.at c.args.numbers.now (g.F.Flash.state c.args.flash.now) (g.met.F.Flash.shape c.args.flash.now) c.requires.can.least (omega arith) c.requires.can.source.log.most
    c.requires.can.current c.requires.can.source.log.sound c.requires.can.next (g.F.Flash.state c.begin.new.flash) (g.met.F.Flash.shape c.begin.new.flash) c.in_ok-begin.ensures.begins.holds_asked
    (g.F.Flash.state c.copy_blocks.new.flash) copies.written.pages copies.written.on copies.written.gates c.in_ok-end.end
    (subst (λ (p : List (List ℕ)). LogHolds c.args.at.used c.args.numbers.now copies.written.pages c.in_ok-end.end (held_in c.args.at.used c.args.numbers.now p)) source copies.holds)
    (g.F.Flash.state c.activate.new.flash) c.activate.result c.activate.ensures.appends

pub returns-clause-runs : goal.returns-clause-runs
returns-clause-runs g c = runs_on c.in_ok-begin.ensures.begins.runs (runs_on c.in_ok-end.ensures.copies.written.on.runs (one_run c.in_ok-activate.ensures.appends.operation))

pub copy_blocks-requires-clause-source : goal.copy_blocks-requires-clause-source
copy_blocks-requires-clause-source g c =
    let source = source_stays c.args.at c.args.numbers.now (g.F.Flash.state c.args.flash.now) (g.met.F.Flash.shape c.args.flash.now) c.requires.can.least (omega arith) c.requires.can.source.log.most
    c.requires.can.current c.requires.can.source.log.sound c.requires.can.next (g.F.Flash.state c.begin.new.flash) (g.met.F.Flash.shape c.begin.new.flash) c.in_ok-begin.ensures.begins.holds_asked in
    record {
      log = record {
        most = omega (arith, c.in_ok-begin.ensures.begins.runs.pages, c.requires.can.source.log.most);
        sound = subst (λ (p : List (List ℕ)). (log c.args.at.used c.args.numbers.now p).fault ≡ None) (sym source) c.requires.can.source.log.sound;
      };
      room = subst (λ (p : List (List ℕ)). 2 + current_pages c.args.at.used c.args.numbers.now p ≤ c.args.at.used) (sym source) c.requires.can.source.room;
      table = c.requires.can.source.table;
      tells = subst (λ (p : List (List ℕ)). TellsPlaces c.args.numbers.now c.args.places.now p c.args.at.used (held_in c.args.at.used c.args.numbers.now p)) (sym source) c.requires.can.source.tells;
    }

pub activate-requires-clause-page : goal.activate-requires-clause-page
activate-requires-clause-page g c = omega (arith, c.in_ok-end.ensures.copies.written.on.runs.pages, c.in_ok-begin.ensures.begins.runs.pages, c.requires.can.least, c.requires.can.source.log.most)

pub returns-in_err-begin-clause-runs : goal.returns-in_err-begin-clause-runs
returns-in_err-begin-clause-runs g c = c.in_err-begin.ensures.begins.runs

pub returns-in_err-end-clause-runs : goal.returns-in_err-end-clause-runs
returns-in_err-end-clause-runs g c = runs_on c.in_ok-begin.ensures.begins.runs c.in_err-end.ensures.copies.written.on.runs

pub returns-in_err-activate-clause-runs : goal.returns-in_err-activate-clause-runs
returns-in_err-activate-clause-runs g c = runs_on c.in_ok-begin.ensures.begins.runs (runs_on c.in_ok-end.ensures.copies.written.on.runs (one_run c.in_err-activate.ensures.appends.operation))

pub returns-in_err-begin-clause-cause : goal.returns-in_err-begin-clause-cause
returns-in_err-begin-clause-cause g c = on_fault c.from_residual.result c.in_err-begin.ensures.begins.cause

pub returns-in_err-end-clause-cause : goal.returns-in_err-end-clause-cause
returns-in_err-end-clause-cause g c = on_fault c.from_residual-in_err-end.result (omega (arith, c.in_err-end.ensures.copies.written.cause, c.in_ok-begin.ensures.begins.runs.counts))

pub returns-in_err-activate-clause-cause : goal.returns-in_err-activate-clause-cause
returns-in_err-activate-clause-cause g c =
    on_fault c.from_residual-in_err-activate.result
    (omega (arith, c.in_err-activate.ensures.appends.operation.cause, c.in_ok-end.ensures.copies.written.on.runs.counts, c.in_ok-begin.ensures.begins.runs.counts))

pub returns-in_err-begin-clause-switched : goal.returns-in_err-begin-clause-switched
returns-in_err-begin-clause-switched g c = never_if _ c.from_residual.result c.from_residual.ensures.0

pub returns-in_err-end-clause-switched : goal.returns-in_err-end-clause-switched
returns-in_err-end-clause-switched g c = never_if _ c.from_residual-in_err-end.result c.from_residual-in_err-end.ensures.0

pub returns-in_err-activate-clause-switched : goal.returns-in_err-activate-clause-switched
returns-in_err-activate-clause-switched g c = never_if _ c.from_residual-in_err-activate.result c.from_residual-in_err-activate.ensures.0
