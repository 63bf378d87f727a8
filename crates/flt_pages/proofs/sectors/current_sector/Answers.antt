use Rattle.std.proofs.Common.{refl, ◌∙◌}
use Rattle.flt_flash.specs.Image.{sector_at}
use Rattle.flt_sector_model.specs.Gates.{gates_of}
use Rattle.flt_sector_model.specs.Blocks.{current}
use Rattle.flt_pages.specs.Told.{GivesCurrent}
use Rattle.flt_pages.proofs.Scanning.{handed_on}
use Rattle.flt_pages.proofs.Placing.{first_fault_told, second_fault_told, both_told, same_told, second_told, first_told}
use Rattle.flt_pages.proofs.sectors.current_sector.Goals as goal

pub returns-in_err-first-clause-current : goal.returns-in_err-first-clause-current
returns-in_err-first-clause-current g c =
    let image = (g.F.Flash.state c.args.flash.now).image in
    handed_on (λ r. GivesCurrent c.args.used r (current c.args.used image)) c.from_residual.result c.in_err-first.field-0.0 c.from_residual.ensures.1
    (first_fault_told c.args.used c.in_err-first.field-0.0 (gates_of c.args.used (sector_at image 0)) (gates_of c.args.used (sector_at image 1)) c.in_err-first.ensures.gates)

pub returns-in_err-second-clause-current : goal.returns-in_err-second-clause-current
returns-in_err-second-clause-current g c =
    let image = (g.F.Flash.state c.args.flash.now).image in
    handed_on (λ r. GivesCurrent c.args.used r (current c.args.used image)) c.from_residual-in_err-second.result c.in_err-second.field-0.0 c.from_residual-in_err-second.ensures.1
    (second_fault_told c.args.used image _ c.in_ok-first.ensures.reads.image c.in_ok-first.first c.in_ok-first.first c.in_ok-first.first c.in_ok-first.first c.in_ok-first.ensures.gates refl c.in_err-second.field-0.0 c.in_err-second.ensures.gates)

pub returns-in-None-None-clause-current : goal.returns-in-None-None-clause-current
returns-in-None-None-clause-current g c =
    both_told c.args.used (g.F.Flash.state c.args.flash.now).image _ c.in_ok-first.ensures.reads.image c.in_ok-first.first c.in_ok-second.second _ _ c.in_ok-first.ensures.gates
    c.in-None-None.is-0 c.in_ok-second.ensures.gates c.in-None-None.is-1

pub returns-in-None-Some-clause-current : goal.returns-in-None-Some-clause-current
returns-in-None-Some-clause-current g c = (
  both_told c.args.used (g.F.Flash.state c.args.flash.now).image _ c.in_ok-first.ensures.reads.image c.in_ok-first.first c.in_ok-second.second _ _ c.in_ok-first.ensures.gates
      c.in-None-Some.is-0 c.in_ok-second.ensures.gates c.in-None-Some.is-1,
  refl,
)

pub returns-in-Some-None-clause-current : goal.returns-in-Some-None-clause-current
returns-in-Some-None-clause-current g c = (
  both_told c.args.used (g.F.Flash.state c.args.flash.now).image _ c.in_ok-first.ensures.reads.image c.in_ok-first.first c.in_ok-second.second _ _ c.in_ok-first.ensures.gates
      c.in-Some-None.is-0 c.in_ok-second.ensures.gates c.in-Some-None.is-1,
  refl,
)

pub returns-then-first-second-clause-current : goal.returns-then-first-second-clause-current
returns-then-first-second-clause-current g c =
    both_told c.args.used (g.F.Flash.state c.args.flash.now).image _ c.in_ok-first.ensures.reads.image c.in_ok-first.first c.in_ok-second.second _ _ c.in_ok-first.ensures.gates
    c.in-Some-Some.is-0 c.in_ok-second.ensures.gates c.in-Some-Some.is-1
    ∙ same_told c.in-Some-Some.first c.in-Some-Some.second c.if-first-second.true

pub returns-then-first-second-2-clause-current : goal.returns-then-first-second-2-clause-current
returns-then-first-second-2-clause-current g c = (
  both_told c.args.used (g.F.Flash.state c.args.flash.now).image _ c.in_ok-first.ensures.reads.image c.in_ok-first.first c.in_ok-second.second _ _ c.in_ok-first.ensures.gates
      c.in-Some-Some.is-0 c.in_ok-second.ensures.gates c.in-Some-Some.is-1
      ∙ second_told c.in-Some-Some.first c.in-Some-Some.second c.if-first-second.false c.if-first-second-2.true,
  refl,
)

pub returns-else-first-second-2-clause-current : goal.returns-else-first-second-2-clause-current
returns-else-first-second-2-clause-current g c = (
  both_told c.args.used (g.F.Flash.state c.args.flash.now).image _ c.in_ok-first.ensures.reads.image c.in_ok-first.first c.in_ok-second.second _ _ c.in_ok-first.ensures.gates
      c.in-Some-Some.is-0 c.in_ok-second.ensures.gates c.in-Some-Some.is-1
      ∙ first_told c.in-Some-Some.first c.in-Some-Some.second c.if-first-second.false c.if-first-second-2.false,
  refl,
)
