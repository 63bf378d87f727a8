use Rattle.std.proofs.Common.{◌≡◌, Some, None, refl, sym, ◌∙◌, ap, subst}
use Rattle.std.specs.Prelude.{IfErr}
use Rattle.flt_flash.specs.Content.{Content, missing, invalid, bytes}
use Rattle.flt_nvm.specs.Driver.{driver_of}
use Rattle.flt_store_model.specs.Reading.{commit_in}
use Rattle.flt_store_model.specs.Holding.{named}
use Rattle.flt_restore.specs.declared.fault.StartFault.{StartFault}
use Rattle.flt_restore.specs.Found.{held_content}
use Rattle.flt_restore.specs.Judging.{HasFaultCause}
use Rattle.flt_restore.proofs.Telling.{handed_on}
use Rattle.flt_restore.proofs.Failing.{was_flash}
use Rattle.flt_restore.proofs.Naming.{named_first, named_invalid, no_commit, named_commit, parts_refused, read_form}
use Rattle.flt_restore.proofs.generation.read_generation.Goals as goal

pub returns-in-Missing-clause-told : goal.returns-in-Missing-clause-told
returns-in-Missing-clause-told g c =
    let is : held_content c.args.held ≡ missing = ap held_content c.in-Missing.is in
    ap (named c.args.config.now (driver_of c.args.nvm.now).value) is ∙ named_first c.args.config.now (driver_of c.args.nvm.now).value c.put_initial.new.state c.put_initial.ensures.value

pub returns-in-Invalid-clause-refused : goal.returns-in-Invalid-clause-refused
returns-in-Invalid-clause-refused g c =
    let is : held_content c.args.held ≡ invalid = ap held_content c.in-Invalid.is in
    subst (λ (fault : StartFault). HasFaultCause c.args.config.now (driver_of c.args.nvm.now) (driver_of c.args.nvm.now) (named c.args.config.now (driver_of c.args.nvm.now).value (held_content c.args.held)) fault)
    (sym c.damaged.ensures) (ap (named c.args.config.now (driver_of c.args.nvm.now).value) is ∙ named_invalid c.args.config.now (driver_of c.args.nvm.now).value)

pub read_parts-requires-clause-form : goal.read_parts-requires-clause-form
read_parts-requires-clause-form g c =
    let is : Some c.in-Some.commit ≡ commit_in c.args.config.now c.in-Bytes.bytes.items = sym c.in-Some.is ∙ c.get_commit.ensures ∙ ap (commit_in c.args.config.now) c.deref.ensures.0 in
    read_form c.args.config.now c.in-Bytes.bytes.items c.in-Some.commit is

pub returns-in_err-read_parts-in-Some-clause-refused : goal.returns-in_err-read_parts-in-Some-clause-refused
returns-in_err-read_parts-in-Some-clause-refused g c =
    let held : held_content c.args.held ≡ bytes c.in-Bytes.bytes.items = ap held_content c.in-Bytes.is in
    let is : Some c.in-Some.commit ≡ commit_in c.args.config.now c.in-Bytes.bytes.items = sym c.in-Some.is ∙ c.get_commit.ensures ∙ ap (commit_in c.args.config.now) c.deref.ensures.0 in
    subst (λ (content : Content). IfErr c.from_residual.result (HasFaultCause c.args.config.now (driver_of c.args.nvm.now) (driver_of c.read_parts.new.nvm) (named c.args.config.now (driver_of c.args.nvm.now).value content))) (sym held)
    (handed_on (HasFaultCause c.args.config.now (driver_of c.args.nvm.now) (driver_of c.read_parts.new.nvm) (named c.args.config.now (driver_of c.args.nvm.now).value (bytes c.in-Bytes.bytes.items)))
    c.from_residual.result _ c.from_residual.ensures.1
    (parts_refused c.args.config.now (driver_of c.args.nvm.now).value (driver_of c.args.nvm.now) (driver_of c.read_parts.new.nvm) c.in-Bytes.bytes.items c.in-Some.commit _ is c.in_err-read_parts-in-Some.ensures.refused))

pub returns-in-None-clause-refused : goal.returns-in-None-clause-refused
returns-in-None-clause-refused g c =
    let held : held_content c.args.held ≡ bytes c.in-Bytes.bytes.items = ap held_content c.in-Bytes.is in
    let is : None ≡ commit_in c.args.config.now c.in-Bytes.bytes.items = sym c.in-None.is ∙ c.get_commit.ensures ∙ ap (commit_in c.args.config.now) c.deref.ensures.0 in
    subst (λ (fault : StartFault). HasFaultCause c.args.config.now (driver_of c.args.nvm.now) (driver_of c.args.nvm.now) (named c.args.config.now (driver_of c.args.nvm.now).value (held_content c.args.held)) fault)
    (sym c.damaged-in-None.ensures) (ap (named c.args.config.now (driver_of c.args.nvm.now).value) held ∙ no_commit c.args.config.now (driver_of c.args.nvm.now).value c.in-Bytes.bytes.items is)

pub returns-in_ok-read_parts-in-Some-clause-told : goal.returns-in_ok-read_parts-in-Some-clause-told
returns-in_ok-read_parts-in-Some-clause-told g c =
    let held : held_content c.args.held ≡ bytes c.in-Bytes.bytes.items = ap held_content c.in-Bytes.is in
    let is : Some c.in-Some.commit ≡ commit_in c.args.config.now c.in-Bytes.bytes.items = sym c.in-Some.is ∙ c.get_commit.ensures ∙ ap (commit_in c.args.config.now) c.deref.ensures.0 in
    ap (named c.args.config.now (driver_of c.args.nvm.now).value) held
    ∙ named_commit c.args.config.now (driver_of c.args.nvm.now).value c.in-Bytes.bytes.items c.in-Some.commit c.read_parts.new.out is c.in_ok-read_parts-in-Some.ensures.told

pub returns-in_ok-read_parts-in-Some-clause-source : goal.returns-in_ok-read_parts-in-Some-clause-source
returns-in_ok-read_parts-in-Some-clause-source g c =
    let held : held_content c.args.held ≡ bytes c.in-Bytes.bytes.items = ap held_content c.in-Bytes.is in
    let is : Some c.in-Some.commit ≡ commit_in c.args.config.now c.in-Bytes.bytes.items = sym c.in-Some.is ∙ c.get_commit.ensures ∙ ap (commit_in c.args.config.now) c.deref.ensures.0 in
    (refl, held, sym is)

pub returns-in_err-read_parts-in-Some-clause-unread : goal.returns-in_err-read_parts-in-Some-clause-unread
returns-in_err-read_parts-in-Some-clause-unread g c =
    λ flash.
    let is : Some c.in-Some.commit ≡ commit_in c.args.config.now c.in-Bytes.bytes.items = sym c.in-Some.is ∙ c.get_commit.ensures ∙ ap (commit_in c.args.config.now) c.deref.ensures.0 in
    record {
      raw = c.in-Bytes.bytes.items;
      holds = ap held_content c.in-Bytes.is;
      commit = c.in-Some.commit;
      read = sym is;
      part = c.in_err-read_parts-in-Some.ensures.unread (was_flash c.from_residual.result _ c.from_residual.ensures.1 flash);
    }
