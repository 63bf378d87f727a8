use Rattle.std.proofs.Common.{◌≡◌, ◌<◌, List, length, ap, subst, arith}
use Rattle.std.specs.Prelude.{IfSome, Ok, Err, vec_len}
use Rattle.flt_did.specs.Table.{dids_of}
use Rattle.flt_script.specs.declared.fault.ParseFault.{ParseFault}
use Rattle.flt_script.specs.Script.{content, fault_of, script_of}
use Rattle.flt_script.proofs.Taken.{front_lost, front_taken, no_script_taken, script_taken}
use Rattle.flt_script.proofs.fetching.fetch.Goals as goal

pub returns-in-Ok-parse : goal.returns-in-Ok-parse
returns-in-Ok-parse g c =
    let bytes = c.in-Ok.bytes.items in
    let taken = front_taken _ bytes c.in-Ok.ensures.read in
    let short : vec_len c.in-Ok.bytes < 1048577 = omega (arith, c.in-Ok-parse.ensures.short, ap length c.deref.ensures.value, c.in-Ok.bytes.ok.0) in
    let is : script_of (dids_of c.args.dids.now) bytes ≡ Ok (content c.in-Ok-parse.script) =
    subst (λ (l : List _). script_of (dids_of c.args.dids.now) l ≡ Ok (content c.in-Ok-parse.script)) c.deref.ensures.value c.in-Ok-parse.ensures.exact in
    (c.in-Ok.ensures.end short, script_taken _ _ bytes _ taken is, c.in-Ok-parse.ensures.served)

pub returns-in-Err-At : goal.returns-in-Err-At
returns-in-Err-At g c =
    let bytes = c.in-Ok.bytes.items in
    let taken = front_taken _ bytes c.in-Ok.ensures.read in
    let exact : script_of (dids_of c.args.dids.now) c.deref.result.now ≡ Err c.in-Err-At.fault =
    subst (λ (fault : ParseFault). IfSome (fault_of fault) (λ told. script_of (dids_of c.args.dids.now) c.deref.result.now ≡ Err told)) c.in-Err-At.field-0-is c.in-Err-At.ensures.exact in
    let is : script_of (dids_of c.args.dids.now) bytes ≡ Err c.in-Err-At.fault =
    subst (λ (l : List _). script_of (dids_of c.args.dids.now) l ≡ Err c.in-Err-At.fault) c.deref.ensures.value exact in
    (front_lost _ _ bytes taken c.in-Ok.ensures.lost, no_script_taken _ _ bytes _ taken is)
