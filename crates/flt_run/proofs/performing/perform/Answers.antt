use Rattle.std.proofs.Common.{◌≡◌, ◌∙◌, Some, true, ap, rules}
use Rattle.std.specs.Prelude.{is_some, option_map}
use Rattle.flt_did.specs.Table.{dids_of}
use Rattle.flt_script.specs.Script.{content}
use Rattle.flt_run.specs.declared.command.Command.TheVariants.{Check}
use Rattle.flt_run.specs.Command.{plain_of}
use Rattle.flt_run.specs.Scripted.{ending_by}
use Rattle.flt_run.specs.Seen.{inside_of}
use Rattle.flt_run.proofs.Comes.{performed}
use Rattle.flt_run.proofs.Lived.{none_by_flash}
use Rattle.flt_run.proofs.Scripted.{has_script}
use Rattle.flt_run.proofs.performing.perform.Goals as goal

pub made_of-requires : goal.made_of-requires
made_of-requires g c = none_by_flash _ _ _ _ _ c.live_in_lanes-lives.result.lives c.live_in_lanes-lives.ensures.lives

pub returns-in-Script : goal.returns-in-Script
returns-in-Script g c =
    let inside = inside_of g.S.Source.left g.S.Source.faults c.args.source.now c.script_for.new.source g.D.Driver.medium (g.D.Driver.device_state c.args.device) (g.D.Driver.device_state c.live_in_lanes-lives.result.device) in
    let other : c.in-Some.command ≡ Check → ⊥ = λ check.
    (let plain : is_some c.plain_of.result ≡ true = ap is_some (c.plain_of.ensures ∙ ap plain_of (c.in-Some.is ∙ ap Some check)) in
    absurd (cc (plain, c.is_some.ensures, c.if-is_some.false))) in
    let has = has_script (dids_of c.args.dids) inside c.in-Some.command c.in-Script.script other c.in-Script.ensures in
    let made : c.map.result ≡ option_map (ending_by c.in-Some.command) c.made_of.result = search rules in
    rw (c.in-Some.is, made)
    (performed (dids_of c.args.dids) inside (content c.in-Script.script) c.live_in_lanes-lives.ensures.valid c.live_in_lanes-lives.result.lives c.live_in_lanes-lives.ensures.lives
    c.in-Some.command has c.made_of.result c.made_of.ensures)
