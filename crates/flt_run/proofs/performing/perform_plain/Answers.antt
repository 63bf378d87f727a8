use Rattle.std.proofs.Common.{◌≡◌, ◌∙◌, refl, sym, rules}
use Rattle.std.specs.Prelude.{option_map}
use Rattle.flt_did.specs.Table.{dids_of}
use Rattle.flt_script.specs.Script.{content}
use Rattle.flt_run.specs.Scripted.{ending_by}
use Rattle.flt_run.specs.Seen.{inside_of}
use Rattle.flt_run.proofs.Comes.{performed}
use Rattle.flt_run.proofs.Lived.{none_by_flash}
use Rattle.flt_run.proofs.Loaded.{alone_plain}
use Rattle.flt_run.proofs.Scripted.{has_script, served_for}
use Rattle.flt_run.proofs.performing.perform_plain.Goals as goal

pub live_alone-lives-requires : goal.live_alone-lives-requires
live_alone-lives-requires g c =
    let inside = inside_of g.S.Source.left g.S.Source.faults c.args.source.now c.script_for.new.source g.D.Driver.medium (g.D.Driver.device_state c.args.device) (g.D.Driver.device_state c.args.device) in
    let has = has_script (dids_of c.args.dids) inside c.in-Some.command c.in-Script.script c.in_default-command.not-Check c.in-Script.ensures in
    record {
      served = served_for (dids_of c.args.dids) inside c.in-Some.command c.in-Script.script c.in-Script.ensures;
      alone = alone_plain (dids_of c.args.dids) inside c.args.command c.in-Some.command (content c.in-Script.script) c.in-Script.script.lives.items
          (sym c.plain_of.ensures ∙ c.in-Some.is) has refl;
      serves = c.requires.serves;
      boots = c.requires.boots;
      unarmed = c.requires.unarmed;
    }

pub made_of-requires : goal.made_of-requires
made_of-requires g c = none_by_flash _ _ _ _ _ c.live_alone-lives.result.lives c.live_alone-lives.ensures.lives

pub returns-in_default-command : goal.returns-in_default-command
returns-in_default-command g c =
    let inside = inside_of g.S.Source.left g.S.Source.faults c.args.source.now c.script_for.new.source g.D.Driver.medium (g.D.Driver.device_state c.args.device) (g.D.Driver.device_state c.live_alone-lives.result.device) in
    let has = has_script (dids_of c.args.dids) inside c.in-Some.command c.in-Script.script c.in_default-command.not-Check c.in-Script.ensures in
    let made : c.map.result ≡ option_map (ending_by c.in-Some.command) c.made_of.result = search rules in
    rw (sym c.plain_of.ensures ∙ c.in-Some.is, made)
    (performed (dids_of c.args.dids) inside (content c.in-Script.script) c.live_alone-lives.ensures.valid c.live_alone-lives.result.lives c.live_alone-lives.ensures.lives
    c.in-Some.command has c.made_of.result c.made_of.ensures)
