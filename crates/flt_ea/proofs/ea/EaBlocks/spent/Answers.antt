use Rattle.std.proofs.Common.{◌∙◌, ap}
use Rattle.std.specs.List.{list_any}
use Rattle.flt_flash.specs.Image.{sector_at}
use Rattle.flt_ea.specs.Image.{has_last_sequence}
use Rattle.flt_ea.proofs.Standing.{told_spent}
use Rattle.flt_ea.proofs.ea.EaBlocks.spent.Goals as goal

pub returns : goal.returns
returns g c =
    let self = c.args.self.now in
    c.some_is_last.ensures ∙ ap (list_any has_last_sequence) c.deref.ensures.value
    ∙ told_spent self.numbers (sector_at (g.E.Eeprom.state self.device).image 0) self.table.items self.size (self.mounted.places c.requires)
