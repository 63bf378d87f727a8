use Rattle.std.proofs.Common.{◌∙◌, sym, ap}
use Rattle.std.specs.Prelude.{option_copied, option_map, unwrap_or}
use Rattle.flt_config.specs.declared.persist.EntryState.{EntryState}
use Rattle.flt_dem.proofs.SavedLemmas.{entry_found}
use Rattle.flt_dem.proofs.durable.DurablePart.occurrence.Goals as goal

pub returns-in-Some : goal.returns-in-Some
returns-in-Some c = λ life marks s.
    let inside = rw (← c.self.view_is) at s in
    ap (λ found. unwrap_or (option_map (λ (entry : EntryState). entry.occurrence) found) 0)
    (sym (ap (λ found. option_copied found) c.in-Some.is) ∙ c.find.ensures ∙ entry_found life marks c.args.event c.self.inside.memory.entries inside.memory_stands.entries)

pub returns-in-None : goal.returns-in-None
returns-in-None c = λ life marks s.
    let inside = rw (← c.self.view_is) at s in
    ap (λ found. unwrap_or (option_map (λ (entry : EntryState). entry.occurrence) found) 0)
    (sym (ap (λ found. option_copied found) c.in-None.is) ∙ c.find.ensures ∙ entry_found life marks c.args.event c.self.inside.memory.entries inside.memory_stands.entries)
