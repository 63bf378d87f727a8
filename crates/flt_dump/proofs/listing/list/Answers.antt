use Rattle.std.proofs.Common.{◌≡◌, ◌∙◌, ◌++◌, ℕ, List, [], ◌∷◌, Option, Ok, ap, subst}
use Rattle.std.specs.Prelude.{codes}
use Rattle.flt_flash.specs.Image.{sector_at}
use Rattle.flt_store_model.specs.Layout.{numbers}
use Rattle.flt_pages.specs.Told.{GivesCurrent, current_of}
use Rattle.flt_sector_model.specs.Blocks.{current}
use Rattle.flt_sector_model.specs.Log.{LogFrom, log}
use Rattle.flt_pages.specs.declared.current.CurrentSector.{CurrentSector}
use Rattle.flt_dump.specs.Copy.{copy_state}
use Rattle.flt_dump.specs.Listed.{IsListed}
use Rattle.flt_dump.specs.Listing.{sector_line}
use Rattle.flt_dump.proofs.Listings.{lists_either, lists_no_sector}
use Rattle.flt_dump.proofs.listing.list.Goals as goal

pub returns-in-Ok-None-clause-lines : goal.returns-in-Ok-None-clause-lines
returns-in-Ok-None-clause-lines c =
    let image = (copy_state c.args.copy.now).image in
    let none = subst (λ (o : Option CurrentSector). GivesCurrent c.args.used (Ok o) (current c.args.used image)) c.in-Ok-None.field-0-is c.in-Ok-None.ensures.current in
    c.in_ok-extend_from_slice-in-Ok-None.ensures.items
    ∙ ap (λ (l : List ℕ). l ++ (codes "no sector" ++ 10 ∷ [])) c.new-out.ensures.items
    ∙ lists_no_sector c.args.used numbers image none

pub returns-then-is_whole-clause-lines : goal.returns-then-is_whole-clause-lines
returns-then-is_whole-clause-lines c =
    let image = (copy_state c.args.copy.now).image in
    let at = c.in-Ok-Some.at in
    let here = subst (λ (o : Option CurrentSector). GivesCurrent c.args.used (Ok o) (current c.args.used image)) c.in-Ok-Some.field-0-is c.in-Ok-Some.ensures.current in
    let before : c.put_sector.new.out.items ≡ sector_line (current_of at) =
    c.in_ok-put_sector-in-Ok-Some.ensures ∙ ap (λ (l : List ℕ). l ++ sector_line (current_of at)) c.new-out.ensures.items in
    let listed = subst (λ (l : LogFrom). IsListed c.in_ok-is_whole-in-Ok-Some.is_whole l c.put_sector.new.out.items c.put_log.new.out.items)
    (λ i. log (here.1 i) ((c.in_ok-numbers.ensures ∙ c.in_ok-fee_numbers.ensures) i) (sector_at (c.in-Ok-Some.ensures.reads.image i) at.sector)) c.in_ok-is_whole-in-Ok-Some.ensures.listed in
    (lists_either c.args.used numbers image at here.0 c.in_ok-is_whole-in-Ok-Some.is_whole c.put_sector.new.out.items c.put_log.new.out.items before listed).0 c.if-is_whole.true

pub returns-clause-lines : goal.returns-clause-lines
returns-clause-lines c =
    let image = (copy_state c.args.copy.now).image in
    let at = c.in-Ok-Some.at in
    let here = subst (λ (o : Option CurrentSector). GivesCurrent c.args.used (Ok o) (current c.args.used image)) c.in-Ok-Some.field-0-is c.in-Ok-Some.ensures.current in
    let before : c.put_sector.new.out.items ≡ sector_line (current_of at) =
    c.in_ok-put_sector-in-Ok-Some.ensures ∙ ap (λ (l : List ℕ). l ++ sector_line (current_of at)) c.new-out.ensures.items in
    let listed = subst (λ (l : LogFrom). IsListed c.in_ok-is_whole-in-Ok-Some.is_whole l c.put_sector.new.out.items c.put_log.new.out.items)
    (λ i. log (here.1 i) ((c.in_ok-numbers.ensures ∙ c.in_ok-fee_numbers.ensures) i) (sector_at (c.in-Ok-Some.ensures.reads.image i) at.sector)) c.in_ok-is_whole-in-Ok-Some.ensures.listed in
    c.new.ensures.items
    ∙ (lists_either c.args.used numbers image at here.0 c.in_ok-is_whole-in-Ok-Some.is_whole c.put_sector.new.out.items c.put_log.new.out.items before listed).1 c.if-is_whole.false
