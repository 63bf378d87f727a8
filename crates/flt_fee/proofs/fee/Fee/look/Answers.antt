use Rattle.std.proofs.Common.{◌≡◌, ℕ, true, List, length, Option, Some, Ok, sym, ◌∙◌, ap, subst, arith, rules}
use Rattle.std.proofs.lemmas.List.{with_items_is}
use Rattle.flt_flash.specs.Image.{sector_at}
use Rattle.flt_flash.proofs.CallsInARow.{calls_after}
use Rattle.flt_sector_model.specs.Blocks.{current, block_value}
use Rattle.flt_pages.specs.declared.place.RecordPlace.{RecordPlace}
use Rattle.flt_pages.specs.RecordPlace.{TellsPlaces}
use Rattle.flt_pages.specs.Told.{current_of}
use Rattle.flt_fee.specs.Fee.{state_by}
use Rattle.flt_fee.proofs.Mounting.{stuck_on, current_there, reading_follows, resumed}
use Rattle.flt_fee.proofs.Placed.{tells_current}
use Rattle.flt_fee.proofs.fee.Fee.look.Goals.{In-Some}
use Rattle.flt_fee.proofs.fee.Fee.look.Goals as goal

there : (g : _) (c : In-Some g)
    → (current c.args.self.now.at.used (g.F.Flash.state c.current_sector.new.flash).image ≡ Ok (Some (current_of c.in-Some.at))) × (c.in-Some.at.used ≡ c.args.self.now.at.used)
there g c =
    let self = c.args.self.now in
    current_there self.at.used self.numbers (g.F.Flash.state self.flash) (g.F.Flash.state c.current_sector.new.flash) c.current_sector.ensures.reads c.in-Some.at c.in_ok-current_sector.field-0 c.in-Some.is c.in_ok-current_sector.ensures.current

pub returns-in-None-clause-mounts : goal.returns-in-None-clause-mounts
returns-in-None-clause-mounts g c =
    let self = c.args.self.now in
    let after = c.format.new.self in
    let middle = g.F.Flash.state c.current_sector.new.flash in
    record {
      part = record {
        calls = calls_after (state_by self.at.used self.numbers self.is_stale self.has_mounted (g.F.Flash.state self.flash)) (state_by self.at.used self.numbers true self.has_mounted middle)
            (state_by after.at.used after.numbers after.is_stale after.has_mounted (g.F.Flash.state after.flash)) c.format.result
            (reading_follows self.at.used self.numbers (g.F.Flash.state self.flash) middle c.current_sector.ensures.reads self.is_stale self.has_mounted true self.has_mounted (λ yes. yes))
            c.format.ensures.mounts.part.calls;
        uncounted = search rules;
        settles = search rules;
      };
      values = search rules;
      spent = search rules;
      stuck = stuck_on self.at.used self.numbers (g.F.Flash.state self.flash) (g.F.Flash.state c.current_sector.new.flash) c.current_sector.ensures.reads.image self.is_stale self.has_mounted true self.has_mounted
          (state_by after.at.used after.numbers after.is_stale after.has_mounted (g.F.Flash.state after.flash)) c.format.result c.format.ensures.mounts.stuck;
      never_full = search rules;
    }

pub returns-in_err-end-in-Some-clause-mounts : goal.returns-in_err-end-in-Some-clause-mounts
returns-in_err-end-in-Some-clause-mounts g c =
    let self = c.args.self.now in
    let middle = g.F.Flash.state c.current_sector.new.flash in
    let found = there g (goal.at.returns-in_err-end-in-Some-clause-mounts g c).In-Some in
    record {
      part = record {
        calls = calls_after (state_by self.at.used self.numbers self.is_stale self.has_mounted (g.F.Flash.state self.flash)) (state_by self.at.used self.numbers true self.has_mounted middle)
            (state_by self.at.used self.numbers true self.has_mounted (g.F.Flash.state c.find_places.new.flash)) c.from_residual-in_err-end-in-Some.result
            (reading_follows self.at.used self.numbers (g.F.Flash.state self.flash) middle c.current_sector.ensures.reads self.is_stale self.has_mounted true self.has_mounted (λ yes. yes))
            (search rules);
        uncounted = search rules;
        settles = search rules;
      };
      values = search rules;
      spent = search rules;
      stuck = search rules;
      never_full = search rules;
    }

pub invariant_of-self-in-Some : goal.invariant_of-self-in-Some
invariant_of-self-in-Some g c =
    let self = c.args.self.now in
    let at = c.in-Some.at in
    let end = c.in_ok-end-in-Some in
    let middle = g.F.Flash.state c.current_sector.new.flash in
    let after = (g.F.Flash.state c.find_places.new.flash).image in
    let here = there g (goal.at.invariant_of-self-in-Some g c).In-Some in
    let found : current at.used middle.image ≡ Ok (Some (current_of at)) = subst (λ n. current n middle.image ≡ Ok (Some (current_of at))) (sym here.1) here.0 in
    let same = with_items_is self.places c.find_places.new.places (omega (arith, end.ensures.size, self.sized, self.places.ok.0)) in
    record {
      within = omega (arith, self.within, here.1, c.current_sector.ensures.reads.runs.pages, end.ensures.reads.runs.pages);
      least = omega (arith, self.least, here.1);
      distinct = self.distinct;
      sized = ap length same ∙ end.ensures.size;
      table = λ fresh. subst (λ (places : List (Option RecordPlace)). TellsPlaces self.numbers places (sector_at after at.sector) end.end (block_value at.used self.numbers after)) (sym same) (subst (λ (image : List (List (List ℕ))). TellsPlaces self.numbers c.find_places.new.places (sector_at image at.sector) end.end (block_value at.used self.numbers image)) (sym end.ensures.reads.image)
          (tells_current at.used self.numbers middle.image at.sector at.sequence end.end found c.find_places.new.places end.ensures.places));
      mounted = resumed at self.numbers middle (g.F.Flash.state c.find_places.new.flash) end.ensures.reads found end.end end.ensures.end;
    }
