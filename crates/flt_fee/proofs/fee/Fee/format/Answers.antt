use Rattle.std.proofs.Common.{◌≡◌, refl, true, false, List, Option, sym, subst, Err, arith, rules, ◌∙◌, ap, length}
use Rattle.std.proofs.lemmas.List.{with_items_is}
use Rattle.flt_flash.specs.declared.blocks.BlockFault.TheVariants.{Flash}
use Rattle.flt_fee.proofs.Standing.{stale_mounted}
use Rattle.flt_fee.proofs.Formatting.{fresh_mounted, nothing_held, nothing_wrong, nothing_changes, nothing_spent, formatting_calls}
use Rattle.flt_flash.specs.Image.{sector_at}
use Rattle.flt_sector_model.specs.Blocks.{block_value}
use Rattle.flt_pages.specs.declared.place.RecordPlace.{RecordPlace}
use Rattle.flt_pages.specs.RecordPlace.{TellsPlaces}
use Rattle.flt_pages.proofs.Telling.{tells_nothing}
use Rattle.flt_fee.proofs.fee.Fee.format.Goals as goal

pub invariant_of-self : goal.invariant_of-self
invariant_of-self g c =
    let self = c.args.self.now in
    record {
      within = omega (arith, self.within, c.set_up_flash.ensures.runs.pages);
      least = self.least;
      distinct = self.distinct;
      sized = self.sized;
      table = λ fresh. absurd (cc fresh);
      mounted = stale_mounted self.has_mounted self.at self.numbers _ self.end
          (λ yes. nothing_wrong self.at.used self.numbers (omega (arith, self.least)) (g.F.Flash.state c.set_up_flash.new.flash).image c.set_up_flash.ensures.holds_nothing);
    }

pub invariant_of-self-3 : goal.invariant_of-self-3
invariant_of-self-3 g c =
    let self = c.args.self.now in
    let after = (g.F.Flash.state c.set_up_flash.new.flash).image in
    let same = with_items_is self.places c.forget.new.places (omega (arith, c.forget.ensures.size, ap length c.deref_mut.ensures.value, self.places.ok.0)) in
    record {
      within = omega (arith, self.within, c.in_ok-set_up_flash.ensures.runs.pages);
      least = self.least;
      distinct = self.distinct;
      sized = ap length same ∙ c.forget.ensures.size ∙ ap length c.deref_mut.ensures.value ∙ self.sized;
      table = λ fresh. subst (λ (places : List (Option RecordPlace)). TellsPlaces self.numbers places (sector_at after 0) 2 (block_value self.at.used self.numbers after)) (sym same) (tells_nothing self.numbers c.forget.new.places (sector_at (g.F.Flash.state c.set_up_flash.new.flash).image 0) 2 (block_value self.at.used self.numbers (g.F.Flash.state c.set_up_flash.new.flash).image)
          (nothing_held self.at.used self.numbers (omega (arith, self.least)) (g.F.Flash.state c.set_up_flash.new.flash).image c.in_ok-set_up_flash.ensures.holds_nothing)
          (λ k within. c.forget.ensures.none k (omega (arith, within, ap length c.deref_mut.ensures.value, self.sized))));
      mounted = fresh_mounted _ self.numbers (g.F.Flash.state c.set_up_flash.new.flash).image refl c.in_ok-set_up_flash.ensures.fresh;
    }

pub returns-in_err-set_up_flash-clause-mounts : goal.returns-in_err-set_up_flash-clause-mounts
returns-in_err-set_up_flash-clause-mounts g c =
    let self = c.args.self.now in
    let told : c.from_residual.result ≡ Err Flash = grind arith in
    record {
      part = record {
        calls = formatting_calls self.at.used self.numbers (omega (arith, self.least)) (g.F.Flash.state self.flash) (g.F.Flash.state c.set_up_flash.new.flash) c.requires c.in_err-set_up_flash.ensures.holds_nothing
            {T = Unit {0}} c.in_err-set_up_flash.ensures.runs self.is_stale self.has_mounted true self.has_mounted c.from_residual.result (λ yes. yes) (λ flash. c.in_err-set_up_flash.ensures.cause) (λ s p damaged. cc (told, damaged));
        uncounted = search rules;
        settles = search rules;
      };
      values = nothing_changes self.at.used self.numbers (omega (arith, self.least)) (g.F.Flash.state self.flash) (g.F.Flash.state c.set_up_flash.new.flash) c.requires c.in_err-set_up_flash.ensures.holds_nothing
          self.is_stale self.has_mounted true self.has_mounted;
      spent = nothing_spent self.at.used self.numbers (omega (arith, self.least)) (g.F.Flash.state self.flash) (g.F.Flash.state c.set_up_flash.new.flash) c.requires c.in_err-set_up_flash.ensures.holds_nothing
          self.is_stale self.has_mounted true self.has_mounted;
      stuck = search rules;
      never_full = search rules;
    }

pub returns-clause-mounts : goal.returns-clause-mounts
returns-clause-mounts g c =
    let self = c.args.self.now in
    record {
      part = record {
        calls = search rules;
        uncounted = search rules;
        settles = search rules;
      };
      values = nothing_changes self.at.used self.numbers (omega (arith, self.least)) (g.F.Flash.state self.flash) (g.F.Flash.state c.set_up_flash.new.flash) c.requires c.in_ok-set_up_flash.ensures.holds_nothing
          self.is_stale self.has_mounted false true;
      spent = nothing_spent self.at.used self.numbers (omega (arith, self.least)) (g.F.Flash.state self.flash) (g.F.Flash.state c.set_up_flash.new.flash) c.requires c.in_ok-set_up_flash.ensures.holds_nothing
          self.is_stale self.has_mounted false true;
      stuck = search rules;
      never_full = search rules;
    }
