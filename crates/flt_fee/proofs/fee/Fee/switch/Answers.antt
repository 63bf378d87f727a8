use Rattle.std.proofs.Common.{◌≡◌, ◌∙◌, ◌+◌, ◌-◌, ◌^◌, false, length, List, Option, ap, sym, subst, arith, rules}
use Rattle.std.proofs.lemmas.Bool.{eqb-true}
use Rattle.std.proofs.lemmas.List.{with_items_is}
use Rattle.flt_flash.specs.Image.{sector_at}
use Rattle.flt_pages.specs.declared.place.RecordPlace.{RecordPlace}
use Rattle.flt_sector_model.specs.Blocks.{block_value}
use Rattle.flt_pages.specs.Live.{held_in}
use Rattle.flt_pages.specs.RecordPlace.{TellsPlaces}
use Rattle.flt_fee.specs.Fee.{is_last}
use Rattle.flt_fee.proofs.Composed.{follows_by}
use Rattle.flt_fee.proofs.Standing.{stale_mounted, stands_sound}
use Rattle.flt_pages.specs.Switch.{MovesRecords}
use Rattle.flt_fee.proofs.Placed.{tells_old, tells_image}
use Rattle.flt_fee.proofs.Refusing.{live_is}
use Rattle.flt_fee.proofs.Wearing.{even_switched}
use Rattle.flt_fee.proofs.fee.Fee.switch.Goals as goal

pub switch_sectors-requires : goal.switch_sectors-requires
switch_sectors-requires g c =
    let self = c.args.self.now in
    let pages = sector_at (g.F.Flash.state self.flash).image self.at.sector in
    let live = live_is self.is_stale self.has_mounted c.requires.not_stale self.at self.numbers (g.F.Flash.state self.flash) self.end self.least self.distinct self.mounted in
    record {
      can = record {
        current = self.mounted.current c.requires.not_stale;
        next = c.requires.next;
        least = self.least;
        source = record {
          log = record {
            most = self.within;
            sound = self.mounted.sound c.requires.not_stale;
          };
          room = omega (arith, c.requires.room, live);
          table = record { size = ap length c.deref_mut.ensures.value ∙ self.sized; distinct = self.distinct };
          tells = subst (λ (places : List (Option RecordPlace)). TellsPlaces self.numbers places pages self.at.used (held_in self.at.used self.numbers pages)) (sym c.deref_mut.ensures.value)
              (tells_old self.is_stale self.has_mounted c.requires.not_stale self.at self.numbers (g.F.Flash.state self.flash) (g.met.F.Flash.shape self.flash) self.end self.least self.within self.distinct self.mounted self.places.items self.sized (self.table c.requires.not_stale));
        };
      };
    }

pub invariant_of-self-3-clause-table : goal.invariant_of-self-3-clause-table
invariant_of-self-3-clause-table g c =
    let self = c.args.self.now in
    let pages = sector_at (g.F.Flash.state self.flash).image self.at.sector in
    let after = (g.F.Flash.state c.switch_sectors.new.flash).image in
    let same = with_items_is self.places c.switch_sectors.new.places (omega (arith, c.in_ok-end.ensures.size, self.sized, self.places.ok.0)) in
    λ fresh. subst (λ (places : List (Option RecordPlace)). TellsPlaces self.numbers places (sector_at after (1 - self.at.sector)) c.in_ok-end.end (block_value self.at.used self.numbers after)) (sym same) (tells_image self.at.used self.numbers after (1 - self.at.sector) (self.at.sequence + 1) c.in_ok-end.end (held_in self.at.used self.numbers pages)
    c.in_ok-end.ensures.switched.stands c.switch_sectors.new.places c.in_ok-end.ensures.switched.table)

pub invariant_of-self-3-clause-sized : goal.invariant_of-self-3-clause-sized
invariant_of-self-3-clause-sized g c =
    let self = c.args.self.now in
    let same = with_items_is self.places c.switch_sectors.new.places (omega (arith, c.in_ok-end.ensures.size, self.sized, self.places.ok.0)) in
    ap length same ∙ c.in_ok-end.ensures.size

pub invariant_of-self : goal.invariant_of-self
invariant_of-self g c =
    let self = c.args.self.now in
    let pages = sector_at (g.F.Flash.state self.flash).image self.at.sector in
    let after = (g.F.Flash.state c.switch_sectors.new.flash).image in
    let same = with_items_is self.places c.switch_sectors.new.places (omega (arith, c.switch_sectors.ensures.size, self.sized, self.places.ok.0)) in
    let keeps = c.switch_sectors.ensures.values in
    record {
      within = omega (arith, self.within, c.switch_sectors.ensures.runs.pages);
      least = self.least;
      distinct = self.distinct;
      sized = ap length same ∙ c.switch_sectors.ensures.size;
      table = λ fresh. absurd (cc fresh);
      mounted = stale_mounted self.has_mounted self.at self.numbers after self.end
          (λ yes. stands_sound self.at.used self.numbers after keeps.sector keeps.sequence keeps.end (held_in self.at.used self.numbers pages) keeps.stands);
    }

pub returns-clause-even : goal.returns-clause-even
returns-clause-even g c =
    let self = c.args.self.now in
    even_switched self.at.used (g.F.Flash.state self.flash) (g.F.Flash.state c.switch_sectors.new.flash) (g.met.F.Flash.shape self.flash) self.at.sector self.at.sequence (self.at.sequence + 1) self.at.one_of_two
    (self.mounted.current c.requires.not_stale) c.in_ok-end.ensures.switched.stands.current c.in_ok-end.ensures.switched.moves.erases.wear

pub returns-clause-moves : goal.returns-clause-moves
returns-clause-moves g c =
    let self = c.args.self.now in
    let live = live_is self.is_stale self.has_mounted c.requires.not_stale self.at self.numbers (g.F.Flash.state self.flash) self.end self.least self.distinct self.mounted in
    subst (λ pages. MovesRecords pages self.at.sector c.in_ok-end.end (g.F.Flash.state self.flash) (g.F.Flash.state c.switch_sectors.new.flash)) (sym live) c.in_ok-end.ensures.switched.moves

pub returns-clause-part : goal.returns-clause-part
returns-clause-part g c =
    let self = c.args.self.now in
    let pages = sector_at (g.F.Flash.state self.flash).image self.at.sector in
    let after = g.F.Flash.state c.switch_sectors.new.flash in
    let sound = self.mounted.undamaged (self.mounted.mounted c.requires.not_stale) in
    let number = ap is_last (self.mounted.current c.requires.not_stale) in
    record {
      calls = record {
        keeps_driver = follows_by self.at.used self.numbers (g.F.Flash.state self.flash) after c.in_ok-end.ensures.runs self.is_stale self.has_mounted false self.has_mounted (λ yes. yes)
            (λ last. absurd (let is : self.at.sequence ≡ 2 ^ 32 - 1 = eqb-true self.at.sequence (2 ^ 32 - 1) (sym number ∙ last) in omega (arith, c.requires.next, is)))
            (λ none. stands_sound self.at.used self.numbers after.image (1 - self.at.sector) (self.at.sequence + 1) c.in_ok-end.end (held_in self.at.used self.numbers pages) c.in_ok-end.ensures.switched.stands)
            (λ place is. absurd (cc (sound, is)));
        flash = λ told. absurd (cc told);
        damaged = λ sector page told. absurd (cc told);
        refuses_damage = sound;
      };
      uncounted = search rules;
      settles = search rules;
    }
