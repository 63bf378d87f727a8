use Rattle.std.proofs.Common.{◌≡◌, ◌+◌, ◌<◌, ℕ, true, List, length, sym, subst, arith, rules, ◌∙◌, refl, ap, get_or, Option, Some, None}
use Rattle.std.specs.Prelude.{◌==◌, ◌&&◌, if◌then◌else◌}
use Rattle.std.proofs.lemmas.List.{with_items_is}
use Rattle.flt_flash.specs.Content.{Content}
use Rattle.flt_flash.specs.Blocks.{byte_pages}
use Rattle.flt_sector_model.specs.Blocks.{block_value}
use Rattle.flt_sector_model.proofs.Items.{is_among}
use Rattle.flt_pages.specs.LogHolds.{record_content, given, StandsAt}
use Rattle.flt_fee.proofs.Standing.{Appending, mounted_stands, stale_mounted, stands_mounted, current_stays, done_standing}
use Rattle.flt_fee.proofs.Appended.{blank_at_end, left_sound, failed_changes, failed_calls, done_calls, done_changes}
use Rattle.flt_pages.specs.declared.place.RecordPlace.{RecordPlace}
use Rattle.flt_flash.specs.Image.{sector_at}
use Rattle.flt_pages.specs.RecordPlace.{TellsPlaces}
use Rattle.flt_fee.proofs.Placed.{tells_appended}
use Rattle.flt_fee.proofs.Wearing.{even_same}
use Rattle.flt_fee.proofs.fee.Fee.append.Goals.{After-append_record}
use Rattle.flt_fee.proofs.fee.Fee.append.Goals as goal

pub append_record-requires-clause-blank : goal.append_record-requires-clause-blank
append_record-requires-clause-blank g c =
    let self = c.args.self.now in
    let image = (g.F.Flash.state self.flash).image in
    let stands = mounted_stands self.is_stale self.has_mounted c.requires.not_stale self.at self.numbers image self.end self.mounted in
    λ k low high. blank_at_end self.at self.numbers image self.end _ stands k low (omega (arith, c.requires.room))

goes : (g : _) (c : After-append_record g)
    → Appending c.args.self.now.at c.args.self.now.numbers (g.F.Flash.state c.args.self.now.flash) c.args.self.now.end c.args.block c.args.bytes.now c.args.valid
goes g c =
    let self = c.args.self.now in
    record {
      shape = g.met.F.Flash.shape self.flash;
      stands = mounted_stands self.is_stale self.has_mounted c.requires.not_stale self.at self.numbers (g.F.Flash.state self.flash).image self.end self.mounted;
      proper = (omega arith, omega arith, omega arith, c.requires.can.kind);
      among = is_among self.numbers c.args.block c.requires.can.number;
      room = c.requires.room;
    }

pub returns-in_err-append_record-clause-changes : goal.returns-in_err-append_record-clause-changes
returns-in_err-append_record-clause-changes g c =
    let self = c.args.self.now in
    failed_changes (goes g (goal.at.returns-in_err-append_record-clause-changes g c).After-append_record) c.in_err-append_record.ensures.records self.is_stale self.has_mounted c.from_residual.result (grind arith)

pub returns-in_err-append_record-clause-part : goal.returns-in_err-append_record-clause-part
returns-in_err-append_record-clause-part g c =
    let self = c.args.self.now in
    let records = c.in_err-append_record.ensures.records in
    record {
      calls = failed_calls (goes g (goal.at.returns-in_err-append_record-clause-part g c).After-append_record) records self.is_stale self.has_mounted c.from_residual.result (grind arith) records.cause;
      uncounted = search rules;
      settles = search rules;
    }

pub invariant_of-self-2 : goal.invariant_of-self-2
invariant_of-self-2 g c =
    let self = c.args.self.now in
    let here = goes g (goal.at.invariant_of-self-2 g c).After-append_record in
    let records = c.in_ok-append_record.ensures.records in
    let after = (g.F.Flash.state c.append_record.new.flash).image in
    let value : ℕ → Content = given c.args.block (record_content c.args.valid c.args.bytes.now) (block_value self.at.used self.numbers (g.F.Flash.state self.flash).image) in
    let last : self.end + (2 + byte_pages (length c.args.bytes.now)) ≡ self.end + 2 + c.byte_pages.result = omega (arith, c.byte_pages.ensures) in
    let same = with_items_is self.places c.note.new.places (omega (arith, c.note.ensures.size, ap length c.deref_mut.ensures.value, self.places.ok.0)) in
    let place : RecordPlace = record { page = self.end; length = length c.args.bytes.now; valid = c.args.valid } in
    let noted = subst (λ (places : List (Option RecordPlace)). (k : ℕ) → k < length self.numbers → get_or c.note.new.places k None ≡ (if true && (c.args.block == get_or self.numbers k 0) then Some place else get_or places k None)) c.deref_mut.ensures.value
    c.note.ensures.noted in
    record {
      within = omega (arith, self.within, records.on.runs.pages);
      least = self.least;
      distinct = self.distinct;
      sized = ap length same ∙ c.note.ensures.size ∙ ap length c.deref_mut.ensures.value ∙ self.sized;
      table = λ fresh. subst (λ (places : List (Option RecordPlace)). TellsPlaces self.numbers places (sector_at after self.at.sector) (self.end + 2 + c.byte_pages.result) (block_value self.at.used self.numbers after)) (sym same)
          (tells_appended here records self.places.items c.note.new.places (self.table c.requires.not_stale) place refl noted (self.end + 2 + c.byte_pages.result) last);
      mounted = stands_mounted self.has_mounted (self.mounted.mounted c.requires.not_stale) self.at self.numbers after (self.end + 2 + c.byte_pages.result) value
          (subst (λ n. StandsAt self.at.used self.numbers after self.at.sector self.at.sequence n value) last (done_standing here records refl));
    }

pub returns-clause-changes : goal.returns-clause-changes
returns-clause-changes g c = done_changes (goes g (goal.at.returns-clause-changes g c).After-append_record) c.in_ok-append_record.ensures.records c.args.self.now.is_stale c.args.self.now.has_mounted refl

pub invariant_of-self : goal.invariant_of-self
invariant_of-self g c =
    let self = c.args.self.now in
    let sound = left_sound (goes g (goal.at.invariant_of-self g c).After-append_record) c.append_record.ensures.records in
    record {
      within = omega (arith, self.within, c.append_record.ensures.records.on.runs.pages);
      least = self.least;
      distinct = self.distinct;
      sized = self.sized;
      table = λ fresh. absurd (cc fresh);
      mounted = stale_mounted self.has_mounted self.at self.numbers _ self.end (λ yes. sound);
    }

pub returns-in_err-append_record-clause-even : goal.returns-in_err-append_record-clause-even
returns-in_err-append_record-clause-even g c =
    let records = c.in_err-append_record.ensures.records in
    even_same c.args.self.now.at.used (g.F.Flash.state c.args.self.now.flash) (g.F.Flash.state c.append_record.new.flash) (current_stays (goes g (goal.at.returns-in_err-append_record-clause-even g c).After-append_record) records) records.on.wear

pub returns-clause-even : goal.returns-clause-even
returns-clause-even g c =
    let records = c.in_ok-append_record.ensures.records in
    even_same c.args.self.now.at.used (g.F.Flash.state c.args.self.now.flash) (g.F.Flash.state c.append_record.new.flash) (current_stays (goes g (goal.at.returns-clause-even g c).After-append_record) records) records.on.wear

pub returns-clause-part : goal.returns-clause-part
returns-clause-part g c = record {
  calls = done_calls (goes g (goal.at.returns-clause-part g c).After-append_record) c.in_ok-append_record.ensures.records c.args.self.now.is_stale c.args.self.now.has_mounted refl;
  uncounted = search rules;
  settles = search rules;
}
