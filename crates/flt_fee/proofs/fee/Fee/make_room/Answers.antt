use Rattle.std.proofs.Common.{arith, rules}
use Rattle.flt_fee.proofs.Refusing.{end_within, live_end, fits_behind}
use Rattle.flt_fee.proofs.fee.Fee.make_room.Goals as goal

pub overflow_sub-self : goal.overflow_sub-self
overflow_sub-self g c =
    let self = c.args.self.now in
    end_within self.is_stale self.has_mounted c.requires.not_stale self.at self.numbers (g.F.Flash.state self.flash) self.end self.least self.distinct self.mounted

pub returns-then-needed-self-clause-refuses : goal.returns-then-needed-self-clause-refuses
returns-then-needed-self-clause-refuses g c =
    let self = c.args.self.now in
    let within = end_within self.is_stale self.has_mounted c.requires.not_stale self.at self.numbers (g.F.Flash.state self.flash) self.end self.least self.distinct self.mounted in
    record {
      answers = fits_behind self.is_stale self.has_mounted c.requires.not_stale self.at self.numbers (g.F.Flash.state self.flash) self.end self.least self.distinct self.mounted c.args.block c.args.size
          (omega (arith, within, c.byte_pages-needed.ensures));
      full = search rules;
      spent = search rules;
      untouched = search rules;
    }

pub overflow_sub-self-3 : goal.overflow_sub-self-3
overflow_sub-self-3 g c =
    let self = c.args.self.now in
    let within = end_within self.is_stale self.has_mounted c.requires.not_stale self.at self.numbers (g.F.Flash.state self.flash) self.end self.least self.distinct self.mounted in
    let records = live_end self.is_stale self.has_mounted c.requires.not_stale self.at self.numbers (g.F.Flash.state self.flash) self.end self.least self.distinct self.mounted in
    omega (arith, within, records, c.live-live.ensures)
