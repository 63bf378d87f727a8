use Rattle.std.proofs.Common.{◌≡◌, append_assoc, arith, to_z, of_z, w8}
use Rattle.std.proofs.lemmas.Int.{ints}
use Rattle.flt_report.specs.Answer.{shown_text}
use Rattle.flt_report.proofs.answer.put_shown.Goals as goal

pub returns : goal.returns
unfolding shown_text
returns c =
    let fdc : to_z w8 (of_z w8 c.args.shown.now.fdc) ≡ c.args.shown.now.fdc = omega (arith, ints) in
    record {
      items = rw (
        c.put_flag.ensures.items,
        c.put_text-6.ensures.items,
        c.put_number-3.ensures.items,
        c.put_text-5.ensures.items,
        c.put_number-2.ensures.items,
        c.put_text-4.ensures.items,
        c.put_number.ensures.items,
        c.put_text-3.ensures.items,
        c.put_signed.ensures.items,
        c.put_text-2.ensures.items,
        c.put_byte.ensures.items,
        c.put_text.ensures.items,
      )
          (simp (append_assoc, c.from.ensures, c.from-2.ensures, c.from-3.ensures, fdc));
      len = omega arith;
      room = omega arith;
    }
