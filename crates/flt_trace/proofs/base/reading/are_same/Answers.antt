use Rattle.std.proofs.Common.{◌≡◌, ◌∙◌, ◌<◌, ℕ, List, [], length, get_or, sym, ap, arith, Bor}
use Rattle.std.specs.Prelude.{map, not}
use Rattle.std.specs.String.{string_bytes}
use Rattle.std.proofs.lemmas.Bool.{not-false}
use Rattle.std.proofs.lemmas.List.{get_or-map, length-map}
use Rattle.std.proofs.lemmas.Slice.Eq.{bytes_eq-Decides}
use Rattle.flt_trace.specs.Trace.{texts_seen}
use Rattle.flt_trace.proofs.Strings.{seen_at}
use Rattle.flt_trace.proofs.Same.{one_more}
use Rattle.flt_trace.proofs.base.reading.are_same.Goals as goal

pub returns-then-ne : goal.returns-then-ne
returns-then-ne c =
    let none : Bor (List ℕ) = record { ref_ptr = (0, 0); now = [] } in
    let texts = c.args.texts.now in
    let printed = c.args.printed.now in
    let place = c.loop-place.place in
    let one = c.index-printed-place.result in
    let among : place < length texts = omega (arith, c.loop-place-test.true) in
    let among_printed : place < length printed = omega (arith, c.loop-place-test.true, c.if-texts-printed.false) in (
      λ no. absurd (cc no),
      λ is.
          let same : (get_or texts place none).now ≡ c.as_str.result.now =
          seen_at texts place none among ∙ ap (λ (l : List (List ℕ)). get_or l place []) is ∙ get_or-map string_bytes printed place one [] among_printed
          ∙ ap string_bytes (sym c.index-printed-place.is) ∙ sym c.as_str.ensures.value in
          sym (c.ne.ensures ∙ ap not ((bytes_eq-Decides (get_or texts place none).now c.as_str.result.now).1 same)) ∙ c.if-ne.true,
    )

pub loop-place-preserved : goal.loop-place-preserved
loop-place-preserved c =
    let none : Bor (List ℕ) = record { ref_ptr = (0, 0); now = [] } in
    let texts = c.args.texts.now in
    let printed = c.args.printed.now in
    let place = c.loop-place.place in
    let one = c.index-printed-place.result in
    let among : place < length texts = omega (arith, c.loop-place-test.true) in
    let among_printed : place < length printed = omega (arith, c.loop-place-test.true, c.if-texts-printed.false) in
    let alike = sym c.ne.ensures ∙ c.if-ne.false in
    let same : (get_or texts place none).now ≡ c.as_str.result.now = (bytes_eq-Decides (get_or texts place none).now c.as_str.result.now).0 (not-false _ alike) in
    one_more (texts_seen texts) (map string_bytes printed) place [] (omega (arith, among, length-map texts (λ (t : Bor (List ℕ)). t.now))) (omega (arith, among_printed, length-map printed string_bytes))
    c.loop-place.invariant
    (sym (seen_at texts place none among) ∙ same ∙ c.as_str.ensures.value ∙ ap string_bytes c.index-printed-place.is ∙ sym (get_or-map string_bytes printed place one [] among_printed))
