use Rattle.std.proofs.Common.{◌≡◌, ◌∙◌, ◌-◌, ◌+◌, ◌<◌, ℕ, List, [], Ok, sym, ap, subst, arith, true, false, length, drop, Bor}
use Rattle.std.proofs.lemmas.List.{length-map}
use Rattle.flt_config.specs.declared.persist.Persist.{Persist}
use Rattle.flt_store_model.specs.Form.{block_bytes}
use Rattle.flt_store_model.specs.Holding.{or_damaged}
use Rattle.flt_store_model.specs.Layout.{is_used, part_of_block, parts}
use Rattle.flt_store_model.specs.Reading.{taken}
use Rattle.flt_store_model.proofs.ImageLaws.{sizes_of}
use Rattle.flt_trace.specs.Trace.{texts_seen}
use Rattle.flt_trace.proofs.Strings.{seen_at}
use Rattle.flt_trace.specs.Base.{IsBaseOf}
use Rattle.flt_trace.proofs.Blocks.{all_taken, begun, never_refused, passed, so_far, taken_by, text_at, text_missing, texts_from_first, texts_without}
use Rattle.flt_trace.proofs.Same.{if_none, if_some, was_refused, was_taken}
use Rattle.flt_trace.proofs.base.reading.take_blocks.Goals as goal
use Rattle.flt_trace.proofs.base.reading.take_blocks.Goals.{then-is_used+else-texts-place+in_ok-bytes+in-Some+else-not-get_block, else-is_used}

pub loop-id-init : goal.loop-id-init
loop-id-init c =
    let config = c.args.config.now in
    record {
      states = c.initial-state.ensures.fits.states.one_each;
      taken = λ p is. begun config p ∙ ap Ok (sym c.initial-state.ensures.value);
      texts = λ p is. is.printed ∙ sym (texts_from_first config p);
    }

pub returns-then-texts-place : goal.returns-then-texts-place
returns-then-texts-place c =
    λ p is.
    let config = c.args.config.now in
    let texts = texts_seen c.args.texts.now in
    let used : is_used config c.loop-id.id ≡ true = sym c.is_used.ensures ∙ c.if-is_used.true in
    text_missing config p texts c.loop-id.place c.loop-id.id (omega (arith, c.if-texts-place.true, length-map c.args.texts.now (λ (t : Bor (List ℕ)). t.now)))
    (omega (arith, c.loop-id-test.true)) used (c.loop-id.invariant.texts p is)

pub returns-in-None : goal.returns-in-None
returns-in-None c =
    λ p is.
    let none : Bor (List ℕ) = record { ref_ptr = (0, 0); now = [] } in
    let config = c.args.config.now in
    let texts = c.args.texts.now in
    let place = c.loop-id.place in
    let id = c.loop-id.id in
    let used : is_used config id ≡ true = sym c.is_used.ensures ∙ c.if-is_used.true in
    let among : place < length texts = omega (arith, c.if-texts-place.false) in
    let at = text_at config p (texts_seen texts) place id [] (omega (arith, among, length-map texts (λ (t : Bor (List ℕ)). t.now))) (omega (arith, c.loop-id-test.true)) used (c.loop-id.invariant.texts p is) in
    if_none ⊥ (λ read. read.items ≡ block_bytes p id) c.in_ok-bytes.field-0 c.in-None.is (c.in_ok-bytes.ensures (block_bytes p id) (is.bytes id used) (seen_at texts place none among ∙ at.0))

pub returns-then-not-get_block : goal.returns-then-not-get_block
returns-then-not-get_block c =
    λ p is.
    let none : Bor (List ℕ) = record { ref_ptr = (0, 0); now = [] } in
    let config = c.args.config.now in
    let texts = c.args.texts.now in
    let place = c.loop-id.place in
    let id = c.loop-id.id in
    let used : is_used config id ≡ true = sym c.is_used.ensures ∙ c.if-is_used.true in
    let among : place < length texts = omega (arith, c.if-texts-place.false) in
    let at = text_at config p (texts_seen texts) place id [] (omega (arith, among, length-map texts (λ (t : Bor (List ℕ)). t.now))) (omega (arith, c.loop-id-test.true)) used (c.loop-id.invariant.texts p is) in
    let same : c.in-Some.bytes.items ≡ block_bytes p id = if_some ⊥ (λ read. read.items ≡ block_bytes p id) c.in_ok-bytes.field-0 c.in-Some.bytes c.in-Some.is (c.in_ok-bytes.ensures (block_bytes p id) (is.bytes id used) (seen_at texts place none among ∙ at.0)) in
    let refused = was_refused _ c.get_block.result c.loop-id.state c.get_block.new.into c.get_block.ensures.taken c.if-not-get_block.true in
    never_refused config p (sizes_of config c.mark_of.ensures.valid_config) is.fits (id - 3) id (omega (arith, c.loop-id.auto.id)) (omega (arith, c.loop-id-test.true)) c.loop-id.state used
    (c.loop-id.invariant.taken p is)
    (ap (λ (bytes : List ℕ). taken config (part_of_block id) bytes c.loop-id.state) (sym same ∙ sym c.deref.ensures.value) ∙ refused)

pub loop-id-preserved : goal.loop-id-preserved
loop-id-preserved c =
    let none : Bor (List ℕ) = record { ref_ptr = (0, 0); now = [] } in
    let config = c.args.config.now in
    let texts = c.args.texts.now in
    let place = c.loop-id.place in
    let id = c.loop-id.id in
    let low : 3 + (id - 3) ≡ id = omega (arith, c.loop-id.auto.id) in
    let next : id + 1 - 3 ≡ id - 3 + 1 = omega (arith, c.loop-id.auto.id) in
    let below : id < 36 = omega (arith, c.loop-id-test.true) in
    elim c.if-is_used.branch [
      | then-is_used+else-texts-place+in_ok-bytes+in-Some+else-not-get_block w ↦
          let used : is_used config id ≡ true = sym c.is_used.ensures ∙ w.if-is_used.true in
          let among : place < length texts = omega (arith, w.if-texts-place.false) in
          let at = λ (p : Persist) (is : IsBaseOf config (texts_seen texts) p). text_at config p (texts_seen texts) place id [] (omega (arith, among, length-map texts (λ (t : Bor (List ℕ)). t.now))) below used (c.loop-id.invariant.texts p is) in
          record {
            states = ap (λ (s : Persist). length s.events.items) w.state-is ∙ w.get_block.ensures.states ∙ c.loop-id.invariant.states;
            taken = λ p is.
                let same : w.in-Some.bytes.items ≡ block_bytes p id = if_some ⊥ (λ read. read.items ≡ block_bytes p id) w.in_ok-bytes.field-0 w.in-Some.bytes w.in-Some.is (w.in_ok-bytes.ensures (block_bytes p id) (is.bytes id used) (seen_at texts place none among ∙ (at p is).0)) in
                let given = was_taken _ w.get_block.result c.loop-id.state w.get_block.new.into w.get_block.ensures.taken w.if-not-get_block.false in
                ap (λ (n : ℕ). so_far config p n) next ∙ taken_by config p (id - 3) id low c.loop-id.state used (c.loop-id.invariant.taken p is)
                ∙ ap (or_damaged id) (ap (λ (bytes : List ℕ). taken config (part_of_block id) bytes c.loop-id.state) (sym same ∙ sym w.deref.ensures.value) ∙ given)
                ∙ ap Ok (sym w.state-is);
            texts = λ p is. ap (λ (n : ℕ). drop n (texts_seen texts)) w.place-is ∙ (at p is).1;
          }
      | else-is_used w ↦
          let unused : is_used config id ≡ false = sym c.is_used.ensures ∙ w.if-is_used.false in
          record {
            states = ap (λ (s : Persist). length s.events.items) w.state-is ∙ c.loop-id.invariant.states;
            taken = λ p is.
                ap (λ (n : ℕ). so_far config p n) next ∙ passed config p (id - 3) id low c.loop-id.state unused (c.loop-id.invariant.taken p is) ∙ ap Ok (sym w.state-is);
            texts = λ p is. ap (λ (n : ℕ). drop n (texts_seen texts)) w.place-is ∙ c.loop-id.invariant.texts p is ∙ texts_without config p id below unused;
          }
    ]

pub returns : goal.returns
returns c =
    λ p is.
    let config = c.args.config.now in
    let end : c.loop-id.id - 3 ≡ parts = omega (arith, c.loop-id.auto.id-end, c.loop-id-test.false) in
    all_taken config p (sizes_of config c.mark_of.ensures.valid_config) is.fits c.loop-id.state (subst (λ (n : ℕ). so_far config p n ≡ Ok c.loop-id.state) end (c.loop-id.invariant.taken p is))
