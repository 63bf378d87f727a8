use Rattle.std.proofs.Common.{◌≡◌, ◌∙◌, ◌++◌, Some, [], ◌∷◌, length, arith, sym, ap}
use Rattle.flt_model.specs.Response.{noted_bytes, with_status}
use Rattle.flt_dem.specs.View.{event_seen, noted_at}
use Rattle.flt_dcm.proofs.ListLemmas.{seen_to, noted_seen, noted_past}
use Rattle.flt_dcm.proofs.response.put_noted.Goals as goal

pub returns-then-event-event_count : goal.returns-then-event-event_count
returns-then-event-event_count c =
    let dem = c.args.dem.now in
    let n = length dem.durable.config.events.items in
    let noted : noted_at dem.durable.notes c.args.sub ≡ Some c.in-Some.event = sym (c.which_of.ensures dem) ∙ sym c.noted.ensures.value ∙ c.in-Some.is in
    let told = ap (noted_bytes (seen_to dem n)) noted
    ∙ noted_seen dem n c.in-Some.event (omega (arith, c.if-event-event_count.true, c.event_count.ensures.count)) in
    let head = ap (λ xs. xs ++ 0x59 ∷ c.args.sub ∷ 0xFF ∷ []) c.requires in
    ap Some (ap (λ xs. 0x59 ∷ c.args.sub ∷ 0xFF ∷ xs) told ∙ sym (c.put_status.ensures ∙ ap (λ xs. xs ++ with_status (event_seen dem c.in-Some.event)) (c.put_bytes.ensures ∙ head)))

pub returns-else-event-event_count : goal.returns-else-event-event_count
returns-else-event-event_count c =
    let dem = c.args.dem.now in
    let n = length dem.durable.config.events.items in
    let noted : noted_at dem.durable.notes c.args.sub ≡ Some c.in-Some.event = sym (c.which_of.ensures dem) ∙ sym c.noted.ensures.value ∙ c.in-Some.is in
    let told = ap (noted_bytes (seen_to dem n)) noted
    ∙ noted_past dem n c.in-Some.event (omega (arith, c.if-event-event_count.false, c.event_count.ensures.count)) in
    let head = ap (λ xs. xs ++ 0x59 ∷ c.args.sub ∷ 0xFF ∷ []) c.requires in
    ap Some (ap (λ xs. 0x59 ∷ c.args.sub ∷ 0xFF ∷ xs) told ∙ sym (c.put_bytes.ensures ∙ head))
