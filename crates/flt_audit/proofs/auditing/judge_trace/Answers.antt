use Rattle.std.proofs.Common.{◌≡◌, ◌∙◌, ℕ, List, [], length, Bor, refl, sym, ap, subst, arith}
use Rattle.std.proofs.lemmas.List.{length-map}
use Rattle.flt_config.specs.declared.config.Config.{Config}
use Rattle.flt_config.specs.declared.persist.Persist.{Persist}
use Rattle.flt_model.specs.declared.call.Op.{Op}
use Rattle.flt_dcm.specs.Unit.{Stands}
use Rattle.flt_dcm.specs.Whole.{config_of, unit_seen}
use Rattle.flt_did.specs.Table.{dids_of}
use Rattle.flt_script.specs.Script.{content, script_of}
use Rattle.flt_turn.specs.declared.vault.Entry.{Entry}
use Rattle.flt_trace.specs.Trace.{texts_seen}
use Rattle.flt_trace.specs.Base.{IsBaseOf}
use Rattle.flt_trace.specs.Call.{AreCallTexts}
use Rattle.flt_trace.proofs.Calls.{if_some}
use Rattle.flt_trace.specs.Trace.{texts_of}
use Rattle.flt_audit.specs.Shape.{ToldLife, TellsLife}
use Rattle.flt_audit.specs.Audit.{due_texts, unlike_from}
use Rattle.flt_audit.proofs.Shapes.{as_many}
use Rattle.flt_audit.proofs.Unlike.{due_after}
use Rattle.flt_audit.proofs.auditing.judge_trace.Goals.{In_ok-first_unlike}
use Rattle.flt_audit.proofs.auditing.judge_trace.Goals as goal

pub first_unlike-requires-clause-many : goal.first_unlike-requires-clause-many
first_unlike-requires-clause-many g c =
    let config = c.in-Ok.script.config in
    let texts = c.deref-2.result.now in
    let calls = c.in-Some-2.calls.items in
    let are = if_some ((calls : List (Entry Op)) → AreCallTexts config calls (texts_seen texts) → ⊥) (λ calls. AreCallTexts config calls.items (texts_seen texts))
    c.in_ok-calls.field-0 c.in-Some-2.calls c.in-Some-2.is c.in_ok-calls.ensures.read in
    omega (
      arith,
      as_many config calls (texts_seen texts) are,
      length-map texts (λ (t : Bor (List ℕ)). t.now),
      c.if-len.false,
      c.len.ensures,
      c.len-2.ensures,
      ap length c.deref-2.ensures.value,
      ap length c.deref-3.ensures.value,
      ap length c.deref-4.ensures.value,
    )

-- The life that the texts describe, and the first place at which its answers differ.
life : (g : _) (c : In_ok-first_unlike g) → (told : ToldLife) × TellsLife (dids_of c.args.dids) (texts_of c.args.trace.now) told
    × (c.in_ok-first_unlike.field-0 ≡ unlike_from 0 (texts_of c.args.trace.now).answers (due_texts told))
life g c =
    let script = c.in-Ok.script in
    let config : Config = script.config in
    let base = c.in-Some.base in
    let calls = c.in-Some-2.calls.items in
    let trace = c.args.trace.now in
    let is_base = if_some ((state : Persist) → IsBaseOf config (texts_seen c.deref.result.now) state → ⊥) (λ state. IsBaseOf config (texts_seen c.deref.result.now) state)
    c.in_ok-base.field-0 base c.in-Some.is c.in_ok-base.ensures in
    let are = if_some ((calls : List (Entry Op)) → AreCallTexts config calls (texts_seen c.deref-2.result.now) → ⊥) (λ calls. AreCallTexts config calls.items (texts_seen c.deref-2.result.now))
    c.in_ok-calls.field-0 c.in-Some-2.calls c.in-Some-2.is c.in_ok-calls.ensures.read in
    let own : config_of c.make-unit.result ≡ config = c.make-unit.ensures.config ∙ c.make.ensures.config in
    let stands = subst (λ (k : Config). Stands (record { config = k; base = base }) [] (unit_seen c.boot.new.self)) own c.boot.ensures.stands in
    let found = c.in_ok-first_unlike.ensures (record { config = config; base = base }) stands in (
      record { config = config; base = base; journal = calls },
      record {
        script = content script;
        reads = ap (script_of (dids_of c.args.dids)) (sym c.as_bytes.ensures.value) ∙ c.in-Ok.ensures.exact;
        config = refl;
        base = subst (λ texts. IsBaseOf config (texts_seen texts) base) c.deref.ensures.value is_base;
        journal = subst (λ texts. AreCallTexts config calls (texts_seen texts)) c.deref-2.ensures.value are;
        answers = length-map trace.answers.items (λ (t : Bor (List ℕ)). t.now) ∙ omega (arith, c.if-len.false, c.len.ensures, c.len-2.ensures)
            ∙ sym (length-map trace.journal.items (λ (t : Bor (List ℕ)). t.now));
      },
      found ∙ (λ i. unlike_from 0 (texts_seen (c.deref-4.ensures.value i)) (due_after (record { config = config; base = base }) [] (c.deref-3.ensures.value i))),
    )

pub returns-in-None : goal.returns-in-None
returns-in-None g c = let told = life g (goal.at.returns-in-None g c).In_ok-first_unlike in (told.0, told.1, sym c.in-None.is ∙ told.2)

pub returns : goal.returns
returns g c = let told = life g (goal.at.returns g c).In_ok-first_unlike in (told.0, told.1, sym c.in-Some-3.is ∙ told.2)
