use Rattle.std.proofs.Common.{◌≡◌, ◌≢◌, ◌∙◌, ℕ, Bool, if◌then◌else◌, ap, eq-eqb, inl, inr, sym}
use Rattle.std.proofs.lemmas.Bool.{cases_eq, ne_eqb}
use Rattle.faultmem.specs.Program.{lost_status}
use Rattle.faultmem.proofs.exit_of.Goals as goal

-- The status where memory ran out and the one where it did not are those of an end that was lost.
lost : (status exit : ℕ) → (status ≡ 7 → exit ≡ 7) → (status ≢ 7 → exit ≡ 4) → exit ≡ lost_status status
lost status exit memory report = elim (cases_eq status 7) [
  | inl out ↦ memory out ∙ sym (ap (λ (b : Bool). if b then 7 else 4) (eq-eqb status 7 out))
  | inr other ↦ report other ∙ sym (ap (λ (b : Bool). if b then 7 else 4) (ne_eqb status 7 other))
]

pub returns-in-Ok : goal.returns-in-Ok
returns-in-Ok g c = (
  c.program-ended.new.sink,
  record { ended = c.program-ended.result; ends = c.program-ended.ensures; exit_is = inl (c.in-Ok.ensures.counted, c.status-due.ensures) },
)

pub returns : goal.returns
returns g c = (
  c.program-ended.new.sink,
  record {
    ended = c.program-ended.result;
    ends = c.program-ended.ensures;
    exit_is = inr (c.in-Err.ensures.cause.failed, lost _ _ c.lost_status.ensures.memory c.lost_status.ensures.report ∙ ap lost_status c.status-due.ensures);
  },
)
