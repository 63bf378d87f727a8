-- What a contract sees of subscribers: their kinds, and the changes that were reported to them.
use Rattle.std.specs.Prelude.{◌≡◌, ℕ, List, ◌∷◌, fold}
use Rattle.std.specs.List.{FoldsTo}
use Rattle.flt_model.specs.Start.{Start, History}
use Rattle.flt_model.specs.declared.call.Op.{Op}
use Rattle.flt_notify.specs.declared.change.Change.{Change}
use Rattle.flt_notify.specs.declared.subscribers.Subscribers.{Subscribers}
use Rattle.flt_notify.specs.Changes.{changes_from, statuses_after}
use Rattle.flt_notify.specs.Rows.{AreAnswersTo, rows_kinds}
use Rattle.flt_notify.specs.Value.{next_values}

-- The kinds that have a subscriber, in the order in which they were added.
abbrev pub kinds_of : {n : ℕ} {F : _} {g : _} → Subscribers n F g → List ℕ
kinds_of subscribers = rows_kinds subscribers.rows.items

-- The values of all kinds, before and after these changes, each of which was reported once to each subscriber, in this order.
abbrev pub AreTold : {n : ℕ} {F : _} {g : _} → Subscribers n F g → List ℕ → List Change → List ℕ → Type 0
AreTold subscribers values changes answers = FoldsTo (λ before change after. AreAnswersTo subscribers.rows.items 0 before change after) values changes answers

-- The changes of a call after these, at this place of the journal: the values of all kinds are those after them, each change was reported
-- once to each subscriber, and the bytes are those after the call.
pub record TellsCall {n : ℕ} {F : _} {g : _} (subscribers : Subscribers n F g) (life : Start) (past : History) (op : Op) (place : ℕ)
    (values answers bytes : List ℕ) : Type 0 where
  -- The values are those before, with the changes of the call in their order.
  pub values_are : answers ≡ fold (next_values 0) values (changes_from place 0 (statuses_after life past) (statuses_after life (op ∷ past)))
  -- Each change was reported once to each subscriber of its kind.
  pub called : AreTold subscribers values (changes_from place 0 (statuses_after life past) (statuses_after life (op ∷ past))) answers
  -- The bytes are those after the call.
  pub noted : bytes ≡ statuses_after life (op ∷ past)
