-- What is reported of a script that was made.
use Rattle.std.proofs.Common.{◌≡◌, ℕ, true, List, [], Option, Some, None, sym, ap, subst, ◌∙◌}
use Rattle.std.specs.Prelude.{if◌then◌else◌, reverse, slice_index_or}
use Rattle.std.specs.Io.KnownBytes.{Appends}
use Rattle.std.proofs.KnownBytes.{Appends-nil}
use Rattle.flt_config.specs.declared.config.Config.{Config}
use Rattle.flt_config.specs.declared.persist.Persist.{Persist}
use Rattle.flt_model.specs.Start.{Start as Start, History, fresh}
use Rattle.flt_model.specs.declared.call.Op.{Op}
use Rattle.flt_turn.specs.declared.vault.Entry.{Entry}
use Rattle.flt_turn.specs.Journal.{ops_of}
use Rattle.flt_step.specs.declared.step.Step.{Step}
use Rattle.flt_step.specs.Part.{PartOf}
use Rattle.flt_life_model.specs.declared.life.Boot.{Boot}
use Rattle.flt_life_model.specs.declared.life.Boot.TheVariants.{Started}
use Rattle.flt_life_model.specs.declared.replies.LaneReplies.{LaneReplies}
use Rattle.flt_notify.specs.declared.table.SubTable.{SubTable}
use Rattle.flt_notify.specs.Rows.{has_kind}
use Rattle.flt_notify.specs.Table.{HasValuesOf, kinds_in, value_of_kind, values_in}
use Rattle.flt_watch.specs.Watched.{IsWatched}

-- Nothing was written.
pub nothing_written : (held : Option (List ℕ)) → (bytes : List ℕ) × Appends held held bytes
nothing_written held = ([], Appends-nil held)

-- Two tables with the same kinds and values.
pub same_values : {n m : ℕ} {F : _} {g : _} {G : _} {h : _} (one : SubTable n F g) (two : SubTable m G h) → kinds_in one ≡ kinds_in two → values_in one ≡ values_in two → value_of_kind one ≡ value_of_kind two
same_values one two kinds values = λ i kind. if has_kind (kinds i) kind then Some (slice_index_or (values i) kind 0) else None

pub values_stay : {n m : ℕ} {F : _} {g : _} {G : _} {h : _} (start : Start) (past : History) (one : SubTable n F g) (two : SubTable m G h) → kinds_in one ≡ kinds_in two → values_in one ≡ values_in two → HasValuesOf start past one → HasValuesOf start past two
values_stay start past one two kinds values has = λ kind within known.
    (λ i. sym (same_values one two kinds values) i kind) ∙ has kind within (subst (λ l. has_kind l kind ≡ true) (sym kinds) known)

-- A state from which a life began.
base_of : Boot → Persist → Persist
base_of (Started generation state) other = state
base_of _ other = other

pub same_base : (boot : Boot) (one two : Persist) → boot ≡ Started 0 one → boot ≡ Started 0 two → one ≡ two
unfolding base_of
same_base boot one two first second = ap (λ b. base_of b one) (sym first ∙ second)

pub watched_stays : {n m : ℕ} {F : _} {g : _} {G : _} {h : _} (c : Config) (parts : List (PartOf Step)) (journal journal_after : List (Entry Op)) (answers answers_after : List LaneReplies) (one : SubTable n F g) (two : SubTable m G h)
    → journal_after ≡ journal → answers_after ≡ answers → kinds_in one ≡ kinds_in two → values_in one ≡ values_in two → IsWatched c parts journal answers one → IsWatched c parts journal_after answers_after two
watched_stays c parts journal journal_after answers answers_after one two same_journal same_answers kinds values watched =
    subst (λ l. IsWatched c parts l answers_after two) (sym same_journal) (subst (λ l. IsWatched c parts journal l two) (sym same_answers) (record {
      made = watched.made;
      values = values_stay (fresh c) (reverse (ops_of journal)) one two kinds values watched.values;
    }))
