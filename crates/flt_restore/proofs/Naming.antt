-- The generation that a commit names, step by step.
use Rattle.std.proofs.Common.{◌≡◌, ℕ, List, refl, sym, ◌∙◌, ap, subst}
use Rattle.std.specs.Prelude.{Option, Some, None, Result, Ok}
use Rattle.flt_flash.specs.Content.{Content, missing, invalid, bytes}
use Rattle.flt_flash.specs.Blocks.{BlocksState}
use Rattle.flt_config.specs.declared.config.Config.{Config}
use Rattle.flt_config.specs.declared.persist.Persist.{Persist}
use Rattle.flt_config.specs.Durable.{initial_state}
use Rattle.flt_store_model.specs.declared.commit.Commit.{Commit}
use Rattle.flt_store_model.specs.Layout.{commit_id, mark_number, parts}
use Rattle.flt_store_model.specs.Form.{IsCommit}
use Rattle.flt_store_model.specs.Reading.{commit_in}
use Rattle.flt_store_model.specs.Holding.{Generation, Fault, damaged_at, ◌>>=◌, marked, parts_read, generation_of, named, applications_judged, excess_judged, held_by}
use Rattle.flt_store_model.proofs.ImageLaws.{commits_are_read}
use Rattle.flt_restore.specs.declared.fault.StartFault.{StartFault}
use Rattle.flt_restore.specs.Judging.{HasFaultCause}
use Rattle.flt_restore.proofs.Telling.{tells_first, tells_next}

module _ (c : Config) (value : ℕ → Content) where
  pub named_first : (state : Persist) → state ≡ initial_state c → named c value missing ≡ Ok (record { number = 0; state = state })
  unfolding named
  named_first state is = ap (λ (p : Persist). Ok (record { number = 0; state = p })) (sym is)

  pub named_invalid : named c value invalid ≡ damaged_at commit_id
  unfolding named
  named_invalid = refl

  named_bytes : (raw : List ℕ) (o : Option Commit) → commit_in c raw ≡ o → named c value (bytes raw) ≡ generation_of c value o
  unfolding named
  named_bytes raw o is = ap (generation_of c value) is

  pub no_commit : (raw : List ℕ) → None ≡ commit_in c raw → named c value (bytes raw) ≡ damaged_at commit_id
  no_commit raw is = named_bytes raw None (sym is)

  pub named_commit : (raw : List ℕ) (commit : Commit) (state : Persist) → Some commit ≡ commit_in c raw → parts_read c value commit parts ≡ Ok state
      → named c value (bytes raw) ≡ Ok (record { number = commit.generation; state = state })
  named_commit raw commit state is read =
      named_bytes raw (Some commit) (sym is) ∙ ap (λ (r : Result Persist Fault). r >>= (λ p. Ok (record { number = commit.generation; state = p }))) read

  pub parts_refused : (before after : BlocksState) (raw : List ℕ) (commit : Commit) (fault : StartFault) → Some commit ≡ commit_in c raw
      → HasFaultCause c before after (parts_read c value commit parts) fault → HasFaultCause c before after (named c value (bytes raw)) fault
  parts_refused before after raw commit fault is tells =
      subst (λ (r : Result Generation Fault). HasFaultCause c before after r fault) (sym (named_bytes raw (Some commit) (sym is)))
      (tells_first c before after (parts_read c value commit parts) (λ state. Ok (record { number = commit.generation; state = state })) fault tells)

pub read_form : (c : Config) (raw : List ℕ) (commit : Commit) → Some commit ≡ commit_in c raw → IsCommit c commit
read_form c raw commit is = ((commits_are_read c raw commit).0 (sym is)).0

-- The steps of an image.
module _ (c : Config) (value : ℕ → Content) (commit : Content) where
  abbrev with_excess : Generation → Unit {0} → Result Generation Fault
  with_excess g _ = excess_judged c value >>= (λ _. Ok g)

  abbrev after_named : Generation → Result Generation Fault
  after_named g = applications_judged value >>= with_excess g

  abbrev after_mark : Unit {0} → Result Generation Fault
  after_mark _ = named c value commit >>= after_named

  pub mark_refused : (before after : BlocksState) (fault : StartFault) → HasFaultCause c before after (marked c (value mark_number) commit) fault → HasFaultCause c before after (held_by c value commit) fault
  unfolding held_by
  mark_refused before after fault tells = tells_first c before after (marked c (value mark_number) commit) after_mark fault tells

  module _ (own : marked c (value mark_number) commit ≡ Ok tt) where
    pub named_refused : (before after : BlocksState) (fault : StartFault) → HasFaultCause c before after (named c value commit) fault → HasFaultCause c before after (held_by c value commit) fault
    unfolding held_by
    named_refused before after fault tells =
        tells_next c before after (marked c (value mark_number) commit) after_mark tt fault own (tells_first c before after (named c value commit) after_named fault tells)

    module _ (g : Generation) (names : named c value commit ≡ Ok g) where
      pub applications_refused : (before after : BlocksState) (fault : StartFault) → HasFaultCause c before after (applications_judged value) fault → HasFaultCause c before after (held_by c value commit) fault
      unfolding held_by
      applications_refused before after fault tells =
          tells_next c before after (marked c (value mark_number) commit) after_mark tt fault own
          (tells_next c before after (named c value commit) after_named g fault names (tells_first c before after (applications_judged value) (with_excess g) fault tells))

      module _ (fine : applications_judged value ≡ Ok tt) where
        pub excess_refused : (before after : BlocksState) (fault : StartFault) → HasFaultCause c before after (excess_judged c value) fault → HasFaultCause c before after (held_by c value commit) fault
        unfolding held_by
        excess_refused before after fault tells =
            tells_next c before after (marked c (value mark_number) commit) after_mark tt fault own
            (tells_next c before after (named c value commit) after_named g fault names
            (tells_next c before after (applications_judged value) (with_excess g) tt fault fine (tells_first c before after (excess_judged c value) (λ _. Ok g) fault tells)))

        pub all_told : excess_judged c value ≡ Ok tt → held_by c value commit ≡ Ok g
        unfolding held_by
        all_told borne =
            ap (λ (r : Result (Unit {0}) Fault). r >>= after_mark) own
            ∙ ap (λ (r : Result Generation Fault). r >>= after_named) names
            ∙ ap (λ (r : Result (Unit {0}) Fault). r >>= with_excess g) fine
            ∙ ap (λ (r : Result (Unit {0}) Fault). r >>= (λ _. Ok g)) borne
