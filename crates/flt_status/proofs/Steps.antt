-- What one more mark does to a flag and to a count.
use Rattle.std.proofs.Common.{◌≡◌, ℕ, ◌+◌, ◌≤◌, Bool, true, false, not, ◌&&◌, ◌||◌, cond, min, Some, None, refl, ap, sym, ◌∙◌, arith, ⊎_elim}
use mir.Val.{bool_byte}
use Rattle.std.specs.Prelude.{unwrap_or, ◌∷◌, nat_lt}
use Rattle.std.proofs.lemmas.Bool.{and_right, cases_lt, le-ltb}
use Rattle.std.proofs.Math.Bool.{and-true}
use Rattle.flt_model.specs.Mark.{Past}
use Rattle.flt_model.specs.Mark.Mark.{Aged}
use Rattle.flt_model.specs.Byte.{byte_of}
use Rattle.flt_model.specs.Status.{status, durable, confirmed, lit, clean_count, failed_count}
use Rattle.flt_config.specs.declared.config.EventCfg.{EventCfg}
use Rattle.flt_config.specs.declared.persist.EventState.{EventState}

pub set_where : (test before : Bool) → unwrap_or (cond test (Some true) None) before ≡ (before || test)
set_where true true = refl
set_where true false = refl
set_where false true = refl
set_where false false = refl

-- A count that stops at a limit may stop there at each step.
pub stopped_count : (limit n : ℕ) (counted : Bool) → min limit (cond counted (n + 1) n) ≡ min limit (cond counted (min limit n + 1) (min limit n))
stopped_count limit n true = omega arith
stopped_count limit n false = omega arith

-- A stopped count to which one is added where that is counted.
pub added_count : (limit n : ℕ) (counted : Bool) → min (min limit n + bool_byte counted) limit ≡ min limit (cond counted (n + 1) n)
added_count limit n true = omega arith
added_count limit n false = omega arith

-- The same of a count that did not stop.
pub added_once : (limit n : ℕ) (counted : Bool) → n ≤ limit → min (n + bool_byte counted) limit ≡ min limit (cond counted (n + 1) n)
added_once limit n true h = omega arith
added_once limit n false h = omega arith

-- A stopped count that starts again.
pub restarted_count : (limit n : ℕ) (restarts : Bool) → min limit (unwrap_or (cond restarts (Some 0) None) n) ≡ cond restarts 0 (min limit n)
restarted_count limit n true = omega arith
restarted_count limit n false = refl

pub restarted_once : (limit n : ℕ) (restarts : Bool) → n ≤ limit → min limit (unwrap_or (cond restarts (Some 0) None) n) ≡ cond restarts 0 n
restarted_once limit n true h = omega arith
restarted_once limit n false h = omega arith

-- A count that may be beyond its limit grows exactly where the stopped count does.
pub below_limit : (limit n : ℕ) (counted : Bool) → nat_lt n (min limit (cond counted (n + 1) n)) ≡ nat_lt (min limit n) (min limit (cond counted (n + 1) n))
below_limit limit n counted = ⊎_elim
    (λ below. ap (λ m. nat_lt m (min limit (cond counted (n + 1) n))) (omega (arith, below)))
    (λ beyond. le-ltb _ _ (omega (arith, beyond)) ∙ sym (le-ltb _ _ (omega (arith, beyond))))
    (cases_lt n limit)

module _ (base : EventState) (rules : EventCfg) (marks : Past) where
  -- The state after a mark of aging, where there is one.
  pub durable_where_aged : (ages : Bool) →
      durable base rules (cond ages (Aged ∷ marks) marks) ≡ record {
        status = byte_of (record (status base rules marks) {
          confirmed = confirmed base rules marks && not ages;
          indicator_requested = (lit base rules marks && not ages) && nat_lt (clean_count base marks) rules.heal;
        });
        failed = failed_count base marks;
        clean = clean_count base marks;
        lit = lit base rules marks && not ages;
      }
  durable_where_aged true = rw (and_right (confirmed base rules marks) false refl, and_right (lit base rules marks) false refl) refl
  durable_where_aged false = rw (and-true (confirmed base rules marks), and-true (lit base rules marks)) refl
