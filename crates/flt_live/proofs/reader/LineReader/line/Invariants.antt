use Rattle.std.proofs.Common.{◌≡◌, ◌≢◌, ◌≤◌, ℕ, List, Option, take}
use Rattle.std.specs.Prelude.{All}
use Rattle.std.specs.Vec.{vec_capacity}
use Rattle.std.specs.Io.KnownBytes.{Consumes}
use Rattle.flt_live.specs.Ahead.{ahead_of}
use Rattle.flt_live.proofs.reader.LineReader.line.Given as goal

-- The bytes of the line so far.
pub record IsSoFar (before after : Option (List ℕ)) (kept : List ℕ) : Type 0 where
  pub whole : List ℕ
  pub one : All (λ byte. byte ≢ 10) whole
  pub is : kept ≡ take 514 whole
  pub taken : Consumes before after whole

abbrev pub invariant-loop : goal.invariant-loop
invariant-loop g l = record {
  so_far : IsSoFar (ahead_of (g.S.Source.left l.initial.source) l.initial.self) (ahead_of (g.S.Source.left l.source) l.self) l.line.items;
  room : vec_capacity l.line ≡ vec_capacity l.initial.line;
  later : g.S.Source.faults l.initial.source ≤ g.S.Source.faults l.source;
}
