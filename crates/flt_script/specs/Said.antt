-- What a line says, with its numbers as they are written.
use Rattle.std.specs.Prelude.{ℕ}
use Rattle.flt_script.specs.declared.event.EventLine.{EventLine}
use Rattle.flt_script.specs.declared.line.StepLine.{StepLine}

-- Nothing, as a blank line and a comment do; a setting; an event or a data identifier for one; a step; the end of a life; or
-- the beginning of a block, the beginning of a lane or the end of a block.
pub data Line : Type 0 where
  Skipped : Line
  Config : ℕ → Line
  Memory : ℕ → Line
  Blocks : ℕ → Line
  Flash : (sectors pages : ℕ) → Line
  Event : EventLine → Line
  Did : (event id : ℕ) → Line
  Step : StepLine → Line
  Power : Line
  Par : Line
  Lane : Line
  End : Line
