-- What a line says by itself.
use Rattle.std.specs.Prelude.{ℕ, List, Option, None, Result, Ok, Err, IsTrue, option_map}
use Rattle.std.specs.Option.{ok_or}
use Rattle.flt_config.specs.declared.config.Config.{Config}
use Rattle.flt_script.specs.declared.alone.AloneLine.{AloneLine}
use Rattle.flt_script.specs.declared.alone.AloneLine.TheVariants as alone
use Rattle.flt_script.specs.declared.fault.LineCause.{LineCause}
use Rattle.flt_script.specs.declared.fault.LineCause.TheVariants.{Form, Order, Range, Block}
use Rattle.flt_step.specs.declared.step.Step.{Step}
use Rattle.flt_step.specs.Step.{is_step_in}
use Rattle.flt_script.specs.Said.{Line}
use Rattle.flt_script.specs.Said as line
use Rattle.flt_script.specs.Behind.{step_of}
use Rattle.flt_script.specs.Gives.{◌>>=◌}
use Rattle.flt_script.specs.declared.keyword.Keyword.{Keyword}
use Rattle.flt_script.specs.Line.{line_of, line_with}

-- The step that a line says, where it says one whose numbers are in their ranges.
abbrev pub said_step : Config → Line → Option Step
said_step config (line.Step written) = step_of config written
said_step config _ = None

-- The same, where the line is not refused.
abbrev pub step_where : Config → Result Line LineCause → Option Step
step_where config (Ok said) = said_step config said
step_where config (Err cause) = None

-- The step that a text is under a configuration.
abbrev pub step_in : Config → List ℕ → Option Step
step_in config text = step_where config (line_of text)

-- What a line says after a configuration that is closed: it configures no more, and there is no block of lanes.
abbrev pub said_alone : Config → Line → Result AloneLine LineCause
said_alone config line.Skipped = Ok alone.Skipped
said_alone config (line.Step written) = ok_or (option_map alone.Step (step_of config written)) Range
said_alone config line.Power = Ok alone.Power
said_alone config line.Par = Err Block
said_alone config line.Lane = Err Block
said_alone config line.End = Err Block
said_alone config _ = Err Order

-- The same of the words after a keyword.
abbrev pub words_alone : Config → Keyword → List (List ℕ) → Result AloneLine LineCause
words_alone config keyword words = ok_or (line_with keyword words) Form >>= said_alone config

-- The same of a line's text.
abbrev pub alone_in : Config → List ℕ → Result AloneLine LineCause
alone_in config text = line_of text >>= said_alone config

-- The numbers of a step are in their ranges.
abbrev pub IsAloneIn : Config → AloneLine → Type 0
IsAloneIn config alone.Skipped = Unit {0}
IsAloneIn config (alone.Step step) = IsTrue (is_step_in config step)
IsAloneIn config alone.Power = Unit {0}
