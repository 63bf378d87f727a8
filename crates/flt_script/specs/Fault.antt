-- How a refusal is printed, and the lines that say why there is no script.
use Rattle.std.specs.Prelude.{ℕ, List, [], ◌∷◌, ◌++◌, codes}
use Rattle.std.specs.Fmt.{decimal}
use Rattle.flt_config.specs.declared.config.CfgFault.TheVariants.{DtcTwice, NoRoom}
use Rattle.flt_config.specs.declared.config.CfgFault.TheVariants as faults
use Rattle.flt_script.specs.declared.fault.LineCause.{LineCause}
use Rattle.flt_script.specs.declared.fault.LineCause.TheVariants.{Large, Long, Byte, Word, Form, Order, Range, Many, Block, Did, Config}
use Rattle.flt_script.specs.declared.fault.ParseFault.{ParseFault}
use Rattle.flt_script.specs.declared.fault.ParseFault.TheVariants.{Memory, At}
use Rattle.flt_script.specs.declared.fault.ScriptFault.{ScriptFault}
use Rattle.flt_step.specs.Words.{with_two_numbers}

-- The cause in a word, and the events of one DTC, or the pages that are needed and those that are used.
abbrev pub cause_text : LineCause → List ℕ
cause_text Large = codes "large"
cause_text Long = codes "long"
cause_text Byte = codes "byte"
cause_text Word = codes "word"
cause_text Form = codes "form"
cause_text Order = codes "order"
cause_text Range = codes "range"
cause_text Many = codes "many"
cause_text Block = codes "block"
cause_text Did = codes "did"
cause_text (Config (faults.Range event field value)) = codes "range"
cause_text (Config (DtcTwice first second)) = with_two_numbers (codes "twice") first second
cause_text (Config (NoRoom needed pages)) = with_two_numbers (codes "room") needed pages

-- The line, and the cause.
abbrev pub script_fault_text : ScriptFault → List ℕ
script_fault_text fault = codes "script line " ++ decimal fault.line ++ 32 ∷ cause_text fault.cause

-- A lack of memory, or the fault of the script.
abbrev pub parse_fault_text : ParseFault → List ℕ
parse_fault_text Memory = codes "out of memory"
parse_fault_text (At fault) = script_fault_text fault

-- The line that says why bytes are no script.
abbrev pub script_fault_line : ScriptFault → List ℕ
script_fault_line fault = script_fault_text fault ++ 10 ∷ []

-- The line that says that the source of a script failed.
abbrev pub unread_line : List ℕ
unread_line = codes "read fault" ++ 10 ∷ []
