-- What an inspection reports about bytes: for a dump what its image holds and says, and for other bytes why they are not a dump.
use Rattle.std.specs.Prelude.{◌≡◌, ℕ, List, [], ◌∷◌, ◌++◌, Result, Ok, Err, codes}
use Rattle.std.specs.Fmt.{decimal}
use Rattle.flt_config.specs.declared.config.Config.{Config}
use Rattle.flt_config.specs.declared.config.DidUse.{DidUse}
use Rattle.flt_store_model.specs.Holding.{Generation}
use Rattle.flt_store_model.specs.Holding as holding
use Rattle.flt_store_model.specs.Layout.{numbers}
use Rattle.flt_life_model.specs.declared.life.Boot.{Boot}
use Rattle.flt_life_model.specs.declared.life.Boot.TheVariants.{Started, Refused}
use Rattle.flt_report.specs.Boot.{boot_text}
use Rattle.flt_script.specs.Fault.{script_fault_line}
use Rattle.flt_restore.specs.Judging.{told_as}
use Rattle.flt_script.specs.declared.fault.ScriptFault.{ScriptFault}
use Rattle.flt_store_model.specs.Image.{image_held}
use Rattle.flt_filter.specs.Verdict.{Due, line_due}
use Rattle.flt_dump.specs.Dump.{DumpContent, DumpRefusal, no_script, begun, no_page, dump_of}
use Rattle.flt_dump.specs.Listing.{listing_text}

-- What a power-up with this image would come to, whatever its sequence number.
abbrev pub boot_told : Config → Result Generation holding.Fault → Boot
boot_told c (Ok g) = Started g.number g.state
boot_told c (Err fault) = Refused (told_as c fault)

-- 0 where a generation is held, and else 6.
abbrev pub held_status : {E : Type 0} → Result Generation E → ℕ
held_status (Ok g) = 0
held_status (Err fault) = 6

-- The line of the number of a generation.
unfoldable pub generation_line : ℕ → List ℕ
generation_line number = codes "generation " ++ decimal number ++ 10 ∷ []

-- The image of a dump: how a life would begin with it, and then its lines.
abbrev pub image_due : DumpContent → Due
image_due dump = record {
  status = held_status (image_held dump.config dump.image);
  text = boot_text (boot_told dump.config (image_held dump.config dump.image)) ++ 10 ∷ []
      ++ listing_text dump.config.pages numbers dump.image;
}

-- Lines that are no script.
abbrev pub script_due : ScriptFault → Due
script_due fault = record { status = 2; text = script_fault_line fault }

-- A dump, or why bytes are none.
abbrev pub inspection_due : Result DumpContent DumpRefusal → Due
inspection_due (Ok dump) = image_due dump
inspection_due (Err (no_script fault)) = script_due fault
inspection_due (Err begun) = line_due 2 (codes "script other")
inspection_due (Err (no_page number)) = line_due 10 (codes "dump line " ++ decimal number)

-- What is due of bytes, where the table has these data identifiers.
abbrev pub inspected : List DidUse → List ℕ → Due
inspected dids bytes = inspection_due (dump_of dids bytes)

abbrev pub IsInspected : List DidUse → List ℕ → Due → Type 0
IsInspected dids bytes due = due ≡ inspected dids bytes
