-- Worked verdicts of an inspection, and what words and watches ask for.
use Rattle.std.specs.Prelude.{◌≡◌, ℕ, List, [], ◌∷◌, ◌++◌, map, codes, true, false, Some, None, Ok, Err}
use Rattle.std.specs.Fmt.{decimal}
use Rattle.flt_flash.specs.declared.arm.Arm.{Arm}
use Rattle.flt_model.specs.declared.call.Report.TheVariants.{Failed}
use Rattle.flt_store_model.specs.Holding.{Generation}
use Rattle.flt_store_model.specs.Image.{image_held}
use Rattle.flt_store_model.specs.Layout.{numbers}
use Rattle.flt_script.specs.declared.fault.LineCause.TheVariants.{Form}
use Rattle.flt_step.specs.declared.step.Step.TheVariants as steps
use Rattle.flt_filter.specs.Verdict.{Due, large_due, unread_due}
use Rattle.flt_dump.specs.Dump.{DumpContent, no_script, begun, no_page}
use Rattle.flt_dump.specs.Listing.{listing_text}
use Rattle.flt_examine.specs.Examination.{usage_due}
use Rattle.flt_examine.specs.Inspection.{inspection_due, image_due, inspected}
use Rattle.flt_run.specs.declared.command.Command.TheVariants.{Run, Check, Load}
use Rattle.flt_program.specs.declared.invocation.Invocation.TheVariants.{Flash, Eeprom, Watch}
use Rattle.flt_program.specs.Words.{count_of, invocation_of}
use Rattle.flt_watch.specs.Asked.{is_watched}

-- A status, and the one line that is reported.
abbrev pub one_line : ℕ → List ℕ → Due
one_line status words = record { status = status; text = words ++ 10 ∷ [] }

-- What is reported about bytes that are no dump, of an input that was not read, and of words that are no command.
pub record RefusalsOfAnInspection : Type 0 where
  pub script : inspection_due (Err (no_script (record { line = 3; cause = Form }))) ≡ one_line 2 (codes "script line 3 form")
  pub other : inspection_due (Err begun) ≡ one_line 2 (codes "script other")
  pub page : inspection_due (Err (no_page 12)) ≡ one_line 10 (codes "dump line 12")
  pub unread : unread_due ≡ one_line 3 (codes "read fault")
  pub large : large_due ≡ one_line 9 (codes "input large")
  pub usage : usage_due ≡ one_line 1 (codes "usage: flt_inspect inspect | trace | audit")

-- A line with its end.
abbrev pub with_feed : List ℕ → List ℕ
with_feed words = words ++ 10 ∷ []

-- Lines are counted from 1 over the whole input: the first page after two lines is line 3. A step before the image is no dump, and bytes without
-- the line `image` are none by their first line.
pub record LinesOfADump : Type 0 where
  pub first_page : inspected [] (with_feed (codes "event 0 dtc 000001") ++ with_feed (codes "image") ++ with_feed (codes "FF")) ≡ one_line 10 (codes "dump line 3")
  pub no_pages : inspected [] (with_feed (codes "image")) ≡ one_line 10 (codes "dump line 2")
  pub step : inspected [] (with_feed (codes "save") ++ with_feed (codes "image")) ≡ one_line 2 (codes "script other")
  pub wrong : inspected [] (with_feed (codes "memory 16") ++ with_feed (codes "memory") ++ with_feed (codes "image")) ≡ one_line 2 (codes "script line 2 form")
  pub no_image : inspected [] (with_feed (codes "memory 16")) ≡ one_line 2 (codes "script line 1 form")

-- The generation that is held is reported with status 0, before the lines of the image.
abbrev pub HeldIsTold : Type 0
HeldIsTold = (dump : DumpContent) (held : Generation) → image_held dump.config dump.image ≡ Ok held
    → image_due dump ≡ record { status = 0; text = with_feed (codes "generation " ++ decimal held.number) ++ listing_text dump.config.pages numbers dump.image }

-- A load has 1 to 60,000 reports, in one to five digits.
pub record ReportsOfALoad : Type 0 where
  pub counts : map count_of (codes "0" ∷ codes "1" ∷ codes "00004" ∷ codes "000004" ∷ codes "60000" ∷ codes "60001" ∷ [] ∷ [])
      ≡ None ∷ Some 1 ∷ Some 4 ∷ None ∷ Some 60000 ∷ None ∷ None ∷ []
  pub plain : invocation_of (codes "load" ∷ codes "4" ∷ codes "plain" ∷ []) ≡ Flash (Some (Load 4 false))
  pub lanes : invocation_of (codes "load" ∷ codes "4" ∷ codes "lanes" ∷ []) ≡ Flash (Some (Load 4 true))
  pub neither : invocation_of (codes "load" ∷ codes "4" ∷ codes "both" ∷ []) ≡ Flash None
  pub words : map (λ word. invocation_of (word ∷ [])) (codes "run" ∷ codes "check" ∷ codes "ea" ∷ codes "watch" ∷ codes "load" ∷ [])
      ≡ Flash (Some Run) ∷ Flash (Some Check) ∷ Eeprom Run ∷ Watch ∷ Flash None ∷ []

-- A watch makes the seven kinds of steps that call the status machine, and none of the six others.
abbrev pub StepsOfAWatch : Type 0
StepsOfAWatch = (arm : Arm) → map is_watched
    (steps.Report 0 Failed ∷ steps.Show 0 ∷ steps.Cycle 0 ∷ steps.Tick 1 ∷ steps.Signal 0 0 ∷ steps.Enable 0 true ∷ steps.Request 0 (record { items = [] })
    ∷ steps.Save ∷ steps.Post false 0 (record { items = [] }) ∷ steps.Drain ∷ steps.Get 0 ∷ steps.Ask 0 ∷ steps.Arming arm ∷ [])
    ≡ true ∷ true ∷ true ∷ true ∷ true ∷ true ∷ true ∷ false ∷ false ∷ false ∷ false ∷ false ∷ false ∷ []
