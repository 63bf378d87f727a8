-- The dump that bytes are: configuration lines, a line `image`, and the pages of both sectors, each as a line of 64 hexadecimal digits.
use Rattle.std.specs.Prelude.{ℕ, zero, suc, ◌+◌, ◌*◌, ◌==◌, ◌||◌, nat_lt, List, [], ◌∷◌, ◌++◌, length, take, drop, codes, Bool, true, if◌then◌else◌, Option, Some, None, Result, Ok, Err, position}
use Rattle.std.proofs.Common.{inl, inr}
use Rattle.std.specs.List.{flat_map, list_any, slice_split}
use Rattle.std.specs.Result.{result_ok}
use Rattle.std.specs.Str.{bytes_eq}
use Rattle.hex.specs.Hex.{decode_sized}
use Rattle.flt_config.specs.declared.config.Config.{Config}
use Rattle.flt_config.specs.declared.config.DidUse.{DidUse}
use Rattle.flt_script.specs.declared.fault.LineCause.TheVariants.{Form}
use Rattle.flt_script.specs.declared.fault.ScriptFault.{ScriptFault}
use Rattle.flt_script.specs.Script.{ScriptContent, script_of}
use Rattle.flt_step.specs.Part.{PartOf}
use Rattle.flt_step.specs.declared.step.Step.{Step}
use Rattle.flt_script.specs.Text.{lines_of}

-- A configuration, and the image of a flash: two sectors of as many pages as the configuration has.
pub record DumpContent : Type 0 where
  pub config : Config
  pub image : List (List (List ℕ))

-- Why bytes are no dump: by the lines before the image, since a step is there or a life ends, or by the first line of the pages that
-- is wrong, missing or too many.
pub data DumpRefusal : Type 0 where
  no_script : ScriptFault → DumpRefusal
  begun : DumpRefusal
  no_page : ℕ → DumpRefusal

-- The line before the pages.
abbrev pub is_image : List ℕ → Bool
is_image line = bytes_eq line (codes "image")

-- How many lines are before it.
abbrev pub image_at : List ℕ → Option ℕ
image_at bytes = position is_image (lines_of bytes)

-- The bytes of this many first lines, each with its end.
unfoldable pub first_lines : ℕ → List ℕ → List ℕ
first_lines count bytes = flat_map (λ part. part ++ 10 ∷ []) (take count (slice_split (λ b. b == 10) bytes))

-- The page that a line of 64 hexadecimal digits spells, in either case.
abbrev pub page_spelled : List ℕ → Option (List ℕ)
page_spelled line = result_ok (decode_sized line 32)

-- A page before the others, where there is one.
abbrev pub with_page : ℕ → Option (List ℕ) → Result (List (List ℕ)) ℕ → Result (List (List ℕ)) ℕ
with_page number None rest = Err number
with_page number (Some page) (Ok pages) = Ok (page ∷ pages)
with_page number (Some page) (Err wrong) = Err wrong

-- The pages that this many lines spell, from the line of this number on, and no more of them; or the number of the first that is wrong.
unfoldable pub pages_spelled : ℕ → ℕ → List (List ℕ) → Result (List (List ℕ)) ℕ
pages_spelled number zero [] = Ok []
pages_spelled number zero (line ∷ lines) = Err number
pages_spelled number (suc left) [] = Err number
pages_spelled number (suc left) (line ∷ lines) = with_page number (page_spelled line) (pages_spelled (number + 1) left lines)

-- A step by itself, or a block of which a lane has a step.
abbrev pub has_step : PartOf Step → Bool
has_step (inl step) = true
has_step (inr lanes) = list_any (λ lane. nat_lt 0 (length lane)) lanes

-- The script has a step, or the end of a life.
abbrev pub has_begun_life : ScriptContent → Bool
has_begun_life script = nat_lt 1 (length script.lives) || list_any (λ parts. list_any has_step parts) script.lives

-- The image of these pages, those of sector 0 first.
abbrev pub dump_by : Config → Result (List (List ℕ)) ℕ → Result DumpContent DumpRefusal
dump_by c (Ok pages) = Ok (record { config = c; image = take c.pages pages ∷ drop c.pages pages ∷ [] })
dump_by c (Err number) = Err (no_page number)

-- The dump of a configuration and the lines after line `image`, of which the first has this number.
abbrev pub dump_behind : ℕ → List (List ℕ) → Result ScriptContent ScriptFault → Result DumpContent DumpRefusal
dump_behind number lines (Err fault) = Err (no_script fault)
dump_behind number lines (Ok content) =
    if has_begun_life content then Err begun else dump_by content.config (pages_spelled number (2 * content.config.pages) lines)

-- The dump by where its line `image` is. Where there is none the first line is reported.
abbrev pub dump_at : List DidUse → List ℕ → Option ℕ → Result DumpContent DumpRefusal
dump_at dids bytes None = Err (no_script (record { line = 1; cause = Form }))
dump_at dids bytes (Some before) = dump_behind (before + 2) (drop (before + 1) (lines_of bytes)) (script_of dids (first_lines before bytes))

-- The dump that these bytes are, with these data identifiers in the table, or the first fault of one that they are not.
abbrev pub dump_of : List DidUse → List ℕ → Result DumpContent DumpRefusal
dump_of dids bytes = dump_at dids bytes (image_at bytes)
