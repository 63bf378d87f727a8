-- Where the line `image` of a dump is, in bytes. This serves the proof.
use Rattle.std.specs.Prelude.{◌≡◌, ℕ, ◌+◌, ◌≤◌, List, length, take, drop, Some}
use Rattle.flt_script.specs.Text.{lines_of}
use Rattle.flt_dump.specs.Dump.{image_at, first_lines}
use Rattle.flt_dump.specs.declared.lines.ImageLine.{ImageLine}

-- This many lines are before it, which are the bytes before its first one; and it is followed by the lines of the bytes after it.
pub record IsImageLine (bytes : List ℕ) (image : ImageLine) : Type 0 where
  pub at : image_at bytes ≡ Some image.before
  pub from : image.from ≤ length bytes
  pub small : image.before ≤ image.from
  pub front : take image.from bytes ≡ first_lines image.before bytes
  pub behind : image.behind ≤ length bytes
  pub lines : lines_of (drop image.behind bytes) ≡ drop (image.before + 1) (lines_of bytes)
