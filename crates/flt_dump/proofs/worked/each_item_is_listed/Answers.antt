use Rattle.std.proofs.Common.{refl}
use Rattle.std.specs.Fmt.{digits}
use Rattle.flt_flash.specs.Image.{blank_page}
use Rattle.flt_code.specs.Seal.{sealed, unsealed}
use Rattle.flt_code.specs.Spoiled.{is_spoiled}
use Rattle.flt_code.specs.Word.{word_bytes, candidate, word_of}
use Rattle.flt_sector_model.specs.Log.{log_from}
use Rattle.flt_dump.specs.Listing.{log_text, torn_lines, torn_line, record_line, sector_line}
use Rattle.flt_dump.proofs.worked.each_item_is_listed.Goals as goal

pub returns : goal.returns
unfolding digits blank_page sealed unsealed is_spoiled word_bytes candidate word_of log_from log_text torn_lines torn_line record_line sector_line
returns c = record { items = refl; none = refl; damaged = refl }
