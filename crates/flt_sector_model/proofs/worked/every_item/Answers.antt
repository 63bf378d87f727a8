use Rattle.std.proofs.Common.{refl}
use Rattle.flt_flash.specs.Image.{blank_page}
use Rattle.flt_code.specs.Seal.{sealed, unsealed}
use Rattle.flt_code.specs.Spoiled.{is_spoiled}
use Rattle.flt_code.specs.Word.{word_bytes, candidate, word_of}
use Rattle.flt_sector_model.specs.Log.{log_from}
use Rattle.flt_sector_model.proofs.worked.every_item.Goals as goal

pub returns : goal.returns
unfolding blank_page sealed unsealed is_spoiled word_bytes candidate word_of log_from
returns c = record { contents = refl; end = refl; undamaged = refl }
