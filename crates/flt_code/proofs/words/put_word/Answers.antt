use Rattle.std.proofs.Common.{◌∙◌, ap}
use Rattle.flt_code.specs.Word.{word_of}
use Rattle.flt_code.proofs.WordBytes.{word_of-word_bytes}
use Rattle.flt_code.proofs.words.put_word.Goals as goal

pub returns-clause-read : goal.returns-clause-read
returns-clause-read c = ap word_of c.word_to_bytes.ensures ∙ word_of-word_bytes c.args.word.now c.requires
