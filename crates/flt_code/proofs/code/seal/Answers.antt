use Rattle.flt_code.proofs.Unsealed.{unsealed_code}
use Rattle.flt_code.proofs.code.seal.Goals as goal

pub returns-clause-code_word : goal.returns-clause-code_word
returns-clause-code_word c = record { size = c.told-bytes; range = c.fits-bytes; is = c.with_complements.ensures }

pub returns-clause-unsealed : goal.returns-clause-unsealed
returns-clause-unsealed c = unsealed_code c.args.bytes.now c.with_complements.result (record { size = c.told-bytes; range = c.fits-bytes; is = c.with_complements.ensures })
