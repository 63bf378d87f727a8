use Rattle.flt_image.proofs.Rows.{table_serves}
use Rattle.flt_image.proofs.laws.numbers_serve_table.Goals as goal

pub returns : goal.returns
returns c = table_serves
