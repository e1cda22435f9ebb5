use Rattle.controller_code.proofs.RowsRead.{lines_read}
use Rattle.controller_code.proofs.laws.rows_are_read.Goals as goal

pub returns : goal.returns
returns c = lines_read
