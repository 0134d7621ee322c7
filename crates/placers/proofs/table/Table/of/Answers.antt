use Rattle.placers.proofs.Tables.{get_or-same}
use Rattle.placers.proofs.table.Table.of.Goals as goal

pub returns-clause-rows : goal.returns-clause-rows
returns-clause-rows g c = λ s. get_or-same 128 s c.args.row
