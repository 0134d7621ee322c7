use Rattle.std.proofs.Common.{sym}
use Rattle.racks.specs.Rings.{starts_of, counts_of, row_of}
use Rattle.racks.proofs.Tables.{length-tabled}
use Rattle.racks.proofs.Ringed.{rows-within}
use Rattle.racks.proofs.rows.RowSlotsSlots.sizes.Goals as goal

pub returns-clause-bins : goal.returns-clause-bins
returns-clause-bins c =
    let s = c.args.self.now in
    sym (length-tabled s.plan.numbers.bins (row_of s.plan.numbers.depth (starts_of s.rings) (counts_of s.rings)))

pub returns-clause-within : goal.returns-clause-within
returns-clause-within c =
    let s = c.args.self.now in
    rows-within s.plan.numbers.bins s.plan.numbers.depth (starts_of s.rings) (counts_of s.rings) s.starts_within
