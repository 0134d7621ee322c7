use Rattle.std.proofs.Common.{sym}
use Rattle.racks.specs.Chains.{firsts_of, counts_of, chain_of}
use Rattle.racks.proofs.Tables.{length-tabled}
use Rattle.racks.proofs.Chained.{lay-within}
use Rattle.racks.proofs.cells.CellSlotsSlots.sizes.Goals as goal

pub returns-clause-bins : goal.returns-clause-bins
returns-clause-bins c =
    let s = c.args.self.now in
    sym (length-tabled s.numbers.bins (chain_of s.next.now (firsts_of s.chains) (counts_of s.chains)))

pub returns-clause-within : goal.returns-clause-within
returns-clause-within c =
    let s = c.args.self.now in
    lay-within s.numbers.bins (chain_of s.next.now (firsts_of s.chains) (counts_of s.chains)) s.numbers.total s.inside
