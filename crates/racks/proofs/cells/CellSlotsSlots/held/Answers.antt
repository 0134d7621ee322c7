use Rattle.std.proofs.Common.{get_or, ap, arith}
use Rattle.racks.specs.Chains.{firsts_of, counts_of}
use Rattle.racks.proofs.Chained.{held-free}
use Rattle.racks.proofs.cells.CellSlotsSlots.held.Goals as goal

pub overflow_sub-result : goal.overflow_sub-result
overflow_sub-result c =
    let s = c.args.self.now in
    omega (arith, c.chain.ensures.count, ap (λ a. get_or (counts_of s.chains) a 0) c.free_list.ensures, held-free s.numbers.bins s.next.now (firsts_of s.chains) (counts_of s.chains), s.sum)

pub returns : goal.returns
returns c =
    let s = c.args.self.now in
    omega (arith, c.chain.ensures.count, ap (λ a. get_or (counts_of s.chains) a 0) c.free_list.ensures, held-free s.numbers.bins s.next.now (firsts_of s.chains) (counts_of s.chains), s.sum)
