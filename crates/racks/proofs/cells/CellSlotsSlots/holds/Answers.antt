use Rattle.std.proofs.Common.{Ok, sym, ap, ◌∙◌, arith}
use Rattle.std.proofs.lemmas.Result.{err_from_is_err_and}
use Rattle.racks.specs.Places.{tabled}
use Rattle.racks.specs.Chains.{firsts_of, counts_of, chain_of}
use Rattle.racks.proofs.Rules.{count-missing, count-is}
use Rattle.racks.proofs.Tables.{length-tabled}
use Rattle.racks.proofs.Chained.{length-bin, lay-there}
use Rattle.racks.proofs.cells.CellSlotsSlots.holds.Goals as goal

pub returns-in_err-check_bin : goal.returns-in_err-check_bin
returns-in_err-check_bin c =
    let s = c.args.self.now in
    let n = s.numbers.bins in
    let f = chain_of s.next.now (firsts_of s.chains) (counts_of s.chains) in
    let p = err_from_is_err_and c.from_residual.result c.from_residual.ensures.1 in
    let h = c.in_err-check_bin.ensures.missing in
    rw (p.1, p.2, h.0) (sym (count-missing (tabled n f) c.args.bin (omega (arith, length-tabled n f, h.1))))

pub returns : goal.returns
returns c =
    let s = c.args.self.now in
    let n = s.numbers.bins in
    let f = chain_of s.next.now (firsts_of s.chains) (counts_of s.chains) in
    let b = c.args.bin in
    let hb = c.in_ok-check_bin.ensures.there in
    ap Ok (c.chain.ensures.count ∙ sym (length-bin n s.next.now (firsts_of s.chains) (counts_of s.chains) b hb)) ∙ sym (count-is (tabled n f) b (lay-there n f b hb))
