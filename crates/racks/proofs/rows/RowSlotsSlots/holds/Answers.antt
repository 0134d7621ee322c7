use Rattle.std.proofs.Common.{Ok, sym, ap, ◌∙◌, arith}
use Rattle.std.proofs.lemmas.Result.{err_from_is_err_and}
use Rattle.racks.specs.Rings.{starts_of, counts_of, row_of, rows_lay}
use Rattle.racks.proofs.Rules.{count-missing, count-is}
use Rattle.racks.proofs.Tables.{length-tabled}
use Rattle.racks.proofs.Ringed.{length-row, rows-there}
use Rattle.racks.proofs.rows.RowSlotsSlots.holds.Goals as goal

pub returns-in_err-check_bin : goal.returns-in_err-check_bin
returns-in_err-check_bin c =
    let s = c.args.self.now in
    let n = s.plan.numbers in
    let st = starts_of s.rings in
    let cn = counts_of s.rings in
    let p = err_from_is_err_and c.from_residual.result c.from_residual.ensures.1 in
    let h = c.in_err-check_bin.ensures.missing in
    rw (p.1, p.2, h.0) (sym (count-missing (rows_lay n.bins n.depth st cn) c.args.bin (omega (arith, length-tabled n.bins (row_of n.depth st cn), h.1))))

pub returns : goal.returns
returns c =
    let s = c.args.self.now in
    let n = s.plan.numbers in
    let st = starts_of s.rings in
    let cn = counts_of s.rings in
    let b = c.args.bin in
    let hb = c.in_ok-check_bin.ensures.there in
    ap Ok (c.ring.ensures.count ∙ sym (length-row n.bins n.depth st cn b hb))
    ∙ sym (count-is (rows_lay n.bins n.depth st cn) b (rows-there n.bins n.depth st cn b hb))
