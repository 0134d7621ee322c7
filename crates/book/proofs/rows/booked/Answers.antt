use Rattle.std.proofs.Common.{◌<◌, length, add-one, arith}
use Rattle.book.specs.declared.rows.Row.TheVariants.{Free}
use Rattle.book.proofs.Sums.{booked-more}
use Rattle.book.proofs.rows.booked.Goals as goal

pub loop-row-preserved : goal.loop-row-preserved
loop-row-preserved c =
    let h : c.loop-row.row-index < length c.args.rows.now = omega arith in
    let e = booked-more c.args.class c.args.rows.now c.loop-row.row-index Free h in
    (simp add-one (omega arith), omega arith)
