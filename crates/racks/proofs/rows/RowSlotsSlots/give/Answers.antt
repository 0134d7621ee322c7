use Rattle.std.proofs.Common.{◌≡◌, length, ◌∙◌, arith, rules}
use Rattle.std.proofs.lemmas.Result.{err_from_is_err_and}
use Rattle.racks.specs.Rings.{starts_of, counts_of, row_of, rows_lay}
use Rattle.racks.proofs.Rules.{put-missing, put_full}
use Rattle.racks.proofs.Tables.{length-tabled}
use Rattle.racks.proofs.Ringed.{rows-there}
use Rattle.racks.proofs.RowCalls.{full-is, given-kept, given-is}
use Rattle.racks.proofs.rows.RowSlotsSlots.give.Goals as goal

pub returns-in_err-check_bin-clause-given : goal.returns-in_err-check_bin-clause-given
returns-in_err-check_bin-clause-given c =
    let s = c.args.self.now in
    let n = s.plan.numbers in
    let st = starts_of s.rings in
    let cn = counts_of s.rings in
    let p = err_from_is_err_and c.from_residual.result c.from_residual.ensures.1 in
    let h = c.in_err-check_bin.ensures.missing in
    rw (p.1, p.2, h.0) (put-missing (rows_lay n.bins n.depth st cn) c.args.bin (omega (arith, length-tabled n.bins (row_of n.depth st cn), h.1)) n.depth n.total 0)

pub returns-in_err-check_room-clause-given : goal.returns-in_err-check_room-clause-given
returns-in_err-check_room-clause-given c =
    let s = c.args.self.now in
    let n = s.plan.numbers in
    let st = starts_of s.rings in
    let cn = counts_of s.rings in
    let b = c.args.bin in
    let hb = c.in_ok-check_bin.ensures.there in
    let long : length s.rings ≡ 32 = search rules in
    let r = c.ring-ring in
    let p = err_from_is_err_and c.from_residual-in_err-check_room.result c.from_residual-in_err-check_room.ensures.1 in
    let h = c.in_err-check_room.ensures.full in
    rw (p.1, p.2, h.0) (put_full (rows_lay n.bins n.depth st cn) b (rows-there n.bins n.depth st cn b hb) n.depth n.total 0
    (full-is s b long hb r.result r.ensures.start r.ensures.count ∙ h.1))

pub invariant_of-self : goal.invariant_of-self
invariant_of-self c =
    let s = c.args.self.now in
    let long : length s.rings ≡ 32 = search rules in
    let r = c.ring-ring in
    let g = c.grow in
    let k = given-kept s c.args.bin long c.in_ok-check_bin.ensures.there r.result r.ensures.start r.ensures.count g.new.self g.ensures.start g.ensures.count c.in_ok-check_room.ensures.room in
    record { starts_within = k.starts_within; counts_within = k.counts_within; sum = k.sum }

pub returns-clause-given : goal.returns-clause-given
returns-clause-given c =
    let s = c.args.self.now in
    let long : length s.rings ≡ 32 = search rules in
    let r = c.ring-ring in
    let g = c.grow in
    given-is s c.args.bin long c.in_ok-check_bin.ensures.there r.result r.ensures.start r.ensures.count g.new.self g.ensures.start g.ensures.count c.in_ok-check_room.ensures.room
    _ (omega (arith, c.base.ensures.value, c.end.ensures.value))
