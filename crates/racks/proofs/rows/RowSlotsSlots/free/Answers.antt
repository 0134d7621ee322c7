use Rattle.std.proofs.Common.{◌≡◌, ℕ, suc, ◌+◌, ◌-◌, length, get_or, sym, refl, ap, arith, rules}
use Rattle.std.proofs.lemmas.Result.{err_from_is_err_and}
use Rattle.racks.specs.Rings.{starts_of, counts_of, row_of, rows_lay}
use Rattle.racks.proofs.Rules.{take-missing}
use Rattle.racks.proofs.Tables.{length-tabled}
use Rattle.racks.proofs.Ringed.{row-none}
use Rattle.racks.proofs.RowCalls.{some-held, freed-kept, freed-is}
use Rattle.racks.proofs.rows.RowSlotsSlots.free.Goals as goal

pub returns-in_err-check_bin : goal.returns-in_err-check_bin
returns-in_err-check_bin c =
    let s = c.args.self.now in
    let n = s.plan.numbers in
    let st = starts_of s.rings in
    let cn = counts_of s.rings in
    let p = err_from_is_err_and c.from_residual.result c.from_residual.ensures.1 in
    let h = c.in_err-check_bin.ensures.missing in
    let e = take-missing (rows_lay n.bins n.depth st cn) c.args.bin (omega (arith, length-tabled n.bins (row_of n.depth st cn), h.1)) in
    rw (p.1, p.2, h.0) (record { answer = sym (ap (λ w. w.0) e); next = sym (ap (λ w. w.1) e); depth = refl; total = refl; room = refl })

pub returns-then-ring-eq0 : goal.returns-then-ring-eq0
returns-then-ring-eq0 c =
    let s = c.args.self.now in
    let n = s.plan.numbers in
    let none : get_or (counts_of s.rings) c.args.bin 0 ≡ 0 = omega (arith, c.ring-ring.ensures.count, c.if-ring-eq0.true) in
    let e = row-none n.bins n.depth (starts_of s.rings) (counts_of s.rings) c.args.bin c.in_ok-check_bin.ensures.there none in
    record { answer = sym (ap (λ w. w.0) e); next = sym (ap (λ w. w.1) e); depth = refl; total = refl; room = refl }

pub overflow_sub-self : goal.overflow_sub-self
overflow_sub-self c =
    let s = c.args.self.now in
    let long : length s.rings ≡ 32 = search rules in
    let r = c.ring-ring in
    let g = c.shrink in
    let some : r.result.count ≡ suc (r.result.count - 1) = omega (arith, c.if-ring-eq0.false) in
    some-held s c.args.bin long c.in_ok-check_bin.ensures.there r.result r.ensures.start r.ensures.count (r.result.count - 1) some g.new.self g.ensures.start g.ensures.below g.ensures.count

pub invariant_of-self : goal.invariant_of-self
invariant_of-self c =
    let s = c.args.self.now in
    let long : length s.rings ≡ 32 = search rules in
    let r = c.ring-ring in
    let g = c.shrink in
    let some : r.result.count ≡ suc (r.result.count - 1) = omega (arith, c.if-ring-eq0.false) in
    let k = freed-kept s c.args.bin long c.in_ok-check_bin.ensures.there r.result r.ensures.start r.ensures.count (r.result.count - 1) some g.new.self g.ensures.start g.ensures.below g.ensures.count in
    record { starts_within = k.starts_within; counts_within = k.counts_within; sum = k.sum }

pub returns : goal.returns
returns c =
    let s = c.args.self.now in
    let long : length s.rings ≡ 32 = search rules in
    let r = c.ring-ring in
    let g = c.shrink in
    let some : r.result.count ≡ suc (r.result.count - 1) = omega (arith, c.if-ring-eq0.false) in
    let e = freed-is s c.args.bin long c.in_ok-check_bin.ensures.there r.result r.ensures.start r.ensures.count (r.result.count - 1) some g.new.self g.ensures.start g.ensures.below g.ensures.count
    _ (ap (λ (z : ℕ). z + r.result.start) c.base.ensures.value) in
    record { answer = sym (ap (λ w. w.0) e); next = sym (ap (λ w. w.1) e); depth = refl; total = refl; room = refl }
