use Rattle.std.proofs.Common.{ℕ, ◌+◌, ◌<◌, ◌||◌, leb, get_or, Ok, sym, ap, ◌∙◌, subst, arith}
use Rattle.std.proofs.lemmas.Result.{err_from_is_err_and}
use Rattle.std.proofs.lemmas.Bool.{leb-false, or_parts}
use Rattle.racks.specs.declared.plan.Numbers.{Numbers}
use Rattle.racks.specs.Bins.{held_in}
use Rattle.racks.specs.Places.{tabled}
use Rattle.racks.specs.Chains.{firsts_of, counts_of, chain_of, Moved}
use Rattle.racks.proofs.Rules.{put-missing, put_full}
use Rattle.racks.proofs.Tables.{length-tabled}
use Rattle.racks.proofs.Chained.{lay-there, held-free, cells-full, cells-given}
use Rattle.racks.proofs.cells.CellSlotsSlots.give.Goals as goal

pub returns-in_err-check_bin-clause-given : goal.returns-in_err-check_bin-clause-given
returns-in_err-check_bin-clause-given c =
    let s = c.args.self.now in
    let n = s.numbers.bins in
    let f = chain_of s.next.now (firsts_of s.chains) (counts_of s.chains) in
    let p = err_from_is_err_and c.from_residual.result c.from_residual.ensures.1 in
    let h = c.in_err-check_bin.ensures.missing in
    rw (p.1, p.2, h.0) (put-missing (tabled n f) c.args.bin (omega (arith, length-tabled n f, h.1)) s.numbers.depth s.numbers.total 0)

pub returns-in_err-check_room-clause-given : goal.returns-in_err-check_room-clause-given
returns-in_err-check_room-clause-given c =
    let s = c.args.self.now in
    let b = c.args.bin in
    let n = s.numbers.bins in
    let d = s.numbers.depth in
    let t = s.numbers.total in
    let f = chain_of s.next.now (firsts_of s.chains) (counts_of s.chains) in
    let hb = c.in_ok-check_bin.ensures.there in
    let p = err_from_is_err_and c.from_residual-in_err-check_room.result c.from_residual-in_err-check_room.ensures.1 in
    let h = c.in_err-check_room.ensures.full in
    let full = cells-full n s.next.now (firsts_of s.chains) (counts_of s.chains) d t b hb
    ∙ ap (λ (u : ℕ). leb d u || leb t (held_in (tabled n f))) (sym c.chain.ensures.count)
    ∙ ap (λ (h : ℕ). leb d c.chain.result.count || leb t h) (sym c.held.ensures) ∙ h.1 in
    rw (p.1, p.2, h.0) (put_full (tabled n f) b (lay-there n f b hb) d t 0 full)

pub shift-requires : goal.shift-requires
shift-requires c =
    let s = c.args.self.now in
    let hb = c.in_ok-check_bin.ensures.there in
    let free = c.free_list-free.ensures in
    let room : c.held.result < s.numbers.total = leb-false s.numbers.total c.held.result (or_parts (leb s.numbers.depth c.chain.result.count) (leb s.numbers.total c.held.result) c.in_ok-check_room.ensures.room).1 in
    let some = held-free s.numbers.bins s.next.now (firsts_of s.chains) (counts_of s.chains) in
    let left : 0 < get_or (counts_of s.chains) c.free_list-free.result 0 = omega (arith, room, some, s.sum, c.held.ensures, ap (λ a. get_or (counts_of s.chains) a 0) free) in
    (omega (arith, free), (omega (arith, hb), ((λ e. omega (arith, free, hb, e)), left)))

pub returns : goal.returns
returns c =
    let s = c.args.self.now in
    let b = c.args.bin in
    let n = s.numbers.bins in
    let d = s.numbers.depth in
    let t = s.numbers.total in
    let f = chain_of s.next.now (firsts_of s.chains) (counts_of s.chains) in
    let hb = c.in_ok-check_bin.ensures.there in
    let w = c.shift.new.self in
    let g = chain_of w.next.now (firsts_of w.chains) (counts_of w.chains) in
    let j = c.shift.result in
    let same = c.shift.ensures.numbers in
    let mv = subst (λ (a : ℕ). Moved (n + 1) f g a b j) c.free_list-free.ensures c.shift.ensures.moved in
    let free = cells-full n s.next.now (firsts_of s.chains) (counts_of s.chains) d t b hb
    ∙ ap (λ (u : ℕ). leb d u || leb t (held_in (tabled n f))) (sym c.chain.ensures.count)
    ∙ ap (λ (h : ℕ). leb d c.chain.result.count || leb t h) (sym c.held.ensures) ∙ c.in_ok-check_room.ensures.room in
    let got = cells-given n d t t b j f g hb s.once s.inside free mv in
    record {
      given = (got.0 ∙ ap (λ (z : Numbers). (Ok tt, tabled z.bins g)) (sym same), got.1, got.2);
      depth = ap (λ (z : Numbers). z.depth) same;
      total = ap (λ (z : Numbers). z.total) same;
      room = ap (λ (z : Numbers). z.total) same;
    }
