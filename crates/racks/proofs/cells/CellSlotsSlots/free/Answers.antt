use Rattle.std.proofs.Common.{◌≡◌, ℕ, ◌+◌, get_or, sym, refl, ap, ◌∙◌, subst, arith}
use Rattle.std.proofs.lemmas.Result.{err_from_is_err_and}
use Rattle.racks.specs.declared.plan.Numbers.{Numbers}
use Rattle.racks.specs.Places.{tabled}
use Rattle.racks.specs.Chains.{firsts_of, counts_of, chain_of, Moved}
use Rattle.racks.proofs.Rules.{take-missing}
use Rattle.racks.proofs.Tables.{length-tabled}
use Rattle.racks.proofs.Chained.{cell-none, cells-freed}
use Rattle.racks.proofs.cells.CellSlotsSlots.free.Goals as goal

pub returns-in_err-check_bin : goal.returns-in_err-check_bin
returns-in_err-check_bin c =
    let s = c.args.self.now in
    let n = s.numbers.bins in
    let f = chain_of s.next.now (firsts_of s.chains) (counts_of s.chains) in
    let p = err_from_is_err_and c.from_residual.result c.from_residual.ensures.1 in
    let h = c.in_err-check_bin.ensures.missing in
    let e = take-missing (tabled n f) c.args.bin (omega (arith, length-tabled n f, h.1)) in
    rw (p.1, p.2, h.0) (record { answer = sym (ap (λ w. w.0) e); next = sym (ap (λ w. w.1) e); depth = refl; total = refl; room = refl })

pub returns-then-chain-eq0 : goal.returns-then-chain-eq0
returns-then-chain-eq0 c =
    let s = c.args.self.now in
    let none : get_or (counts_of s.chains) c.args.bin 0 ≡ 0 = omega (arith, c.chain.ensures.count, c.if-chain-eq0.true) in
    let e = cell-none s.numbers.bins s.next.now (firsts_of s.chains) (counts_of s.chains) c.args.bin c.in_ok-check_bin.ensures.there none in
    record { answer = sym (ap (λ w. w.0) e); next = sym (ap (λ w. w.1) e); depth = refl; total = refl; room = refl }

pub returns : goal.returns
returns c =
    let s = c.args.self.now in
    let b = c.args.bin in
    let n = s.numbers.bins in
    let f = chain_of s.next.now (firsts_of s.chains) (counts_of s.chains) in
    let w = c.shift.new.self in
    let g = chain_of w.next.now (firsts_of w.chains) (counts_of w.chains) in
    let j = c.shift.result in
    let same = c.shift.ensures.numbers in
    let mv = subst (λ (a : ℕ). Moved (n + 1) f g b a j) c.free_list-free.ensures c.shift.ensures.moved in
    let e = cells-freed n b j f g c.in_ok-check_bin.ensures.there mv in
    record {
      answer = sym (ap (λ w. w.0) e);
      next = ap (λ (z : Numbers). tabled z.bins g) same ∙ sym (ap (λ w. w.1) e);
      depth = ap (λ (z : Numbers). z.depth) same;
      total = ap (λ (z : Numbers). z.total) same;
      room = ap (λ (z : Numbers). z.total) same;
    }
