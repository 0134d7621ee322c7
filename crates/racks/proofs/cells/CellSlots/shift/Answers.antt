use Rattle.std.proofs.Common.{◌≡◌, suc, ◌-◌, ◌≤◌, length, get_or, set, ◌∙◌, arith, rules}
use Rattle.std.proofs.lemmas.List.{length-set}
use Rattle.racks.specs.Chains.{counts_of}
use Rattle.racks.proofs.Shifts.{first-there, last-there, few, settled-first, settled-last}
use Rattle.racks.proofs.cells.CellSlots.shift.Goals as goal

pub bounds-self-place : goal.bounds-self-place
bounds-self-place c =
    let s = c.args.self.now in
    let r = c.requires in
    let long : length s.chains ≡ 33 = search rules in
    omega (arith, c.chain-place.ensures.first, first-there s c.args.from c.args.to long r.0 r.1.0 r.1.1.0 r.1.1.1)

pub invariant_of-self : goal.invariant_of-self
invariant_of-self c =
    let s = c.args.self.now in
    let r = c.requires in
    let long : length s.chains ≡ 33 = search rules in
    let g = c.chain-place.ensures in
    let t = c.chain-taker.ensures in
    let a = c.leave in
    let b = c.start in
    let none : get_or (counts_of s.chains) c.args.to 0 ≡ 0 = omega (arith, t.count, c.if-taker-eq0.true) in
    let w = settled-first s c.args.from c.args.to long r.0 r.1.0 r.1.1.0 r.1.1.1 c.chain-place.result.first a.new.self b.new.self
    g.first a.ensures.first a.ensures.last a.ensures.count b.ensures.last b.ensures.count none b.ensures.first in
    record {
      few_bins = s.few_bins;
      low_total = s.low_total;
      next_long = s.next_long;
      once = w.once;
      inside = w.inside;
      ends = w.ends;
      sum = w.held ∙ s.sum;
    }

pub returns-then-taker-eq0-clause-moved : goal.returns-then-taker-eq0-clause-moved
returns-then-taker-eq0-clause-moved c =
    let s = c.args.self.now in
    let r = c.requires in
    let long : length s.chains ≡ 33 = search rules in
    let g = c.chain-place.ensures in
    let t = c.chain-taker.ensures in
    let a = c.leave in
    let b = c.start in
    let none : get_or (counts_of s.chains) c.args.to 0 ≡ 0 = omega (arith, t.count, c.if-taker-eq0.true) in
    let w = settled-first s c.args.from c.args.to long r.0 r.1.0 r.1.1.0 r.1.1.1 c.chain-place.result.first a.new.self b.new.self
    g.first a.ensures.first a.ensures.last a.ensures.count b.ensures.last b.ensures.count none b.ensures.first in
    w.moved

pub bounds-self-taker : goal.bounds-self-taker
bounds-self-taker c =
    let s = c.args.self.now in
    let r = c.requires in
    let long : length s.chains ≡ 33 = search rules in
    let t = c.chain-taker.ensures in
    let has : get_or (counts_of s.chains) c.args.to 0 ≡ suc (get_or (counts_of s.chains) c.args.to 0 - 1) = omega (arith, t.count, c.if-taker-eq0.false) in
    omega (arith, t.last, last-there s c.args.from c.args.to long r.0 r.1.0 r.1.1.0 r.1.1.1 has)

pub join-requires : goal.join-requires
join-requires c =
    let s = c.args.self.now in
    let r = c.requires in
    let long : length s.chains ≡ 33 = search rules in
    few s c.args.from c.args.to long r.0 r.1.0 r.1.1.0 r.1.1.1 c.leave-2.new.self

pub invariant_of-self-2 : goal.invariant_of-self-2
invariant_of-self-2 c =
    let s = c.args.self.now in
    let r = c.requires in
    let long : length s.chains ≡ 33 = search rules in
    let g = c.chain-place.ensures in
    let t = c.chain-taker.ensures in
    let a = c.leave-2 in
    let b = c.join in
    let has : get_or (counts_of s.chains) c.args.to 0 ≡ suc (get_or (counts_of s.chains) c.args.to 0 - 1) = omega (arith, t.count, c.if-taker-eq0.false) in
    let w = settled-last s c.args.from c.args.to long r.0 r.1.0 r.1.1.0 r.1.1.1 c.chain-place.result.first a.new.self b.new.self
    g.first a.ensures.first a.ensures.last a.ensures.count b.ensures.last b.ensures.count
    has b.ensures.first c.chain-taker.result.last t.last in
    let next : s.numbers.total ≤ length (set s.next.now c.chain-taker.result.last c.chain-place.result.first) =
    omega (arith, s.next_long, length-set s.next.now c.chain-taker.result.last c.chain-place.result.first) in
    record {
      few_bins = s.few_bins;
      low_total = s.low_total;
      next_long = next;
      once = w.once;
      inside = w.inside;
      ends = w.ends;
      sum = w.held ∙ s.sum;
    }

pub returns-clause-moved : goal.returns-clause-moved
returns-clause-moved c =
    let s = c.args.self.now in
    let r = c.requires in
    let long : length s.chains ≡ 33 = search rules in
    let g = c.chain-place.ensures in
    let t = c.chain-taker.ensures in
    let a = c.leave-2 in
    let b = c.join in
    let has : get_or (counts_of s.chains) c.args.to 0 ≡ suc (get_or (counts_of s.chains) c.args.to 0 - 1) = omega (arith, t.count, c.if-taker-eq0.false) in
    let w = settled-last s c.args.from c.args.to long r.0 r.1.0 r.1.1.0 r.1.1.1 c.chain-place.result.first a.new.self b.new.self
    g.first a.ensures.first a.ensures.last a.ensures.count b.ensures.last b.ensures.count
    has b.ensures.first c.chain-taker.result.last t.last in
    w.moved
