use Rattle.std.proofs.Common.{◌≡◌, ℕ, ◌-◌, ◌<◌, List, get_or, replicate, ap, ◌∙◌, arith}
use Rattle.std.proofs.lemmas.List.{get_or-set_same, get_or-set_other}
use Rattle.racks.specs.Chains.{firsts_of, lasts_of, counts_of}
use Rattle.racks.proofs.Ringed.{get_or-zeros}
use Rattle.racks.proofs.Chained.{new-lay, new-once, new-inside, new-held, new-ends}
use Rattle.racks.proofs.cells.CellSlots.make.Goals as goal

abbrev zeros : List ℕ
zeros = replicate 33 0

pub invariant_of-result : goal.invariant_of-result
invariant_of-result c =
    let p = c.args.plan in
    let n = p.numbers.bins in
    let most = c.served-total.result in
    let nx = c.link.new.next in
    let l = c.all_free.result in
    let e = c.all_free.ensures in
    let hn : n < 33 = omega (arith, p.few_bins) in
    let un : get_or (counts_of l) n 0 ≡ most = ap (λ (z : List ℕ). get_or z n 0) e.counts ∙ get_or-set_same zeros n most 0 hn in
    let uo : (a : ℕ) → (a ≡ n → ⊥) → get_or (counts_of l) a 0 ≡ 0 =
    λ a x. ap (λ (z : List ℕ). get_or z a 0) e.counts ∙ get_or-set_other zeros n a most 0 x ∙ get_or-zeros 33 a in
    let fn : get_or (firsts_of l) n 0 ≡ 0 = ap (λ (z : List ℕ). get_or z n 0) e.firsts ∙ get_or-zeros 33 n in
    let ln : get_or (lasts_of l) n 0 ≡ most - 1 = ap (λ (z : List ℕ). get_or z n 0) e.lasts ∙ get_or-set_same zeros n (most - 1) 0 hn in record {
      few_bins = p.few_bins;
      low_total = omega (arith, c.served-total.ensures.low, p.low_total);
      next_long = omega (arith, c.served-total.ensures.long, c.link.auto.next);
      once = new-once n most nx (firsts_of l) (lasts_of l) (counts_of l) un uo fn ln c.link.ensures;
      inside = new-inside n most nx (firsts_of l) (lasts_of l) (counts_of l) un uo fn ln c.link.ensures;
      ends = new-ends n most nx (firsts_of l) (lasts_of l) (counts_of l) un uo fn ln c.link.ensures;
      sum = new-held n most nx (firsts_of l) (lasts_of l) (counts_of l) un uo fn ln c.link.ensures;
    }

pub returns-clause-empty : goal.returns-clause-empty
returns-clause-empty c =
    let p = c.args.plan in
    let n = p.numbers.bins in
    let most = c.served-total.result in
    let nx = c.link.new.next in
    let l = c.all_free.result in
    let e = c.all_free.ensures in
    let hn : n < 33 = omega (arith, p.few_bins) in
    let un : get_or (counts_of l) n 0 ≡ most = ap (λ (z : List ℕ). get_or z n 0) e.counts ∙ get_or-set_same zeros n most 0 hn in
    let uo : (a : ℕ) → (a ≡ n → ⊥) → get_or (counts_of l) a 0 ≡ 0 =
    λ a x. ap (λ (z : List ℕ). get_or z a 0) e.counts ∙ get_or-set_other zeros n a most 0 x ∙ get_or-zeros 33 a in
    let fn : get_or (firsts_of l) n 0 ≡ 0 = ap (λ (z : List ℕ). get_or z n 0) e.firsts ∙ get_or-zeros 33 n in
    let ln : get_or (lasts_of l) n 0 ≡ most - 1 = ap (λ (z : List ℕ). get_or z n 0) e.lasts ∙ get_or-set_same zeros n (most - 1) 0 hn in
    new-lay n most nx (firsts_of l) (lasts_of l) (counts_of l) un uo fn ln c.link.ensures
