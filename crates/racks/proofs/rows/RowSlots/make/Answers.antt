use Rattle.std.proofs.Common.{ℕ, replicate, sym, ap, ◌∙◌, arith}
use Rattle.racks.specs.Bins.{held_in}
use Rattle.racks.proofs.Rules.{held_in-empty}
use Rattle.racks.proofs.Ringed.{get_or-zeros, rows_empty}
use Rattle.racks.proofs.rows.RowSlots.make.Goals as goal

pub invariant_of-result : goal.invariant_of-result
invariant_of-result c =
    let n = c.args.plan.numbers in
    record {
      starts_within = λ b h. omega (arith, get_or-zeros 32 b, c.args.plan.some_depth);
      counts_within = λ b h. omega (arith, get_or-zeros 32 b);
      sum = sym (ap held_in (rows_empty n.bins n.depth (replicate 32 0) (replicate 32 0) (get_or-zeros 32)) ∙ held_in-empty ℕ n.bins);
    }

pub returns-clause-empty : goal.returns-clause-empty
returns-clause-empty c = rows_empty c.args.plan.numbers.bins c.args.plan.numbers.depth (replicate 32 0) (replicate 32 0) (get_or-zeros 32)
