use Rattle.std.proofs.Common.{◌≡◌, ℕ, suc, ◌+◌, ◌*◌, ◌≤◌, subst, mul-le-mul, arith}
use Rattle.book.specs.Sets.{numbers_of}
use Rattle.book.specs.Sums.{weighed}
use Rattle.book.proofs.Legality.{settings-legal}
use Rattle.book.proofs.ledger.sums.Sums.demand.Goals as goal

pub overflow_add-sum-in-loop-faster : goal.overflow_add-sum-in-loop-faster
overflow_add-sum-in-loop-faster c =
    let l = settings-legal c.args.self.now.settings.now in
    let h : c.loop-faster.faster ≤ 3 = omega (arith, l.four_classes) in
    let product : c.times.result * c.booked.result ≤ 576460752169205760 = mul-le-mul c.times.ensures.bound c.booked.ensures.bound in
    omega (arith, product)

pub overflow_add-faster-end : goal.overflow_add-faster-end
overflow_add-faster-end c = let l = settings-legal c.args.self.now.settings.now in omega (arith, l.four_classes)

pub returns : goal.returns
returns c =
    let e : c.loop-faster.faster ≡ suc c.args.class = omega arith in
    subst (λ (n : ℕ). c.loop-faster.sum ≡ 1542 + (numbers_of c.args.self.now.settings.now).dead_time + weighed (numbers_of c.args.self.now.settings.now) c.args.self.now.rows.now c.args.class n) e c.loop-faster.invariant.0
