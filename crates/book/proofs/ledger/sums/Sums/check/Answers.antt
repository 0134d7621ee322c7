use Rattle.std.proofs.Common.{rules, ◌≡◌, Err}
use Rattle.book.specs.Faults.{unless}
use Rattle.book.specs.Sets.{numbers_of}
use Rattle.book.specs.Sums.{over_at}
use Rattle.book.proofs.Sums.{check-fails}
use Rattle.book.proofs.ledger.sums.Sums.check.Goals as goal

pub returns-in_err-check_class : goal.returns-in_err-check_class
returns-in_err-check_class c =
    let e : Err c.in_err-check_class.field-0.0 ≡ unless (over_at (numbers_of c.args.self.now.settings.now) c.args.self.now.rows.now c.loop-class.class) = search rules in
    let n = check-fails (numbers_of c.args.self.now.settings.now) c.args.self.now.rows.now c.loop-class.class _ c.in_err-check_class.field-0.0 c.loop-class.invariant c.loop-class-test.true e in
    search (rules, n)
