use Rattle.book.specs.Sets.{numbers_of}
use Rattle.book.proofs.Within.{over-settled}
use Rattle.book.proofs.ledger.Book.advance.Goals as goal

pub invariant_of-self-clause-within : goal.invariant_of-self-clause-within
invariant_of-self-clause-within c = rw c.start_cycles.ensures (over-settled (numbers_of c.args.self.now.settings) c.args.until c.args.self.now.rows c.args.self.now.within)
