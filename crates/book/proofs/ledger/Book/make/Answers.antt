use Rattle.book.specs.Sets.{numbers_of}
use Rattle.book.proofs.Legality.{settings-legal}
use Rattle.book.proofs.Within.{over-new}
use Rattle.book.proofs.Sequenced.{book-laws}
use Rattle.book.proofs.ledger.Book.make.Goals as goal

pub invariant_of-result-clause-within : goal.invariant_of-result-clause-within
invariant_of-result-clause-within c = over-new (numbers_of c.args.settings) (settings-legal c.args.settings)

pub returns-clause-laws : goal.returns-clause-laws
returns-clause-laws c = book-laws (numbers_of c.args.settings) (settings-legal c.args.settings)
