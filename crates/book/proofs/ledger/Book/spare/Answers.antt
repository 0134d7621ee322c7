use Rattle.std.proofs.Common.{rules, ◌<◌}
use Rattle.book.specs.Sets.{numbers_of}
use Rattle.book.specs.Told.{class_count}
use Rattle.book.proofs.Within.{within-from}
use Rattle.book.proofs.ledger.Book.spare.Goals as goal

pub overflow_sub-result : goal.overflow_sub-result
overflow_sub-result c =
    let there : c.args.class < class_count (numbers_of c.args.self.now.settings) = search rules in
    let w = within-from (numbers_of c.args.self.now.settings) c.args.self.now.rows c.args.self.now.within c.args.class there in
    search (rules, w)
