use Rattle.std.proofs.Common.{length}
use Rattle.line.proofs.paths.+book_legs.Given as goal

abbrev pub decreases-book_legs : goal.decreases-book_legs
decreases-book_legs g l = length l.legs.now
