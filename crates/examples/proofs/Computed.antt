-- The worked examples, computed.
use Rattle.std.proofs.Common.{refl}
use Rattle.book.specs.Rows.{booked}
use Rattle.book.specs.Sums.{weighed, over_below}
use Rattle.book.specs.Books.{hold_fault, hold_of}
use Rattle.placers.specs.Sequences.{record_after}
use Rattle.examples.specs.Worked.{Worked}

pub worked : Worked
unfolding booked weighed over_below hold_fault hold_of record_after
worked = refl
