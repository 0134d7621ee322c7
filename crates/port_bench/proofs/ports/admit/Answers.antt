-- A note is good in the port that gave it, so confirm does not refuse it.
use Rattle.std.proofs.Common.{sym}
use Rattle.book.specs.Books.{state_of}
use Rattle.book.proofs.Notes.{good-confirmed}
use Rattle.port_bench.proofs.ports.admit.Goals as goal

pub unreachable-requires : goal.unreachable-requires
unreachable-requires g c =
    good-confirmed (state_of c.hold.new.self.book) c.in_ok-note.note c.in-Err.field-0-1 c.in-Err.field-0-0
    c.in_ok-note.ensures.spendable (sym c.in-Err.ensures.answer)
