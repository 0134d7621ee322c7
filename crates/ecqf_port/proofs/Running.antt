-- A run leaves the rows of a port's book as many, and the same of them held.
use Rattle.std.proofs.Common.{◌≡◌, ℕ, length, Ok, Err, Result, refl}
use Rattle.book.specs.Books.{BookState}
use Rattle.schedule.specs.declared.faults.PortFault.{PortFault}
use Rattle.port.specs.Standing.{ran_book}
use Rattle.scripting.specs.Notes.{note_in}
use Rattle.scripting.proofs.Pairing.{advance-kept, advance-length}

pub ran-kept : (r : Result ℕ PortFault) (until : ℕ) (b : BookState) (k : ℕ) → note_in (ran_book r until b) k ≡ note_in b k
ran-kept (Ok n) until b k = advance-kept b until k
ran-kept (Err f) until b k = refl

pub ran-length : (r : Result ℕ PortFault) (until : ℕ) (b : BookState) → length (ran_book r until b).rows ≡ length b.rows
ran-length (Ok n) until b = advance-length b until
ran-length (Err f) until b = refl
