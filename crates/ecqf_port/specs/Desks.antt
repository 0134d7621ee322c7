-- The book of a port, and a call on the port of a desk.
use Rattle.std.specs.Prelude.{IfSome, Option}
use Rattle.book.specs.Books.{BookState, state_of}
use Rattle.schedule.specs.Histories.{Call, Answer}
use Rattle.port.specs.declared.ports.Port.{Port}
use Rattle.port.specs.Standing.{Meaning, ByRules}

abbrev pub book_of : {R P : Type 0} → Port R P → BookState
book_of p = state_of p.book

-- The port that a desk had, the one that it has and what was answered, where they are there: the call went by the rules.
abbrev pub OnPort : {R P L Record : Type 0} → Meaning R P L Record → Call L → (was is : Option (Port R P)) → Option (Answer L) → Type 0
OnPort m call was is o = IfSome was (λ p. IfSome is (λ q. IfSome o (λ r. ByRules m call p q r)))
