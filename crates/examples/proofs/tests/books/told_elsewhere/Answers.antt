-- The other book hands the same note back, and it is still good where it was given.
use Rattle.std.proofs.Common.{◌≡◌, true, sym, subst}
use Rattle.book.specs.declared.ledger.Note.{Note}
use Rattle.book.specs.Books.{state_of, held_by}
use Rattle.book.proofs.Notes.{good-dropped, confirm-hands-back}
use Rattle.examples.proofs.tests.books.told_elsewhere.Goals as goal

pub unreachable-requires : goal.unreachable-requires
unreachable-requires c =
    let same = confirm-hands-back (state_of c.args.other.now) c.in_ok-note.note c.in-Err.note c.in-Err.fault (sym c.in-Err.ensures.answer) in
    let still = subst (λ (n : Note). held_by (state_of c.hold.new.self) n ≡ true) (sym same) c.in_ok-note.ensures.spendable in
    good-dropped (state_of c.hold.new.self) c.in-Err.note c.in-Err-drop_hold.field-0-1 c.in-Err-drop_hold.field-0-0 still
    (sym c.in-Err-drop_hold.ensures.answer)
