use Rattle.std.proofs.Common.{ap, length, vec_items}
use Rattle.book.specs.Sets.{numbers_of}
use Rattle.book.specs.Books.{BookState, state_of}
use Rattle.scripting.proofs.Pairing.{fits}
use Rattle.scripting.proofs.Dropping.{new-matching}
use Rattle.scripting.proofs.desk.calls.Desk+Book.set.Goals as goal

pub invariant_of-self : goal.invariant_of-self
invariant_of-self c =
    let r = fits (state_of c.make.result) (vec_items c.drop_all-dropped.new.self.notes.places) (ap (λ (b : BookState). length b.rows) c.make.ensures.state)
    (new-matching (state_of c.make.result) (numbers_of c.args.settings) _ c.make.ensures.state c.drop_all-dropped.ensures.none) in
    record { full = r.full; paired = r.paired }
