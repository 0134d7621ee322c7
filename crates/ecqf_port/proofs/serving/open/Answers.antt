use Rattle.std.proofs.Common.{ap, length, vec_items}
use Rattle.book.specs.Sets.{numbers_of}
use Rattle.book.specs.Books.{BookState, state_of}
use Rattle.scripting.proofs.Pairing.{fits}
use Rattle.scripting.proofs.Dropping.{new-matching}
use Rattle.ecqf_port.proofs.serving.open.Goals as goal

pub invariant_of-result : goal.invariant_of-result
invariant_of-result g c =
    let r = fits (state_of c.make.result.book) (vec_items c.notes.result.places) (ap (λ (b : BookState). length b.rows) c.make.ensures.book)
    (new-matching (state_of c.make.result.book) (numbers_of c.args.plan.settings) _ c.make.ensures.book c.notes.ensures) in
    record { full = r.full; paired = r.paired }
