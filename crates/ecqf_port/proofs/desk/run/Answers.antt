use Rattle.std.proofs.Common.{ap, vec_items}
use Rattle.std.specs.Option.{option_map}
use Rattle.book.specs.Books.{state_of}
use Rattle.scripting.proofs.Pairing.{Fitting, kept-fits}
use Rattle.ecqf_port.specs.Desks.{book_of}
use Rattle.ecqf_port.proofs.Running.{ran-kept, ran-length}
use Rattle.ecqf_port.proofs.desk.run.Goals as goal

pub invariant_of-desk-2 : goal.invariant_of-desk-2
invariant_of-desk-2 g c =
    let b = state_of c.in-Some.port.book in
    let f : Fitting (option_map book_of c.args.desk.now.module) (vec_items c.args.desk.now.notes.places) =
    record { full = c.args.desk.now.full; paired = c.args.desk.now.paired } in
    let r = kept-fits _ _ _ _ _ f (ap (option_map book_of) c.in-Some.is) c.run.ensures.book (ran-length c.run.result c.args.until b) (ran-kept c.run.result c.args.until b) in
    record { full = r.full; paired = r.paired }
