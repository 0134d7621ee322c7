use Rattle.book.specs.Sets.{numbers_of}
use Rattle.book.proofs.Legality.{settings-legal}
use Rattle.placers.proofs.Legality.{found-legal}
use Rattle.placers.proofs.terms.Terms.of.Goals as goal

pub returns-clause-legal : goal.returns-clause-legal
returns-clause-legal c =
    let s = c.args.settings.now in
    rw (c.phase_in.ensures, c.delay.ensures)
    (found-legal (numbers_of s) (settings-legal s) c.args.class c.args.input c.in_ok-class.class c.in_ok-phase.phase
    c.in_ok-class.ensures c.in_ok-phase.ensures)
