use Rattle.std.proofs.Common.{◌≡◌, true}
use Rattle.book.specs.Told.{all_below, class_fits}
use Rattle.book.proofs.Below.{cycle_before}
use Rattle.book.proofs.setup.Setup.classes_fit.Given as goal

abbrev pub invariant-loop-class : goal.invariant-loop-class
invariant-loop-class l = (all_below (class_fits l.self.classes.now) l.class-index ≡ true) × (l.before ≡ cycle_before l.self.classes.now l.class-index)
