use Rattle.std.proofs.Common.{refl, sym, ◌∙◌, add-one}
use Rattle.book.specs.Told.{class_fits}
use Rattle.book.proofs.Below.{below_more, below_fails, fits-after}
use Rattle.book.proofs.setup.Setup.classes_fit.Goals as goal

pub returns-then-not-fits_after : goal.returns-then-not-fits_after
returns-then-not-fits_after c =
    sym (below_fails (class_fits c.args.self.now.classes.now) _ c.loop-class.class-index c.loop-class-test.true
    (fits-after c.args.self.now.classes.now c.loop-class.class-index c.loop-class.before c.loop-class.invariant.1 ∙ sym c.if-not-fits_after.ensures))

pub loop-class-preserved : goal.loop-class-preserved
loop-class-preserved c = (
  below_more (class_fits c.args.self.now.classes.now) c.loop-class.class-index c.loop-class.invariant.0
      (fits-after c.args.self.now.classes.now c.loop-class.class-index c.loop-class.before c.loop-class.invariant.1 ∙ sym c.if-not-fits_after.ensures),
  rw add-one refl,
)
