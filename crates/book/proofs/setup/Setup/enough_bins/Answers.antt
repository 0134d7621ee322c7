use Rattle.std.proofs.Common.{◌∙◌, rules, tests}
use Rattle.std.proofs.lemmas.Iterator.{YieldsList-from_slice}
use Rattle.std.proofs.lemmas.Iterator.Search.{all_from_yields_List}
use Rattle.book.specs.Told.{serves_all, no_class}
use Rattle.book.proofs.Below.{all-below}
use Rattle.book.proofs.setup.Setup.enough_bins.Goals as goal

pub returns : goal.returns
returns c =
    all_from_yields_List (serves_all c.args.self.now.delay c.args.self.now.phases.now) _ _ _ c.all.ensures.ran (YieldsList-from_slice c.args.self.now.classes.now cc) (λ x b q k. search (rules, tests))
    ∙ all-below (serves_all c.args.self.now.delay c.args.self.now.phases.now) no_class c.args.self.now.classes.now
