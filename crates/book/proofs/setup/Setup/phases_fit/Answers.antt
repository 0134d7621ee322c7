use Rattle.std.proofs.Common.{◌≡◌, ltb, ◌∙◌, rules, tests}
use Rattle.std.proofs.lemmas.Iterator.{YieldsList-from_slice}
use Rattle.std.proofs.lemmas.Iterator.Search.{all_from_yields_List}
use Rattle.book.specs.Told.{slowest}
use Rattle.book.proofs.Below.{all-below}
use Rattle.book.proofs.setup.Setup.phases_fit.Goals as goal

pub returns : goal.returns
returns c =
    let last : c.unwrap_or_default-slowest.result.cycle ≡ slowest c.args.self.now.classes.now = search rules in
    all_from_yields_List (λ p. ltb p (slowest c.args.self.now.classes.now)) _ _ _ c.all.ensures.ran (YieldsList-from_slice c.args.self.now.phases.now cc) (λ x b q k. search (rules, tests))
    ∙ all-below (λ p. ltb p (slowest c.args.self.now.classes.now)) 0 c.args.self.now.phases.now
