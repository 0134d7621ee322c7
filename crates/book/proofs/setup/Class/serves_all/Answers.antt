use Rattle.std.proofs.Common.{◌∙◌, rules, tests}
use Rattle.std.proofs.lemmas.Iterator.{YieldsList-from_slice}
use Rattle.std.proofs.lemmas.Iterator.Search.{all_from_yields_List}
use Rattle.book.specs.Told.{serves}
use Rattle.book.proofs.Below.{all-below}
use Rattle.book.proofs.setup.Class.serves_all.Goals as goal

pub returns : goal.returns
returns c =
    all_from_yields_List (serves c.args.delay c.args.self.now) _ _ _ c.all.ensures.ran (YieldsList-from_slice c.args.phases.now cc) (λ x b q k. search (rules, tests))
    ∙ all-below (serves c.args.delay c.args.self.now) 0 c.args.phases.now
