use Rattle.std.proofs.Common.{rules, tests, ◌≡◌, true, false, sym, ◌∙◌}
use Rattle.std.proofs.lemmas.Bool.{ltb-true}
use Rattle.std.proofs.lemmas.Iterator.{cases_from_all, YieldsList-from_slice}
use Rattle.line.proofs.Following.{free, follows-cases}
use Rattle.line.proofs.paths.follows.Goals as goal

pub returns-then-has : goal.returns-then-has
returns-then-has g c =
    follows-cases g.B.Bank c.args.bank.now c.args.before.now c.args.leg.now c.all.result (ltb-true _ _ (sym c.has.ensures ∙ c.if-has.true))
    (cases_from_all _ _ c.all.result (λ o. free g.B.Bank c.args.bank.now c.args.before.now c.args.leg.now o ≡ true) (λ o. free g.B.Bank c.args.bank.now c.args.before.now c.args.leg.now o ≡ false)
    c.all.ensures.ran (YieldsList-from_slice c.args.before.now cc) (λ x q k. search (rules, tests)) (λ x q k. search (rules, tests)))
