use Rattle.book.specs.Sets.{class_at}
use Rattle.book.specs.Books.{BookState}
use Rattle.line.proofs.Chains.{answer-first, answer-later}
use Rattle.line.proofs.banks.Tuple2Bank.class.Goals as goal

pub returns-then-number-eq0 : goal.returns-then-number-eq0
returns-then-number-eq0 g c =
    answer-first g.M.Module.meaning g.B.Bank.meanings c.args.number c.if-number-eq0.true _ _ (λ (k : BookState). class_at k.settings c.args.class) _ c.class.ensures

pub returns-else-number-eq0 : goal.returns-else-number-eq0
returns-else-number-eq0 g c =
    answer-later g.M.Module.meaning g.B.Bank.meanings c.args.number c.if-number-eq0.false _ _ (λ (k : BookState). class_at k.settings c.args.class) _ c.class-else-number-eq0.ensures
