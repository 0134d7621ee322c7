use Rattle.book.specs.Books.{BookState, confirm_of}
use Rattle.schedule.specs.Histories.{Confirm}
use Rattle.line.proofs.Chains.{answer-first, changed-first, answer-later, changed-later}
use Rattle.line.proofs.banks.Tuple2Bank.confirm.Goals as goal

pub returns-then-number-eq0 : goal.returns-then-number-eq0
returns-then-number-eq0 g c = record {
  answer = answer-first g.M.Module.meaning g.B.Bank.meanings c.args.number c.if-number-eq0.true _ _ (λ (k : BookState). (confirm_of k c.args.note).0) _ c.confirm.ensures.answer;
  next = changed-first g.M.Module.meaning g.B.Bank.meanings c.args.number c.if-number-eq0.true _ _ (λ L. Confirm c.args.note) _ _ _ _ c.confirm.ensures.next;
}

pub returns-else-number-eq0 : goal.returns-else-number-eq0
returns-else-number-eq0 g c = record {
  answer = answer-later g.M.Module.meaning g.B.Bank.meanings c.args.number c.if-number-eq0.false _ _ (λ (k : BookState). (confirm_of k c.args.note).0) _ c.confirm-else-number-eq0.ensures.answer;
  next = changed-later g.M.Module.meaning g.B.Bank.meanings c.args.number c.if-number-eq0.false _ _ (λ L. Confirm c.args.note) _ _ _ _ c.confirm-else-number-eq0.ensures.next;
}
