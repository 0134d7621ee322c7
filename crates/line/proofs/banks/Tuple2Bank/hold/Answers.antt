use Rattle.std.proofs.Common.{◌≡◌, true, IfOk, sym, subst}
use Rattle.book.specs.Books.{BookState, held_by, hold_of}
use Rattle.schedule.specs.Histories.{Hold}
use Rattle.line.proofs.Chains.{book-first, book-later, answer-first, changed-first, answer-later, changed-later}
use Rattle.line.proofs.banks.Tuple2Bank.hold.Goals as goal

pub returns-then-number-eq0 : goal.returns-then-number-eq0
returns-then-number-eq0 g c = record {
  answer = answer-first g.M.Module.meaning g.B.Bank.meanings c.args.number c.if-number-eq0.true _ _ (λ (k : BookState). (hold_of k c.args.stream c.args.booking).0) _ c.hold.ensures.answer;
  next = changed-first g.M.Module.meaning g.B.Bank.meanings c.args.number c.if-number-eq0.true _ _ (λ L. Hold c.args.stream c.args.booking) _ _ _ _ c.hold.ensures.next;
  spendable = subst (λ (k : BookState). IfOk c.hold.result (λ note. held_by k note ≡ true))
      (sym (book-first g.M.Module.meaning g.B.Bank.meanings c.args.number c.if-number-eq0.true (g.M.Module.state c.hold.new.self) _)) c.hold.ensures.spendable;
}

pub returns-else-number-eq0 : goal.returns-else-number-eq0
returns-else-number-eq0 g c = record {
  answer = answer-later g.M.Module.meaning g.B.Bank.meanings c.args.number c.if-number-eq0.false _ _ (λ (k : BookState). (hold_of k c.args.stream c.args.booking).0) _ c.hold-else-number-eq0.ensures.answer;
  next = changed-later g.M.Module.meaning g.B.Bank.meanings c.args.number c.if-number-eq0.false _ _ (λ L. Hold c.args.stream c.args.booking) _ _ _ _ c.hold-else-number-eq0.ensures.next;
  spendable = subst (λ (k : BookState). IfOk c.hold-else-number-eq0.result (λ note. held_by k note ≡ true))
      (sym (book-later g.M.Module.meaning g.B.Bank.meanings c.args.number c.if-number-eq0.false _ (g.B.Bank.states c.hold-else-number-eq0.new.self))) c.hold-else-number-eq0.ensures.spendable;
}
