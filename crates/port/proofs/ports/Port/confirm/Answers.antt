use Rattle.std.proofs.Common.{refl, ap, ◌∙◌}
use Rattle.std.proofs.lemmas.Result.{err_from_is_err_and}
use Rattle.book.specs.Books.{state_of}
use Rattle.book.specs.Told.{SetNumbers}
use Rattle.placers.specs.Terms.{terms_of}
use Rattle.port.specs.Rowed.{held_booking}
use Rattle.port.proofs.Confirms.{confirm-unheld, confirm-refused, confirm-taken}
use Rattle.port.proofs.ports.Port.confirm.Goals as goal

pub returns-in_default : goal.returns-in_default
returns-in_default g c =
    let e = c.confirm.ensures in
    record {
      answer = e.answer;
      next = e.next;
      follows = confirm-unheld _ _ _ c.args.note _ _ e.answer e.next
          (c.in_default.ensures ∙ ap (held_booking (state_of c.args.self.now.book)) c.stream-stream.ensures);
    }

pub returns-in_err-confirm : goal.returns-in_err-confirm
returns-in_err-confirm g c =
    let p = err_from_is_err_and c.from_residual.result c.from_residual.ensures.1 in
    let e = c.in_err-confirm.ensures in
    rw (p.1, p.2) (record { answer = e.answer; next = e.next; follows = confirm-refused _ _ _ c.args.note _ _ e.answer e.next _ refl })

pub returns : goal.returns
returns g c =
    let e = c.in_ok-confirm.ensures in
    let k = c.in-Some.booking in
    let terms = c.terms-terms.ensures ∙ ap (λ (s : SetNumbers). terms_of s k.class k.input) c.settings.ensures in
    record {
      answer = e.answer;
      next = e.next;
      follows = confirm-taken _ _ _ c.args.note _ _ e.answer e.next _ _ k c.stream-stream.result c.terms-terms.result
          c.stream-stream.ensures terms refl c.in-Some.ensures c.renew.ensures (c.write.ensures 0);
    }
