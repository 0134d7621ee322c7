use Rattle.std.proofs.Common.{sym, ap, ◌∙◌}
use Rattle.std.proofs.lemmas.Result.{err_from_is_err_and}
use Rattle.book.specs.Books.{state_of}
use Rattle.port.specs.Rowed.{live_booking}
use Rattle.port.proofs.Frames.{admitted-absent, admitted-unlive, admitted-checked}
use Rattle.port.proofs.ports.Port.admitted.Goals as goal

pub returns-then-lacks : goal.returns-then-lacks
returns-then-lacks g c = admitted-absent _ _ _ _ _ _ (sym c.if-lacks.ensures)

pub returns-in_err-booking : goal.returns-in_err-booking
returns-in_err-booking g c =
    let p = err_from_is_err_and c.from_residual.result c.from_residual.ensures.1 in
    let live = c.live.ensures ∙ ap (live_booking (state_of c.args.self.now.book)) c.stream.ensures in
    rw (p.1, p.2) (admitted-unlive _ _ _ _ _ _ (sym c.if-lacks.ensures) _ live _ c.in_err-booking.ensures.value)

pub returns-in_err-check : goal.returns-in_err-check
returns-in_err-check g c =
    let p = err_from_is_err_and c.from_residual-in_err-check.result c.from_residual-in_err-check.ensures.1 in
    let live = c.live.ensures ∙ ap (live_booking (state_of c.args.self.now.book)) c.stream.ensures in
    rw (p.1, p.2) (admitted-checked _ _ _ _ _ _ (sym c.if-lacks.ensures) _ live c.in_ok-booking.booking _ c.in_ok-booking.ensures.value c.in_err-check.ensures)

pub returns : goal.returns
returns g c =
    let live = c.live.ensures ∙ ap (live_booking (state_of c.args.self.now.book)) c.stream.ensures in
    admitted-checked _ _ _ _ _ _ (sym c.if-lacks.ensures) _ live c.in_ok-booking.booking _ c.in_ok-booking.ensures.value c.in_ok-check.ensures
