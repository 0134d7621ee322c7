use Rattle.std.proofs.Common.{◌≡◌, ◌<◌, refl, ap, ◌∙◌, subst}
use Rattle.std.proofs.lemmas.Result.{err_from_is_err_and}
use Rattle.book.specs.Told.{SetNumbers, bins_of}
use Rattle.placers.specs.Terms.{terms_of}
use Rattle.book.proofs.Legality.{settings-legal}
use Rattle.schedule.specs.Bins.{bin_of}
use Rattle.schedule.proofs.Lawful.{laws}
use Rattle.port.proofs.Placed.{frame_refused, frame-unplaced, frame-full, frame-goes}
use Rattle.port.proofs.ports.Port.frame.Goals as goal

pub returns-in_err-booking : goal.returns-in_err-booking
returns-in_err-booking g c =
    let p = err_from_is_err_and c.from_residual.result c.from_residual.ensures.1 in
    record { follows = rw (p.1, p.2) (frame_refused _ _ _ _ _ _ _ c.in_err-booking.ensures); book = refl }

pub returns-in_err-cycle : goal.returns-in_err-cycle
returns-in_err-cycle g c =
    let p = err_from_is_err_and c.from_residual-in_err-cycle.result c.from_residual-in_err-cycle.ensures.1 in
    let e = c.in_err-cycle.ensures in
    let k = c.in_ok-booking.booking in
    let terms = c.terms.ensures ∙ ap (λ (s : SetNumbers). terms_of s k.class k.input) c.settings.ensures in
    record {
      follows = rw (p.1, p.2) (frame-unplaced _ _ _ _ _ _ k c.in_ok-booking.ensures
          c.stream-stream.result c.stream-stream.ensures c.terms.result terms c.ask_of-ask.result c.ask_of-ask.ensures
          _ _ e.answer e.next _ refl);
      book = refl;
    }

pub returns-in_err-map_err-clause-follows : goal.returns-in_err-map_err-clause-follows
returns-in_err-map_err-clause-follows g c =
    let e = c.in_ok-cycle.ensures in
    let k = c.in_ok-booking.booking in
    let terms = c.terms.ensures ∙ ap (λ (s : SetNumbers). terms_of s k.class k.input) c.settings.ensures in
    let bin = subst (λ (s : SetNumbers). 0 < bins_of s k.class → c.bin_of-bin.result ≡ bin_of s k.class c.in_ok-cycle.cycle) c.settings.ensures c.bin_of-bin.ensures in
    frame-full _ _ _ _ _ _ k c.in_ok-booking.ensures
    c.stream-stream.result c.stream-stream.ensures c.terms.result terms c.ask_of-ask.result c.ask_of-ask.ensures
    _ _ e.answer e.next (settings-legal c.args.self.now.book.settings) (laws _ _ g.P.Placer.duties) _ refl c.bin_of-bin.result bin
    _ _ _ c.put.ensures.answer c.in_err-map_err.ensures.variant

pub returns-clause-follows : goal.returns-clause-follows
returns-clause-follows g c =
    let e = c.in_ok-cycle.ensures in
    let w = c.put.ensures in
    let k = c.in_ok-booking.booking in
    let terms = c.terms.ensures ∙ ap (λ (s : SetNumbers). terms_of s k.class k.input) c.settings.ensures in
    let bin = subst (λ (s : SetNumbers). 0 < bins_of s k.class → c.bin_of-bin.result ≡ bin_of s k.class c.in_ok-cycle.cycle) c.settings.ensures c.bin_of-bin.ensures in
    frame-goes _ _ _ _ _ _ k c.in_ok-booking.ensures
    c.stream-stream.result c.stream-stream.ensures c.terms.result terms c.ask_of-ask.result c.ask_of-ask.ensures
    _ _ e.answer e.next (settings-legal c.args.self.now.book.settings) (laws _ _ g.P.Placer.duties) _ refl c.bin_of-bin.result bin
    _ _ _ _ w.next w.count w.depth w.total (c.write.ensures 0)
