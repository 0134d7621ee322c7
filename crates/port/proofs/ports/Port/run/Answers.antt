use Rattle.std.proofs.Common.{sym, refl}
use Rattle.port.proofs.Ran.{run-bad, run_short, run-goes}
use Rattle.port.proofs.ports.Port.run.Goals as goal

pub returns-then-is_out_of_time : goal.returns-then-is_out_of_time
returns-then-is_out_of_time g c = record { follows = run-bad _ _ _ _ _ (sym c.if-is_out_of_time.ensures); book = refl; alone = refl }

pub returns-then-is_short : goal.returns-then-is_short
returns-then-is_short g c =
    record { follows = run_short _ _ _ _ _ (sym c.if-is_out_of_time.ensures) (sym c.if-is_short.ensures); book = refl; alone = refl }

pub returns : goal.returns
returns g c =
    let e = c.play-sent.ensures in
    record {
      follows = run-goes _ _ _ _ _ (sym c.if-is_out_of_time.ensures) (sym c.if-is_short.ensures) _ _ _ _ _ _
          c.clock.result _ c.clock.ensures c.settings.ensures e.played c.advance.ensures.next e.room.count e.room.depth e.room.total;
      book = c.advance.ensures.next;
      alone = (e.written, e.later);
    }
