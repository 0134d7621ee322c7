use Rattle.port.proofs.Leaving.{took}
use Rattle.port.proofs.wires.Moment.depart.Goals as goal

pub returns : goal.returns
returns g c =
    let e = c.in_ok-load.ensures in
    record {
      departs = took _ _ _ _ _ c.in_ok-turn.turn _ _ c.in_ok-turn.ensures e.taken c.stream.ensures;
      room = e.room;
    }
