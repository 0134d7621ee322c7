use Rattle.port.proofs.Following.{hold-follows}
use Rattle.port.proofs.ports.Port.hold.Goals as goal

pub returns : goal.returns
returns g c =
    let e = c.hold.ensures in
    record { answer = e.answer; next = e.next; spendable = c.hold.ensures.spendable; follows = hold-follows _ _ _ _ _ _ _ e.answer e.next }
