use Rattle.port.proofs.Following.{release-follows}
use Rattle.port.proofs.ports.Port.release.Goals as goal

pub returns : goal.returns
returns g c =
    let e = c.release.ensures in
    record { answer = e.answer; next = e.next; follows = release-follows _ _ _ _ _ _ e.answer e.next }
