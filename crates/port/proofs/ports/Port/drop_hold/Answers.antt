use Rattle.std.proofs.Common.{rules}
use Rattle.port.proofs.Following.{drop-follows}
use Rattle.port.proofs.ports.Port.drop_hold.Goals as goal

-- No step of the code is named, so that a body which makes another call is refused for what it does.
pub returns : goal.returns
returns g c =
    record { answer = search rules; next = search rules; follows = drop-follows _ _ _ _ _ _ (search rules) (search rules) }
