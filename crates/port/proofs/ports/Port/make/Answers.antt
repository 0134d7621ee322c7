use Rattle.std.proofs.Common.{refl}
use Rattle.port.proofs.Beginning.{stands-new}
use Rattle.port.proofs.ports.Port.make.Goals as goal

pub returns : goal.returns
returns g c =
    record { book = c.make.ensures.state; rack = refl; placer = refl; stands = λ room. stands-new _ _ _ _ _ _ g.R.Rack _ c.make.ensures.state c.of.ensures.rows room }
