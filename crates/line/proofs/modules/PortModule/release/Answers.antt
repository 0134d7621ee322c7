use Rattle.port.specs.Standing.{meant}
use Rattle.line.proofs.Standing.{takes}
use Rattle.line.proofs.modules.PortModule.release.Goals as goal

pub returns-clause-next : goal.returns-clause-next
returns-clause-next g c =
    takes (meant g.R.Rack g.R.Item.Load g.P.Placer)
    g.P.Placer.duties _ c.args.self.now c.release.new.self _ c.release.ensures.follows
