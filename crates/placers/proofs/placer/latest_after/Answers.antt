use Rattle.placers.proofs.Passing.{passes}
use Rattle.placers.proofs.placer.latest_after.Goals as goal

pub returns-clause-passes : goal.returns-clause-passes
returns-clause-passes g c = rw c.shift.ensures.value (passes g.P.Placer.rules g.P.Placer.duties c.args.terms)
