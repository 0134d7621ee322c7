use Rattle.std.proofs.Common.{rules}
use Rattle.placers.specs.Latest.{unused}
use Rattle.placers.proofs.by_rule.ByRulePlacer.place.Goals as goal

pub returns-clause-next : goal.returns-clause-next
returns-clause-next g c = let e = c.write.ensures unused in search rules
