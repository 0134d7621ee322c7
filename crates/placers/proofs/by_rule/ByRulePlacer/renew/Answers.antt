use Rattle.std.proofs.Common.{rules}
use Rattle.placers.specs.Latest.{unused}
use Rattle.placers.proofs.Tables.{is-unused}
use Rattle.placers.proofs.by_rule.ByRulePlacer.renew.Goals as goal

pub returns : goal.returns
returns g c =
    let w = c.write.ensures unused in
    let e = is-unused c.default.result c.default.ensures in
    search rules
