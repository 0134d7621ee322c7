use Rattle.std.proofs.Common.{◌∙◌}
use Rattle.book.specs.Sets.{numbers_of}
use Rattle.racks.specs.Bins.{bin_of}
use Rattle.port.specs.Standing.{loads_by}
use Rattle.port.proofs.Turning.{busy-by}
use Rattle.port.proofs.ports.Port.is_busy.Goals as goal

pub returns-else-now-self : goal.returns-else-now-self
returns-else-now-self g c =
    c.is_some.ensures ∙ busy-by (loads_by g.R.Item.Load) (bin_of (g.R.Rack.bins c.args.self.now.rack)) (numbers_of c.settings.result.now) c.clock.result _ _ c.args.self.now.wire _ c.settings.ensures c.clock.ensures c.first_waiting.ensures c.if-now-self.false
