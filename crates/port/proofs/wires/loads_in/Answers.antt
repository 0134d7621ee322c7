use Rattle.std.proofs.Common.{◌∙◌}
use Rattle.port.proofs.Turning.{counted}
use Rattle.port.proofs.wires.loads_in.Goals as goal

pub returns : goal.returns
returns g c = c.unwrap_or.ensures ∙ counted (g.R.Rack.bins c.args.rack.now) c.args.bin c.count.result c.count.ensures
