use Rattle.examples.proofs.Computed.{worked}
use Rattle.examples.proofs.compute.Goals as goal

pub returns : goal.returns
returns c = worked
