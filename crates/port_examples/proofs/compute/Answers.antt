use Rattle.port_examples.proofs.Computed.{worked}
use Rattle.port_examples.proofs.compute.Goals as goal

pub returns : goal.returns
returns c = worked
