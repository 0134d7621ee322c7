use Rattle.port.proofs.Leaving.{taken}
use Rattle.port.proofs.wires.take_from.Goals as goal

pub returns-clause-taken : goal.returns-clause-taken
returns-clause-taken g c = rw (c.flatten.ensures, c.ok.ensures.value) (taken _ _ _ c.take.ensures.next c.take.result c.take.ensures.answer)
