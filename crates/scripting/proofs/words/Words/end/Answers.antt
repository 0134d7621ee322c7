use Rattle.std.proofs.Common.{ap, ◌∙◌}
use Rattle.std.specs.Bool.{then_some}
use Rattle.scripting.specs.Readings.{ended}
use Rattle.scripting.proofs.Reading.{then-some}
use Rattle.scripting.proofs.words.Words.end.Goals as goal

pub returns : goal.returns
unfolding ended
returns g c = c.then_some.ensures ∙ ap (λ t. then_some t c.args.value) c.has_ended.ensures ∙ then-some _ _
