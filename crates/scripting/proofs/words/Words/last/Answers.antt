use Rattle.std.proofs.Common.{◌∙◌}
use Rattle.scripting.specs.Readings.{last_in}
use Rattle.scripting.proofs.Reading.{stopped, went_on}
use Rattle.scripting.proofs.words.Words.last.Goals as goal

pub returns-in_err-value : goal.returns-in_err-value
unfolding last_in
returns-in_err-value g c = c.from_residual.ensures ∙ stopped _ _ _ c.in_err-value.ensures.value

pub returns : goal.returns
unfolding last_in
returns g c = c.end.ensures ∙ went_on _ _ _ _ _ c.in_ok-value.ensures.value c.in_ok-value.ensures.rest
