use Rattle.std.proofs.Common.{◌∙◌}
use Rattle.scripting.specs.Script.{set_in}
use Rattle.scripting.proofs.Reading.{stopped, went_on}
use Rattle.scripting.proofs.script.read_set.Goals as goal

pub returns-in_err-delay : goal.returns-in_err-delay
unfolding set_in
returns-in_err-delay c =
    c.from_residual.ensures ∙ stopped _ _ _ c.in_err-delay.ensures.value

pub returns-in_err-dead_time : goal.returns-in_err-dead_time
unfolding set_in
returns-in_err-dead_time c =
    c.from_residual-in_err-dead_time.ensures ∙ stopped _ _ _ c.in_err-dead_time.ensures.value
    ∙ went_on _ _ _ _ _ c.in_ok-delay.ensures.value c.in_ok-delay.ensures.rest

pub returns : goal.returns
unfolding set_in
returns c =
    c.end.ensures
    ∙ went_on _ _ _ _ _ c.in_ok-dead_time.ensures.value c.in_ok-dead_time.ensures.rest
    ∙ went_on _ _ _ _ _ c.in_ok-delay.ensures.value c.in_ok-delay.ensures.rest
