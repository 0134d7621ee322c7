use Rattle.std.proofs.Common.{◌∙◌}
use Rattle.scripting.specs.Script.{bins_in}
use Rattle.scripting.proofs.Reading.{stopped, went_on}
use Rattle.scripting.proofs.script.read_bins.Goals as goal

pub returns-in_err-delay : goal.returns-in_err-delay
unfolding bins_in
returns-in_err-delay c =
    c.from_residual.ensures ∙ stopped _ _ _ c.in_err-delay.ensures.value

pub returns-in_err-cycle : goal.returns-in_err-cycle
unfolding bins_in
returns-in_err-cycle c =
    c.from_residual-in_err-cycle.ensures ∙ stopped _ _ _ c.in_err-cycle.ensures.value
    ∙ went_on _ _ _ _ _ c.in_ok-delay.ensures.value c.in_ok-delay.ensures.rest

pub returns-in_err-phase : goal.returns-in_err-phase
unfolding bins_in
returns-in_err-phase c =
    c.from_residual-in_err-phase.ensures ∙ stopped _ _ _ c.in_err-phase.ensures.value
    ∙ went_on _ _ _ _ _ c.in_ok-cycle.ensures.value c.in_ok-cycle.ensures.rest
    ∙ went_on _ _ _ _ _ c.in_ok-delay.ensures.value c.in_ok-delay.ensures.rest

pub returns : goal.returns
unfolding bins_in
returns c =
    c.end.ensures
    ∙ went_on _ _ _ _ _ c.in_ok-phase.ensures.value c.in_ok-phase.ensures.rest
    ∙ went_on _ _ _ _ _ c.in_ok-cycle.ensures.value c.in_ok-cycle.ensures.rest
    ∙ went_on _ _ _ _ _ c.in_ok-delay.ensures.value c.in_ok-delay.ensures.rest
