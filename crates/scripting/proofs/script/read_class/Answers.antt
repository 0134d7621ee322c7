use Rattle.std.proofs.Common.{◌∙◌}
use Rattle.scripting.specs.Script.{class_in}
use Rattle.scripting.proofs.Reading.{stopped, went_on}
use Rattle.scripting.proofs.script.read_class.Goals as goal

pub returns-in_err-cycle : goal.returns-in_err-cycle
unfolding class_in
returns-in_err-cycle c =
    c.from_residual.ensures ∙ stopped _ _ _ c.in_err-cycle.ensures.value

pub returns-in_err-bins : goal.returns-in_err-bins
unfolding class_in
returns-in_err-bins c =
    c.from_residual-in_err-bins.ensures ∙ stopped _ _ _ c.in_err-bins.ensures.value
    ∙ went_on _ _ _ _ _ c.in_ok-cycle.ensures.value c.in_ok-cycle.ensures.rest

pub returns : goal.returns
unfolding class_in
returns c =
    c.end.ensures
    ∙ went_on _ _ _ _ _ c.in_ok-bins.ensures.value c.in_ok-bins.ensures.rest
    ∙ went_on _ _ _ _ _ c.in_ok-cycle.ensures.value c.in_ok-cycle.ensures.rest
