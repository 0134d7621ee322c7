use Rattle.std.proofs.Common.{◌∙◌}
use Rattle.ecqf_port.specs.Script.{rack_in}
use Rattle.scripting.proofs.Reading.{stopped, went_on}
use Rattle.ecqf_port.proofs.script.read_rack.Goals as goal

pub returns-in_err-kind : goal.returns-in_err-kind
unfolding rack_in
returns-in_err-kind c =
    c.from_residual.ensures ∙ stopped _ _ _ c.in_err-kind.ensures.value

pub returns-in_err-bins : goal.returns-in_err-bins
unfolding rack_in
returns-in_err-bins c =
    c.from_residual-in_err-bins.ensures ∙ stopped _ _ _ c.in_err-bins.ensures.value
    ∙ went_on _ _ _ _ _ c.in_ok-kind.ensures.value c.in_ok-kind.ensures.rest

pub returns-in_err-depth : goal.returns-in_err-depth
unfolding rack_in
returns-in_err-depth c =
    c.from_residual-in_err-depth.ensures ∙ stopped _ _ _ c.in_err-depth.ensures.value
    ∙ went_on _ _ _ _ _ c.in_ok-bins.ensures.value c.in_ok-bins.ensures.rest
    ∙ went_on _ _ _ _ _ c.in_ok-kind.ensures.value c.in_ok-kind.ensures.rest

pub returns-in_err-total : goal.returns-in_err-total
unfolding rack_in
returns-in_err-total c =
    c.from_residual-in_err-total.ensures ∙ stopped _ _ _ c.in_err-total.ensures.value
    ∙ went_on _ _ _ _ _ c.in_ok-depth.ensures.value c.in_ok-depth.ensures.rest
    ∙ went_on _ _ _ _ _ c.in_ok-bins.ensures.value c.in_ok-bins.ensures.rest
    ∙ went_on _ _ _ _ _ c.in_ok-kind.ensures.value c.in_ok-kind.ensures.rest

pub returns : goal.returns
unfolding rack_in
returns c =
    c.end.ensures
    ∙ went_on _ _ _ _ _ c.in_ok-total.ensures.value c.in_ok-total.ensures.rest
    ∙ went_on _ _ _ _ _ c.in_ok-depth.ensures.value c.in_ok-depth.ensures.rest
    ∙ went_on _ _ _ _ _ c.in_ok-bins.ensures.value c.in_ok-bins.ensures.rest
    ∙ went_on _ _ _ _ _ c.in_ok-kind.ensures.value c.in_ok-kind.ensures.rest
