use Rattle.std.proofs.Common.{refl, ◌∙◌}
use Rattle.ecqf_port.specs.Script.{run_in}
use Rattle.scripting.proofs.Reading.{hit, miss, stopped, went_on}
use Rattle.ecqf_port.proofs.script.read_run.Goals as goal

pub returns-in_err-until : goal.returns-in_err-until
unfolding run_in
returns-in_err-until c = c.from_residual.ensures ∙ stopped _ _ _ c.in_err-until.ensures.value

pub returns-then-has_ended : goal.returns-then-has_ended
unfolding run_in
returns-then-has_ended c =
    hit _ _ _ _ c.if-has_ended.ensures refl
    ∙ went_on _ _ _ _ _ c.in_ok-until.ensures.value c.in_ok-until.ensures.rest

pub returns-in_err-places : goal.returns-in_err-places
unfolding run_in
returns-in_err-places c =
    miss _ _ _ _ c.if-has_ended.ensures
    (c.from_residual-in_err-places.ensures ∙ stopped _ _ _ c.in_err-places.ensures.value)
    ∙ went_on _ _ _ _ _ c.in_ok-until.ensures.value c.in_ok-until.ensures.rest

pub returns : goal.returns
unfolding run_in
returns c =
    miss _ _ _ _ c.if-has_ended.ensures
    (c.end.ensures ∙ went_on _ _ _ _ _ c.in_ok-places.ensures.value c.in_ok-places.ensures.rest)
    ∙ went_on _ _ _ _ _ c.in_ok-until.ensures.value c.in_ok-until.ensures.rest
