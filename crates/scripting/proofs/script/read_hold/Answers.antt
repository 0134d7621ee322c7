use Rattle.std.proofs.Common.{◌∙◌}
use Rattle.scripting.specs.Script.{hold_in}
use Rattle.scripting.proofs.Reading.{stopped, went_on}
use Rattle.scripting.proofs.script.read_hold.Goals as goal

pub returns-in_err-stream : goal.returns-in_err-stream
unfolding hold_in
returns-in_err-stream c =
    c.from_residual.ensures ∙ stopped _ _ _ c.in_err-stream.ensures.value

pub returns-in_err-input : goal.returns-in_err-input
unfolding hold_in
returns-in_err-input c =
    c.from_residual-in_err-input.ensures ∙ stopped _ _ _ c.in_err-input.ensures.value
    ∙ went_on _ _ _ _ _ c.in_ok-stream.ensures.value c.in_ok-stream.ensures.rest

pub returns-in_err-class : goal.returns-in_err-class
unfolding hold_in
returns-in_err-class c =
    c.from_residual-in_err-class.ensures ∙ stopped _ _ _ c.in_err-class.ensures.value
    ∙ went_on _ _ _ _ _ c.in_ok-input.ensures.value c.in_ok-input.ensures.rest
    ∙ went_on _ _ _ _ _ c.in_ok-stream.ensures.value c.in_ok-stream.ensures.rest

pub returns-in_err-longest : goal.returns-in_err-longest
unfolding hold_in
returns-in_err-longest c =
    c.from_residual-in_err-longest.ensures ∙ stopped _ _ _ c.in_err-longest.ensures.value
    ∙ went_on _ _ _ _ _ c.in_ok-class.ensures.value c.in_ok-class.ensures.rest
    ∙ went_on _ _ _ _ _ c.in_ok-input.ensures.value c.in_ok-input.ensures.rest
    ∙ went_on _ _ _ _ _ c.in_ok-stream.ensures.value c.in_ok-stream.ensures.rest

pub returns-in_err-quota : goal.returns-in_err-quota
unfolding hold_in
returns-in_err-quota c =
    c.from_residual-in_err-quota.ensures ∙ stopped _ _ _ c.in_err-quota.ensures.value
    ∙ went_on _ _ _ _ _ c.in_ok-longest.ensures.value c.in_ok-longest.ensures.rest
    ∙ went_on _ _ _ _ _ c.in_ok-class.ensures.value c.in_ok-class.ensures.rest
    ∙ went_on _ _ _ _ _ c.in_ok-input.ensures.value c.in_ok-input.ensures.rest
    ∙ went_on _ _ _ _ _ c.in_ok-stream.ensures.value c.in_ok-stream.ensures.rest

pub returns : goal.returns
unfolding hold_in
returns c =
    c.end.ensures
    ∙ went_on _ _ _ _ _ c.in_ok-quota.ensures.value c.in_ok-quota.ensures.rest
    ∙ went_on _ _ _ _ _ c.in_ok-longest.ensures.value c.in_ok-longest.ensures.rest
    ∙ went_on _ _ _ _ _ c.in_ok-class.ensures.value c.in_ok-class.ensures.rest
    ∙ went_on _ _ _ _ _ c.in_ok-input.ensures.value c.in_ok-input.ensures.rest
    ∙ went_on _ _ _ _ _ c.in_ok-stream.ensures.value c.in_ok-stream.ensures.rest
