use Rattle.std.proofs.Common.{◌∙◌, ap}
use Rattle.scripting.specs.Readings.{ended}
use Rattle.ecqf_port.specs.Script.{frame_in}
use Rattle.ecqf_port.specs.declared.script.Command.TheVariants.{Frame}
use Rattle.scripting.proofs.Reading.{stopped, went_on}
use Rattle.ecqf_port.proofs.script.read_frame.Goals as goal

pub returns-in_err-input : goal.returns-in_err-input
unfolding frame_in
returns-in_err-input c =
    c.from_residual.ensures ∙ stopped _ _ _ c.in_err-input.ensures.value

pub returns-in_err-stamp : goal.returns-in_err-stamp
unfolding frame_in
returns-in_err-stamp c =
    c.from_residual-in_err-stamp.ensures ∙ stopped _ _ _ c.in_err-stamp.ensures.value
    ∙ went_on _ _ _ _ _ c.in_ok-input.ensures.value c.in_ok-input.ensures.rest

pub returns-in_err-stream : goal.returns-in_err-stream
unfolding frame_in
returns-in_err-stream c =
    c.from_residual-in_err-stream.ensures ∙ stopped _ _ _ c.in_err-stream.ensures.value
    ∙ went_on _ _ _ _ _ c.in_ok-stamp.ensures.value c.in_ok-stamp.ensures.rest
    ∙ went_on _ _ _ _ _ c.in_ok-input.ensures.value c.in_ok-input.ensures.rest

pub returns-in_err-length : goal.returns-in_err-length
unfolding frame_in
returns-in_err-length c =
    c.from_residual-in_err-length.ensures ∙ stopped _ _ _ c.in_err-length.ensures.value
    ∙ went_on _ _ _ _ _ c.in_ok-stream.ensures.value c.in_ok-stream.ensures.rest
    ∙ went_on _ _ _ _ _ c.in_ok-stamp.ensures.value c.in_ok-stamp.ensures.rest
    ∙ went_on _ _ _ _ _ c.in_ok-input.ensures.value c.in_ok-input.ensures.rest

pub returns-in_err-buffer : goal.returns-in_err-buffer
unfolding frame_in
returns-in_err-buffer c =
    c.from_residual-in_err-buffer.ensures ∙ stopped _ _ _ c.in_err-buffer.ensures.value
    ∙ went_on _ _ _ _ _ c.in_ok-length.ensures.value c.in_ok-length.ensures.rest
    ∙ went_on _ _ _ _ _ c.in_ok-stream.ensures.value c.in_ok-stream.ensures.rest
    ∙ went_on _ _ _ _ _ c.in_ok-stamp.ensures.value c.in_ok-stamp.ensures.rest
    ∙ went_on _ _ _ _ _ c.in_ok-input.ensures.value c.in_ok-input.ensures.rest

pub returns : goal.returns
unfolding frame_in
returns c =
    c.end.ensures ∙ ap (λ m. ended c.read-5.new.self.rest.now (Frame c.in_ok-input.input c.in_ok-stamp.stamp m)) c.new-mark.ensures
    ∙ went_on _ _ _ _ _ c.in_ok-buffer.ensures.value c.in_ok-buffer.ensures.rest
    ∙ went_on _ _ _ _ _ c.in_ok-length.ensures.value c.in_ok-length.ensures.rest
    ∙ went_on _ _ _ _ _ c.in_ok-stream.ensures.value c.in_ok-stream.ensures.rest
    ∙ went_on _ _ _ _ _ c.in_ok-stamp.ensures.value c.in_ok-stamp.ensures.rest
    ∙ went_on _ _ _ _ _ c.in_ok-input.ensures.value c.in_ok-input.ensures.rest
