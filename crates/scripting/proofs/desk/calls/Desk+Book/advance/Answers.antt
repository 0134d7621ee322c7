use Rattle.std.proofs.Common.{ap, ◌∙◌, vec_items}
use Rattle.std.specs.Option.{option_map}
use Rattle.book.specs.Books.{state_of, advance_of}
use Rattle.scripting.specs.declared.answers.Done.TheVariants.{Clock}
use Rattle.scripting.specs.Calls.{advance_done, said, answered}
use Rattle.scripting.proofs.Pairing.{Fitting, kept-fits, advance-kept, advance-length}
use Rattle.scripting.proofs.Calling.{errs, missing, done}
use Rattle.scripting.proofs.desk.calls.Desk+Book.advance.Goals as goal

pub returns-in_default : goal.returns-in_default
unfolding advance_done
returns-in_default c =
    let m = missing _ (λ b. answered (λ u. Clock c.args.until) (advance_of b c.args.until)) (ap (option_map state_of) c.in_default.is) in
    record { answer = m.answer; next = m.next }

pub returns-in_err-advance : goal.returns-in_err-advance
unfolding advance_done
returns-in_err-advance c =
    let m = done _ _ (λ b. answered (λ u. Clock c.args.until) (advance_of b c.args.until)) _ _ (ap (option_map state_of) c.in-Some.is)
    (errs _ _ c.from_residual.ensures.1 ∙ ap (said (λ u. Clock c.args.until)) c.in_err-advance.ensures.answer) c.advance.ensures.next in
    record { answer = m.answer; next = m.next }

pub returns : goal.returns
unfolding advance_done
returns c =
    let m = done _ _ (λ b. answered (λ u. Clock c.args.until) (advance_of b c.args.until)) _ _ (ap (option_map state_of) c.in-Some.is)
    (ap (said (λ u. Clock c.args.until)) c.in_ok-advance.ensures.answer) c.advance.ensures.next in
    record { answer = m.answer; next = m.next }

pub invariant_of-self-2 : goal.invariant_of-self-2
invariant_of-self-2 c =
    let f : Fitting (option_map state_of c.args.self.now.module) (vec_items c.args.self.now.notes.places) =
    record { full = c.args.self.now.full; paired = c.args.self.now.paired } in
    let r = kept-fits _ _ _ _ _ f (ap (option_map state_of) c.in-Some.is) c.advance.ensures.next (advance-length _ c.args.until) (advance-kept _ c.args.until) in
    record { full = r.full; paired = r.paired }
