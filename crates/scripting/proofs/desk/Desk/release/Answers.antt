use Rattle.std.proofs.Common.{ap, ◌∙◌, vec_items}
use Rattle.std.specs.Option.{option_map}
use Rattle.book.specs.Books.{release_of}
use Rattle.scripting.specs.declared.answers.Done.TheVariants.{LeavingUntil}
use Rattle.scripting.specs.Calls.{release_done, said, answered}
use Rattle.scripting.proofs.Pairing.{Fitting, kept-fits, release-kept, release-length}
use Rattle.scripting.proofs.Calling.{errs, missing, done}
use Rattle.scripting.proofs.desk.Desk.release.Goals as goal

pub returns-in_default : goal.returns-in_default
unfolding release_done
returns-in_default g c =
    let m = missing _ (λ b. answered LeavingUntil (release_of b c.args.stream)) (ap (option_map g.M.Booked.book) c.in_default.is) in
    record { answer = m.answer; next = m.next }

pub returns-in_err-cycle : goal.returns-in_err-cycle
unfolding release_done
returns-in_err-cycle g c =
    let m = done _ _ (λ b. answered LeavingUntil (release_of b c.args.stream)) _ _ (ap (option_map g.M.Booked.book) c.in-Some.is)
    (errs _ _ c.from_residual.ensures.1 ∙ ap (said LeavingUntil) c.in_err-cycle.ensures.answer) c.release.ensures.next in
    record { answer = m.answer; next = m.next }

pub returns : goal.returns
unfolding release_done
returns g c =
    let m = done _ _ (λ b. answered LeavingUntil (release_of b c.args.stream)) _ _ (ap (option_map g.M.Booked.book) c.in-Some.is)
    (ap (said LeavingUntil) c.in_ok-cycle.ensures.answer) c.release.ensures.next in
    record { answer = m.answer; next = m.next }

pub invariant_of-self-2 : goal.invariant_of-self-2
invariant_of-self-2 g c =
    let f : Fitting (option_map g.M.Booked.book c.args.self.now.module) (vec_items c.args.self.now.notes.places) =
    record { full = c.args.self.now.full; paired = c.args.self.now.paired } in
    let e = ap (option_map g.M.Booked.book) c.in-Some.is in
    let r = kept-fits _ _ _ _ _ f e c.release.ensures.next (release-length _ c.args.stream) (release-kept _ c.args.stream (f.full _ e)) in
    record { full = r.full; paired = r.paired }
