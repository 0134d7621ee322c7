use Rattle.std.proofs.Common.{sym, refl, ap, ◌∙◌, arith, length, ◌≡◌, vec_items}
use Rattle.std.specs.Option.{option_map}
use Rattle.book.specs.Books.{hold_of}
use Rattle.book.proofs.Notes.{hold-refused-says}
use Rattle.scripting.specs.declared.answers.Done.TheVariants.{Held}
use Rattle.scripting.specs.Calls.{hold_done, said, answered}
use Rattle.scripting.proofs.Pairing.{Fitting, held-fits, place-free, kept-fits}
use Rattle.scripting.proofs.Calling.{errs, missing, done}
use Rattle.scripting.proofs.desk.Desk.hold.Goals as goal

pub returns-in_default : goal.returns-in_default
unfolding hold_done
returns-in_default g c =
    let m = missing _ (λ b. answered (λ n. Held) (hold_of b c.args.stream c.args.booking)) (ap (option_map g.M.Booked.book) c.in_default.is) in
    record { answer = m.answer; next = m.next }

pub returns-in_err-note : goal.returns-in_err-note
unfolding hold_done
returns-in_err-note g c =
    let m = done _ _ (λ b. answered (λ n. Held) (hold_of b c.args.stream c.args.booking)) _ _ (ap (option_map g.M.Booked.book) c.in-Some.is)
    (errs _ _ c.from_residual.ensures.1 ∙ ap (said (λ n. Held)) c.in_err-note.ensures.answer) c.hold.ensures.next in
    record { answer = m.answer; next = m.next }

pub returns : goal.returns
unfolding hold_done
returns g c =
    let m = done _ _ (λ b. answered (λ n. Held) (hold_of b c.args.stream c.args.booking)) _ _ (ap (option_map g.M.Booked.book) c.in-Some.is)
    (ap (said (λ n. Held)) c.in_ok-note.ensures.answer) c.hold.ensures.next in
    record { answer = m.answer; next = m.next }

pub put-requires : goal.put-requires
put-requires g c =
    let f : Fitting (option_map g.M.Booked.book c.args.self.now.module) (vec_items c.args.self.now.notes.places) =
    record { full = c.args.self.now.full; paired = c.args.self.now.paired } in
    place-free _ _ _ _ _ _ f (ap (option_map g.M.Booked.book) c.in-Some.is) c.in_ok-note.ensures.answer

pub invariant_of-self-in-Break-1 : goal.invariant_of-self-in-Break-1
invariant_of-self-in-Break-1 g c =
    let f : Fitting (option_map g.M.Booked.book c.args.self.now.module) (vec_items c.args.self.now.notes.places) =
    record { full = c.args.self.now.full; paired = c.args.self.now.paired } in
    let e = hold-refused-says _ c.args.stream c.args.booking _ (sym c.in_err-note.ensures.answer) in
    let r = kept-fits _ _ _ _ _ f (ap (option_map g.M.Booked.book) c.in-Some.is) (c.hold.ensures.next ∙ e) refl (λ k. refl) in
    record { full = r.full; paired = r.paired }

pub invariant_of-self-2 : goal.invariant_of-self-2
invariant_of-self-2 g c =
    let f : Fitting (option_map g.M.Booked.book c.args.self.now.module) (vec_items c.args.self.now.notes.places) =
    record { full = c.args.self.now.full; paired = c.args.self.now.paired } in
    let l : length (vec_items c.args.self.now.notes.places) ≡ 128 = omega (arith, c.args.self.now.notes.places.ok.0, c.args.self.now.notes.all) in
    let r = held-fits _ _ _ _ _ _ _ _ f l (ap (option_map g.M.Booked.book) c.in-Some.is) c.in_ok-note.ensures.answer c.hold.ensures.next c.put.ensures in
    record { full = r.full; paired = r.paired }
