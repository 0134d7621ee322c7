use Rattle.std.proofs.Common.{◌≡◌, length, Some, vec_items, sym, ap, arith}
use Rattle.std.specs.Option.{option_map}
use Rattle.book.specs.Books.{row_of, confirm_of}
use Rattle.scripting.specs.declared.answers.Done.TheVariants.{Live}
use Rattle.scripting.specs.Notes.{note_in}
use Rattle.scripting.specs.Calls.{confirm_done, spent}
use Rattle.scripting.proofs.Pairing.{Fitting, in-place, confirm-spent, spent-fits, confirmed-unheld}
use Rattle.scripting.proofs.Calling.{missing, noteless, noted, ok-not-err}
use Rattle.scripting.proofs.desk.Desk.confirm.Goals as goal

pub returns-in_default : goal.returns-in_default
unfolding confirm_done
returns-in_default g c =
    let m = missing _ (λ b. spent Live (confirm_of b) b (note_in b c.args.stream)) (ap (option_map g.M.Booked.book) c.in_default.is) in
    record { answer = m.answer; next = m.next }

pub returns-in_default-take : goal.returns-in_default-take
unfolding confirm_done
returns-in_default-take g c =
    let f : Fitting (option_map g.M.Booked.book c.args.self.now.module) (vec_items c.args.self.now.notes.places) =
    record { full = c.args.self.now.full; paired = c.args.self.now.paired } in
    let l : length (vec_items c.args.self.now.notes.places) ≡ 128 = omega (arith, c.args.self.now.notes.places.ok.0, c.args.self.now.notes.all) in
    let e = ap (option_map g.M.Booked.book) c.in-Some.is in
    let p = in-place _ _ _ c.args.stream _ f l e c.in_default-take.ensures.value in
    let m = noteless _ _ Live confirm_of c.args.stream e p in
    record { answer = m.answer; next = m.next }

pub invariant_of-self-2 : goal.invariant_of-self-2
invariant_of-self-2 g c =
    let f : Fitting (option_map g.M.Booked.book c.args.self.now.module) (vec_items c.args.self.now.notes.places) =
    record { full = c.args.self.now.full; paired = c.args.self.now.paired } in
    let l : length (vec_items c.args.self.now.notes.places) ≡ 128 = omega (arith, c.args.self.now.notes.places.ok.0, c.args.self.now.notes.all) in
    let e = ap (option_map g.M.Booked.book) c.in-Some.is in
    let p = in-place _ _ _ c.args.stream (Some c.in-Some-take.note) f l e c.in-Some-take.ensures.value in
    let s = confirm-spent _ c.args.stream c.in-Some-take.note (f.full _ e) (sym p) in
    let r = spent-fits _ _ _ _ _ c.args.stream _ _ _ f l e (confirmed-unheld (row_of (g.M.Booked.book c.in-Some.module) c.args.stream)) s c.confirm.ensures.next c.take.ensures.items in
    record { full = r.full; paired = r.paired }

pub unreachable-requires : goal.unreachable-requires
unreachable-requires g c =
    let f : Fitting (option_map g.M.Booked.book c.args.self.now.module) (vec_items c.args.self.now.notes.places) =
    record { full = c.args.self.now.full; paired = c.args.self.now.paired } in
    let l : length (vec_items c.args.self.now.notes.places) ≡ 128 = omega (arith, c.args.self.now.notes.places.ok.0, c.args.self.now.notes.all) in
    let e = ap (option_map g.M.Booked.book) c.in-Some.is in
    let p = in-place _ _ _ c.args.stream (Some c.in-Some-take.note) f l e c.in-Some-take.ensures.value in
    let s = confirm-spent _ c.args.stream c.in-Some-take.note (f.full _ e) (sym p) in
    ok-not-err _ _ _ s.answer c.in-Err.ensures.answer

pub returns : goal.returns
unfolding confirm_done
returns g c =
    let f : Fitting (option_map g.M.Booked.book c.args.self.now.module) (vec_items c.args.self.now.notes.places) =
    record { full = c.args.self.now.full; paired = c.args.self.now.paired } in
    let l : length (vec_items c.args.self.now.notes.places) ≡ 128 = omega (arith, c.args.self.now.notes.places.ok.0, c.args.self.now.notes.all) in
    let e = ap (option_map g.M.Booked.book) c.in-Some.is in
    let p = in-place _ _ _ c.args.stream (Some c.in-Some-take.note) f l e c.in-Some-take.ensures.value in
    let s = confirm-spent _ c.args.stream c.in-Some-take.note (f.full _ e) (sym p) in
    let m = noted _ _ _ Live confirm_of c.args.stream _ _ e p s c.confirm.ensures.next in
    record { answer = m.answer; next = m.next }
