use Rattle.std.proofs.Common.{rules, of_calls, ◌≡◌, sym, ◌∙◌, subst, add-one}
use Rattle.std.proofs.lemmas.Result.{err_from_is_err_and}
use Rattle.book.proofs.Notes.{good-confirmed, good-dropped}
use Rattle.line.specs.Paths.{Sound}
use Rattle.line.proofs.OneLeg.{sound-rest, refused-here, taken-leg, good-booked, booked-leg, good-refused, refused-later}
use Rattle.line.proofs.Answered.{refused-from, same-fault}
use Rattle.line.proofs.paths.+book_legs.Goals as goal

pub returns-in_err-note : goal.returns-in_err-note
returns-in_err-note g t c =
    let p = err_from_is_err_and c.from_residual.result c.from_residual.ensures.1 in
    let r = refused-from c.hold.result c.map_err.result c.in_err-note.field-0.0 c.map_err.ensures.cases c.in_err-note.was in
    let q = err_from_is_err_and c.map_err.result r.2 in
    let d : q.0 ≡ record { place = 0; fault = r.0 } = search (rules, of_calls) in
    let i = same-fault c.map_err.result c.in_err-note.field-0.0 q.0 c.in_err-note.was q.1 in
    let e = c.in-Some.ensures.cases.0 in
    let sound = subst (Sound g.B.Bank.size) e c.requires in
    rw (p.1, p.2, i, d, e) (refused-here g.B.Bank c.args.request c.in-Some.leg.now c.in-Some.rest.now sound c.booking.result c.booking.ensures c.args.bank.now c.hold.new.self r.0
    (sym c.hold.ensures.answer ∙ r.1) c.hold.ensures.next)

pub book_legs-requires : goal.book_legs-requires
book_legs-requires g t c κs within =
    let e = c.in-Some.ensures.cases in
    let sound : Sound g.B.Bank.size c.in-Some.rest.now = sound-rest g.B.Bank c.args.request c.in-Some.leg.now c.in-Some.rest.now (subst (Sound g.B.Bank.size) e.0 c.requires) in
    search (rules, sound)

pub unreachable-requires : goal.unreachable-requires
unreachable-requires g t c =
    let e = c.in-Some.ensures.cases.0 in
    let sound = subst (Sound g.B.Bank.size) e c.requires in
    let n = c.in_ok-note.note in
    let held = taken-leg g.B.Bank c.args.request c.in-Some.leg.now c.in-Some.rest.now sound c.booking.result c.booking.ensures c.args.bank.now c.hold.new.self c.hold.result
    c.hold.ensures.answer c.hold.ensures.next c.hold.ensures.spendable _ c.map_err.result c.map_err.ensures.cases c.map_err.ensures.variant n c.in_ok-note.was in
    good-confirmed (g.B.Bank.states c.book_legs.new.bank c.in-Some.leg.now.number).book n _ _
    (good-booked g.B.Bank c.args.request c.in-Some.leg.now c.in-Some.rest.now sound c.args.bank.now c.hold.new.self c.book_legs.new.bank n held c.in-Ok.ensures)
    (sym c.in-Err-confirm.ensures.answer)

pub unreachable-requires-in-Err-drop_hold : goal.unreachable-requires-in-Err-drop_hold
unreachable-requires-in-Err-drop_hold g t c =
    let e = c.in-Some.ensures.cases.0 in
    let sound = subst (Sound g.B.Bank.size) e c.requires in
    let n = c.in_ok-note.note in
    let held = taken-leg g.B.Bank c.args.request c.in-Some.leg.now c.in-Some.rest.now sound c.booking.result c.booking.ensures c.args.bank.now c.hold.new.self c.hold.result
    c.hold.ensures.answer c.hold.ensures.next c.hold.ensures.spendable _ c.map_err.result c.map_err.ensures.cases c.map_err.ensures.variant n c.in_ok-note.was in
    good-dropped (g.B.Bank.states c.book_legs.new.bank c.in-Some.leg.now.number).book n _ _
    (good-refused g.B.Bank c.args.request c.in-Some.leg.now c.in-Some.rest.now sound c.args.bank.now c.hold.new.self c.book_legs.new.bank n held _ _ c.in-Err.ensures)
    (sym c.in-Err-drop_hold.ensures.answer)

pub returns-in-Ok-confirm : goal.returns-in-Ok-confirm
returns-in-Ok-confirm g t c =
    let e = c.in-Some.ensures.cases.0 in
    let sound = subst (Sound g.B.Bank.size) e c.requires in
    let n = c.in_ok-note.note in
    let held = taken-leg g.B.Bank c.args.request c.in-Some.leg.now c.in-Some.rest.now sound c.booking.result c.booking.ensures c.args.bank.now c.hold.new.self c.hold.result
    c.hold.ensures.answer c.hold.ensures.next c.hold.ensures.spendable _ c.map_err.result c.map_err.ensures.cases c.map_err.ensures.variant n c.in_ok-note.was in
    rw e (booked-leg g.B.Bank c.args.request c.in-Some.leg.now c.in-Some.rest.now sound c.args.bank.now c.hold.new.self c.book_legs.new.bank n held c.in-Ok.ensures _ c.confirm.ensures.next)

pub returns-in-Ok-drop_hold : goal.returns-in-Ok-drop_hold
returns-in-Ok-drop_hold g t c =
    let e = c.in-Some.ensures.cases.0 in
    let sound = subst (Sound g.B.Bank.size) e c.requires in
    let n = c.in_ok-note.note in
    let held = taken-leg g.B.Bank c.args.request c.in-Some.leg.now c.in-Some.rest.now sound c.booking.result c.booking.ensures c.args.bank.now c.hold.new.self c.hold.result
    c.hold.ensures.answer c.hold.ensures.next c.hold.ensures.spendable _ c.map_err.result c.map_err.ensures.cases c.map_err.ensures.variant n c.in_ok-note.was in
    rw (e, add-one) (refused-later g.B.Bank c.args.request c.in-Some.leg.now c.in-Some.rest.now sound c.args.bank.now c.hold.new.self c.book_legs.new.bank n held _ _ c.in-Err.ensures _ c.drop_hold.ensures.next)
