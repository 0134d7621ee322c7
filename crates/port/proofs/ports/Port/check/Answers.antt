use Rattle.std.proofs.Common.{ℕ, ◌<◌, ◌≤◌, true, false, sym, refl, ap, ◌∙◌, subst}
use Rattle.std.proofs.lemmas.Bool.{eq-eqb, ne_eqb, lt-ltb, le-ltb}
use Rattle.port.specs.Stamped.{stamps_of}
use Rattle.port.proofs.Frames.{booked-at}
use Rattle.port.proofs.ports.Port.check.Goals as goal

pub returns-then-frame-booking : goal.returns-then-frame-booking
returns-then-frame-booking g c = booked-at _ _ _ _ _ _ _ false _ _ _ (ne_eqb _ _ c.if-frame-booking.true) refl refl refl

pub returns-then-not-is_allowed : goal.returns-then-not-is_allowed
returns-then-not-is_allowed g c =
    booked-at _ _ _ _ _ _ _ true false _ _ (eq-eqb _ _ c.if-frame-booking.false) (sym c.if-not-is_allowed.ensures) refl refl

pub returns-then-not-is_timely : goal.returns-then-not-is_timely
returns-then-not-is_timely g c =
    booked-at _ _ _ _ _ _ _ true true false _ (eq-eqb _ _ c.if-frame-booking.false) (sym c.if-not-is_allowed.ensures)
    (sym c.if-not-is_timely.ensures) refl

pub returns-then-frame-last : goal.returns-then-frame-last
returns-then-frame-last g c =
    let last = c.unwrap_or-last.ensures ∙ c.read.ensures.or 0 ∙ ap (stamps_of c.args.self.now.stamps) c.stream.ensures in
    booked-at _ _ _ _ _ _ _ true true true true (eq-eqb _ _ c.if-frame-booking.false) (sym c.if-not-is_allowed.ensures)
    (sym c.if-not-is_timely.ensures) (lt-ltb _ _ (subst (λ (t : ℕ). c.args.frame.now.stamp < t) last c.if-frame-last.true))

pub returns : goal.returns
returns g c =
    let last = c.unwrap_or-last.ensures ∙ c.read.ensures.or 0 ∙ ap (stamps_of c.args.self.now.stamps) c.stream.ensures in
    booked-at _ _ _ _ _ _ _ true true true false (eq-eqb _ _ c.if-frame-booking.false) (sym c.if-not-is_allowed.ensures)
    (sym c.if-not-is_timely.ensures) (le-ltb _ _ (subst (λ (t : ℕ). t ≤ c.args.frame.now.stamp) last c.if-frame-last.false))
