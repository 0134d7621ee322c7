use Rattle.std.proofs.Common.{true, false, is_some, sym, refl, ap, ◌∙◌}
use Rattle.book.specs.Told.{SetNumbers, told_by, set_fault}
use Rattle.book.proofs.Legality.{refuses, accepts, legal-from, same-told}
use Rattle.book.proofs.setup.Settings.check.Goals as goal

pub returns-then-not-in_number : goal.returns-then-not-in_number
returns-then-not-in_number c = refuses (told_by c.args.setup.now) false _ _ _ (sym c.if-not-in_number.ensures) refl refl refl

pub returns-then-not-within_limits : goal.returns-then-not-within_limits
returns-then-not-within_limits c =
    refuses (told_by c.args.setup.now) true false _ _ (sym c.if-not-in_number.ensures) (sym c.if-not-within_limits.ensures) refl refl

pub returns-then-not-enough_bins : goal.returns-then-not-enough_bins
returns-then-not-enough_bins c =
    refuses (told_by c.args.setup.now) true true false _ (sym c.if-not-in_number.ensures) (sym c.if-not-within_limits.ensures) (sym c.if-not-enough_bins.ensures) refl

pub invariant_of-result : goal.invariant_of-result
invariant_of-result c =
    let e = accepts (told_by c.args.setup.now) (sym c.if-not-in_number.ensures) (sym c.if-not-within_limits.ensures) (sym c.if-not-enough_bins.ensures) in
    record { passed = ap (λ (x : SetNumbers). is_some (set_fault x)) (same-told c.args.setup.now _ _ (sym c.if-not-in_number.ensures) c.of.ensures c.of-2.ensures) ∙ ap is_some e }

pub returns : goal.returns
returns c =
    let e = accepts (told_by c.args.setup.now) (sym c.if-not-in_number.ensures) (sym c.if-not-within_limits.ensures) (sym c.if-not-enough_bins.ensures) in
    (e, same-told c.args.setup.now _ _ (sym c.if-not-in_number.ensures) c.of.ensures c.of-2.ensures, legal-from (told_by c.args.setup.now) e)
