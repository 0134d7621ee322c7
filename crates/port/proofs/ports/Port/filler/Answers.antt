use Rattle.std.proofs.Common.{ℕ, ◌+◌, sym, refl, ap, ◌∙◌}
use Rattle.port.proofs.Fillers.{filler-long, filler-taken, filler-goes}
use Rattle.port.proofs.ports.Port.filler.Goals as goal

pub returns-then-not-is_length : goal.returns-then-not-is_length
returns-then-not-is_length g c = record { follows = filler-long _ _ _ c.args.length (sym c.if-not-is_length.ensures); book = refl }

pub returns-then-is_busy : goal.returns-then-is_busy
returns-then-is_busy g c =
    record { follows = filler-taken _ _ _ c.args.length (sym c.if-not-is_length.ensures) (sym c.if-is_busy.ensures); book = refl }

pub returns : goal.returns
returns g c =
    record {
      follows = filler-goes _ _ _ c.args.length _ (sym c.if-not-is_length.ensures) (sym c.if-is_busy.ensures)
          (ap (λ (w : ℕ). c.clock.result + w) (c.from.ensures ∙ c.wire_octets.ensures) ∙ ap (λ (t : ℕ). t + (c.args.length + 20)) c.clock.ensures);
      book = refl;
    }
